mod AllOnto
mod GivesLine
mod IsUndecided
mod PlaceTable
mod RoadLines
