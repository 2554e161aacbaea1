mod Ghosts
mod WalkLength
mod RoadEnds
mod AreOffsets
mod AreRows
mod IsPath
mod IsWalk
mod IsSimple
mod LeastWeight
mod IsDist
mod IsLeastWalk
mod Turned
mod RoadCounts
pub mod WalkLaws
