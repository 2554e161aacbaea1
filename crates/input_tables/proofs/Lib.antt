mod AreVehicles
mod Capped
mod Gives
mod IsReadWithin
mod Keeps
mod RideWith
mod RowOf
mod RowsSoFar
