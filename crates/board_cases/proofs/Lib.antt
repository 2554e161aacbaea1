mod FirstVehicles
mod Held
mod Played
