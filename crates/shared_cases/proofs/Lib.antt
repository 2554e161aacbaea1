mod FirstVehicles
mod Desks
