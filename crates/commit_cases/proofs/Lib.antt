mod FirstVehicles
mod Ready
