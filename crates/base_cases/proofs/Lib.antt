mod OneVehicle
mod Kept
mod WaysAlong
