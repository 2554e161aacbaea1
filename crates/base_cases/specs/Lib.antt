pub mod OneVehicle
