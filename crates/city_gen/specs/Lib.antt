pub mod Cities
pub mod Draws
pub mod Roads
pub mod Samples
pub mod Streams
pub mod Vehicles
