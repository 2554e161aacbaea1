pub mod Fleets
pub mod Numbers
pub mod Records
pub mod Refusals
pub mod Rows
pub mod Samples
pub mod Streams
