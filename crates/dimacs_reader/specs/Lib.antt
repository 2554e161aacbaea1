pub mod Forms
pub mod Graphs
pub mod Places
pub mod Reading
pub mod Refusals
pub mod Samples
pub mod Calls
