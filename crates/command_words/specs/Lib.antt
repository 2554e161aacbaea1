pub mod Commands
pub mod CommandSamples
pub mod Reading
pub mod Shown
