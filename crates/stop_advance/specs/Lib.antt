pub mod Advance
pub mod Starts
pub mod Samples
pub use Rattle.stop_schedule.specs.Plans
pub use Rattle.stop_schedule.specs.Times
