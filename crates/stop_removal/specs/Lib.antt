pub mod Removals
pub mod Laws
pub mod Samples
pub use Rattle.stop_schedule.specs.Plans
pub use Rattle.stop_schedule.specs.Keeping
