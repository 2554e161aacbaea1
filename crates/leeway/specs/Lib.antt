pub mod Leeways
pub mod Ellipses
pub use Rattle.stop_schedule.specs.Plans
pub use Rattle.stop_schedule.specs.Rates
