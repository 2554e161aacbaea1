pub mod Openings
pub mod Journals
pub mod Named
pub mod Records
pub mod Turns
pub use Rattle.turn_lock.specs.Desks
pub use Rattle.insertion_cost.specs.Candidates
