pub mod Settled
pub use Rattle.insertion_cost.specs.Candidates
pub use Rattle.insertion_cost.specs.Pricers
