-- sound candidates settle to the best insertion of the fleet as it is, one vehicle after the other
pub use Rattle.insertion_cost.proofs.Settles.{settled, counts_feasible, CountsAt, CountsBelow, first_listed, first_anew, first_next, first_none, first_all}
pub use Rattle.insertion_cost.proofs.Settles.{decided_by_first, first_decides, none_sound, entry_listed, none_redone, fresh_settle}
-- they stay sound for a later fleet
pub use Rattle.insertion_cost.proofs.AreSound.{no_cheaper-refl, IsLaterFleet, sound_still}
