-- a vehicle that hasn't left turns from its place
pub use Rattle.stop_schedule.proofs.FrontAtPlace.{front_at_place}
-- the fronts of a schedule at two clocks, and the front on the first leg
pub use Rattle.stop_schedule.proofs.FrontOf.{IsLaterFront, IsNoFurther, IsOnLeg, later_on_leg, later_at_rest, on_first_leg, on_leg}
