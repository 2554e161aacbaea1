-- reaching and leaving a stop of a course that is kept, by the latest arrival and the latest departure
pub use Rattle.leeway.proofs.LatestArrivals.{latest, keeps_by_latest, keeps_leaving_by_latest, slack_holds_leg, lies_in_ellipse}
-- over numbers: the two stops of a feasible insertion are in the ellipses of their legs, whatever the lengths come from
pub use Rattle.leeway.proofs.OverNumbers.{AreDetours, pickup_within, dropoff_within}
-- over each graph
pub use Rattle.leeway.proofs.InEllipses.{in_ellipses}
