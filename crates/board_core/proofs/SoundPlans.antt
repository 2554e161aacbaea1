use Rattle.std.proofs.Common.{◌≡◌, ◌≤◌, true, sym, subst}
use Rattle.std.specs.Prelude.{slice_get, count_by}
use Rattle.ride_base.specs.declared.numbers.RequestNo.{RequestNo}
use Rattle.road_graph.specs.declared.road.NodeNo.{NodeNo}
use Rattle.road_graph.specs.Roads.{Roads}
use Rattle.road_graph.specs.Walks.{IsLeastWalk}
use Rattle.stop_schedule.specs.Keeping.{picks_up, drops_off, IsProper, HasLeastWalks, keeps}
use Rattle.stop_schedule.specs.Lists.{node_or}
use Rattle.stop_schedule.specs.Plans.{Plan}
use Rattle.stop_schedule.specs.Rates.{Rates}
use Rattle.board_core.proofs.Chains.{Chained, node_from_is, chained_at, chained_from, chained_many}
use Rattle.board_core.proofs.Kept.{IsKept, kept_from, keeps_from}
use Rattle.board_core.proofs.NewStops.{AreDroppedLater}

-- what each schedule of a board meets: it is proper, its legs are least walks from stop to stop, and it keeps its promises
pub record IsSound (g : Roads) (rates : Rates) (p : Plan) : Type 0 where
  pub picked_up_once : (number : RequestNo) → count_by (picks_up number) p.stops ≤ 1
  pub dropped_off_once : (number : RequestNo) → count_by (drops_off number) p.stops ≤ 1
  pub dropped_off_later : AreDroppedLater p.stops
  pub chained : Chained g p.place p.stops p.legs
  pub kept : IsKept rates p

-- a chain of least walks by its places
walks : (g : Roads) (p : Plan) → Chained g p.place p.stops p.legs → HasLeastWalks g p
walks g p c k leg e = subst (λ (n : NodeNo). IsLeastWalk g n (node_or p.place (slice_get p.stops k)) leg) (sym (node_from_is p.place p.place p.stops k)) (chained_at g p.place p.place p.stops p.legs c k leg e)

-- a sound schedule is what a history keeps
pub sound_is : (g : Roads) (rates : Rates) (p : Plan) → IsSound g rates p → IsProper p × (keeps rates p ≡ true) × HasLeastWalks g p
sound_is g rates p s = (
  record {
    picked_up_once = s.picked_up_once;
    dropped_off_once = s.dropped_off_once;
    dropped_off_later = s.dropped_off_later;
    as_many_legs = chained_many g p.place p.stops p.legs s.chained;
    joined = λ k leg e. (walks g p s.chained k leg e).joins;
  },
  keeps_from rates p s.kept,
  walks g p s.chained,
)

-- and the other way round
pub sound_from : (g : Roads) (rates : Rates) (p : Plan) → IsProper p → keeps rates p ≡ true → HasLeastWalks g p → IsSound g rates p
sound_from g rates p proper kept least = record {
  picked_up_once = proper.picked_up_once;
  dropped_off_once = proper.dropped_off_once;
  dropped_off_later = proper.dropped_off_later;
  chained = chained_from g p.place p.place p.stops p.legs proper.as_many_legs
      (λ k leg e. subst (λ (n : NodeNo). IsLeastWalk g n (node_or p.place (slice_get p.stops k)) leg) (node_from_is p.place p.place p.stops k) (least k leg e));
  kept = kept_from rates p kept;
}
