use Rattle.std.proofs.Common.{ℕ, List, sym, subst}
use Rattle.stop_schedule.specs.declared.stop.StopKind.TheVariants.{Pickup, Dropoff}
use Rattle.stop_schedule.specs.declared.stop.Stop.{Stop}
use Rattle.board_core.specs.Changes.{IsNextStop}
use Rattle.board_core.proofs.Joints.{next_pickup, next_dropoff}
use Rattle.board_core.proofs.changes.stops_of.Goals as goal

pub next_stop-pickup-requires : goal.next_stop-pickup-requires
next_stop-pickup-requires c = subst (λ (stops : List Stop). (at : ℕ) × IsNextStop stops Pickup c.args.no 0 at) (sym c.stops-stops.ensures.value) (next_pickup c.args.no c.args.schedule.now.stops c.requires.some)

pub next_stop-requires : goal.next_stop-requires
next_stop-requires c = subst (λ (stops : List Stop). (at : ℕ) × IsNextStop stops Dropoff c.args.no c.next_stop-pickup.result at) (sym c.stops-stops.ensures.value)
    (next_dropoff c.args.schedule.now c.args.no c.next_stop-pickup.result c.requires.proper (subst (λ (stops : List Stop). IsNextStop stops Pickup c.args.no 0 c.next_stop-pickup.result) c.stops-stops.ensures.value c.next_stop-pickup.ensures.stop))
