use Rattle.std.proofs.Common.{◌≡◌, ℕ, ◌<◌, Some}
use Rattle.std.specs.Prelude.{slice_get}
use Rattle.interleave_core.specs.declared.event.Event.{Event}
use Rattle.interleave_core.specs.Worlds.{IsEventFor}
use Rattle.commit_cases.proofs.worlds.are_for.Given as goal

abbrev pub invariant-loop-event : goal.invariant-loop-event
invariant-loop-event l = (k : ℕ) (e : Event) → slice_get l.events k ≡ Some e → k < l.event-index → IsEventFor l.actors e
