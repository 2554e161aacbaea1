use Rattle.std.proofs.Common.{◌≡◌, ℕ, ◌≤◌, List, ◌∷◌, [], Some, sym, refl, ap, ◌∙◌, subst}
use Rattle.std.specs.Prelude.{slice_get}
use Rattle.road_graph.specs.Roads.{Roads}
use Rattle.stop_schedule.specs.declared.request.Request.{Request}
use Rattle.stop_schedule.specs.Fleets.{Fitting, IsGoodFleet, plans_of}
use Rattle.insertion_cost.specs.Pricers.{IsRequestIn}
use Rattle.board_core.specs.declared.entry.Entry.{Entry}
use Rattle.board_core.specs.declared.entry.Entry.TheVariants.{Submit, Claim, Back, Commit, Advance, Cancel, Shut}
use Rattle.board_core.specs.declared.entry.Submitted.TheVariants.{Accepted, Refused}
use Rattle.board_core.specs.BoardKept.{AreAccepted, IsAccepted, WithIndex}
use Rattle.board_core.specs.BoardViews.{board_of}
use Rattle.board_core.specs.Boards.{Board, IsConsistent, is_unheld}
use Rattle.board_core.specs.CandidateLaws.{EntriesKeepSoundness}
use Rattle.board_core.specs.Laws.{EntriesLeaveGoodBoards, HistoriesRaiseVersions}
use Rattle.board_core.specs.Steps.{Step}
use Rattle.board_core.specs.WaitingLaws.{AreFoundByNumber}
use Rattle.interleave_core.specs.declared.world.World.{World}
use Rattle.interleave_core.specs.States.{Holding}
use Rattle.interleave_core.specs.WorldLaws.{EntriesLeaveWorldsOver, HasLeft, IsAsBefore, OldestIsKnown, StaysOver}
use Rattle.interleave_core.specs.Worlds.{IsHeldOver, IsWorldOver, StaySound}
use Rattle.interleave_core.proofs.Claims.{still_held}
use Rattle.interleave_core.proofs.Waits.{found}

-- A world stays over a graph.

pub leaves_over : {I : Type 0} (fits : I → Fitting) (w : World I) → EntriesLeaveGoodBoards → HistoriesRaiseVersions → EntriesKeepSoundness
    → IsConsistent (board_of w.board) → AreFoundByNumber (board_of w.board).waiting → EntriesLeaveWorldsOver fits w
leaves_over {I = I} fits w good rise sound consistent once g e new over early step =
    let later = rise g (board_of w.board) (e ∷ []) new (new, step, refl) in
    record {
      nodes = later.nodes;
      version = later.version;
      good = (good g (board_of w.board) e new over.graph early step (record { fleet = over.good.0; consistent = consistent })).fleet;
      sound = kept;
      held = λ k h at apart. still_held fits g (board_of w.board) new e k h once step kept apart (over.held k h at);
    }
  where
    kept : (r : Request) → StaySound g (board_of w.board).fleet new.fleet r
    kept r c s = sound g (board_of w.board) e new r c over.graph over.good.0 step s

request_in : (g : Roads) (nodes : ℕ) (r : Request) → g.nodes ≡ nodes → IsAccepted nodes r → IsRequestIn g r
request_in g nodes r many a = record {
  pickup = subst (λ (n : ℕ). (1 ≤ r.pickup.0) × (r.pickup.0 ≤ n)) (sym many) a.pickup;
  dropoff = subst (λ (n : ℕ). (1 ≤ r.dropoff.0) × (r.dropoff.0 ≤ n)) (sym many) a.dropoff;
  moment = a.moment;
}

pub oldest_known : {I : Type 0} (fits : I → Fitting) (w : World I) → AreFoundByNumber (board_of w.board).waiting → AreAccepted (board_of w.board) → OldestIsKnown fits w
oldest_known fits w once accepted g oldest over h =
    let stood = found is_unheld w.board.waiting oldest h in
    (request_in g w.board.nodes oldest.request over.nodes (accepted stood.0 oldest stood.1), once stood.0 oldest stood.1)

-- an entry that changes no schedule
abbrev pub IsOfRequests : Entry → Type 0
IsOfRequests (Submit r submitted) = Unit {0}
IsOfRequests (Claim number desk) = Unit {0}
IsOfRequests (Back number) = Unit {0}
IsOfRequests (Commit number decision) = ⊥
IsOfRequests (Advance now advanced) = ⊥
IsOfRequests (Cancel number cancelled) = ⊥
IsOfRequests Shut = Unit {0}

abbrev pub FitsFleet : Fitting → Roads → Board → Type 0
FitsFleet F g b = F g b.fleet.rates (plans_of b.fleet)

pub still_fits : (F : Fitting) (g : Roads) (old new : Board) (e : Entry) → IsOfRequests e → Step g old e new → FitsFleet F g old → FitsFleet F g new
still_fits F g old new (Submit r Accepted) u step f = subst (λ (b : Board). FitsFleet F g b) (sym step.1) f
still_fits F g old new (Submit r (Refused reason)) u step f = subst (λ (b : Board). FitsFleet F g b) (sym step.1) f
still_fits F g old new (Claim number desk) u step f = subst (λ (b : Board). FitsFleet F g b) (sym step.3) f
still_fits F g old new (Back number) u step f = subst (λ (b : Board). FitsFleet F g b) (sym step.3) f
still_fits F g old new (Commit number decision) u step f = absurd u
still_fits F g old new (Advance now advanced) u step f = absurd u
still_fits F g old new (Cancel number cancelled) u step f = absurd u
still_fits F g old new Shut u step f = subst (λ (b : Board). FitsFleet F g b) (sym step.1) f

-- a world after an entry
pub over_after : {I : Type 0} (fits : I → Fitting) (g : Roads) (old new : World I) (e : Entry) → IsWorldOver fits g old → HasLeft fits g old e (board_of new.board)
    → FitsFleet (fits new.board.fleet.index) g (board_of new.board)
    → ((k : ℕ) (h : Holding I) → slice_get new.actors.items k ≡ Some h → IsHeldOver fits g (board_of new.board) k h) → IsWorldOver fits g new
over_after fits g old new e over left f held = record {
  graph = over.graph;
  nodes = over.nodes ∙ sym left.nodes;
  good = (left.good, f);
  held = held;
}

-- the index is that from before
pub index_fits : {I : Type 0} (fits : I → Fitting) (g : Roads) (old : World I) (new : WithIndex I) (e : Entry) → IsWorldOver fits g old → IsOfRequests e → Step g (board_of old.board) e (board_of new)
    → new.fleet.index ≡ old.board.fleet.index → FitsFleet (fits new.fleet.index) g (board_of new)
index_fits {I = I} fits g old new e over u step same =
    subst (λ (i : I). FitsFleet (fits i) g (board_of new)) (sym same) (still_fits (fits old.board.fleet.index) g (board_of old.board) (board_of new) e u step over.good.1)

-- nothing was played
pub over_before : {I : Type 0} (fits : I → Fitting) (old new : World I) → IsAsBefore old new → StaysOver fits old new
over_before {I = I} fits old new same g over =
    let boards : board_of new.board ≡ board_of old.board = ap (λ s. s.board) same.state in
    let actors : new.actors.items ≡ old.actors.items = ap (λ s. s.actors) same.state in
    record {
      graph = over.graph;
      nodes = over.nodes ∙ ap (λ (b : Board). b.nodes) (sym boards);
      good = (
        subst (λ (b : Board). IsGoodFleet g b.fleet) (sym boards) over.good.0,
        subst (λ (i : I). FitsFleet (fits i) g (board_of new.board)) (sym same.index) (subst (λ (b : Board). FitsFleet (fits old.board.fleet.index) g b) (sym boards) over.good.1),
      );
      held = λ k h at. subst (λ (b : Board). IsHeldOver fits g b k h) (sym boards) (over.held k h (ap (λ (l : List (Holding I)). slice_get l k) (sym actors) ∙ at));
    }
