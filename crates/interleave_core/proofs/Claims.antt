use Rattle.std.proofs.Common.{◌≡◌, ℕ, List, Some, None, sym, refl, ap, ◌∙◌, subst}
use mathlib.Core.Bool.{true≢false}
use Rattle.std.proofs.lemmas.Option.{same_Some}
use Rattle.ride_base.specs.declared.numbers.RequestNo.{RequestNo}
use Rattle.road_graph.specs.Roads.{Roads}
use Rattle.stop_schedule.specs.declared.request.Request.{Request}
use Rattle.stop_schedule.specs.Fleets.{Fitting}
use Rattle.insertion_cost.specs.declared.decision.Decision.TheVariants.{Assigned as IsAssigned, Nobody}
use Rattle.board_core.specs.declared.entry.Advanced.TheVariants.{Moved, Back as Behind}
use Rattle.board_core.specs.declared.entry.Cancelled.TheVariants.{Removed, Refused as Declined}
use Rattle.board_core.specs.declared.entry.Entry.{Entry}
use Rattle.board_core.specs.declared.entry.Entry.TheVariants.{Submit, Claim, Back, Commit, Advance, Cancel, Shut}
use Rattle.board_core.specs.declared.entry.Submitted.TheVariants.{Accepted, Refused}
use Rattle.board_core.specs.declared.waiting.Waiting.{Waiting}
use Rattle.board_core.specs.Boards.{Board, is_unheld, waiting_of, unheld_in}
use Rattle.board_core.specs.Steps.{Step}
use Rattle.board_core.specs.WaitingLaws.{AreFoundByNumber}
use Rattle.interleave_core.specs.declared.holding.Holding.TheVariants.{Nothing, Claimed, Priced}
use Rattle.interleave_core.specs.Holdings.{number_held}
use Rattle.interleave_core.specs.States.{Holding}
use Rattle.interleave_core.specs.WorldLaws.{IsApart}
use Rattle.interleave_core.specs.Worlds.{IsHeldOver, StaySound}
use Rattle.interleave_core.proofs.Waits.{found, appended, held_other, left_other}

-- What actors hold as entries are made.

-- a request that a desk holds
abbrev pub held_at : Request → ℕ → Waiting
held_at r desk = record { request = r; holder = Some desk }

-- the oldest request that none holds has another number than one that a desk holds
pub oldest_apart : (waiting : List Waiting) → AreFoundByNumber waiting → (w : Waiting) → unheld_in waiting ≡ Some w
    → (b : Board) → b.waiting ≡ waiting → (r : Request) (desk : ℕ) → waiting_of b r.no ≡ Some (held_at r desk) → r.no ≡ w.request.no → ⊥
oldest_apart waiting once w oldest b is r desk h same =
    let stood = found is_unheld waiting w oldest in
    let here : waiting_of b w.request.no ≡ Some w = subst (λ (l : List Waiting). waiting_of (record b { waiting = l }) w.request.no ≡ Some w) (sym is) (once stood.0 w stood.1) in
    let there : waiting_of b w.request.no ≡ Some (held_at r desk) = ap (waiting_of b) (sym same) ∙ h in
    let alike : w ≡ held_at r desk = same_Some w (held_at r desk) (sym here ∙ there) in
    true≢false (sym stood.2 ∙ ap is_unheld alike)

-- a claim that no entry ends stays
pub still_waits : (g : Roads) (old new : Board) (e : Entry) (r : Request) (desk : ℕ) → AreFoundByNumber old.waiting → Step g old e new → IsApart e (Some r.no)
    → waiting_of old r.no ≡ Some (held_at r desk) → waiting_of new r.no ≡ Some (held_at r desk)
still_waits g old new (Submit q Accepted) r desk once step apart h =
    ap (λ (b : Board). waiting_of b r.no) step.1 ∙ appended old.waiting (record { request = q; holder = None }) (held_at r desk) r.no h
still_waits g old new (Submit q (Refused reason)) r desk once step apart h = ap (λ (b : Board). waiting_of b r.no) step.1 ∙ h
still_waits g old new (Claim number other) r desk once step apart h =
    ap (λ (b : Board). waiting_of b r.no) step.3
    ∙ held_other old.waiting number r.no (Some other) (λ e. oldest_apart old.waiting once step.0 step.1 old refl r desk h (e ∙ sym step.2)) ∙ h
still_waits g old new (Back number) r desk once step apart h =
    ap (λ (b : Board). waiting_of b r.no) step.3 ∙ held_other old.waiting number r.no None (λ e. apart (ap (λ (n : RequestNo). Some n) e)) ∙ h
still_waits g old new (Commit number (IsAssigned a)) r desk once step apart h =
    ap (λ (b : Board). waiting_of b r.no) step.leads_to ∙ left_other old.waiting number r.no (λ e. apart (ap (λ (n : RequestNo). Some n) e)) ∙ h
still_waits g old new (Commit number Nobody) r desk once step apart h =
    ap (λ (b : Board). waiting_of b r.no) step.leads_to ∙ left_other old.waiting number r.no (λ e. apart (ap (λ (n : RequestNo). Some n) e)) ∙ h
still_waits g old new (Advance now (Moved served)) r desk once step apart h = ap (λ (b : Board). waiting_of b r.no) step.2 ∙ h
still_waits g old new (Advance now (Behind clock)) r desk once step apart h = ap (λ (b : Board). waiting_of b r.no) step.2 ∙ h
still_waits g old new (Cancel number (Removed x)) r desk once step apart h = ap (λ (b : Board). waiting_of b r.no) step.leads_to ∙ h
still_waits g old new (Cancel number (Declined reason)) r desk once step apart h = ap (λ (b : Board). waiting_of b r.no) step.1 ∙ h
still_waits g old new Shut r desk once step apart h = ap (λ (b : Board). waiting_of b r.no) step.1 ∙ h

-- what an actor holds is so after an entry that doesn't end its claim
pub still_held : {I : Type 0} (fits : I → Fitting) (g : Roads) (old new : Board) (e : Entry) (k : ℕ) (h : Holding I) → AreFoundByNumber old.waiting → Step g old e new
    → ((r : Request) → StaySound g old.fleet new.fleet r) → IsApart e (number_held (Some h)) → IsHeldOver fits g old k h → IsHeldOver fits g new k h
still_held fits g old new e k Nothing once step sound apart so = tt
still_held fits g old new e k (Claimed r fleet) once step sound apart so =
    (record { waits = still_waits g old new e r k once step apart so.0.waits; asked = so.0.asked }, so.1, λ c s. sound r c (so.2 c s))
still_held fits g old new e k (Priced r c) once step sound apart so =
    (record { waits = still_waits g old new e r k once step apart so.0.waits; asked = so.0.asked }, sound r c so.1)
