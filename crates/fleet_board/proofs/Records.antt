use Rattle.std.proofs.Common.{◌≡◌, ℕ, suc, ◌+◌, ◌≤◌, arith, length, length-append, Bool, true, false, cond, List, [], ◌∷◌, ◌++◌, Option, Some, sym, refl, ap, ◌∙◌, subst}
use Rattle.std.specs.Prelude.{slice_get, find, IfSome, option_map}
use Rattle.road_graph.specs.Roads.{Roads}
use Rattle.stop_schedule.specs.declared.request.Request.{Request}
use Rattle.stop_schedule.specs.Fleets.{Fitting, IsGoodView, plans_of}
use Rattle.stop_schedule.specs.Limits.{latest_moment}
use Rattle.insertion_cost.specs.declared.decision.Decision.{Decision}
use Rattle.insertion_cost.specs.declared.decision.Decision.TheVariants.{Assigned as IsAssigned, Nobody}
use Rattle.insertion_cost.specs.Pricers.{IsRequestIn}
use Rattle.ride_base.specs.declared.numbers.RequestNo.{RequestNo}
use Rattle.board_core.specs.declared.entry.Advanced.{Advanced}
use Rattle.board_core.specs.declared.entry.Advanced.TheVariants.{Moved, Back as Behind}
use Rattle.board_core.specs.declared.entry.Cancelled.{Cancelled}
use Rattle.board_core.specs.declared.entry.Cancelled.TheVariants.{Removed, Refused as Declined}
use Rattle.board_core.specs.declared.entry.Entry.{Entry}
use Rattle.board_core.specs.declared.entry.Entry.TheVariants.{Submit, Claim, Back, Commit, Advance, Cancel, Shut}
use Rattle.board_core.specs.declared.entry.Submitted.{Submitted}
use Rattle.board_core.specs.declared.entry.Submitted.TheVariants.{Accepted, Refused}
use Rattle.board_core.specs.declared.waiting.Waiting.{Waiting}
use Rattle.board_core.specs.BoardKept.{AreAccepted, IsAccepted}
use Rattle.board_core.specs.BoardViews.{board_of, IsClaimed}
use Rattle.board_core.specs.Boards.{Board, IsConsistent, is_number, is_unheld}
use Rattle.board_core.specs.FleetViews.{cars_of}
use Rattle.board_core.specs.Laws.{EntriesLeaveGoodBoards, HistoriesRaiseVersions, IsEarlyMove}
use Rattle.board_core.specs.NotedHistories.{IsNotedBy, LegalNoted, NoOtherHolds, holder_in}
use Rattle.board_core.specs.NotedLaws.{ClaimsAreHeld, NotedHistoriesGoOn}
use Rattle.board_core.specs.Steps.{Step}
use Rattle.board_core.specs.WaitingLaws.{AreFoundByNumber, HaveOwnNumbers}
use Rattle.board_core.specs.declared.fleet.Fleet.{Fleet}
use Rattle.fleet_board.specs.declared.claims.Claimed.{Claimed}
use Rattle.fleet_board.specs.declared.recorded.RecordedBoard.{RecordedBoard}
use Rattle.fleet_board.specs.Journals.{owed_on, shut_owed}
use Rattle.fleet_board.specs.Openings.{Opening}
use Rattle.fleet_board.specs.Records.{GoesOn, HasNoted, HasStayed, IsFreshClaim, IsHeldBy, IsRecordOf}
use Rattle.fleet_board.proofs.Owed.{held_appended, held_claimed, held_given, held_left}

-- What calls leave of a board with its journal.

pub goes_on : {I : Type 0} (fits : I → Fitting) (v : RecordedBoard I) → EntriesLeaveGoodBoards → HistoriesRaiseVersions → NotedHistoriesGoOn → IsConsistent (board_of v.board) → GoesOn fits v
goes_on fits v good rise on consistent o desk e new is early by step =
    let later = rise o.graph (board_of v.board) (e ∷ []) new (new, step, refl) in record {
      legal = on o.graph o.board v.journal.noted ((desk, e) ∷ []) (board_of v.board) new is.legal (new, by, step, refl);
      nodes = is.nodes ∙ sym later.nodes;
      version = (let a = later.version in let b = is.version in let l = length-append v.journal.noted ((desk, e) ∷ []) in omega arith);
      good = (good o.graph (board_of v.board) e new is.graph early step (record { fleet = is.good.0; consistent = consistent })).fleet;
    }

abbrev pub FitsFleet : Fitting → Roads → Board → Type 0
FitsFleet F g b = F g b.fleet.rates (plans_of b.fleet)

-- an entry was noted
pub noted_so : {I : Type 0} (fits : I → Fitting) (o : Opening) (old new : RecordedBoard I) (desk : ℕ) (e : Entry) → GoesOn fits old → IsRecordOf fits o old → IsEarlyMove e → IsNotedBy (board_of old.board) desk e
    → Step o.graph (board_of old.board) e (board_of new.board) → new.journal.noted ≡ old.journal.noted ++ (desk, e) ∷ [] → FitsFleet (fits new.board.fleet.index) o.graph (board_of new.board)
    → owed_on (board_of new.board) ≤ new.journal.owed → HasNoted fits o old desk e new
noted_so fits o old new desk e law is early by step noted f owed =
    let left = law o desk e (board_of new.board) is early by step in record {
      of = record {
        graph = is.graph;
        opening = is.opening;
        legal = subst (λ (l : List (ℕ × Entry)). LegalNoted o.graph o.board l (board_of new.board)) (sym noted) left.legal;
        nodes = left.nodes;
        version = left.version ∙ ap (λ (l : List (ℕ × Entry)). length l) (sym noted);
        good = (left.good, f);
        owed = owed;
      };
      noted = noted;
      step = step;
    }

-- nothing was noted
pub stayed_so : {I : Type 0} (fits : I → Fitting) (o : Opening) (old new : RecordedBoard I) → IsRecordOf fits o old → board_of new.board ≡ board_of old.board → new.board.fleet.index ≡ old.board.fleet.index
    → new.journal.noted ≡ old.journal.noted → new.journal.owed ≡ old.journal.owed → HasStayed fits o old new
stayed_so {I = I} fits o old new is board index noted owed = record {
  of = record {
    graph = is.graph;
    opening = is.opening;
    legal = subst (λ (l : List (ℕ × Entry)). LegalNoted o.graph o.board l (board_of new.board)) (sym noted) (subst (λ (b : Board). LegalNoted o.graph o.board old.journal.noted b) (sym board) is.legal);
    nodes = is.nodes ∙ ap (λ (b : Board). b.nodes) (sym board);
    version = ap (λ (b : Board). b.fleet.version) board ∙ is.version ∙ ap (λ (l : List (ℕ × Entry)). length l) (sym noted);
    good = subst (λ (i : I). IsGoodView (fits i) o.graph (board_of new.board).fleet) (sym index) (subst (λ (b : Board). IsGoodView (fits old.board.fleet.index) o.graph b.fleet) (sym board) is.good);
    owed = subst (λ (n : ℕ). owed_on (board_of new.board) ≤ n) (sym owed) (subst (λ (b : Board). owed_on b ≤ old.journal.owed) (sym board) is.owed);
  };
  noted = noted;
  board = board;
}

-- ---- where the index stays

-- an entry that changes no schedule
abbrev pub IsOfRequests : Entry → Type 0
IsOfRequests (Submit r submitted) = Unit {0}
IsOfRequests (Claim number desk) = Unit {0}
IsOfRequests (Back number) = Unit {0}
IsOfRequests (Commit number decision) = ⊥
IsOfRequests (Advance now advanced) = ⊥
IsOfRequests (Cancel number cancelled) = ⊥
IsOfRequests Shut = Unit {0}

still_fits : (F : Fitting) (g : Roads) (old new : Board) (e : Entry) → IsOfRequests e → Step g old e new → FitsFleet F g old → FitsFleet F g new
still_fits F g old new (Submit r Accepted) u step f = subst (λ (b : Board). FitsFleet F g b) (sym step.1) f
still_fits F g old new (Submit r (Refused reason)) u step f = subst (λ (b : Board). FitsFleet F g b) (sym step.1) f
still_fits F g old new (Claim number desk) u step f = subst (λ (b : Board). FitsFleet F g b) (sym step.3) f
still_fits F g old new (Back number) u step f = subst (λ (b : Board). FitsFleet F g b) (sym step.3) f
still_fits F g old new (Commit number decision) u step f = absurd u
still_fits F g old new (Advance now advanced) u step f = absurd u
still_fits F g old new (Cancel number cancelled) u step f = absurd u
still_fits F g old new Shut u step f = subst (λ (b : Board). FitsFleet F g b) (sym step.1) f

early_requests : (e : Entry) → IsOfRequests e → IsEarlyMove e
early_requests (Submit r submitted) u now advanced bad = cc
early_requests (Claim number desk) u now advanced bad = cc
early_requests (Back number) u now advanced bad = cc
early_requests (Commit number decision) u now advanced bad = absurd u
early_requests (Advance now' told) u now advanced bad = absurd u
early_requests (Cancel number cancelled) u now advanced bad = absurd u
early_requests Shut u now advanced bad = cc

pub noted_request : {I : Type 0} (fits : I → Fitting) (o : Opening) (old new : RecordedBoard I) (desk : ℕ) (e : Entry) → GoesOn fits old → IsRecordOf fits o old → IsOfRequests e → IsNotedBy (board_of old.board) desk e
    → Step o.graph (board_of old.board) e (board_of new.board) → new.journal.noted ≡ old.journal.noted ++ (desk, e) ∷ [] → new.board.fleet.index ≡ old.board.fleet.index
    → owed_on (board_of new.board) ≤ new.journal.owed → HasNoted fits o old desk e new
noted_request {I = I} fits o old new desk e law is u by step noted index owed =
    noted_so fits o old new desk e law is (early_requests e u) by step noted
    (subst (λ (i : I). FitsFleet (fits i) o.graph (board_of new.board)) (sym index) (still_fits (fits old.board.fleet.index) o.graph (board_of old.board) (board_of new.board) e u step is.good.1)) owed

pub early_commit : (number : RequestNo) (d : Decision) → IsEarlyMove (Commit number d)
early_commit number d now advanced bad = cc

pub early_cancel : (number : RequestNo) (x : Cancelled) → IsEarlyMove (Cancel number x)
early_cancel number x now advanced bad = cc

pub early_move : (now : ℕ) (told : Advanced) → now ≤ latest_moment → IsEarlyMove (Advance now told)
early_move now told le other advanced same = let e : now ≡ other = cc in subst (λ (n : ℕ). n ≤ latest_moment) e le

-- ---- what is owed

pub owed_submit : (g : Roads) (old new : Board) (r : Request) (s : Submitted) (owed : ℕ) → Step g old (Submit r s) new → owed_on old ≤ owed → owed_on new ≤ owed
owed_submit g old new r Accepted owed step h =
    subst (λ (b : Board). owed_on b ≤ owed) (sym step.1) (let e = held_appended old.waiting r in omega (arith, e, h))
owed_submit g old new r (Refused reason) owed step h = subst (λ (b : Board). owed_on b ≤ owed) (sym step.1) h

pub owed_claim : (g : Roads) (old new : Board) (number : RequestNo) (desk owed : ℕ) → HaveOwnNumbers old.waiting → Step g old (Claim number desk) new → owed_on old ≤ owed → owed_on new ≤ owed + 1
owed_claim g old new number desk owed own step h =
    subst (λ (b : Board). owed_on b ≤ owed + 1) (sym step.3) (let e = held_claimed old.waiting number desk own in omega (arith, e, h))

pub owed_back : (g : Roads) (old new : Board) (r : Request) (desk owed left : ℕ) → IsHeldBy old desk r → Step g old (Back r.no) new → owed_on old ≤ owed → left + 1 ≡ owed → owed_on new ≤ left
owed_back g old new r desk owed left held step h less =
    subst (λ (b : Board). owed_on b ≤ left) (sym step.3) (let e = held_given old.waiting r.no (record { request = r; holder = Some desk }) held refl in omega (arith, e, h, less))

pub owed_commit : (g : Roads) (old new : Board) (r : Request) (d : Decision) (desk owed left : ℕ) → IsHeldBy old desk r → Step g old (Commit r.no d) new → owed_on old ≤ owed → left + 1 ≡ owed → owed_on new ≤ left
owed_commit g old new r (IsAssigned a) desk owed left held step h less =
    subst (λ (b : Board). owed_on b ≤ left) (sym step.leads_to) (let e = held_left old.waiting r.no (record { request = r; holder = Some desk }) held refl in omega (arith, e, h, less))
owed_commit g old new r Nobody desk owed left held step h less =
    subst (λ (b : Board). owed_on b ≤ left) (sym step.leads_to) (let e = held_left old.waiting r.no (record { request = r; holder = Some desk }) held refl in omega (arith, e, h, less))

pub owed_move : (g : Roads) (old new : Board) (now : ℕ) (told : Advanced) (owed : ℕ) → Step g old (Advance now told) new → owed_on old ≤ owed → owed_on new ≤ owed
owed_move g old new now (Moved served) owed step h = subst (λ (b : Board). owed_on b ≤ owed) (sym step.2) h
owed_move g old new now (Behind clock) owed step h = subst (λ (b : Board). owed_on b ≤ owed) (sym step.2) h

pub owed_cancel : (g : Roads) (old new : Board) (number : RequestNo) (x : Cancelled) (owed : ℕ) → Step g old (Cancel number x) new → owed_on old ≤ owed → owed_on new ≤ owed
owed_cancel g old new number (Removed x) owed step h = subst (λ (b : Board). owed_on b ≤ owed) (sym step.leads_to) h
owed_cancel g old new number (Declined reason) owed step h = subst (λ (b : Board). owed_on b ≤ owed) (sym step.1) h

pub owed_shut : (g : Roads) (old new : Board) (owed left : ℕ) → Step g old Shut new → owed_on old ≤ owed → left + 1 ≡ owed → owed_on new ≤ left
owed_shut g old new owed left step h less =
    subst (λ (b : Board). owed_on b ≤ left) (sym step.1) (let e : shut_owed old.closed ≡ 1 = ap shut_owed step.0 in omega (arith, e, h, less))

-- an entry is owed where a desk holds a request, and where the board is open
pub owes_held : (b : Board) (r : Request) (desk owed : ℕ) → IsHeldBy b desk r → owed_on b ≤ owed → 1 ≤ owed
owes_held b r desk owed held h = let e = held_left b.waiting r.no (record { request = r; holder = Some desk }) held refl in omega (arith, e, h)

pub owes_shut : (b : Board) (owed : ℕ) → b.closed ≡ false → owed_on b ≤ owed → 1 ≤ owed
owes_shut b owed opened h = let e : shut_owed b.closed ≡ 1 = ap shut_owed opened in omega (arith, e, h)

-- ---- requests that wait

pub no_other : (b : Board) (r : Request) (desk : ℕ) → IsHeldBy b desk r → NoOtherHolds b desk r.no
no_other b r desk held = subst (λ (o : Option Waiting). IfSome (holder_in o) (λ (k : ℕ). k ≡ desk)) (sym held) refl

-- what is found stands in the list
pub found_at : {X : Type 0} (test : X → Bool) (xs : List X) (x : X) → find test xs ≡ Some x → (k : ℕ) × (slice_get xs k ≡ Some x)
found_at test [] x h = cc
found_at {X = X} test (y ∷ xs) x h = on (test y) h (found_at test xs x)
  where
    on : (b : Bool) → cond b (Some y) (find test xs) ≡ Some x → (find test xs ≡ Some x → (k : ℕ) × (slice_get xs k ≡ Some x)) → (k : ℕ) × (slice_get (y ∷ xs) k ≡ Some x)
    on true h rest = (0, h)
    on false h rest = let r = rest h in (suc r.0, r.1)

pub request_in : (g : Roads) (nodes : ℕ) (r : Request) → g.nodes ≡ nodes → IsAccepted nodes r → IsRequestIn g r
request_in g nodes r many a = record {
  pickup = subst (λ (n : ℕ). (1 ≤ r.pickup.0) × (r.pickup.0 ≤ n)) (sym many) a.pickup;
  dropoff = subst (λ (n : ℕ). (1 ≤ r.dropoff.0) × (r.dropoff.0 ≤ n)) (sym many) a.dropoff;
  moment = a.moment;
}

pub held_request_in : (g : Roads) (b : Board) (r : Request) (desk : ℕ) → AreAccepted b → g.nodes ≡ b.nodes → IsHeldBy b desk r → IsRequestIn g r
held_request_in g b r desk accepted many held =
    let stood = found_at (λ (w : Waiting). is_number w.request.no r.no) b.waiting (record { request = r; holder = Some desk }) held in
    request_in g b.nodes r many (accepted stood.0 (record { request = r; holder = Some desk }) stood.1)

-- ---- claims

-- a claim that was made
pub claimed_at : {I : Type 0} (old new : Board) (desk : ℕ) (o : Option (Request × Fleet I)) (r : Request) (fleet : Fleet I) → o ≡ Some (r, fleet)
    → IsClaimed old desk (option_map (λ (both : Request × Fleet I). both.0) o) new → IsClaimed old desk (Some r) new
claimed_at {I = I} old new desk o r fleet is h = subst (λ (o : Option (Request × Fleet I)). IsClaimed old desk (option_map (λ (both : Request × Fleet I). both.0) o) new) is h

pub fleet_at : {I : Type 0} (now : Fleet I) (o : Option (Request × Fleet I)) (r : Request) (fleet : Fleet I) → o ≡ Some (r, fleet) → IfSome o (λ (both : Request × Fleet I). both.1 ≡ now) → fleet ≡ now
fleet_at {I = I} now o r fleet is h = subst (λ (o : Option (Request × Fleet I)). IfSome o (λ (both : Request × Fleet I). both.1 ≡ now)) is h

pub fresh_claim : {I : Type 0} (fits : I → Fitting) (o : Opening) (old new : RecordedBoard I) (desk : ℕ) (claimed : Claimed I) → ClaimsAreHeld → AreFoundByNumber (board_of old.board).waiting → AreAccepted (board_of old.board)
    → IsRecordOf fits o old → IsRecordOf fits o new → IsClaimed (board_of old.board) desk (Some claimed.request) (board_of new.board) → claimed.snapshot ≡ new.board.fleet
    → IsFreshClaim fits o.graph (board_of new.board) desk claimed
fresh_claim {I = I} fits o old new desk claimed law once accepted is of by same =
    let step = by.3 o.graph in
    let held : IsHeldBy (board_of new.board) desk by.0.request = law o.graph (board_of old.board) by.0 desk (board_of new.board) once by.1 (subst (λ (q : Request). Step o.graph (board_of old.board) (Claim q.no desk) (board_of new.board)) (sym by.2) step) in
    let stood = found_at is_unheld old.board.waiting by.0 by.1 in
    record {
      held = subst (λ (q : Request). IsHeldBy (board_of new.board) desk q) by.2 held;
      fleet = ap (λ (f : Fleet I). cars_of f) same;
      good = subst (λ (f : Fleet I). IsGoodView (fits f.index) o.graph (cars_of f)) (sym same) of.good;
      asked = subst (λ (q : Request). IsRequestIn o.graph q) by.2 (request_in o.graph old.board.nodes by.0.request is.nodes (accepted stood.0 by.0 stood.1));
    }
