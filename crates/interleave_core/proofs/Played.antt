use Rattle.std.proofs.Common.{◌≡◌, ℕ, zero, suc, ◌<◌, ◌≤◌, ◌^◌, ◌⊎◌, inl, inr, arith, length, get_or, Bool, true, false, List, ◌++◌, ◌∷◌, [], Option, Some, None, sym, refl, ap, ◌∙◌, subst}
use Rattle.std.specs.Prelude.{slice_get, slice_set, option_map, IfSome}
use Rattle.std.proofs.lemmas.List.{append-nil}
use Rattle.std.proofs.lemmas.Option.{same_Some, slice_get_read}
use Rattle.std.specs.Option.{unwrap_or}
use Rattle.ride_base.specs.declared.numbers.RequestNo.{RequestNo}
use Rattle.road_graph.specs.Roads.{Roads}
use Rattle.stop_schedule.specs.declared.request.Request.{Request}
use Rattle.stop_schedule.specs.Fleets.{Cars, Fitting, IsGoodView}
use Rattle.stop_schedule.specs.Limits.{latest_moment}
use Rattle.insertion_cost.specs.declared.candidates.Candidates.{Candidates}
use Rattle.insertion_cost.specs.declared.decision.Decision.{Decision}
use Rattle.insertion_cost.specs.declared.decision.Assigned.{Assigned}
use Rattle.insertion_cost.specs.declared.decision.Decision.TheVariants.{Assigned as IsAssigned, Nobody}
use Rattle.insertion_cost.specs.NodeWays.{IsDistOrNone}
use Rattle.insertion_cost.specs.Pricers.{IsAnswerOf, IsBestPlan, IsRequestIn}
use Rattle.commit_check.specs.Settled.{IsDecision}
use Rattle.road_graph.specs.Graphs.{IsGraph}
use Rattle.board_core.specs.BoardCalls.{Commits, FitsOn, IsAnswerTo, MayApply}
use Rattle.board_core.specs.declared.entry.Advanced.{Advanced}
use Rattle.board_core.specs.declared.entry.Entry.{Entry}
use Rattle.board_core.specs.declared.entry.Entry.TheVariants.{Submit, Claim, Back, Commit, Advance, Cancel, Shut}
use Rattle.board_core.specs.declared.fleet.Fleet.{Fleet}
use Rattle.board_core.specs.declared.waiting.Waiting.{Waiting}
use Rattle.board_core.specs.BoardViews.{board_of, IsClaimed, IsHeld}
use Rattle.board_core.specs.Boards.{Board, waiting_of, oldest_unheld}
use Rattle.board_core.specs.FleetViews.{cars_of}
use Rattle.board_core.specs.Laws.{AnswersArePossible, IsEarlyMove, IsShortWay}
use Rattle.board_core.specs.Steps.{Step}
use Rattle.interleave_core.specs.declared.event.Event.TheVariants.{Price}
use Rattle.interleave_core.specs.declared.holding.Holding.TheVariants.{Nothing, Claimed, Priced}
use Rattle.interleave_core.specs.declared.world.World.{World}
use Rattle.interleave_core.specs.Holdings.{HasNoneUnpriced, HasNonePriced, is_free, number_held, IsPricedBy, IsSettledBy, IsWaitingFor}
use Rattle.interleave_core.specs.Plays.{Act, Adds, BackAct, ClaimAct, PriceAct, ShutAct}
use Rattle.interleave_core.specs.States.{Event, Holding, State, holding_of, with_holding}
use Rattle.interleave_core.specs.WorldLaws.{EntriesLeaveWorldsOver, HasActed, HasLeft, IsApart, OldestIsKnown}
use Rattle.interleave_core.specs.Worlds.{IsClaimOf, IsHeldOver, IsWorldOver, StaySound, state_of}
use Rattle.interleave_core.proofs.Claims.{held_at}
use Rattle.interleave_core.proofs.Waits.{held_now}
use Rattle.interleave_core.proofs.Worlds.{FitsFleet, IsOfRequests, index_fits, over_after}

-- What an event adds, and what actors then hold.

-- an entry was pushed
pub has_added : {I : Type 0} (g : Roads) (old new : World I) (ev : Event) (e : Entry) (mid : List Entry) → mid ≡ old.journal.items → new.journal.items ≡ mid ++ e ∷ []
    → Act g (state_of old) ev (e ∷ []) (state_of new) → HasActed g old ev new
has_added g old new ev e mid kept pushed act = record {
  entries = e ∷ [];
  act = act;
  journal = pushed ∙ ap (λ (l : List Entry). l ++ e ∷ []) kept;
}

-- an element after a write is the new one, or was there
pub set_cases : {X : Type 0} (xs : List X) (i : ℕ) (y : X) (k : ℕ) (x : X) → slice_get (slice_set xs i y) k ≡ Some x → ((k ≡ i) × (x ≡ y)) ⊎ ((k ≡ i → ⊥) × (slice_get xs k ≡ Some x))
set_cases [] i y k x h = cc
set_cases (z ∷ xs) zero y zero x h = inl (refl, cc)
set_cases (z ∷ xs) zero y (suc k) x h = inr (λ e. cc, h)
set_cases (z ∷ xs) (suc i) y zero x h = inr (λ e. cc, h)
set_cases (z ∷ xs) (suc i) y (suc k) x h = elim (set_cases xs i y k x h) [
  | inl w ↦ inl (ap (λ (n : ℕ). suc n) w.0, w.1)
  | inr w ↦ inr (λ e. w.0 (omega (arith, e)), w.1)
]

pub early_requests : (e : Entry) → IsOfRequests e → IsEarlyMove e
early_requests (Submit r submitted) u now advanced bad = cc
early_requests (Claim number desk) u now advanced bad = cc
early_requests (Back number) u now advanced bad = cc
early_requests (Commit number decision) u now advanced bad = absurd u
early_requests (Advance now' told) u now advanced bad = absurd u
early_requests (Cancel number cancelled) u now advanced bad = absurd u
early_requests Shut u now advanced bad = cc

pub early_commit : (number : RequestNo) (d : Decision) → IsEarlyMove (Commit number d)
early_commit number d now advanced bad = cc

-- an entry that no actor's claim ends, and after which all hold what they held
pub over_kept : {I : Type 0} (fits : I → Fitting) (g : Roads) (old new : World I) (e : Entry) → EntriesLeaveWorldsOver fits old → IsWorldOver fits g old → IsOfRequests e
    → Step g (board_of old.board) e (board_of new.board) → new.board.fleet.index ≡ old.board.fleet.index → ((number : Option RequestNo) → IsApart e number)
    → new.actors.items ≡ old.actors.items → IsWorldOver fits g new
over_kept {I = I} fits g old new e law over u step same apart actors =
    let left = law g e (board_of new.board) over (early_requests e u) step in
    over_after fits g old new e over left (index_fits fits g old new.board e over u step same)
    (λ k h at. left.held k h (ap (λ (l : List (Holding I)). slice_get l k) (sym actors) ∙ at) (apart (number_held (Some h))))

-- ---- claims

pub acts_claim : {I : Type 0} (g : Roads) (s after : State I) (k : ℕ) (held : Option (Holding I)) (w : Waiting) (waits : Option Waiting) (r : Request) (fleet : Fleet I)
    → is_free held ≡ true → waits ≡ Some w → w.request ≡ r → cars_of fleet ≡ after.board.fleet → Step g s.board (Claim r.no k) after.board → after.actors ≡ with_holding s k (Claimed r fleet)
    → ClaimAct g s k held waits (Claim r.no k ∷ []) after
acts_claim g s after k None w waits r fleet free is asks kept step held = cc
acts_claim g s after k (Some (Claimed q f)) w waits r fleet free is asks kept step held = cc
acts_claim g s after k (Some (Priced q c)) w waits r fleet free is asks kept step held = cc
acts_claim {I = I} g s after k (Some Nothing) w waits r fleet free is asks kept step held =
    subst (λ (o : Option Waiting). ClaimAct g s k (Some Nothing) o (Claim r.no k ∷ []) after) (sym is) (
      fleet,
      kept,
      (
        ap (λ (q : Request). Claim q.no k ∷ []) (sym asks),
        subst (λ (q : Request). Step g s.board (Claim q.no k) after.board) (sym asks) step,
        held ∙ ap (λ (q : Request). with_holding s k (Claimed q fleet)) (sym asks),
      ),
    )

pub claim_held : {I : Type 0} (fits : I → Fitting) (g : Roads) (old new : World I) (k : ℕ) (w : Waiting) (r : Request) (fleet : Fleet I) → HasLeft fits g old (Claim r.no k) (board_of new.board)
    → FitsFleet (fits new.board.fleet.index) g (board_of new.board) → Step g (board_of old.board) (Claim r.no k) (board_of new.board)
    → IsRequestIn g w.request × (waiting_of (board_of old.board) w.request.no ≡ Some w) → w.request ≡ r → fleet ≡ new.board.fleet → IsHeldOver fits g (board_of new.board) k (Claimed r fleet)
claim_held {I = I} fits g old new k w r fleet left f step known asks kept = (
  record {
    waits = ap (λ (b : Board). waiting_of b r.no) step.3 ∙ held_now old.board.waiting r.no (Some k) w (subst (λ (q : Request). waiting_of (board_of old.board) q.no ≡ Some w) asks known.1)
        ∙ ap (λ (q : Request). Some (held_at q k)) asks;
    asked = subst (λ (q : Request). IsRequestIn g q) asks known.0;
  },
  subst (λ (f : Fleet I). IsGoodView (fits f.index) g (cars_of f)) (sym kept) (left.good, f),
  subst (λ (f : Fleet I). StaySound g (cars_of f) (board_of new.board).fleet r) (sym kept) (λ c s. s),
)

pub over_claimed : {I : Type 0} (fits : I → Fitting) (g : Roads) (old new : World I) (k : ℕ) (w : Waiting) (r : Request) (fleet : Fleet I) → EntriesLeaveWorldsOver fits old → OldestIsKnown fits old
    → IsWorldOver fits g old → Step g (board_of old.board) (Claim r.no k) (board_of new.board) → new.board.fleet.index ≡ old.board.fleet.index → oldest_unheld (board_of old.board) ≡ Some w → w.request ≡ r
    → fleet ≡ new.board.fleet → new.actors.items ≡ slice_set old.actors.items k (Claimed r fleet) → IsWorldOver fits g new
over_claimed {I = I} fits g old new k w r fleet law known over step same oldest asks kept actors =
    over_after fits g old new (Claim r.no k) over left f (λ j h at. held j h (ap (λ (l : List (Holding I)). slice_get l j) (sym actors) ∙ at))
  where
    left : HasLeft fits g old (Claim r.no k) (board_of new.board)
    left = law g (Claim r.no k) (board_of new.board) over (early_requests (Claim r.no k) tt) step

    f : FitsFleet (fits new.board.fleet.index) g (board_of new.board)
    f = index_fits fits g old new.board (Claim r.no k) over tt step same

    held : (j : ℕ) (h : Holding I) → slice_get (slice_set old.actors.items k (Claimed r fleet)) j ≡ Some h → IsHeldOver fits g (board_of new.board) j h
    held j h at = elim (set_cases old.actors.items k (Claimed r fleet) j h at) [
      | inl e ↦ subst (λ (i : ℕ). IsHeldOver fits g (board_of new.board) i h) (sym e.0) (subst (λ (x : Holding I). IsHeldOver fits g (board_of new.board) k x) (sym e.1)
          (claim_held fits g old new k w r fleet left f step (known g w over oldest) asks kept))
      | inr o ↦ left.held j h o.1 tt
    ]

-- ---- prices

pub acts_price : {I : Type 0} (g : Roads) (s after : State I) (k : ℕ) (held : Option (Holding I)) (r : Request) (c : Candidates) → IsPricedBy g held (Some (r, c)) → after.board ≡ s.board
    → after.actors ≡ with_holding s k (Priced r c) → PriceAct g s k held [] after
acts_price {I = I} g s after k held r c by board actors = subst (λ (o : Option (Holding I)). PriceAct g s k o [] after) (sym by.1) (c, by.2, by.3, refl, same)
  where
    same : after ≡ record s { actors = with_holding s k (Priced r c) }
    same = ap (λ (b : Board). let x : State I = record { board = b; actors = after.actors } in x) board
        ∙ ap (λ (l : List (Holding I)). let x : State I = record { board = s.board; actors = l } in x) actors

pub has_priced : {I : Type 0} (g : Roads) (old new : World I) (k : ℕ) (r : Request) (c : Candidates) → IsPricedBy g (holding_of (state_of old) k) (Some (r, c)) → new.board ≡ old.board
    → new.actors.items ≡ slice_set old.actors.items k (Priced r c) → new.journal.items ≡ old.journal.items → HasActed g old (Price k) new
has_priced g old new k r c by board actors journal = record {
  entries = [];
  act = acts_price g (state_of old) (state_of new) k (holding_of (state_of old) k) r c by (ap (λ b. board_of b) board) actors;
  journal = journal ∙ sym (append-nil old.journal.items);
}

pub over_priced : {I : Type 0} (fits : I → Fitting) (g : Roads) (old new : World I) (k : ℕ) (r : Request) (c : Candidates) → IsPricedBy g (holding_of (state_of old) k) (Some (r, c)) → new.board ≡ old.board
    → new.actors.items ≡ slice_set old.actors.items k (Priced r c) → IsWorldOver fits g old → IsWorldOver fits g new
over_priced {I = I} fits g old new k r c by board actors over = record {
  graph = over.graph;
  nodes = over.nodes ∙ ap (λ b. b.nodes) (sym board);
  good = subst (λ b. IsGoodView (fits b.fleet.index) g (board_of b).fleet) (sym board) over.good;
  held = λ j h at. subst (λ b. IsHeldOver fits g (board_of b) j h) (sym board) (held j h (ap (λ (l : List (Holding I)). slice_get l j) (sym actors) ∙ at));
}
  where
    held : (j : ℕ) (h : Holding I) → slice_get (slice_set old.actors.items k (Priced r c)) j ≡ Some h → IsHeldOver fits g (board_of old.board) j h
    held j h at = elim (set_cases old.actors.items k (Priced r c) j h at) [
      | inl e ↦ (let so = over.held k (Claimed r by.0) by.1 in
          subst (λ (i : ℕ). IsHeldOver fits g (board_of old.board) i h) (sym e.0) (subst (λ (x : Holding I). IsHeldOver fits g (board_of old.board) k x) (sym e.1) (so.0, so.2 c by.2.sound)))
      | inr o ↦ over.held j h o.1
    ]

-- ---- claims that end

-- which request an actor holds
pub holds : {I : Type 0} (fits : I → Fitting) (g : Roads) (b : Board) (k : ℕ) (h : Holding I) (number : RequestNo) → number_held (Some h) ≡ Some number → IsHeldOver fits g b k h
    → (r : Request) × (r.no ≡ number) × IsClaimOf g b k r
holds fits g b k Nothing number is so = cc
holds fits g b k (Claimed r fleet) number is so = (r, same_Some r.no number is, so.0)
holds fits g b k (Priced r c) number is so = (r, same_Some r.no number is, so.0)

-- the actor of whom a number is held
pub held_there : {I : Type 0} (o : Option (Holding I)) (number : RequestNo) → number_held o ≡ Some number → (h : Holding I) × (o ≡ Some h) × (number_held (Some h) ≡ Some number)
held_there None number is = cc
held_there (Some h) number is = (h, refl, is)

pub claim_at : {I : Type 0} (fits : I → Fitting) (g : Roads) (w : World I) (k : ℕ) (number : RequestNo) → IsWorldOver fits g w → number_held (holding_of (state_of w) k) ≡ Some number
    → (r : Request) × (r.no ≡ number) × IsClaimOf g (board_of w.board) k r
claim_at fits g w k number over is =
    let h = held_there (holding_of (state_of w) k) number is in
    holds fits g (board_of w.board) k h.0 number h.2 (over.held k h.0 h.1)

pub is_held : {I : Type 0} (fits : I → Fitting) (g : Roads) (w : World I) (k : ℕ) (number : RequestNo) → IsWorldOver fits g w → number_held (holding_of (state_of w) k) ≡ Some number
    → IsHeld (board_of w.board) number
is_held fits g w k number over is =
    let c = claim_at fits g w k number over is in
    (held_at c.0 k, subst (λ (n : RequestNo). waiting_of (board_of w.board) n ≡ Some (held_at c.0 k)) c.1 c.2.waits, refl)

-- no other actor holds it
pub held_once : {I : Type 0} (fits : I → Fitting) (g : Roads) (w : World I) (k j : ℕ) (h : Holding I) (number : RequestNo) → IsWorldOver fits g w → number_held (holding_of (state_of w) k) ≡ Some number
    → slice_get w.actors.items j ≡ Some h → number_held (Some h) ≡ Some number → j ≡ k
held_once fits g w k j h number over is at here =
    let c = claim_at fits g w k number over is in
    let d = holds fits g (board_of w.board) j h number here (over.held j h at) in
    let ours = subst (λ (n : RequestNo). waiting_of (board_of w.board) n ≡ Some (held_at c.0 k)) c.1 c.2.waits in
    let theirs = subst (λ (n : RequestNo). waiting_of (board_of w.board) n ≡ Some (held_at d.0 j)) d.1 d.2.waits in
    same_Some j k (ap (λ (w : Waiting). w.holder) (same_Some (held_at d.0 j) (held_at c.0 k) (sym theirs ∙ ours)))

-- the entry ends the claim of one actor, who then holds nothing
pub over_ended : {I : Type 0} (fits : I → Fitting) (g : Roads) (old new : World I) (e : Entry) (k : ℕ) (number : RequestNo) → EntriesLeaveWorldsOver fits old → IsWorldOver fits g old → IsEarlyMove e
    → Step g (board_of old.board) e (board_of new.board) → FitsFleet (fits new.board.fleet.index) g (board_of new.board) → number_held (holding_of (state_of old) k) ≡ Some number
    → ((other : Option RequestNo) → (other ≡ Some number → ⊥) → IsApart e other) → new.actors.items ≡ slice_set old.actors.items k Nothing → IsWorldOver fits g new
over_ended {I = I} fits g old new e k number law over early step f is apart actors =
    let left = law g e (board_of new.board) over early step in
    over_after fits g old new e over left f (λ j h at. held left j h (ap (λ (l : List (Holding I)). slice_get l j) (sym actors) ∙ at))
  where
    held : HasLeft fits g old e (board_of new.board) → (j : ℕ) (h : Holding I) → slice_get (slice_set old.actors.items k Nothing) j ≡ Some h → IsHeldOver fits g (board_of new.board) j h
    held left j h at = elim (set_cases old.actors.items k Nothing j h at) [
      | inl e ↦ subst (λ (x : Holding I). IsHeldOver fits g (board_of new.board) j x) (sym e.1) tt
      | inr o ↦ left.held j h o.1 (apart (number_held (Some h)) (λ here. o.0 (held_once fits g old k j h number over is o.1 here)))
    ]

pub acts_back : {I : Type 0} (g : Roads) (s after : State I) (k : ℕ) (held : Option (Holding I)) (number : RequestNo) → number_held held ≡ Some number
    → Adds g s (Back number) (with_holding s k Nothing) (Back number ∷ []) after → BackAct g s k held (Back number ∷ []) after
acts_back g s after k None number is adds = cc
acts_back g s after k (Some Nothing) number is adds = cc
acts_back g s after k (Some (Claimed r fleet)) number is adds = let same : number ≡ r.no = sym (same_Some r.no number is) in subst (λ (n : RequestNo). Adds g s (Back n) (with_holding s k Nothing) (Back number ∷ []) after) same adds
acts_back g s after k (Some (Priced r c)) number is adds = let same : number ≡ r.no = sym (same_Some r.no number is) in subst (λ (n : RequestNo). Adds g s (Back n) (with_holding s k Nothing) (Back number ∷ []) after) same adds

-- ---- what is read of an actor

pub read_at : {I : Type 0} (xs : List (Holding I)) (i : ℕ) (x y : Holding I) → i < length xs → x ≡ get_or xs i x → x ≡ y → slice_get xs i ≡ Some y
read_at {I = I} xs i x y lt is same = slice_get_read xs (length xs) i x refl lt is ∙ ap (λ (h : Holding I). Some h) same

pub no_claim : {I : Type 0} (o : Option (Holding I)) (x : Holding I) → o ≡ Some x → (x ≡ Nothing) ⊎ ((r : Request) × (c : Candidates) × (x ≡ Priced r c)) → HasNoneUnpriced o
no_claim {I = I} o x is (inl e) = subst (λ (o : Option (Holding I)). HasNoneUnpriced o) (sym (is ∙ ap (λ (h : Holding I). Some h) e)) tt
no_claim {I = I} o x is (inr w) = subst (λ (o : Option (Holding I)). HasNoneUnpriced o) (sym (is ∙ ap (λ (h : Holding I). Some h) w.2)) tt

pub none_priced : {I : Type 0} (o : Option (Holding I)) (x : Holding I) → o ≡ Some x → (x ≡ Nothing) ⊎ ((r : Request) × (f : Fleet I) × (x ≡ Claimed r f)) → HasNonePriced o
none_priced {I = I} o x is (inl e) = subst (λ (o : Option (Holding I)). HasNonePriced o) (sym (is ∙ ap (λ (h : Holding I). Some h) e)) tt
none_priced {I = I} o x is (inr w) = subst (λ (o : Option (Holding I)). HasNonePriced o) (sym (is ∙ ap (λ (h : Holding I). Some h) w.2)) tt

-- ---- answers

answer_to : (g : Roads) (b : Board) (w : Waiting) (d : Decision) (direct : ℕ) → IsAnswerOf g b.fleet w.request d direct → IsAnswerTo g b w d direct
answer_to g b w Nobody direct told = told.1
answer_to g b w (IsAssigned a) direct told = told

short_direct : (g : Roads) (fleet : Cars) (r : Request) (d : Decision) (direct : ℕ) → IsAnswerOf g fleet r d direct → IsShortWay d direct → direct < 2 ^ 53
short_direct g fleet r Nobody direct told short = omega (arith, told.0)
short_direct g fleet r (IsAssigned a) direct told short = short

answers : (g : Roads) (b : Board) (r : Request) (d : Decision) (direct : ℕ) → (w : IsWaitingFor b r) → IsAnswerOf g b.fleet r d direct → IsAnswerTo g b w.0 d direct
answers g b r d direct w told = answer_to g b w.0 d direct (subst (λ (q : Request). IsAnswerOf g b.fleet q d direct) (sym w.2) told)

pub short_answer : (g : Roads) (b : Board) (r : Request) (d : Decision) (direct : ℕ) → AnswersArePossible → IsGraph g → g.nodes ≡ b.nodes → IsWaitingFor b r → IsAnswerOf g b.fleet r d direct → direct < 2 ^ 53
short_answer g b r d direct law graph nodes w told = short_direct g b.fleet r d direct told (law g b w.0 d direct graph nodes (answers g b r d direct w told)).1

pub possible_answer : (g : Roads) (b : Board) (r : Request) (d : Decision) (direct : ℕ) → AnswersArePossible → IsGraph g → g.nodes ≡ b.nodes → IsWaitingFor b r → IsAnswerOf g b.fleet r d direct → MayApply b r.no d direct
possible_answer g b r d direct law graph nodes w told = (w.0, w.1, (law g b w.0 d direct graph nodes (answers g b r d direct w told)).0)

pub lawful_answer : (g : Roads) (b new : Board) (r : Request) (d told : Decision) (direct : ℕ) → g.nodes ≡ b.nodes → IsWaitingFor b r → IsAnswerOf g b.fleet r d direct → Commits b r.no d direct new → told ≡ d
    → Step g b (Commit r.no told) new
lawful_answer g b new r d told direct nodes w answer commits same =
    subst (λ (x : Decision). Step g b (Commit r.no x) new) (sym same) (commits g w.0 nodes w.1 (answers g b r d direct w answer))

-- the direct way of an assignment is known
pub answer_by : (g : Roads) (fleet : Cars) (r : Request) (d : Decision) (a : Assigned) → d ≡ IsAssigned a → IsDecision g fleet r d → (o : Option ℕ) → IsDistOrNone g r.pickup r.dropoff o
    → IsAnswerOf g fleet r d (unwrap_or o 0)
answer_by g fleet r d a is decided o h = subst (λ (x : Decision). IsAnswerOf g fleet r x (unwrap_or o 0)) (sym is) (on (subst (λ (x : Decision). IsDecision g fleet r x) is decided) o h)
  where
    on : IsDecision g fleet r (IsAssigned a) → (o : Option ℕ) → IsDistOrNone g r.pickup r.dropoff o → IsBestPlan g fleet r a (unwrap_or o 0)
    on plan None h = absurd (let walk = plan.1.direct_way.reached in h walk.0 plan.0 walk.1)
    on plan (Some x) h = record { best = plan.1.best; direct_way = h; walks = plan.1.walks }

-- what is settled is asked, and waits
pub settled_claim : {I : Type 0} (fits : I → Fitting) (g : Roads) (w : World I) (k : ℕ) (r : Request) (d : Decision) → IsWorldOver fits g w → IsSettledBy g (state_of w).board.fleet (holding_of (state_of w) k) (Some (r, d))
    → IsClaimOf g (board_of w.board) k r
settled_claim fits g w k r d over s = (over.held k (Priced r s.0) s.1).0

pub settled_number : {I : Type 0} (g : Roads) (fleet : Cars) (o : Option (Holding I)) (r : Request) (d : Decision) → IsSettledBy g fleet o (Some (r, d)) → number_held o ≡ Some r.no
settled_number g fleet o r d s = ap number_held s.1

pub waits_for : (g : Roads) (b : Board) (k : ℕ) (r : Request) → IsClaimOf g b k r → IsWaitingFor b r
waits_for g b k r c = (held_at r k, c.waits, refl)

-- ---- what has no actor

pub acts_shut : {I : Type 0} (g : Roads) (s after : State I) (closed : Bool) → closed ≡ false → Adds g s Shut s.actors (Shut ∷ []) after → ShutAct g s closed (Shut ∷ []) after
acts_shut g s after true is adds = cc
acts_shut g s after false is adds = adds

early_move : (now : ℕ) (told : Advanced) → now ≤ latest_moment → IsEarlyMove (Advance now told)
early_move now told le other advanced same = let e : now ≡ other = cc in subst (λ (n : ℕ). n ≤ latest_moment) e le

pub over_moved : {I : Type 0} (fits : I → Fitting) (g : Roads) (old new : World I) (now : ℕ) (told : Advanced) → EntriesLeaveWorldsOver fits old → IsWorldOver fits g old → now ≤ latest_moment
    → Step g (board_of old.board) (Advance now told) (board_of new.board) → FitsOn (fits old.board.fleet.index) (fits new.board.fleet.index) (board_of old.board) (board_of new.board)
    → new.actors.items ≡ old.actors.items → IsWorldOver fits g new
over_moved {I = I} fits g old new now told law over le step fits_on actors =
    let left = law g (Advance now told) (board_of new.board) over (early_move now told le) step in
    over_after fits g old new (Advance now told) over left (fits_on g over.nodes over.good.1)
    (λ k h at. left.held k h (ap (λ (l : List (Holding I)). slice_get l k) (sym actors) ∙ at) tt)

-- ---- a claim that was made

pub claimed_at : {I : Type 0} (old new : Board) (desk : ℕ) (o : Option (Request × Fleet I)) (r : Request) (fleet : Fleet I) → o ≡ Some (r, fleet)
    → IsClaimed old desk (option_map (λ (both : Request × Fleet I). both.0) o) new → IsClaimed old desk (Some r) new
claimed_at {I = I} old new desk o r fleet is h = subst (λ (o : Option (Request × Fleet I)). IsClaimed old desk (option_map (λ (both : Request × Fleet I). both.0) o) new) is h

pub fleet_at : {I : Type 0} (now : Fleet I) (o : Option (Request × Fleet I)) (r : Request) (fleet : Fleet I) → o ≡ Some (r, fleet) → IfSome o (λ (both : Request × Fleet I). both.1 ≡ now) → fleet ≡ now
fleet_at {I = I} now o r fleet is h = subst (λ (o : Option (Request × Fleet I)). IfSome o (λ (both : Request × Fleet I). both.1 ≡ now)) is h
