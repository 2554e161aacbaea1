use Rattle.std.proofs.Common.{◌≡◌, ℕ, ◌<◌, ◌≤◌, ◌^◌, List, [], ◌∷◌, ◌++◌, Bool, true, false, cond, Some, None, refl, sym, ap, subst, ◌∙◌, arith, zero, suc}
use Rattle.std.specs.Prelude.{not, nat_lt, ◌==◌, ◌&&◌, ◌||◌, is_some, Option}
use Rattle.std.proofs.lemmas.Bool.{eq-eqb}
use Rattle.std.proofs.lemmas.Bool.Decides.{nat_tests}
use Rattle.ride_base.specs.declared.numbers.RequestNo.{RequestNo}
use Rattle.road_graph.specs.Roads.{Roads, is_node}
use Rattle.road_graph.proofs.WalkLaws.{node_from_test}
use Rattle.stop_schedule.specs.declared.request.Request.{Request}
use Rattle.stop_schedule.specs.Fleets.{Car, IsGoodFleet}
use Rattle.stop_removal.specs.declared.removal.Removal.{Removal}
use Rattle.stop_schedule.specs.Limits.{latest_moment}
use Rattle.insertion_cost.specs.declared.decision.Decision.{Decision}
use Rattle.insertion_cost.specs.declared.decision.Decision.TheVariants.{Assigned as IsAssigned, Nobody}
use Rattle.insertion_cost.specs.Pricers.{IsAnswerOf, IsRequestIn}
use Rattle.board_core.specs.declared.entry.Advanced.{Advanced}
use Rattle.board_core.specs.declared.entry.Advanced.TheVariants.{Moved, Back as Behind}
use Rattle.board_core.specs.declared.entry.Cancelled.{Cancelled}
use Rattle.board_core.specs.declared.entry.Cancelled.TheVariants.{Removed, Refused as Declined}
use Rattle.board_core.specs.declared.entry.Submitted.TheVariants.{Accepted, Refused}
use Rattle.board_core.specs.declared.entry.Reason.TheVariants.{Closed, Place, Riders, Moment, Repeated}
use Rattle.board_core.specs.declared.entry.Entry.{Entry}
use Rattle.board_core.specs.declared.entry.Entry.TheVariants.{Submit, Claim, Back, Commit, Advance, Cancel, Shut}
use Rattle.board_core.specs.declared.waiting.Waiting.{Waiting}
use Rattle.board_core.specs.Boards.{Board, as_waiting, opening_board, is_number, waiting_in, waiting_of, was_accepted}
use Rattle.board_core.specs.BoardCalls.{Applies, AppliesTo, Commits, IsAnswerTo, IsPossibleFor, MayApply, MayRemove}
use Rattle.board_core.specs.Histories.{Legal}
use Rattle.board_core.specs.Laws.{AnswersArePossible, HasEarlyMoves, IsShortWay, LegalHistoriesLeaveGoodFleets, RemovalsArePossible}
use Rattle.board_core.specs.Steps.{Step, answered, refusal, taken_on, with_car}
use Rattle.board_core.proofs.HistoryLaws.{legal_append}
use Rattle.board_cases.specs.Playing.{IsPlayed}

-- What is played on a board.

-- an entry that is no move past the latest moment
abbrev pub IsEarly : Entry → Type 0
IsEarly e = (now : ℕ) (advanced : Advanced) → e ≡ Advance now advanced → now ≤ latest_moment

early_behind : (history : List Entry) (e : Entry) → HasEarlyMoves history → IsEarly e → HasEarlyMoves (history ++ e ∷ [])
early_behind [] e h m zero now advanced i = m now advanced (let f : e ≡ Advance now advanced = cc in f)
early_behind [] e h m (suc k) now advanced i = cc
early_behind (x ∷ history) e h m zero now advanced i = h zero now advanced i
early_behind (x ∷ history) e h m (suc k) now advanced i = early_behind history e (λ k now advanced i. h (suc k) now advanced i) m k now advanced i

-- one entry more
pub next : (g : Roads) (old new : Board) (e : Entry) → IsEarly e → IsPlayed g old → Step g old e new → IsPlayed g new
next g old new e m p s = record {
  rates = p.rates;
  vehicles = p.vehicles;
  history = p.history ++ e ∷ [];
  lawful = p.lawful;
  fleet = p.fleet;
  early = early_behind p.history e p.early m;
  legal = legal_append g (opening_board g.nodes p.rates p.vehicles) p.history (e ∷ []) old new p.legal (new, s, refl);
}

pub played_submit : (g : Roads) (old new : Board) (r : Request) → IsPlayed g old → Step g old (Submit r Accepted) new → IsPlayed g new
played_submit g old new r = next g old new (Submit r Accepted) (λ now advanced e. cc)

pub played_commit : (g : Roads) (old new : Board) (number : RequestNo) (d : Decision) → IsPlayed g old → Step g old (Commit number d) new → IsPlayed g new
played_commit g old new number d = next g old new (Commit number d) (λ now advanced e. cc)

pub played_cancel : (g : Roads) (old new : Board) (number : RequestNo) (c : Cancelled) → IsPlayed g old → Step g old (Cancel number c) new → IsPlayed g new
played_cancel g old new number c = next g old new (Cancel number c) (λ now advanced e. cc)

pub played_move : (g : Roads) (old new : Board) (now : ℕ) (advanced : Advanced) → now ≤ latest_moment → IsPlayed g old → Step g old (Advance now advanced) new → IsPlayed g new
played_move g old new now advanced m = next g old new (Advance now advanced) (λ other a e. let f : now ≡ other = cc in subst (λ (x : ℕ). x ≤ latest_moment) f m)

-- ---- what is kept

step_nodes : (g : Roads) (old new : Board) (e : Entry) → Step g old e new → new.nodes ≡ old.nodes
step_nodes g old new (Submit r Accepted) h = ap (λ (b : Board). b.nodes) h.1
step_nodes g old new (Submit r (Refused reason)) h = ap (λ (b : Board). b.nodes) h.1
step_nodes g old new (Claim number desk) h = ap (λ (b : Board). b.nodes) h.3
step_nodes g old new (Back number) h = ap (λ (b : Board). b.nodes) h.3
step_nodes g old new (Commit number (IsAssigned a)) h = ap (λ (b : Board). b.nodes) h.leads_to
step_nodes g old new (Commit number Nobody) h = ap (λ (b : Board). b.nodes) h.leads_to
step_nodes g old new (Advance now (Moved served)) h = ap (λ (b : Board). b.nodes) h.2
step_nodes g old new (Advance now (Behind clock)) h = ap (λ (b : Board). b.nodes) h.2
step_nodes g old new (Cancel number (Removed x)) h = ap (λ (b : Board). b.nodes) h.leads_to
step_nodes g old new (Cancel number (Declined reason)) h = ap (λ (b : Board). b.nodes) h.1
step_nodes g old new Shut h = ap (λ (b : Board). b.nodes) h.1

history_nodes : (g : Roads) (first : Board) (history : List Entry) (last : Board) → Legal g first history last → last.nodes ≡ first.nodes
history_nodes g first [] last h = ap (λ (b : Board). b.nodes) h
history_nodes g first (e ∷ history) last h = history_nodes g h.0 history last h.2 ∙ step_nodes g first h.0 e h.1

-- the board has the graph's nodes
pub nodes_of : (g : Roads) (b : Board) → IsPlayed g b → b.nodes ≡ g.nodes
nodes_of g b p = history_nodes g (opening_board g.nodes p.rates p.vehicles) p.history b p.legal

-- its fleet is good
pub good : LegalHistoriesLeaveGoodFleets → (g : Roads) (b : Board) → IsPlayed g b → IsGoodFleet g b.fleet
good law g b p = law g p.rates p.vehicles p.history b p.lawful p.fleet p.early p.legal

-- ---- what waits

-- what no reason of a board's stands against
none_left : (closed place riders early late before : Bool) → cond closed (Some Closed) (cond (not place) (Some Place) (cond riders (Some Riders) (cond (early || late) (Some Moment) (cond before (Some Repeated) None)))) ≡ None
    → (place ≡ true) × (late ≡ false) × (before ≡ false)
none_left true place riders early late before h = cc
none_left false false riders early late before h = cc
none_left false true true early late before h = cc
none_left false true false true late before h = cc
none_left false true false false true before h = cc
none_left false true false false false true h = cc
none_left false true false false false false h = (refl, refl, refl)

unreasoned : (b : Board) (r : Request) → refusal b r ≡ None → ((is_node b.nodes r.pickup && is_node b.nodes r.dropoff) ≡ true) × (nat_lt latest_moment r.moment ≡ false) × (was_accepted b r.no ≡ false)
unreasoned b r h = none_left b.closed (is_node b.nodes r.pickup && is_node b.nodes r.dropoff) (nat_lt 16 r.riders || nat_lt 16 r.spaces || ((r.riders == 0) && (r.spaces == 0))) (nat_lt r.moment b.fleet.clock) (nat_lt latest_moment r.moment) (was_accepted b r.no) h

both_true : (a b : Bool) → (a && b) ≡ true → (a ≡ true) × (b ≡ true)
both_true true true h = (refl, refl)
both_true true false h = cc
both_true false b h = cc

not_late : (m : ℕ) → nat_lt latest_moment m ≡ false → m ≤ latest_moment
not_late m h = grind (arith, nat_tests)

request_over : (g : Roads) (b : Board) (r : Request) → b.nodes ≡ g.nodes → refusal b r ≡ None → IsRequestIn g r
request_over g b r n h =
    let u = unreasoned b r h in
    let both = both_true (is_node b.nodes r.pickup) (is_node b.nodes r.dropoff) u.0 in
    record {
      pickup = node_from_test g r.pickup (ap (λ (k : ℕ). is_node k r.pickup) (sym n) ∙ both.0);
      dropoff = node_from_test g r.dropoff (ap (λ (k : ℕ). is_node k r.dropoff) (sym n) ∙ both.1);
      moment = not_late r.moment u.1;
    }

-- an accepted request can be priced over the graph
pub request_in : (g : Roads) (old new : Board) (r : Request) → IsPlayed g old → Step g old (Submit r Accepted) new → IsRequestIn g r
request_in g old new r p s = request_over g old r (nodes_of g old p) s.0

not_some : {X : Type 0} (o : Option X) (b : Bool) → (is_some o || b) ≡ false → o ≡ None
not_some None b h = refl
not_some (Some x) b h = cc

found_last : (waiting : List Waiting) (r : Request) → waiting_in waiting r.no ≡ None → waiting_in (waiting ++ as_waiting r ∷ []) r.no ≡ Some (as_waiting r)
found_last [] r h = found_by (is_number r.no r.no) (same_number r.no.0)
  where
    same_number : (n : ℕ) → (n == n) ≡ true
    same_number n = eq-eqb n n refl

    found_by : (b : Bool) → b ≡ true → cond b (Some (as_waiting r)) None ≡ Some (as_waiting r)
    found_by true e = refl
    found_by false e = cc
found_last (w ∷ waiting) r h = on (is_number w.request.no r.no) (found_last waiting r) h
  where
    on : (b : Bool) → (waiting_in waiting r.no ≡ None → waiting_in (waiting ++ as_waiting r ∷ []) r.no ≡ Some (as_waiting r)) → cond b (Some w) (waiting_in waiting r.no) ≡ None
        → cond b (Some w) (waiting_in (waiting ++ as_waiting r ∷ []) r.no) ≡ Some (as_waiting r)
    on true rest e = cc
    on false rest e = rest e

-- an accepted request waits last, and is found by its number
pub waits : (g : Roads) (old new : Board) (r : Request) → Step g old (Submit r Accepted) new → waiting_of new r.no ≡ Some (as_waiting r)
waits g old new r s = ap (λ (b : Board). waiting_of b r.no) s.1 ∙ found_last old.waiting r (not_some (waiting_of old r.no) _ (unreasoned old r s.0).2)

-- ---- answers

-- what a fleet answers is the answer on its board, where the request waits
pub answer_to : (g : Roads) (b : Board) (r : Request) (d : Decision) (direct : ℕ) → IsAnswerOf g b.fleet r d direct → IsAnswerTo g b (as_waiting r) d direct
answer_to g b r Nobody direct h = h.1
answer_to g b r (IsAssigned a) direct h = h

possible : (g : Roads) (b : Board) (r : Request) (d : Decision) (direct : ℕ) → AnswersArePossible → IsPlayed g b → IsAnswerOf g b.fleet r d direct → IsPossibleFor b (as_waiting r) d direct × IsShortWay d direct
possible g b r d direct law p h = law g b (as_waiting r) d direct p.lawful (sym (nodes_of g b p)) (answer_to g b r d direct h)

short_way : (g : Roads) (b : Board) (r : Request) (d : Decision) (direct : ℕ) → IsAnswerOf g b.fleet r d direct → IsShortWay d direct → direct < 2 ^ 53
short_way g b r Nobody direct h s = let e : direct ≡ 0 = h.0 in omega arith
short_way g b r (IsAssigned a) direct h s = s

-- its direct way is short
pub short_direct : (g : Roads) (b : Board) (r : Request) (d : Decision) (direct : ℕ) → AnswersArePossible → IsPlayed g b → IsAnswerOf g b.fleet r d direct → direct < 2 ^ 53
short_direct g b r d direct law p h = short_way g b r d direct h (possible g b r d direct law p h).1

-- it may be applied
pub may_apply : (g : Roads) (b : Board) (r : Request) (d : Decision) (direct : ℕ) → AnswersArePossible → IsPlayed g b → waiting_of b r.no ≡ Some (as_waiting r) → IsAnswerOf g b.fleet r d direct → MayApply b r.no d direct
may_apply g b r d direct law p w h = (as_waiting r, w, (possible g b r d direct law p h).0)

-- what it leaves is played
pub played_answer : (g : Roads) (old new : Board) (r : Request) (d : Decision) (direct : ℕ) → IsPlayed g old → waiting_of old r.no ≡ Some (as_waiting r) → IsAnswerOf g old.fleet r d direct → Commits old r.no d direct new → IsPlayed g new
played_answer g old new r d direct p w h c = played_commit g old new r.no d p (c g (as_waiting r) (sym (nodes_of g old p)) w (answer_to g old r d direct h))

-- ---- boards that are alike

same_car : (a b : Car) → Some a ≡ Some b → a ≡ b
same_car a b h = let f : a ≡ b = cc in f

same_waiting : (a b : Waiting) → Some a ≡ Some b → a ≡ b
same_waiting a b h = let f : a ≡ b = cc in f

-- a request that is accepted leaves them alike
pub submit_alike : (g : Roads) (old new old' new' : Board) (r : Request) → old' ≡ old → Step g old (Submit r Accepted) new → Step g old' (Submit r Accepted) new' → new' ≡ new
submit_alike g old new old' new' r alike s t = (subst (λ (b : Board). Step g b (Submit r Accepted) new') alike t).1 ∙ sym s.1

applied_alike : (old new new' : Board) (number : RequestNo) (w : Waiting) (d : Decision) (direct : ℕ) → AppliesTo old number w d direct new → AppliesTo old number w d direct new' → new' ≡ new
applied_alike old new new' number w Nobody direct s t = t ∙ sym s
applied_alike old new new' number w (IsAssigned a) direct s t =
    let same : t.0 ≡ s.0 = same_car t.0 s.0 (sym t.1 ∙ s.1) in
    t.2 ∙ ap (λ (car : Car). with_car (answered old number (IsAssigned a)) a.offer.place (taken_on old car w.request direct a)) same ∙ sym s.2

-- so does one answer on both
pub apply_alike : (old new old' new' : Board) (number : RequestNo) (d d' : Decision) (direct : ℕ) → old' ≡ old → d' ≡ d → Applies old number d direct new → Applies old' number d' direct new' → new' ≡ new
apply_alike old new old' new' number d d' direct alike told s t =
    let u = subst (λ (b : Board). Applies b number d direct new') alike (subst (λ (x : Decision). Applies old' number x direct new') told t) in
    let same : u.0 ≡ s.0 = same_waiting u.0 s.0 (sym u.1 ∙ s.1) in
    applied_alike old new new' number s.0 d direct s.2 (subst (λ (w : Waiting). AppliesTo old number w d direct new') same u.2)

-- a removal from one of them may be made on the other
pub may_remove : (g : Roads) (old new old' : Board) (number : RequestNo) (x x' : Removal) → RemovalsArePossible → LegalHistoriesLeaveGoodFleets → IsPlayed g old → old' ≡ old → x' ≡ x → Step g old (Cancel number (Removed x)) new → MayRemove old' number x'
may_remove g old new old' number x x' law good_law p alike told s =
    let possible = law g old number x p.lawful (sym (nodes_of g old p)) (good good_law g old p)
    (record { assigned = s.assigned; car = s.car; answer = s.answer; stands = s.stands; walks = s.walks })
    (record { assigned = s.assigned; car = s.car; not_refused = s.not_refused; answer = s.answer; stands = s.stands; numbered = s.numbered; stops = s.stops }) in
    subst (λ (b : Board). MayRemove b number x') (sym alike) (subst (λ (y : Removal). MayRemove old number y) (sym told) possible)

-- a board that is like one that was played was played
pub played_alike : (g : Roads) (old old' : Board) → old' ≡ old → IsPlayed g old → IsPlayed g old'
played_alike g old old' alike p = subst (λ (b : Board). IsPlayed g b) (sym alike) p
