use Rattle.std.proofs.Common.{◌≡◌, ℕ, ◌+◌, ◌-◌, ◌<◌, ◌≤◌, ◌^◌, List, [], ◌∷◌, ◌++◌, Bool, true, false, cond, Option, Some, None, Result, Ok, Err, refl, sym, ap, subst, ◌∙◌, arith, append-nil, length, length-append, zero, suc}
use Rattle.std.specs.Prelude.{OnOk, IsSome, is_some, not, nat_lt, ◌==◌, ◌&&◌, ◌||◌, slice_get}
use Rattle.std.proofs.lemmas.Bool.Decides.{nat_tests}
use Rattle.std.proofs.lemmas.Option.{slice_get_within}
use Rattle.std.proofs.lemmas.Bool.{eq-eqb}
use Rattle.ride_base.specs.declared.numbers.RequestNo.{RequestNo}
use Rattle.road_graph.specs.Paths.{Path}
use Rattle.road_graph.specs.Roads.{Roads, is_node}
use Rattle.road_graph.specs.declared.road.NodeNo.{NodeNo}
use Rattle.road_graph.proofs.WalkLaws.{node_from_test}
use Rattle.stop_schedule.specs.declared.request.Request.{Request}
use Rattle.stop_schedule.specs.declared.stop.Front.{Front}
use Rattle.stop_schedule.specs.declared.stop.Stop.{Stop}
use Rattle.stop_schedule.specs.Distances.{AreLeastWalks}
use Rattle.stop_schedule.specs.Fleets.{Cars, IsGoodFleet}
use Rattle.stop_schedule.specs.Fronts.{front_of}
use Rattle.stop_schedule.specs.Limits.{latest_moment}
use Rattle.stop_schedule.specs.Lists.{changed_ends, node_at}
use Rattle.stop_schedule.proofs.ListLaws.{changed_count, length-changed_ends}
use Rattle.stop_removal.specs.declared.removal.Removal.{Removal}
use Rattle.stop_removal.specs.Removals.{AreStopsOf, joint_ends, joint_over, leg_to}
use Rattle.insertion_cost.specs.declared.decision.Assigned.{Assigned}
use Rattle.insertion_cost.specs.declared.decision.Decision.{Decision}
use Rattle.insertion_cost.specs.declared.decision.Decision.TheVariants.{Assigned as IsAssigned, Nobody}
use Rattle.insertion_cost.specs.Offers.{IsOffer, price_in}
use Rattle.insertion_cost.specs.Pricers.{AreWalksOf, IsAnswerOf, IsRequestIn}
use Rattle.insertion_cost.proofs.PriceLaws.{priced_parts, feasible_places}
use Rattle.board_core.specs.declared.entry.Advanced.{Advanced}
use Rattle.board_core.specs.declared.entry.Advanced.TheVariants.{Moved, Back as Behind}
use Rattle.board_core.specs.declared.entry.Cancelled.{Cancelled}
use Rattle.board_core.specs.declared.entry.Cancelled.TheVariants.{Removed, Refused as Declined}
use Rattle.board_core.specs.declared.entry.Submitted.{Submitted}
use Rattle.board_core.specs.declared.entry.Submitted.TheVariants.{Accepted, Refused}
use Rattle.board_core.specs.declared.entry.Reason.{Reason}
use Rattle.board_core.specs.declared.entry.Reason.TheVariants.{Closed, Place, Riders, Moment, Repeated}
use Rattle.board_core.specs.declared.entry.Entry.{Entry}
use Rattle.board_core.specs.declared.entry.Entry.TheVariants.{Submit, Claim, Back, Commit, Advance, Cancel, Shut}
use Rattle.board_core.specs.declared.waiting.Waiting.{Waiting}
use Rattle.board_core.specs.Boards.{Board, is_number, waiting_in, waiting_of, was_accepted}
use Rattle.board_core.specs.Histories.{Ride, Move, Withdraw}
use Rattle.board_core.specs.BoardCalls.{Commits, IsAnswerTo}
use Rattle.board_core.specs.Laws.{HasEarlyMoves, IsShortWay}
use Rattle.board_core.specs.Steps.{Step, refusal}
use Rattle.journal_text.specs.Groups.{group, journal_of}
use Rattle.journal_text.specs.Printable.{IsPrintable, IsPrintableOffer, IsPrintableRemoval}
use Rattle.dispatch_top.specs.declared.sums.Sums.{Sums}
use Rattle.dispatch_top.specs.Answering.{AreAnswered, IsCommitted, IsTold, as_waiting}
use Rattle.dispatch_top.specs.Sums.{AreFew, HasRoom, counted}

-- What is answered on a board, event by event.

-- what holds of an answer that went well
pub on_ok : {T E P Q : Type 0} (result : Result T E) → (P → Q) → OnOk result P → OnOk result Q
on_ok (Ok t) f h = f h
on_ok (Err e) f h = tt

-- ---- the answer of a fleet

-- what a fleet answers is the answer on its board, where the request waits
pub answer_to : (g : Roads) (b : Board) (r : Request) (d : Decision) (direct : ℕ) → IsAnswerOf g b.fleet r d direct → IsAnswerTo g b (as_waiting r) d direct
answer_to g b r Nobody direct h = h.1
answer_to g b r (IsAssigned a) direct h = h

-- its direct way is short
pub short_direct : (g : Roads) (b : Board) (r : Request) (d : Decision) (direct : ℕ) → IsAnswerOf g b.fleet r d direct → IsShortWay d direct → direct < 2 ^ 53
short_direct g b r Nobody direct h s = let e : direct ≡ 0 = h.0 in omega arith
short_direct g b r (IsAssigned a) direct h s = s

-- ---- what can be printed

-- as many walks as there are pairs of nodes
walks_many : (g : Roads) (ends : List (NodeNo × NodeNo)) (walks : List Path) → AreLeastWalks g ends walks → length walks ≡ length ends
walks_many g [] walks w = ap (λ (ws : List Path). length ws) w
walks_many g (e ∷ ends) [] w = absurd w
walks_many g (e ∷ ends) (x ∷ walks) w = ap (λ (n : ℕ). suc n) (walks_many g ends walks w.1)

counts : (same more : Bool) (n : ℕ) → n ≡ cond same 2 3 + cond more 1 0 → (cond same 3 4 ≤ n + 1) × (n ≤ cond same 3 4)
counts true true n e = (omega arith, omega arith)
counts true false n e = (omega arith, omega arith)
counts false true n e = (omega arith, omega arith)
counts false false n e = (omega arith, omega arith)

printable_offer : (g : Roads) (fleet : Cars) (r : Request) (a : Assigned) → IsOffer g fleet r a.offer → AreWalksOf g fleet r a.offer a.walks → IsPrintableOffer a
printable_offer g fleet r a f w =
    let front = front_of f.car.plan fleet.clock in
    let parts = priced_parts fleet.rates f.car.plan front r a.offer.at f.price.direct f.price.lengths (price_in a.offer) f.price.priced_so in
    let places = feasible_places fleet.rates f.car.plan front r a.offer.at f.price.lengths parts.0 in
    let many : length a.walks ≡ changed_count (length f.car.plan.stops) a.offer.at =
    walks_many g (changed_ends f.car.plan.stops front r a.offer.at) a.walks (w f.car f.stands) ∙ length-changed_ends f.car.plan.stops front r a.offer.at in
    let both = counts (a.offer.at.i == a.offer.at.j) (nat_lt a.offer.at.j (length f.car.plan.stops)) (length a.walks) many in
    record { order = places.0; enough = both.0; few = both.1 }

-- an answer of a fleet
pub printable_answer : (g : Roads) (fleet : Cars) (r : Request) (number : RequestNo) (d : Decision) (direct : ℕ) → IsAnswerOf g fleet r d direct → IsPrintable (Commit number d)
printable_answer g fleet r number Nobody direct h = tt
printable_answer g fleet r number (IsAssigned a) direct h = printable_offer g fleet r a h.best.feasible h.walks

leg_few : (n : NodeNo) (o : Option Stop) → length (leg_to n o) ≤ 1
leg_few n None = omega arith
leg_few n (Some t) = omega arith

leg_there : (n : NodeNo) (o : Option Stop) → IsSome o → length (leg_to n o) ≡ 1
leg_there n None h = cc
leg_there n (Some t) h = refl

got : (stops : List Stop) (k : ℕ) → k < length stops → IsSome (slice_get stops k)
got [] k h = let bad : ⊥ = omega arith in absurd bad
got (t ∷ stops) zero h = refl
got (t ∷ stops) (suc k) h = got stops k (omega arith)

pub printable_removal : (g : Roads) (stops : List Stop) (front : Front) (number : RequestNo) (x : Removal) → AreStopsOf number stops x.pickup x.dropoff → AreLeastWalks g (joint_ends stops front x.pickup x.dropoff) x.walks
    → IsPrintableRemoval x
printable_removal g stops front number x s w =
    let both = on (x.dropoff == x.pickup + 1) (walks_many g (joint_ends stops front x.pickup x.dropoff) x.walks w) in
    record { from_first = s.from_first; order = s.order; enough = both.0; few = both.1 }
  where
    behind : x.pickup < length stops
    behind = let last = slice_get_within stops (x.dropoff - 1) s.dropoff s.dropoff_stands in let o = s.order in omega arith

    there : (k : ℕ) → k < length stops → IsSome (slice_get stops k)
    there k h = got stops k h

    on : (next : Bool) → length x.walks ≡ length (cond next (joint_over front stops (x.pickup - 1) x.dropoff) (joint_over front stops (x.pickup - 1) x.pickup ++ joint_over front stops (x.dropoff - 1) x.dropoff))
        → (cond next 1 2 ≤ length x.walks + 1) × (length x.walks ≤ cond next 1 2)
    on true e = let f = leg_few (node_at front stops (x.pickup - 1)) (slice_get stops x.dropoff) in (omega arith, omega arith)
    on false e =
        let f = leg_there (node_at front stops (x.pickup - 1)) (slice_get stops x.pickup) (there x.pickup behind) in
        let h = leg_few (node_at front stops (x.dropoff - 1)) (slice_get stops x.dropoff) in
        let m = length-append (joint_over front stops (x.pickup - 1) x.pickup) (joint_over front stops (x.dropoff - 1) x.dropoff) in
        (omega arith, omega arith)

-- a cancellation that was made or refused
pub printable_cancelled : (g : Roads) (old new : Board) (number : RequestNo) (c : Cancelled) → Step g old (Cancel number c) new → IsPrintable (Cancel number c)
printable_cancelled g old new number (Removed x) h = printable_removal g h.car.plan.stops (front_of h.car.plan old.fleet.clock) number x h.stops h.walks
printable_cancelled g old new number (Declined reason) h = tt

-- ---- steps

pub step_nodes : (g : Roads) (old new : Board) (e : Entry) → Step g old e new → new.nodes ≡ old.nodes
step_nodes g old new (Submit r Accepted) h = ap (λ (b : Board). b.nodes) h.1
step_nodes g old new (Submit r (Refused reason)) h = ap (λ (b : Board). b.nodes) h.1
step_nodes g old new (Claim number desk) h = ap (λ (b : Board). b.nodes) h.3
step_nodes g old new (Back number) h = ap (λ (b : Board). b.nodes) h.3
step_nodes g old new (Commit number (IsAssigned a)) h = ap (λ (b : Board). b.nodes) h.leads_to
step_nodes g old new (Commit number Nobody) h = ap (λ (b : Board). b.nodes) h.leads_to
step_nodes g old new (Advance now (Moved served)) h = ap (λ (b : Board). b.nodes) h.2
step_nodes g old new (Advance now (Behind clock)) h = ap (λ (b : Board). b.nodes) h.2
step_nodes g old new (Cancel number (Removed x)) h = ap (λ (b : Board). b.nodes) h.leads_to
step_nodes g old new (Cancel number (Declined reason)) h = ap (λ (b : Board). b.nodes) h.1
step_nodes g old new Shut h = ap (λ (b : Board). b.nodes) h.1

step_version : (g : Roads) (old new : Board) (e : Entry) → Step g old e new → new.fleet.version ≡ old.fleet.version + 1
step_version g old new (Submit r Accepted) h = ap (λ (b : Board). b.fleet.version) h.1
step_version g old new (Submit r (Refused reason)) h = ap (λ (b : Board). b.fleet.version) h.1
step_version g old new (Claim number desk) h = ap (λ (b : Board). b.fleet.version) h.3
step_version g old new (Back number) h = ap (λ (b : Board). b.fleet.version) h.3
step_version g old new (Commit number (IsAssigned a)) h = ap (λ (b : Board). b.fleet.version) h.leads_to
step_version g old new (Commit number Nobody) h = ap (λ (b : Board). b.fleet.version) h.leads_to
step_version g old new (Advance now (Moved served)) h = ap (λ (b : Board). b.fleet.version) h.2
step_version g old new (Advance now (Behind clock)) h = ap (λ (b : Board). b.fleet.version) h.2
step_version g old new (Cancel number (Removed x)) h = ap (λ (b : Board). b.fleet.version) h.leads_to
step_version g old new (Cancel number (Declined reason)) h = ap (λ (b : Board). b.fleet.version) h.1
step_version g old new Shut h = ap (λ (b : Board). b.fleet.version) h.1

-- ---- what is counted

-- on a board that is far from its last version one more entry can be counted
pub has_room : (b : Board) (sums : Sums) → b.fleet.version < 2 ^ 62 → AreFew b.fleet.version sums → HasRoom sums
has_room b sums early few = (b.fleet.version, omega arith, few)

-- one more entry was counted, as the board has one more
few_behind : (g : Roads) (old new : Board) (e : Entry) (sums sums' : Sums) → Step g old e new → AreFew old.fleet.version sums → ((n : ℕ) → AreFew n sums → AreFew (n + 1) sums') → AreFew new.fleet.version sums'
few_behind g old new e sums sums' s few more = subst (λ (n : ℕ). AreFew n sums') (sym (step_version g old new e s)) (more old.fleet.version few)

-- one entry, which isn't a move past the latest moment
early_one : (e : Entry) → ((now : ℕ) (advanced : Advanced) → e ≡ Advance now advanced → now ≤ latest_moment) → HasEarlyMoves (e ∷ [])
early_one e h zero now advanced i = h now advanced (let f : e ≡ Advance now advanced = cc in f)
early_one e h (suc k) now advanced i = cc

one_text : (e : Entry) (old text : List ℕ) → old ≡ [] → text ≡ old ++ group e → text ≡ journal_of (e ∷ [])
one_text e old text empty t = t ∙ ap (λ (l : List ℕ). l ++ group e) empty ∙ sym (append-nil (group e))

-- a request was refused
pub refused : (g : Roads) (old new : Board) (r : Request) (reason : Reason) (before text : List ℕ) (sums sums' : Sums) → Step g old (Submit r (Refused reason)) new → before ≡ [] → IsTold (Submit r (Refused reason)) before text sums sums' → AreFew old.fleet.version sums
    → AreAnswered g old (Ride r ∷ []) new text sums sums'
refused g old new r reason before text sums sums' s empty t few = record {
  entries = Submit r (Refused reason) ∷ [];
  legal = (new, s, refl);
  asked = refl;
  at_once = tt;
  early = early_one (Submit r (Refused reason)) (λ now advanced e. cc);
  rendered = one_text (Submit r (Refused reason)) before text empty t.rendered;
  counts = t.counts;
  small = few_behind g old new (Submit r (Refused reason)) sums sums' s few t.few;
  nodes = step_nodes g old new (Submit r (Refused reason)) s;
  few = let v = step_version g old new (Submit r (Refused reason)) s in omega arith;
}

-- the clock was moved, or not
pub moved : (g : Roads) (old new : Board) (now : ℕ) (advanced : Advanced) (before text : List ℕ) (sums sums' : Sums) → now ≤ latest_moment → Step g old (Advance now advanced) new → before ≡ [] → IsTold (Advance now advanced) before text sums sums' → AreFew old.fleet.version sums
    → AreAnswered g old (Move now ∷ []) new text sums sums'
moved g old new now advanced before text sums sums' m s empty t few = record {
  entries = Advance now advanced ∷ [];
  legal = (new, s, refl);
  asked = refl;
  at_once = tt;
  early = early_one (Advance now advanced) (λ other a e. let f : now ≡ other = cc in subst (λ (x : ℕ). x ≤ latest_moment) f m);
  rendered = one_text (Advance now advanced) before text empty t.rendered;
  counts = t.counts;
  small = few_behind g old new (Advance now advanced) sums sums' s few t.few;
  nodes = step_nodes g old new (Advance now advanced) s;
  few = let v = step_version g old new (Advance now advanced) s in omega arith;
}

-- riders cancelled, or couldn't
pub cancelled : (g : Roads) (old new : Board) (number : RequestNo) (c : Cancelled) (before text : List ℕ) (sums sums' : Sums) → Step g old (Cancel number c) new → before ≡ [] → IsTold (Cancel number c) before text sums sums' → AreFew old.fleet.version sums
    → AreAnswered g old (Withdraw number ∷ []) new text sums sums'
cancelled g old new number c before text sums sums' s empty t few = record {
  entries = Cancel number c ∷ [];
  legal = (new, s, refl);
  asked = refl;
  at_once = tt;
  early = early_one (Cancel number c) (λ now advanced e. cc);
  rendered = one_text (Cancel number c) before text empty t.rendered;
  counts = t.counts;
  small = few_behind g old new (Cancel number c) sums sums' s few t.few;
  nodes = step_nodes g old new (Cancel number c) s;
  few = let v = step_version g old new (Cancel number c) s in omega arith;
}

-- a line that says nothing
pub nothing_said : (g : Roads) (old new : Board) (text : List ℕ) (sums sums' : Sums) → new ≡ old → text ≡ [] → sums' ≡ sums → AreFew old.fleet.version sums → AreAnswered g old [] new text sums sums'
nothing_said g old new text sums sums' n t same few = record {
  entries = [];
  legal = n;
  asked = refl;
  at_once = tt;
  early = λ k now advanced e. cc;
  rendered = t;
  counts = same;
  small = subst (λ (b : Board). AreFew b.fleet.version sums') (sym n) (subst (λ (x : Sums). AreFew old.fleet.version x) (sym same) few);
  nodes = ap (λ (b : Board). b.nodes) n;
  few = let v : new.fleet.version ≡ old.fleet.version = ap (λ (b : Board). b.fleet.version) n in omega arith;
}

-- ---- a request that is accepted

-- what no reason of a board's stands against
none_left : (closed place riders early late before : Bool) → cond closed (Some Closed) (cond (not place) (Some Place) (cond riders (Some Riders) (cond (early || late) (Some Moment) (cond before (Some Repeated) None)))) ≡ None
    → (place ≡ true) × (late ≡ false) × (before ≡ false)
none_left true place riders early late before h = cc
none_left false false riders early late before h = cc
none_left false true true early late before h = cc
none_left false true false true late before h = cc
none_left false true false false true before h = cc
none_left false true false false false true h = cc
none_left false true false false false false h = (refl, refl, refl)

unreasoned : (b : Board) (r : Request) → refusal b r ≡ None → ((is_node b.nodes r.pickup && is_node b.nodes r.dropoff) ≡ true) × (nat_lt latest_moment r.moment ≡ false) × (was_accepted b r.no ≡ false)
unreasoned b r h = none_left b.closed (is_node b.nodes r.pickup && is_node b.nodes r.dropoff) (nat_lt 16 r.riders || nat_lt 16 r.spaces || ((r.riders == 0) && (r.spaces == 0))) (nat_lt r.moment b.fleet.clock) (nat_lt latest_moment r.moment) (was_accepted b r.no) h

both_true : (a b : Bool) → (a && b) ≡ true → (a ≡ true) × (b ≡ true)
both_true true true h = (refl, refl)
both_true true false h = cc
both_true false b h = cc

not_late : (m : ℕ) → nat_lt latest_moment m ≡ false → m ≤ latest_moment
not_late m h = grind (arith, nat_tests)

-- it can be priced over the board's graph
pub request_in : (g : Roads) (b : Board) (r : Request) → b.nodes ≡ g.nodes → refusal b r ≡ None → IsRequestIn g r
request_in g b r n h =
    let u = unreasoned b r h in
    let both = both_true (is_node b.nodes r.pickup) (is_node b.nodes r.dropoff) u.0 in
    record {
      pickup = node_from_test g r.pickup (ap (λ (k : ℕ). is_node k r.pickup) (sym n) ∙ both.0);
      dropoff = node_from_test g r.dropoff (ap (λ (k : ℕ). is_node k r.dropoff) (sym n) ∙ both.1);
      moment = not_late r.moment u.1;
    }

not_some : {X : Type 0} (o : Option X) (b : Bool) → (is_some o || b) ≡ false → o ≡ None
not_some None b h = refl
not_some (Some x) b h = cc

found_last : (waiting : List Waiting) (r : Request) → waiting_in waiting r.no ≡ None → waiting_in (waiting ++ as_waiting r ∷ []) r.no ≡ Some (as_waiting r)
found_last [] r h = found_by (is_number r.no r.no) (same_number r.no.0)
  where
    same_number : (n : ℕ) → (n == n) ≡ true
    same_number n = eq-eqb n n refl

    found_by : (b : Bool) → b ≡ true → cond b (Some (as_waiting r)) None ≡ Some (as_waiting r)
    found_by true e = refl
    found_by false e = cc
found_last (w ∷ waiting) r h = on (is_number w.request.no r.no) (found_last waiting r) h
  where
    on : (b : Bool) → (waiting_in waiting r.no ≡ None → waiting_in (waiting ++ as_waiting r ∷ []) r.no ≡ Some (as_waiting r)) → cond b (Some w) (waiting_in waiting r.no) ≡ None
        → cond b (Some w) (waiting_in (waiting ++ as_waiting r ∷ []) r.no) ≡ Some (as_waiting r)
    on true rest e = cc
    on false rest e = rest e

-- it waits last, and is found by its number
pub waits : (g : Roads) (old new : Board) (r : Request) → Step g old (Submit r Accepted) new → waiting_of new r.no ≡ Some (as_waiting r)
waits g old new r s =
    let u = unreasoned old r s.0 in
    ap (λ (b : Board). waiting_of b r.no) s.1 ∙ found_last old.waiting r (not_some (waiting_of old r.no) _ u.2)

-- a later version makes no fleet worse
good_later : (g : Roads) (fleet : Cars) → IsGoodFleet g fleet → IsGoodFleet g (record fleet { version = fleet.version + 1 })
good_later g fleet h = record {
  clock = h.clock;
  rising = h.rising;
  each = λ k car e. let c = h.each k car e in let s = c.stamp in record { stamp = omega arith; placed = c.placed; proper = c.proper; kept = c.kept; least_walks = c.least_walks; ahead = c.ahead };
}

-- the board to which it was submitted is still good
pub good_still : (g : Roads) (old new : Board) (r : Request) → Step g old (Submit r Accepted) new → IsGoodFleet g old.fleet → IsGoodFleet g new.fleet
good_still g old new r s h = subst (λ (b : Board). IsGoodFleet g b.fleet) (sym s.1) (good_later g old.fleet h)

pub version_next : (g : Roads) (old new : Board) (r : Request) (submitted : Submitted) → Step g old (Submit r submitted) new → new.fleet.version ≡ old.fleet.version + 1
version_next g old new r submitted s = step_version g old new (Submit r submitted) s

-- where the request is counted, its answer can be
pub few_then : (g : Roads) (old new : Board) (r : Request) (before text : List ℕ) (submitted : Submitted) (sums sums' : Sums) → Step g old (Submit r submitted) new → AreFew old.fleet.version sums → IsTold (Submit r submitted) before text sums sums' → AreFew new.fleet.version sums'
few_then g old new r before text submitted sums sums' s few t = few_behind g old new (Submit r submitted) sums sums' s few t.few

-- the answer of a fleet is an entry
pub committed : (g : Roads) (old new : Board) (r : Request) (d handed : Decision) (direct : ℕ) (before text : List ℕ) (sums sums' : Sums) → old.nodes ≡ g.nodes → waiting_of old r.no ≡ Some (as_waiting r) → IsAnswerOf g old.fleet r d direct → handed ≡ d
    → Commits old r.no handed direct new → IsTold (Commit r.no d) before text sums sums'
    → AreFew old.fleet.version sums → IsCommitted g old r.no new before text sums sums'
committed g old new r d handed direct before text sums sums' n w h same c t few = record {
  decision = d;
  step = step;
  told = t;
  small = few_behind g old new (Commit r.no d) sums sums' step few t.few;
}
  where
    step : Step g old (Commit r.no d) new
    step = subst (λ (x : Decision). Commits old r.no x direct new) same c g (as_waiting r) (sym n) w (answer_to g old r d direct h)

-- a request was accepted, and answered
pub taken : (g : Roads) (old mid new : Board) (r : Request) (before between text : List ℕ) (sums between_sums sums' : Sums) → Step g old (Submit r Accepted) mid → before ≡ [] → IsTold (Submit r Accepted) before between sums between_sums
    → IsCommitted g mid r.no new between text between_sums sums' → AreAnswered g old (Ride r ∷ []) new text sums sums'
taken g old mid new r before between text sums between_sums sums' s empty t c = record {
  entries = Submit r Accepted ∷ Commit r.no c.decision ∷ [];
  legal = (mid, s, (new, c.step, refl));
  asked = refl;
  at_once = (refl, tt);
  early = early_both;
  rendered = c.told.rendered ∙ ap (λ (l : List ℕ). l ++ group (Commit r.no c.decision)) (t.rendered ∙ ap (λ (l : List ℕ). l ++ group (Submit r Accepted)) empty)
      ∙ ap (λ (l : List ℕ). group (Submit r Accepted) ++ l) (sym (append-nil (group (Commit r.no c.decision))));
  counts = c.told.counts ∙ ap (λ (x : Sums). counted (Commit r.no c.decision) x) t.counts;
  small = c.small;
  nodes = step_nodes g mid new (Commit r.no c.decision) c.step ∙ step_nodes g old mid (Submit r Accepted) s;
  few = let v = step_version g old mid (Submit r Accepted) s in let w = step_version g mid new (Commit r.no c.decision) c.step in omega arith;
}
  where
    early_both : HasEarlyMoves (Submit r Accepted ∷ Commit r.no c.decision ∷ [])
    early_both zero now advanced e = cc
    early_both (suc zero) now advanced e = cc
    early_both (suc (suc k)) now advanced e = cc
