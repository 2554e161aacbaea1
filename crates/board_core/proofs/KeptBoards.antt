use Rattle.std.proofs.Common.{◌≡◌, ℕ, ◌+◌, ◌<◌, ◌≤◌, ◌==◌, ◌⊎◌, inl, inr, Bool, true, false, not, cond, List, [], ◌∷◌, ◌++◌, map, length, Option, Some, None, is_some, sym, refl, ap, ◌∙◌, subst, arith}
use Rattle.std.specs.Prelude.{slice_get, slice_set, nat_lt, replicate, ◌&&◌, ◌||◌, OnOk, Result, Ok, Err}
use Rattle.std.proofs.lemmas.Bool.{eqb-true, eq-eqb, and_parts, or_parts, leb-true, ltb-false}
use Rattle.std.proofs.lemmas.Bool.Decides.{nat_tests}
use Rattle.std.proofs.lemmas.Option.{same_Some, slice_get_within}
use Rattle.std.proofs.lemmas.List.{length-map}
use Rattle.std.specs.BTreeMap.{is_at, insert_entry}
use Rattle.std.specs.BTreeSet.{insert_key}
use Rattle.std.specs.List.{list_any}
use Rattle.std.specs.Map.{remove_entry}
use Rattle.std.specs.Set.{remove_key}
use Rattle.board_core.specs.declared.entry.CancelReason.TheVariants as why
use Rattle.std.specs.Ordering.{is_eq, match_ordering}
use Rattle.std.specs.declared.cmp.Ordering.{Ordering}
use Rattle.std.specs.declared.cmp.Ordering.TheVariants.{Less, Equal, Greater}
use Rattle.ride_base.specs.declared.numbers.RequestNo.{RequestNo}
use Rattle.road_graph.specs.Roads.{is_node}
use Rattle.stop_schedule.specs.declared.vehicle.Vehicle.{Vehicle}
use Rattle.stop_schedule.specs.Bounds.{IsVehicle, AreVehicles}
use Rattle.stop_schedule.specs.Plans.{Plan, opening_of}
use Rattle.stop_schedule.specs.Rates.{Rates}
use Rattle.board_core.specs.declared.entry.Reason.TheVariants.{Closed, Place, Riders, Moment}
use Rattle.stop_schedule.specs.declared.request.Request.{Request}
use Rattle.stop_schedule.specs.Fleets.{Car, Cars, Fitting}
use Rattle.insertion_cost.specs.declared.decision.Assigned.{Assigned}
use Rattle.insertion_cost.specs.declared.decision.Decision.{Decision}
use Rattle.insertion_cost.specs.declared.decision.Decision.TheVariants.{Assigned as IsAssigned, Nobody}
use Rattle.insertion_cost.specs.Offers.{IsOffer}
use Rattle.stop_removal.specs.declared.removal.Removal.{Removal}
use Rattle.stop_removal.specs.Removals.{AreStopsOf}
use Rattle.board_core.specs.declared.fleet.Fleet.{Fleet}
use Rattle.board_core.specs.BoardCalls.{Applies, Commits, Removes, MayRemove, Cancels, FitsOn, FitsStarts}
use Rattle.board_core.specs.BoardKept.{WithIndex, IsKeptFleet, IsKeptBoard, AreAccepted, IsAccepted, IsKeptPlan, next_arrival, never}
use Rattle.board_core.specs.Boards.{Board, Waiting, IsConsistent, by_number, is_number, answer_of, is_cancelled, waiting_of, with_holder, with_next_version, without, opening_board, opening_car}
use Rattle.board_core.specs.Changes.{IsTakenOn, IsTakenOff, FitsLater}
use Rattle.board_core.specs.Steps.{answered, refusal, cancel_refusal, cancel_refusal_by, is_to_pick_up, taken_on, taken_off, moved_car, with_car, with_cancelled}
use Rattle.stop_schedule.specs.Limits.{latest_moment}
use Rattle.board_core.proofs.Advances.{moved_plan}
use Rattle.board_core.proofs.KeptPlans.{advanced_kept}
use Rattle.board_core.proofs.KeptFleets.{changed_kept, fits_set, with_changed}
use Rattle.board_core.proofs.Lookups.{found, kept_by, mapped, at_number, find_answer, lookup_insert}
use Rattle.board_core.proofs.Consistent.{last_or, passes, same_request, opening_consistent, submitted_consistent, held_consistent, answered_consistent, taken_consistent, removed_consistent, later_consistent}

-- What each board meets stays so as entries are made.

-- the version doesn't matter
pub next_fleet_kept : (Fits : Fitting) (nodes : ℕ) (fleet : Cars) (arrivals : List ℕ) → IsKeptFleet Fits nodes fleet arrivals → IsKeptFleet Fits nodes (record fleet { version = fleet.version + 1 }) arrivals
next_fleet_kept Fits nodes fleet arrivals h = record { graph = h.graph; many = h.many; fits = h.fits; clock = h.clock; plans = h.plans; next = h.next }

-- those that still wait are in range
pub answered_accepted : (b : Board) (number : RequestNo) (decision : Decision) → AreAccepted b → AreAccepted (answered b number decision)
answered_accepted b number decision h k w e = let x = kept_by (λ (w : Waiting). not (is_number w.request.no number)) b.waiting k w e in h x.0 w x.1

pub answered_kept : (Fits : Fitting) (b : Board) (number : RequestNo) (decision : Decision) (arrivals : List ℕ) → IsKeptBoard Fits b arrivals → IsKeptBoard Fits (answered b number decision) arrivals
answered_kept Fits b number decision arrivals h = record {
  fleet = next_fleet_kept Fits b.nodes b.fleet arrivals h.fleet;
  accepted = answered_accepted b number decision h.accepted;
  consistent = answered_consistent b number decision h.consistent;
}

-- another holder changes no request
pub held_kept : (Fits : Fitting) (b : Board) (number : RequestNo) (holder : Option ℕ) (arrivals : List ℕ) → IsKeptBoard Fits b arrivals → IsKeptBoard Fits (record (with_next_version b) { waiting = with_holder number holder b.waiting }) arrivals
held_kept Fits b number holder arrivals h = record {
  fleet = next_fleet_kept Fits b.nodes b.fleet arrivals h.fleet;
  accepted = λ k w e. (let x = same_request number holder b.waiting k w e in subst (IsAccepted b.nodes) (sym x.2) (h.accepted k x.0 x.1));
  consistent = held_consistent b number holder h.consistent;
}

-- a request that is accepted is in range
accepted_range : (b : Board) (r : Request) → refusal b r ≡ None → IsAccepted b.nodes r
accepted_range b r h =
    let place = passes _ Place _ (passes b.closed Closed _ h).1 in
    let party = passes _ Riders _ place.1 in
    let moment = passes _ Moment _ party.1 in
    let nodes = and_parts (is_node b.nodes r.pickup) (is_node b.nodes r.dropoff) (is_so _ place.0) in
    let up = and_parts _ _ nodes.0 in
    let down = and_parts _ _ nodes.1 in
    record {
      pickup = (leb-true _ _ up.0, leb-true _ _ up.1);
      dropoff = (leb-true _ _ down.0, leb-true _ _ down.1);
      riders = few party.0;
      spaces = few_spaces party.0;
      moment = ltb-false _ _ (or_parts _ _ moment.0).1;
    }
  where
    is_so : (c : Bool) → not c ≡ false → c ≡ true
    is_so true e = refl
    is_so false e = cc

    few : (nat_lt 16 r.riders || nat_lt 16 r.spaces || ((r.riders == 0) && (r.spaces == 0))) ≡ false → r.riders ≤ 16
    few e = grind (arith, nat_tests)

    few_spaces : (nat_lt 16 r.riders || nat_lt 16 r.spaces || ((r.riders == 0) && (r.spaces == 0))) ≡ false → r.spaces ≤ 16
    few_spaces e = grind (arith, nat_tests)

pub submitted_kept : (Fits : Fitting) (b : Board) (r : Request) (arrivals : List ℕ) → refusal b r ≡ None → IsKeptBoard Fits b arrivals
    → IsKeptBoard Fits (record (with_next_version b) { waiting = b.waiting ++ record { request = r; holder = None } ∷ [] }) arrivals
submitted_kept Fits b r arrivals e h = record {
  fleet = next_fleet_kept Fits b.nodes b.fleet arrivals h.fleet;
  accepted = λ k w q. on k w (last_or b.waiting (record { request = r; holder = None }) k w q);
  consistent = submitted_consistent b r e h.consistent;
}
  where
    on : (k : ℕ) (w : Waiting) → (slice_get b.waiting k ≡ Some w) ⊎ (w ≡ record { request = r; holder = None }) → IsAccepted b.nodes w.request
    on k w (inl x) = h.accepted k w x
    on k w (inr x) = subst (λ (v : Waiting). IsAccepted b.nodes v.request) (sym x) (accepted_range b r e)

-- ---- a board before any entry

plans_opened : (vehicles : List Vehicle) → map (λ (car : Car). car.plan) (map opening_car vehicles) ≡ map opening_of vehicles
plans_opened [] = refl
plans_opened (v ∷ vehicles) = ap (λ (l : List Plan). opening_of v ∷ l) (plans_opened vehicles)

none_ahead : (rates : Rates) (vehicles : List Vehicle) → replicate (length vehicles) never ≡ map (λ (car : Car). next_arrival rates car.plan) (map opening_car vehicles)
none_ahead rates [] = refl
none_ahead rates (v ∷ vehicles) = ap (λ (l : List ℕ). never ∷ l) (none_ahead rates vehicles)

pub opening_kept : (Fits : Fitting) (nodes : ℕ) (rates : Rates) (vehicles : List Vehicle) → AreVehicles nodes vehicles → FitsStarts Fits nodes rates vehicles
    → IsKeptBoard Fits (opening_board nodes rates vehicles) (replicate (length vehicles) never)
opening_kept Fits nodes rates vehicles f starts = record {
  fleet = record {
    graph = starts.0;
    many = starts.1;
    fits = subst (Fits starts.0 rates) (sym (plans_opened vehicles)) starts.2;
    clock = omega arith;
    plans = λ place car e. (let x = mapped opening_car vehicles place car e in subst (λ (c : Car). IsKeptPlan nodes rates 0 c.plan) (sym x.2) (opening x.0 (f.each place x.0 x.1)));
    next = none_ahead rates vehicles;
  };
  accepted = λ k w e. cc;
  consistent = opening_consistent nodes rates vehicles;
}
  where
    opening : (v : Vehicle) → IsVehicle nodes v → IsKeptPlan nodes rates 0 (opening_of v)
    opening v h = record { kept = refl; place = (h.start_from_1, h.start_to_last); stops = λ k s e. (let bad = e in cc); legs = λ k leg e. (let bad = e in cc); ahead = λ l. absurd (omega arith) }

-- the assignment as an entry
pub commits_from : (old : Board) (number : RequestNo) (decision : Decision) (direct : ℕ) (new : Board) → Applies old number decision direct new → Commits old number decision direct new
commits_from old number Nobody direct new x g w many waits none = record { waits = w; waiting = waits; none = none; leads_to = x.2 }
commits_from old number (IsAssigned a) direct new x g w many waits best = record {
  waits = w;
  direct = direct;
  car = is.car;
  waiting = waits;
  best = best.best;
  direct_way = best.direct_way;
  stands = is.stands;
  walks = best.walks is.car is.stands;
  leads_to = (let same : x.0 ≡ w = same_Some _ _ (sym x.1 ∙ waits) in let car : x.2.0 ≡ is.car = same_Some _ _ (sym x.2.1 ∙ is.stands) in
      x.2.2 ∙ ap (λ (c : Car). with_car (answered old number (IsAssigned a)) a.offer.place (taken_on old c x.0.request direct a)) car
      ∙ ap (λ (v : Waiting). with_car (answered old number (IsAssigned a)) a.offer.place (taken_on old is.car v.request direct a)) same);
}
  where
    is : IsOffer g old.fleet w.request a.offer
    is = best.best.feasible

-- the removal as an entry
pub cancels_from : (old : Board) (number : RequestNo) (x : Removal) (new : Board) → MayRemove old number x → Removes old number x new → Cancels old number x new
cancels_from old number x new may r g many least = record {
  assigned = least.assigned;
  car = least.car;
  not_refused = may.not_refused;
  answer = least.answer;
  stands = least.stands;
  numbered = ap (λ (c : Car). c.no) (sym mine) ∙ may.numbered;
  stops = subst (λ (c : Car). AreStopsOf number c.plan.stops x.pickup x.dropoff) mine may.stops;
  walks = least.walks;
  leads_to = r.4 ∙ leads;
}
  where
    given : (a c : Assigned) → answer_of old number ≡ Some (IsAssigned a) → answer_of old number ≡ Some (IsAssigned c) → a ≡ c
    given a c e f = let same : Some (IsAssigned a) ≡ Some (IsAssigned c) = sym e ∙ f in cc

    mine : may.car ≡ least.car
    mine = let same = given may.assigned least.assigned may.answer least.answer in same_Some _ _ (sym may.stands ∙ ap (λ (a : Assigned). slice_get old.fleet.cars a.offer.place) same ∙ least.stands)

    theirs : r.1 ≡ least.car
    theirs = let same = given r.0 least.assigned r.2 least.answer in same_Some _ _ (sym r.3 ∙ ap (λ (a : Assigned). slice_get old.fleet.cars a.offer.place) same ∙ least.stands)

    leads : with_car (with_cancelled old number) r.0.offer.place (taken_off old r.1 x) ≡ with_car (with_cancelled old number) least.assigned.offer.place (taken_off old least.car x)
    leads = ap (λ (a : Assigned). with_car (with_cancelled old number) a.offer.place (taken_off old r.1 x)) (given r.0 least.assigned r.2 least.answer)
        ∙ ap (λ (c : Car). with_car (with_cancelled old number) least.assigned.offer.place (taken_off old c x)) theirs

-- ---- an assignment

-- the board that an assignment leaves
pub taken_board : (Before After : Fitting) (b : Board) (number : RequestNo) (a : Assigned) (direct place : ℕ) (car : Car) (next : ℕ) (new : Board) → IsTakenOn Before After b number a direct place car next
    → new ≡ with_car (answered b number (IsAssigned a)) place car → Applies b number (IsAssigned a) direct new
taken_board Before After b number a direct place car next new t is = (
  t.waits,
  t.waiting,
  (
    t.old,
    ap (slice_get b.fleet.cars) t.there ∙ t.stands,
    is ∙ ap (λ (k : ℕ). with_car (answered b number (IsAssigned a)) k car) (sym t.there) ∙ ap (with_car (answered b number (IsAssigned a)) a.offer.place) t.is,
  ),
)

pub taken_kept : (Before After : Fitting) (b : Board) (number : RequestNo) (a : Assigned) (direct place : ℕ) (car : Car) (next : ℕ) (arrivals : List ℕ) → IsTakenOn Before After b number a direct place car next → IsKeptBoard Before b arrivals
    → IsKeptBoard After (with_car (answered b number (IsAssigned a)) place car) (slice_set arrivals place next)
taken_kept Before After b number a direct place car next arrivals t h = record {
  fleet = changed_kept Before After b.nodes b.fleet arrivals (b.fleet.version + 1) place t.old car next h.fleet t.stands t.change;
  accepted = answered_accepted b number (IsAssigned a) h.accepted;
  consistent = subst (λ (c : Car). IsConsistent (with_car (answered b number (IsAssigned a)) place c)) (sym t.is)
      (taken_consistent b number a direct t.waits place t.old h.consistent t.waiting t.stands);
}

pub taken_fits : (Before After : Fitting) (b : Board) (number : RequestNo) (a : Assigned) (direct place : ℕ) (car : Car) (next : ℕ) → IsTakenOn Before After b number a direct place car next
    → FitsOn Before After b (with_car (answered b number (IsAssigned a)) place car)
taken_fits Before After b number a direct place car next t g many h = fits_set Before After b.fleet place t.old car t.stands t.change.fits g h

-- ---- a removal

pub removed_board : (Before After : Fitting) (b : Board) (number : RequestNo) (x : Removal) (place : ℕ) (car : Car) (next : ℕ) (new : Board) → IsTakenOff Before After b number x place car next
    → new ≡ with_car (with_cancelled b number) place car → Removes b number x new
removed_board Before After b number x place car next new t is = (
  t.assigned,
  t.old,
  t.answer,
  ap (slice_get b.fleet.cars) t.there ∙ t.stands,
  is ∙ ap (λ (k : ℕ). with_car (with_cancelled b number) k car) (sym t.there) ∙ ap (with_car (with_cancelled b number) t.assigned.offer.place) t.is,
)

pub removed_kept : (Before After : Fitting) (b : Board) (number : RequestNo) (x : Removal) (place : ℕ) (car : Car) (next : ℕ) (arrivals : List ℕ) → IsTakenOff Before After b number x place car next → IsKeptBoard Before b arrivals
    → IsKeptBoard After (with_car (with_cancelled b number) place car) (slice_set arrivals place next)
removed_kept Before After b number x place car next arrivals t h = record {
  fleet = changed_kept Before After b.nodes b.fleet arrivals (b.fleet.version + 1) place t.old car next h.fleet t.stands t.change;
  accepted = h.accepted;
  consistent = subst (λ (c : Car). IsConsistent (with_car (with_cancelled b number) place c)) (sym t.is) (removed_consistent b number x place t.old h.consistent t.stands);
}

pub removed_fits : (Before After : Fitting) (b : Board) (number : RequestNo) (x : Removal) (place : ℕ) (car : Car) (next : ℕ) → IsTakenOff Before After b number x place car next
    → FitsOn Before After b (with_car (with_cancelled b number) place car)
removed_fits Before After b number x place car next t g many h = fits_set Before After b.fleet place t.old car t.stands t.change.fits g h

-- ---- what is put in and taken out again

is_own : (n : RequestNo) → is_at (by_number n) n ≡ true
is_own n = at_number n n ∙ eq-eqb n.0 n.0 refl

-- an answer that is put in is found
pub answer_found : (number : RequestNo) (decision : Decision) (answers : List (RequestNo × Decision)) → find_answer number (insert_entry by_number answers number decision) ≡ Some decision
answer_found number decision answers = lookup_insert number number decision answers ∙ ap (λ (b : Bool). cond b (Some decision) (find_answer number answers)) (is_own number)

-- an answer to a number that had none, and none again
pub answer_undone : (number : RequestNo) (decision : Decision) (answers : List (RequestNo × Decision)) → find_answer number answers ≡ None
    → remove_entry (is_at (by_number number)) (insert_entry by_number answers number decision) ≡ answers
answer_undone number decision [] h = ap (λ (b : Bool). cond b [] ((number, decision) ∷ [])) (is_own number)
answer_undone number decision (e ∷ answers) h = by (by_number number e.0) refl (is_at (by_number number) e.0) refl h (answer_undone number decision answers)
  where
    by : (r : Ordering) → by_number number e.0 ≡ r → (x : Bool) → is_at (by_number number) e.0 ≡ x → cond x (Some e.1) (find_answer number answers) ≡ None
        → (find_answer number answers ≡ None → remove_entry (is_at (by_number number)) (insert_entry by_number answers number decision) ≡ answers)
        → remove_entry (is_at (by_number number)) (match_ordering r ((number, decision) ∷ e ∷ answers) ((e.0, decision) ∷ answers) (e ∷ insert_entry by_number answers number decision)) ≡ e ∷ answers
    by r q true p h rest = absurd (let bad : Some e.1 ≡ None = h in cc)
    by Less q false p h rest = ap (λ (b : Bool). cond b (e ∷ answers) ((number, decision) ∷ remove_entry (is_at (by_number number)) (e ∷ answers))) (is_own number)
    by Equal q false p h rest = absurd (let bad : is_eq (by_number number e.0) ≡ true = ap is_eq q in cc)
    by Greater q false p h rest = rw p (ap (λ (l : List (RequestNo × Decision)). e ∷ l) (rest h))

-- ---- boards by their parts

-- a place of a fleet is one of its next arrivals
pub place_within : (Fits : Fitting) (nodes : ℕ) (fleet : Cars) (arrivals : List ℕ) (place : ℕ) (car : Car) → IsKeptFleet Fits nodes fleet arrivals → slice_get fleet.cars place ≡ Some car → place < length arrivals
place_within Fits nodes fleet arrivals place car h e = let l = slice_get_within fleet.cars place car e in let m : length arrivals ≡ length fleet.cars = ap length h.next ∙ length-map fleet.cars (λ (car : Car). next_arrival fleet.rates car.plan) in omega arith

-- a number that waits has no answer
pub none_yet : (Fits : Fitting) (b : Board) (arrivals : List ℕ) (number : RequestNo) (w : Waiting) → IsKeptBoard Fits b arrivals → waiting_of b number ≡ Some w → answer_of b number ≡ None
none_yet Fits b arrivals number w h e = let f = found (λ (w : Waiting). is_number w.request.no number) b.waiting w e in let n : w.request.no.0 ≡ number.0 = eqb-true _ _ f.2 in
    let same : w.request.no ≡ number = ap (λ (k : ℕ). let r : RequestNo = record { 0 = k } in r) n in subst (λ (r : RequestNo). answer_of b r ≡ None) same (h.consistent.waiting f.0 w f.1)

-- a board with an answer more, by its parts
abbrev pub with_parts : Board → Cars → List Waiting → List (RequestNo × Decision) → Board
with_parts b fleet waiting answers = record b { fleet = fleet; waiting = waiting; answers = answers }

pub answered_is : (b : Board) (number : RequestNo) (decision : Decision) (waiting : List Waiting) (answers : List (RequestNo × Decision)) → waiting ≡ without number b.waiting → answers ≡ insert_entry by_number b.answers number decision
    → with_parts b (record b.fleet { version = b.fleet.version + 1 }) waiting answers ≡ answered b number decision
answered_is b number decision waiting answers w a = ap (λ (l : List Waiting). with_parts b (record b.fleet { version = b.fleet.version + 1 }) l answers) w
    ∙ ap (with_parts b (record b.fleet { version = b.fleet.version + 1 }) (without number b.waiting)) a

pub assigned_is : (b : Board) (number : RequestNo) (decision : Decision) (place : ℕ) (car : Car) (fleet : Cars) (waiting : List Waiting) (answers : List (RequestNo × Decision))
    → fleet ≡ with_changed b.fleet (b.fleet.version + 1) place car → waiting ≡ without number b.waiting → answers ≡ insert_entry by_number b.answers number decision
    → with_parts b fleet waiting answers ≡ with_car (answered b number decision) place car
assigned_is b number decision place car fleet waiting answers f w a = ap (λ (c : Cars). with_parts b c waiting answers) f ∙ ap (λ (l : List Waiting). with_parts b (with_changed b.fleet (b.fleet.version + 1) place car) l answers) w
    ∙ ap (with_parts b (with_changed b.fleet (b.fleet.version + 1) place car) (without number b.waiting)) a

-- a board as it was, where its fleet and its answers are
pub undone_kept : (Fits : Fitting) (b : Board) (arrivals : List ℕ) (answers : List (RequestNo × Decision)) → answers ≡ b.answers → IsKeptBoard Fits b arrivals → IsKeptBoard Fits (record b { answers = answers }) arrivals
undone_kept Fits b arrivals answers a h = subst (λ (l : List (RequestNo × Decision)). IsKeptBoard Fits (record b { answers = l }) arrivals) (sym a) h

pub same_value : {I : Type 0} (v : WithIndex I) (fleet : Fleet I) (answers : List (RequestNo × Decision)) → fleet ≡ v.fleet → answers ≡ v.answers → record v { fleet = fleet; answers = answers } ≡ v
same_value {I} v fleet answers f a = ap (λ (g : Fleet I). record v { fleet = g; answers = answers }) f ∙ ap (λ (l : List (RequestNo × Decision)). record v { answers = l }) a

-- ---- what was cancelled

-- a number that is put in and taken out again
pub key_undone : (number : RequestNo) (keys : List RequestNo) → list_any (is_at (by_number number)) keys ≡ false → remove_key (is_at (by_number number)) (insert_key by_number keys number) ≡ keys
key_undone number [] h = ap (λ (b : Bool). cond b [] (number ∷ [])) (is_own number)
key_undone number (e ∷ keys) h = by (by_number number e) refl (is_at (by_number number) e) refl h (key_undone number keys)
  where
    by : (r : Ordering) → by_number number e ≡ r → (x : Bool) → is_at (by_number number) e ≡ x → (x || list_any (is_at (by_number number)) keys) ≡ false
        → (list_any (is_at (by_number number)) keys ≡ false → remove_key (is_at (by_number number)) (insert_key by_number keys number) ≡ keys)
        → remove_key (is_at (by_number number)) (match_ordering r (number ∷ e ∷ keys) (e ∷ keys) (e ∷ insert_key by_number keys number)) ≡ e ∷ keys
    by r q true p h rest = absurd (let bad : true ≡ false = h in cc)
    by Less q false p h rest = ap (λ (b : Bool). cond b (e ∷ keys) (number ∷ remove_key (is_at (by_number number)) (e ∷ keys))) (is_own number)
    by Equal q false p h rest = absurd (let bad : is_eq (by_number number e) ≡ true = ap is_eq q in cc)
    by Greater q false p h rest = rw p (ap (λ (l : List RequestNo). e ∷ l) (rest h))

-- riders who may cancel haven't, and are to be picked up
pub not_cancelled : (b : Board) (number : RequestNo) (a : Assigned) → cancel_refusal b number ≡ None → answer_of b number ≡ Some (IsAssigned a)
    → (is_cancelled b number ≡ false) × (is_to_pick_up number (slice_get b.fleet.cars a.offer.place) ≡ true)
not_cancelled b number a h e = on (is_some (waiting_of b number)) h
  where
    last : (c d : Bool) → cond c (Some why.Cancelled) (cond d None (Some why.Served)) ≡ None → (c ≡ false) × (d ≡ true)
    last true d q = cc
    last false true q = (refl, refl)
    last false false q = cc

    on : (w : Bool) → cond w (Some why.Waiting) (cancel_refusal_by b number (answer_of b number)) ≡ None → (is_cancelled b number ≡ false) × (is_to_pick_up number (slice_get b.fleet.cars a.offer.place) ≡ true)
    on true q = cc
    on false q = last (is_cancelled b number) (is_to_pick_up number (slice_get b.fleet.cars a.offer.place)) (sym (ap (cancel_refusal_by b number) e) ∙ q)

pub removed_is : (b : Board) (number : RequestNo) (place : ℕ) (car : Car) (fleet : Cars) (keys : List RequestNo) → fleet ≡ with_changed b.fleet (b.fleet.version + 1) place car → keys ≡ insert_key by_number b.cancelled number
    → record b { fleet = fleet; cancelled = keys } ≡ with_car (with_cancelled b number) place car
removed_is b number place car fleet keys f k = ap (λ (c : Cars). record b { fleet = c; cancelled = keys }) f ∙ ap (λ (l : List RequestNo). record b { fleet = with_changed b.fleet (b.fleet.version + 1) place car; cancelled = l }) k

pub same_but_keys : {I : Type 0} (v : WithIndex I) (fleet : Fleet I) (keys : List RequestNo) → fleet ≡ v.fleet → keys ≡ v.cancelled → record v { fleet = fleet; cancelled = keys } ≡ v
same_but_keys {I} v fleet keys f a = ap (λ (g : Fleet I). record v { fleet = g; cancelled = keys }) f ∙ ap (λ (l : List RequestNo). record v { cancelled = l }) a

-- ---- a later clock

-- the board at a later clock, by its parts
pub later_kept : (Before After : Fitting) (b : Board) (now : ℕ) (arrivals : List ℕ) (cars : List Car) (next : List ℕ) → IsKeptBoard Before b arrivals → now ≤ latest_moment → FitsLater Before After b.fleet now
    → cars ≡ map (moved_car b.fleet.rates (b.fleet.version + 1) now) b.fleet.cars → next ≡ map (λ (car : Car). next_arrival b.fleet.rates car.plan) cars
    → IsKeptBoard After (record b { fleet = record b.fleet { clock = now; version = b.fleet.version + 1; cars = cars } }) next
later_kept Before After b now arrivals cars next h early fits is next_is = record {
  fleet = record {
    graph = h.fleet.graph;
    many = h.fleet.many;
    fits = subst (λ (l : List Car). After h.fleet.graph b.fleet.rates (map (λ (car : Car). car.plan) l)) (sym is) (fits h.fleet.graph h.fleet.fits);
    clock = early;
    plans = λ place car e. moved place car (mapped (moved_car b.fleet.rates (b.fleet.version + 1) now) b.fleet.cars place car (ap (λ (l : List Car). slice_get l place) (sym is) ∙ e));
    next = next_is;
  };
  accepted = h.accepted;
  consistent = subst (λ (l : List Car). IsConsistent (record b { fleet = record b.fleet { clock = now; version = b.fleet.version + 1; cars = l } })) (sym is) (later_consistent b now h.consistent);
}
  where
    moved : (place : ℕ) (car : Car) → (x : Car) × (slice_get b.fleet.cars place ≡ Some x) × (car ≡ moved_car b.fleet.rates (b.fleet.version + 1) now x) → IsKeptPlan b.nodes b.fleet.rates now car.plan
    moved place car x = subst (IsKeptPlan b.nodes b.fleet.rates now) (sym (ap (λ (c : Car). c.plan) x.2 ∙ moved_plan b.fleet.rates (b.fleet.version + 1) now x.0))
        (advanced_kept b.nodes b.fleet.rates b.fleet.clock now x.0.plan (h.fleet.plans place x.0 x.1))

pub on_ok : {X E : Type 0} {P Q : Type 0} (r : Result X E) → (P → Q) → OnOk r P → OnOk r Q
on_ok (Ok x) f h = f h
on_ok (Err e) f h = h
