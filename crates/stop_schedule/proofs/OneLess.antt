use Rattle.std.proofs.Common.{◌≡◌, ℕ, zero, suc, ◌+◌, ◌-◌, ◌<◌, ◌≤◌, ◌==◌, ◌&&◌, nat_le, Bool, true, false, cond, List, [], ◌∷◌, ◌++◌, take, drop, length, Option, Some, None, refl, sym, ap, ◌∙◌, arith, subst, append_assoc, ⊎_elim}
use Rattle.std.specs.Prelude.{slice_index}
use Rattle.std.specs.List.{insert}
use Rattle.std.proofs.lemmas.Bool.{and_parts, and_from, or_cases, eqb-true, ne_eqb}
use Rattle.std.proofs.lemmas.List.{take-append-le, drop-append-le, take-take, drop-take, length-take-le}
use Rattle.road_graph.specs.declared.road.NodeNo.{NodeNo}
use Rattle.stop_schedule.specs.declared.stop.Front.{Front}
use Rattle.stop_schedule.specs.declared.stop.Insertion.{Insertion}
use Rattle.stop_schedule.specs.declared.stop.Stop.{Stop}
use Rattle.stop_schedule.specs.Keeping.{most_stops, is_seated, are_in_time, is_over_by, keeps_along}
use Rattle.stop_schedule.specs.Ahead.{is_kept}
use Rattle.stop_schedule.specs.Lists.{with_both, started}
use Rattle.stop_schedule.specs.Plans.{Plan, Course, from_front, halting}
use Rattle.stop_schedule.specs.Times.{departs, halt_time}
use Rattle.stop_schedule.proofs.Holds.{Holds, skip_first, halt_time-detour}
use Rattle.stop_schedule.proofs.OneMore.{split, holds_without}

-- a pickup and a dropoff are put in one after the other
pub with_both_is : (stops : List Stop) (at : Insertion) (p d : Stop) → at.i ≤ at.j → at.j ≤ length stops → with_both stops at p d ≡ insert (insert stops at.j d) at.i p
with_both_is stops at p d h l = append_assoc (take at.i stops) (p ∷ take (at.j - at.i) (drop at.i stops)) (d ∷ drop at.j stops) ∙ joined _ _ _ _ (sym front) (sym rest)
  where
    joined : (a b c e : List Stop) → a ≡ b → c ≡ e → a ++ p ∷ c ≡ b ++ p ∷ e
    joined a b c e l r = cc

    long : at.i ≤ length (take at.j stops)
    long = let e = length-take-le at.j stops l in omega arith

    front : take at.i (insert stops at.j d) ≡ take at.i stops
    front = take-append-le at.i (take at.j stops) (d ∷ drop at.j stops) long ∙ take-take at.i at.j stops h

    middle : drop at.i (take at.j stops) ≡ take (at.j - at.i) (drop at.i stops)
    middle = subst (λ (j : ℕ). drop at.i (take j stops) ≡ take (at.j - at.i) (drop at.i stops)) (let e : at.i + (at.j - at.i) ≡ at.j = omega arith in e) (drop-take at.i (at.j - at.i) stops)

    rest : drop at.i (insert stops at.j d) ≡ take (at.j - at.i) (drop at.i stops) ++ d ∷ drop at.j stops
    rest = drop-append-le at.i (take at.j stops) (d ∷ drop at.j stops) long ∙ ap (λ (m : List Stop). m ++ d ∷ drop at.j stops) middle

pub split_same : (n u v : ℕ) (zs : List ℕ) → n ≤ length zs → slice_index (split n u v zs) n ≡ u
split_same zero u v [] l = refl
split_same zero u v (z ∷ zs) l = refl
split_same (suc n) u v [] l = absurd (omega arith)
split_same (suc n) u v (z ∷ zs) l = split_same n u v zs (omega arith)

pub split_before : (n i u v : ℕ) (zs : List ℕ) → i < n → n ≤ length zs → slice_index (split n u v zs) i ≡ slice_index zs i
split_before zero i u v zs o l = absurd (omega arith)
split_before (suc n) i u v [] o l = absurd (omega arith)
split_before (suc n) zero u v (z ∷ zs) o l = refl
split_before (suc n) (suc i) u v (z ∷ zs) o l = split_before n i u v zs (omega arith) (omega arith)

pub length-split : (n u v : ℕ) (zs : List ℕ) → n ≤ length zs → length (split n u v zs) ≡ length zs + 1
length-split zero u v [] l = refl
length-split zero u v (z ∷ zs) l = omega arith
length-split (suc n) u v [] l = absurd (omega arith)
length-split (suc n) u v (z ∷ zs) l = let more = length-split n u v zs (omega arith) in omega arith

pub length-put : (n : ℕ) (t : Stop) (stops : List Stop) → n ≤ length stops → length (insert stops n t) ≡ length stops + 1
length-put zero t stops l = omega arith
length-put (suc n) t [] l = absurd (omega arith)
length-put (suc n) t (s ∷ stops) l = let more = length-put n t stops (omega arith) in omega arith

-- From where one list starts and from where the other does, which goes to a node first that the former leaves out: both from the same
-- place, or the former's first stop takes no longer than that node and the same stop after it.
pub record StartsAt (stop i : ℕ) (node : NodeNo) (halt halt' : Option NodeNo) (left left' : ℕ) : Type 0 where
  pub halts : 0 < i → halt ≡ halt'
  pub leaves : 0 < i → left ≡ left'
  pub first : i ≡ 0 → (n : NodeNo) → halt_time stop halt n ≤ halt_time stop halt' node + halt_time stop (Some node) n

module _ (stop until : ℕ) where
  -- the first of two new stops is taken out again
  pub without_first : (i : ℕ) (halt halt' : Option NodeNo) (left left' x y : ℕ) (p : Stop) (stops : List Stop) (lengths : List ℕ) → 0 < length stops → i ≤ length stops → length lengths ≡ length stops → StartsAt stop i p.node halt halt' left left'
      → (0 < i → i < length stops → slice_index lengths i ≤ x + y) → (i ≡ 0 → left + slice_index lengths 0 ≤ left' + x + y)
      → Holds stop until halt' left' (insert stops i p) (split i x y lengths) → Holds stop until halt left stops lengths
  without_first i halt halt' left left' x y p [] lengths some l many start near far new = absurd (omega arith)
  without_first i halt halt' left left' x y p (s ∷ stops) [] some l many start near far new = absurd (omega arith)
  without_first zero halt halt' left left' x y p (s ∷ stops) (z ∷ lengths) some l many start near far new =
      skip_first stop until halt halt' left left' x y z p s stops lengths (far refl) (start.first refl s.node) new
  without_first (suc i) halt halt' left left' x y p (s ∷ stops) (z ∷ lengths) some l many start near far new =
      holds_without stop until (suc i) halt left x y p (s ∷ stops) (z ∷ lengths) many l (λ k. near (omega arith) k) (rw (start.halts (omega arith), start.leaves (omega arith)) new)

-- a schedule with a stop that keeps is kept along its course
pub kept_of_keeps : (stop : ℕ) (p : Plan) (c : Course) → keeps_along stop p c ≡ true → 0 < length c.stops → is_kept stop p.until c ≡ true
kept_of_keeps stop p c h some =
    let over = and_parts (nat_le (length c.stops) most_stops && is_seated p.seats p.spaces c.stops && are_in_time stop c) (is_over_by stop c p.until) h in
    let in_time = and_parts (nat_le (length c.stops) most_stops && is_seated p.seats p.spaces c.stops) (are_in_time stop c) over.0 in
    and_from (are_in_time stop c) (nat_le (departs stop c (length c.stops)) p.until) in_time.1
    (⊎_elim (λ none. let e = eqb-true (length c.stops) 0 none in absurd (omega arith)) (λ k. k) (or_cases (length c.stops == 0) (nat_le (departs stop c (length c.stops)) p.until) over.1))

-- at the front a vehicle halts no longer, or still at its place
pub front_halts : (stop : ℕ) (front : Front) (p : Plan) (n : NodeNo) → (front.time ≡ p.departure → front.node ≡ p.place) → halt_time stop (halting p) n ≤ halt_time stop (halting (from_front front p)) n
front_halts stop front p n place = go p.halt (front.time == p.departure) (λ e. place (eqb-true front.time p.departure e)) where
  go : (halt now : Bool) → (now ≡ true → front.node ≡ p.place) → halt_time stop (cond halt (Some p.place) None) n ≤ halt_time stop (cond (halt && now) (Some front.node) None) n
  go false now e = omega arith
  go true false e = stops (p.place.0 == n.0) where
    stops : (here : Bool) → cond here 0 stop ≤ stop
    stops true = omega arith
    stops false = omega arith
  go true true e = rw (e refl) (omega arith)

pub starts_at : (stop : ℕ) (front : Front) (p : Plan) (at : Insertion) (node : NodeNo) → (front.time ≡ p.departure → front.node ≡ p.place) → StartsAt stop at.i node (halting p) (halting (started at front p)) p.departure (started at front p).departure
starts_at stop front p at node place = record { halts = λ l. rw (behind l) refl; leaves = λ l. rw (behind l) refl; first = first } where
  behind : 0 < at.i → (at.i == 0) ≡ false
  behind l = ne_eqb at.i 0 (λ e. omega arith)

  first : at.i ≡ 0 → (n : NodeNo) → halt_time stop (halting p) n ≤ halt_time stop (halting (started at front p)) node + halt_time stop (Some node) n
  first e n = let here = front_halts stop front p node place in let detour = halt_time-detour stop (halting p) node n in rw e (omega arith)
