use Rattle.std.proofs.Common.{◌≡◌, ℕ, suc, ◌+◌, ◌-◌, ◌*◌, ◌<◌, ◌≤◌, ◌↔◌, ⊎_elim, nat_lt, Bool, true, false, cond, List, [], ◌∷◌, ◌++◌, drop, map, length, get_or, slice_get, Option, Some, None, IsSome, option_to_list, unwrap_or, refl, sym, ap, ◌∙◌, subst, arith, add-one}
use Rattle.std.proofs.lemmas.Bool.{cases_eq, cases_lt, eq-eqb, ne_eqb, lt-ltb, le-ltb, cond-true, cond-false}
use Rattle.std.proofs.lemmas.List.{drop_all, drop_more, length-map}
use Rattle.std.proofs.lemmas.Option.{slice_get_within, same_Some}
use Rattle.road_graph.specs.declared.road.NodeNo.{NodeNo}
use Rattle.road_graph.specs.Paths.{length_of}
use Rattle.road_graph.specs.Roads.{Roads}
use Rattle.road_graph.specs.Walks.{IsDist}
use Rattle.road_graph.proofs.WalkLaws.{one_distance}
use Rattle.leeway.proofs.LeewayLaws.{latest}
use Rattle.stop_schedule.specs.Distances.{AreDistances}
use Rattle.stop_schedule.specs.declared.request.Request.{Request}
use Rattle.stop_schedule.specs.declared.stop.Front.{Front}
use Rattle.stop_schedule.specs.declared.stop.Insertion.{Insertion}
use Rattle.stop_schedule.specs.declared.stop.Start.{Start}
use Rattle.stop_schedule.specs.declared.stop.Stop.{Stop}
use Rattle.stop_schedule.specs.Keeping.{is_feasible, keeps}
use Rattle.stop_schedule.specs.Lists.{new_course, node_at, changed_ends, pair}
use Rattle.stop_schedule.specs.Plans.{Plan, course_of, halt_at}
use Rattle.stop_schedule.specs.Rates.{Rates, trip_limit}
use Rattle.stop_schedule.specs.Times.{departs, kept_time}
use Rattle.stop_schedule.proofs.ListLaws.{drop_from}
use Rattle.stop_schedule.proofs.TimeLaws.{Holds, kept_of_keeps, is_kept-holds, holds_behind}
use Rattle.insertion_cost.specs.declared.behind.Behind.{Behind}
use Rattle.insertion_cost.specs.declared.node_ways.NodeWays.{NodeWays}
use Rattle.insertion_cost.specs.declared.on_the_way.OnTheWay.{OnTheWay}
use Rattle.insertion_cost.specs.declared.spans.Spans.{Spans}
use Rattle.insertion_cost.specs.Behind.{busy_along, IsBehind}
use Rattle.insertion_cost.specs.Changes.{course_from}
use Rattle.insertion_cost.specs.NodeWays.{AreWaysAlong, HaveShape}
use Rattle.insertion_cost.specs.Offers.{HasPrice}
use Rattle.insertion_cost.specs.OnWays.{past_stop, out_of, changed, HasRoom, Leads, EndsSo, HasNoneFrom, AreReadOff, IsLengthOn, into_of, onto_of, no_ways}
use Rattle.insertion_cost.specs.Prices.{Price, priced, price_of}
use Rattle.insertion_cost.specs.Spans.{lengths_of}
use Rattle.insertion_cost.proofs.ChangedEnds.{ends_behind, ends_together, ends_apart, one_behind, none_behind}
use Rattle.insertion_cost.proofs.IsFeasible.{priced_parts, feasible_places}
use Rattle.insertion_cost.proofs.IsTried.{pair_is}
use Rattle.insertion_cost.proofs.NewLengths.{no_place}
use Rattle.insertion_cost.proofs.SpansOf.{at_node, is_some, not_into, not_on}

not_true : (b : Bool) → (b ≡ true → ⊥) → b ≡ false
not_true true f = absurd (f refl)
not_true false f = refl

-- The way behind a dropoff ..
module _ (rates : Rates) (p : Plan) (kept : keeps rates p ≡ true) (many : length p.legs ≡ length p.stops) (j v : ℕ) (w : OnTheWay) where
  -- .. that is the last stop
  pub ends_last : length p.stops ≤ j → w.departure ≤ p.until → EndsSo rates p j v w (Some w.busy_time)
  ends_last l h = rw (drop_all j p.stops l) (h, omega arith)

  pub ends_late : length p.stops ≤ j → p.until < w.departure → EndsSo rates p j v w None
  ends_late l h = rw (drop_all j p.stops l) (λ k. omega arith)

  module _ (s : Stop) (start : Start) (b : Behind) (there : slice_get p.stops j ≡ Some s) (is : IsBehind rates.stop p.until (course_from start p) (j + 1) b) where
    abbrev next : OnTheWay
    next = past_stop rates.stop w v s.node s.ready

    abbrev on : List Stop
    on = drop (suc j) p.stops

    abbrev ways_on : List ℕ
    ways_on = drop (suc j) (map length_of p.legs)

    stops_here : drop j p.stops ≡ s ∷ on
    stops_here = drop_from p.stops j s there

    ways_many : length (map length_of p.legs) ≡ length p.stops
    ways_many = length-map p.legs length_of ∙ many

    ways_here : out_of v (drop j (map length_of p.legs)) ≡ v ∷ ways_on
    ways_here =
        let within = slice_get_within p.stops j s there in
        let first : drop j (map length_of p.legs) ≡ get_or (map length_of p.legs) j 0 ∷ ways_on = rw add-one at (drop_more (map length_of p.legs) j 0 (omega (arith, ways_many, within))) in
        ap (out_of v) first

    by_latest : (left : ℕ) → Holds rates.stop p.until (Some s.node) left on ways_on ↔ (left ≤ b.leaves_by)
    by_latest left =
        let within = slice_get_within p.stops j s there in
        let c = course_of p in
        let holds = holds_behind rates.stop p.until c.halt c.departure c.stops c.lengths (suc j) ((is_kept-holds rates.stop p.until c ways_many).0 (kept_of_keeps rates.stop p c kept (omega arith))) (omega arith) in
        let halts : halt_at c (suc j) ≡ Some s.node = rw there refl in
        let law = latest rates.stop p.until (Some s.node) (departs rates.stop c (suc j)) on ways_on (subst (λ (h : Option NodeNo). Holds rates.stop p.until h (departs rates.stop c (suc j)) on ways_on) halts holds) left in
        rw (is.leaves_by, add-one j, there) law

    busy_on : b.busy_time ≡ busy_along rates.stop (Some s.node) on ways_on
    busy_on = is.busy_time ∙ rw (add-one j, there) refl

    pub ends_more : kept_time s.kind (w.departure + v) next.departure ≤ s.limit → next.departure ≤ b.leaves_by → EndsSo rates p j v w (Some (next.busy_time + b.busy_time))
    ends_more k l = let all = busy_on in rw (stops_here, ways_here) ((k, (by_latest next.departure).1 l), omega arith)

    pub ends_broken : (kept_time s.kind (w.departure + v) next.departure ≤ s.limit → ⊥) → EndsSo rates p j v w None
    ends_broken not = rw (stops_here, ways_here) (λ h. not h.0)

    pub ends_too_late : b.leaves_by < next.departure → EndsSo rates p j v w None
    ends_too_late late = rw (stops_here, ways_here) (λ h. let l = (by_latest next.departure).0 h.1 in omega arith)

out_out : (v y : ℕ) (zs : List ℕ) → out_of v (out_of y zs) ≡ out_of v zs
out_out v y [] = refl
out_out v y (z ∷ zs) = refl

-- the price of a pair whose dropoff is behind stop j
module _ (rates : Rates) (p : Plan) (front : Front) (r : Request) (i x y leave before j : ℕ) (w : OnTheWay) (led : Leads rates p front r i x y leave before j w) (room : HasRoom p r (drop j p.stops)) (within : j ≤ length p.stops) (u v direct : ℕ) where
  abbrev dropped : OnTheWay
  dropped = past_stop rates.stop w u r.dropoff 0

  abbrev lengths : List ℕ
  lengths = changed i j (length p.stops) x y u v

  abbrev here : Insertion
  here = pair i j

  out_is : out_of v led.lengths ≡ out_of v (drop j (map length_of p.legs))
  out_is = ⊎_elim
      (λ (later : i < j). ap (out_of v) (led.later_ones later))
      (λ (first : j ≤ i). let o = led.order in let same : j ≡ i = omega arith in ap (out_of v) (led.first_of_them same) ∙ out_out v y (drop i (map length_of p.legs)) ∙ ap (λ (m : ℕ). out_of v (drop m (map length_of p.legs))) (sym same))
      (cases_lt i j)

  zero_on : j ≡ j + 0
  zero_on = omega arith

  feasible_here : is_feasible rates p front r here lengths ≡ true ↔ ((w.departure + u ≤ p.until) × Holds rates.stop p.until dropped.halt dropped.departure (drop j p.stops) (out_of v (drop j (map length_of p.legs))))
  feasible_here =
      let is = led.feasible 0 j u v zero_on within in (
        λ h. let both = (is.0 h).1 in (both.0, subst (λ (l : List ℕ). Holds rates.stop p.until dropped.halt dropped.departure (drop j p.stops) l) out_is both.1),
        λ h. is.1 (room, (h.0, subst (λ (l : List ℕ). Holds rates.stop p.until dropped.halt dropped.departure (drop j p.stops) l) (sym out_is) h.1)),
      )

  none_priced : (is_feasible rates p front r here lengths ≡ true → ⊥) → priced rates p front r here direct lengths ≡ None
  none_priced f = cond-false (is_feasible rates p front r here lengths) (Some (price_of rates p front r here direct (new_course p front r here lengths))) None (not_true (is_feasible rates p front r here lengths) f)

  pub reached_late : p.until < w.departure + u → priced rates p front r here direct lengths ≡ None
  reached_late late = none_priced (λ h. let l = (feasible_here.0 h).0 in omega arith)

  pub not_ended : EndsSo rates p j v dropped None → priced rates p front r here direct lengths ≡ None
  not_ended f = none_priced (λ h. f (feasible_here.0 h).1)

  same_price : (price : Price) (cost left arrive : ℕ) → price.cost ≡ cost → price.leave ≡ left → price.arrive ≡ arrive → price ≡ record { cost = cost; leave = left; arrive = arrive }
  same_price price cost left arrive a b c =
      ap {B = Price} (λ (m : ℕ). record { cost = m; leave = price.leave; arrive = price.arrive }) a
      ∙ ap {B = Price} (λ (m : ℕ). record { cost = cost; leave = m; arrive = price.arrive }) b
      ∙ ap {B = Price} (λ (m : ℕ). record { cost = cost; leave = left; arrive = m }) c

  pub ended_priced : (total : ℕ) → w.departure + u ≤ p.until → EndsSo rates p j v dropped (Some total) → priced rates p front r here direct lengths
      ≡ Some (record { cost = total - before + rates.wait_weight * (leave - (r.moment + rates.wait)) + rates.trip_weight * (w.departure + u - (r.moment + trip_limit rates direct)); leave = leave; arrive = w.departure + u })
  ended_priced total l ends =
      let new = new_course p front r here lengths in
      let yes = feasible_here.1 (l, ends.0) in
      let on : busy_along rates.stop dropped.halt (drop j p.stops) (out_of v led.lengths) ≡ busy_along rates.stop dropped.halt (drop j p.stops) (out_of v (drop j (map length_of p.legs))) = ap (busy_along rates.stop dropped.halt (drop j p.stops)) out_is in
      let all = ends.1 in
      let longer = led.detour_is 0 j u v zero_on within in
      let left = led.leaves 0 j u v zero_on within in
      let reached = led.reaches 0 j u v zero_on within in
      cond-true (is_feasible rates p front r here lengths) (Some (price_of rates p front r here direct new)) None yes
      ∙ ap (λ (q : Price). Some q) (same_price (price_of rates p front r here direct new) _ leave (w.departure + u) (rw (longer, left, reached) (omega (arith, on, all))) left reached)

-- the lengths of a pair that were read off distances
form : (i j m a b y u : ℕ) (c d : Option ℕ) → (IsSome c ↔ (i < j)) → (IsSome d ↔ (j < m)) → i ≤ j → (i < j → y ≡ b) → (i ≡ j → u ≡ b) → (i < j → c ≡ Some u) → a ∷ b ∷ option_to_list c ++ option_to_list d ≡ changed i j m a y u (unwrap_or d 0)
form i j m a b y u None None s t o e f g =
    let joined : j ≤ i = no_place i j s in let last = no_place j m t in let same : i ≡ j = omega arith in rw (eq-eqb i j same, le-ltb j m last, f same) refl
form i j m a b y u None (Some v) s t o e f g =
    let joined : j ≤ i = no_place i j s in let more : j < m = t.0 refl in let same : i ≡ j = omega arith in rw (eq-eqb i j same, lt-ltb j m more, f same) refl
form i j m a b y u (Some c) None s t o e f g =
    let apart : i < j = s.0 refl in let last = no_place j m t in rw (ne_eqb i j (λ q. omega arith), le-ltb j m last, e apart, same_Some c u (g apart)) refl
form i j m a b y u (Some c) (Some v) s t o e f g =
    let apart : i < j = s.0 refl in let more : j < m = t.0 refl in rw (ne_eqb i j (λ q. omega arith), lt-ltb j m more, e apart, same_Some c u (g apart)) refl

pub spans_form : (m u : ℕ) (ways : List NodeWays) (direct : ℕ) (at : Insertion) (s : Spans) → at.i ≤ at.j → HaveShape m at s → AreReadOff ways direct at s → (at.i ≡ at.j → u ≡ s.after_pickup) → (at.i < at.j → s.before_dropoff ≡ Some u)
    → lengths_of s ≡ changed at.i at.j m (into_of ways at.i) (onto_of ways at.i) u (unwrap_or s.after_dropoff 0)
spans_form m u ways direct at s order shape read same back =
    let into : into_of ways at.i ≡ s.before_pickup = ap (λ (o : Option ℕ). unwrap_or o 0) read.into in
    rw into (form at.i at.j m s.before_pickup s.after_pickup (onto_of ways at.i) u s.before_dropoff s.after_dropoff shape.0 shape.1 order (λ l. ap (λ (o : Option ℕ). unwrap_or o 0) (read.onto l)) same back)

-- distances of pairs of nodes are those of the first and those of the others
uncons : (g : Roads) (e : NodeNo × NodeNo) (ends : List (NodeNo × NodeNo)) (ls : List ℕ) → AreDistances g (e ∷ ends) ls → (z : ℕ) × (zs : List ℕ) × (ls ≡ z ∷ zs) × IsDist g e.0 e.1 z × AreDistances g ends zs
uncons g e ends [] d = absurd d
uncons g e ends (z ∷ zs) d = (z, zs, refl, d.0, d.1)

module _ (g : Roads) (front : Front) (stops : List Stop) (r : Request) (at : Insertion) (x y : ℕ) (order : at.i ≤ at.j) (into : IsDist g (node_at front stops at.i) r.pickup x) (onto : at.i < at.j → IsDist g r.pickup (node_at front stops (at.i + 1)) y) where
  behind_form : (ls : List ℕ) → AreDistances g (ends_behind stops front r at) ls → at.j ≤ length stops → (v : ℕ) × (ls ≡ cond (nat_lt at.j (length stops)) (v ∷ []) [])
  behind_form ls d within = ⊎_elim
      (λ (more : at.j < length stops).
      let one = uncons g (r.dropoff, node_at front stops (at.j + 1)) [] ls (subst (λ (ends : List (NodeNo × NodeNo)). AreDistances g ends ls) (one_behind stops front r at more) d) in
      (one.0, rw (lt-ltb at.j (length stops) more) (one.2 ∙ ap (λ (l : List ℕ). one.0 ∷ l) one.4)))
      (λ (last : length stops ≤ at.j). (0, rw (le-ltb at.j (length stops) last) (subst (λ (ends : List (NodeNo × NodeNo)). AreDistances g ends ls) (none_behind stops front r at last) d)))
      (cases_lt at.j (length stops))

  changed_form : (ls : List ℕ) → at.j ≤ length stops → AreDistances g (changed_ends stops front r at) ls → (u : ℕ) × (v : ℕ) × (ls ≡ changed at.i at.j (length stops) x y u v)
  changed_form ls within d = ⊎_elim together apart (cases_eq at.i at.j) where
    together : at.i ≡ at.j → (u : ℕ) × (v : ℕ) × (ls ≡ changed at.i at.j (length stops) x y u v)
    together same =
        let all = subst (λ (ends : List (NodeNo × NodeNo)). AreDistances g ends ls) (ends_together stops front r at same) d in
        let one = uncons g (node_at front stops at.i, r.pickup) ((r.pickup, r.dropoff) ∷ ends_behind stops front r at) ls all in
        let two = uncons g (r.pickup, r.dropoff) (ends_behind stops front r at) one.1 one.4 in
        let rest = behind_form two.1 two.4 within in
        let first : one.0 ≡ x = one_distance g (node_at front stops at.i) r.pickup one.0 x one.3 into in
        (two.0, rest.0, rw (eq-eqb at.i at.j same) (one.2 ∙ ap (λ (n : ℕ). n ∷ one.1) first ∙ ap (λ (l : List ℕ). x ∷ l) two.2 ∙ ap (λ (l : List ℕ). x ∷ two.0 ∷ l) rest.1))

    apart : (at.i ≡ at.j → ⊥) → (u : ℕ) × (v : ℕ) × (ls ≡ changed at.i at.j (length stops) x y u v)
    apart other =
        let all = subst (λ (ends : List (NodeNo × NodeNo)). AreDistances g ends ls) (ends_apart stops front r at other) d in
        let one = uncons g (node_at front stops at.i, r.pickup) ((r.pickup, node_at front stops (at.i + 1)) ∷ (node_at front stops at.j, r.dropoff) ∷ ends_behind stops front r at) ls all in
        let two = uncons g (r.pickup, node_at front stops (at.i + 1)) ((node_at front stops at.j, r.dropoff) ∷ ends_behind stops front r at) one.1 one.4 in
        let three = uncons g (node_at front stops at.j, r.dropoff) (ends_behind stops front r at) two.1 two.4 in
        let rest = behind_form three.1 three.4 within in
        let first : one.0 ≡ x = one_distance g (node_at front stops at.i) r.pickup one.0 x one.3 into in
        let second : two.0 ≡ y = one_distance g r.pickup (node_at front stops (at.i + 1)) two.0 y two.3 (onto (omega arith)) in
        (three.0, rest.0, rw (ne_eqb at.i at.j other) (one.2 ∙ ap (λ (n : ℕ). n ∷ one.1) first ∙ ap (λ (l : List ℕ). x ∷ l) two.2 ∙ ap (λ (n : ℕ). x ∷ n ∷ two.1) second ∙ ap (λ (l : List ℕ). x ∷ y ∷ l) three.2 ∙ ap (λ (l : List ℕ). x ∷ y ∷ three.0 ∷ l) rest.1))

-- past the last stop no pair has a price
pub none_past : (g : Roads) (rates : Rates) (front : Front) (p : Plan) (r : Request) (i j : ℕ) → length p.stops < j → HasNoneFrom g rates front p r i j
none_past g rates front p r i j past at price ei l h =
    let feasible = (priced_parts rates p front r at h.direct h.lengths price h.priced_so).0 in
    let places = feasible_places rates p front r at h.lengths feasible in
    let last = places.1 in
    omega arith

module _ (g : Roads) (rates : Rates) (front : Front) (p : Plan) (r : Request) (direct : ℕ) (ways : List NodeWays) (along : AreWaysAlong g r front p.stops direct ways) (i k : ℕ) (order : i ≤ k) (within : k ≤ length p.stops) (lengths : List ℕ)
    (legs : AreDistances g (changed_ends p.stops front r (pair i k)) lengths)
  where
    inside : k + 1 ≤ length ways
    inside = let many = along.many in omega arith

    -- its lengths are those of the distances
    pub legs_form : (u : ℕ) × (v : ℕ) × (lengths ≡ changed i k (length p.stops) (into_of ways i) (onto_of ways i) u v)
    legs_form = into (get_or ways i no_ways).to_pickup refl where
      onto : (x : ℕ) → (get_or ways i no_ways).to_pickup ≡ Some x → (o : Option ℕ) → (get_or ways (i + 1) no_ways).from_pickup ≡ o → (u : ℕ) × (v : ℕ) × (lengths ≡ changed i k (length p.stops) x (unwrap_or o 0) u v)
      onto x e None f = changed_form g front p.stops r (pair i k) x 0 order (is_some g _ _ _ x ((at_node g r front p.stops direct ways (pair i k) along order inside i (omega arith)).to_pickup) e)
          (λ l. absurd (not_on g r front p.stops direct ways (pair i k) along order inside (λ s. omega arith) f lengths legs)) lengths within legs
      onto x e (Some y) f = changed_form g front p.stops r (pair i k) x y order (is_some g _ _ _ x ((at_node g r front p.stops direct ways (pair i k) along order inside i (omega arith)).to_pickup) e)
          (λ l. is_some g _ _ _ y ((at_node g r front p.stops direct ways (pair i k) along order inside (i + 1) (omega (arith, l, inside))).from_pickup) f) lengths within legs

      into : (o : Option ℕ) → (get_or ways i no_ways).to_pickup ≡ o → (u : ℕ) × (v : ℕ) × (lengths ≡ changed i k (length p.stops) (unwrap_or o 0) (onto_of ways i) u v)
      into None e = absurd (not_into g r front p.stops direct ways (pair i k) along order inside e lengths legs)
      into (Some x) e = onto x e (get_or ways (i + 1) no_ways).from_pickup refl

-- Where no pair from stop j on is feasible by the distances, whatever the other two lengths are, none has a price.
pub none_by : (g : Roads) (rates : Rates) (front : Front) (p : Plan) (r : Request) (direct : ℕ) (ways : List NodeWays) (i j : ℕ) → AreWaysAlong g r front p.stops direct ways
    → ((k u v : ℕ) → j ≤ k → k ≤ length p.stops → is_feasible rates p front r (pair i k) (changed i k (length p.stops) (into_of ways i) (onto_of ways i) u v) ≡ true → ⊥) → HasNoneFrom g rates front p r i j
none_by g rates front p r direct ways i j along not at price ei l h =
    let q = subst (λ (b : Insertion). HasPrice g rates front p r b price) (pair_is at i at.j ei refl) h in
    let feasible = (priced_parts rates p front r (pair i at.j) q.direct q.lengths price q.priced_so).0 in
    let places = feasible_places rates p front r (pair i at.j) q.lengths feasible in
    let form_is = legs_form g rates front p r direct ways along i at.j places.0 places.1 q.lengths q.changed_legs in
    not at.j form_is.0 form_is.1 l places.1 (subst (λ (ls : List ℕ). is_feasible rates p front r (pair i at.j) ls ≡ true) form_is.2 feasible)

-- without a walk to the pickup no pair has one
pub none_into : (g : Roads) (rates : Rates) (front : Front) (p : Plan) (r : Request) (direct : ℕ) (ways : List NodeWays) (i : ℕ) → AreWaysAlong g r front p.stops direct ways → (get_or ways i no_ways).to_pickup ≡ None → HasNoneFrom g rates front p r i i
none_into g rates front p r direct ways i along e at price ei l h =
    let q = subst (λ (b : Insertion). HasPrice g rates front p r b price) (pair_is at i at.j ei refl) h in
    let feasible = (priced_parts rates p front r (pair i at.j) q.direct q.lengths price q.priced_so).0 in
    let places = feasible_places rates p front r (pair i at.j) q.lengths feasible in
    let many = along.many in
    let last = places.1 in
    not_into g r front p.stops direct ways (pair i at.j) along places.0 (omega arith) e q.lengths q.changed_legs

-- nor without one from there to the next stop one whose dropoff is behind that
pub none_onto : (g : Roads) (rates : Rates) (front : Front) (p : Plan) (r : Request) (direct : ℕ) (ways : List NodeWays) (i j : ℕ) → AreWaysAlong g r front p.stops direct ways → i ≡ j → (get_or ways (j + 1) no_ways).from_pickup ≡ None → HasNoneFrom g rates front p r i (j + 1)
none_onto g rates front p r direct ways i j along here e at price ei l h =
    let q = subst (λ (b : Insertion). HasPrice g rates front p r b price) (pair_is at i at.j ei refl) h in
    let feasible = (priced_parts rates p front r (pair i at.j) q.direct q.lengths price q.priced_so).0 in
    let places = feasible_places rates p front r (pair i at.j) q.lengths feasible in
    let many = along.many in
    let last = places.1 in
    not_on g r front p.stops direct ways (pair i at.j) along places.0 (omega arith) (λ s. omega arith) (subst (λ (m : ℕ). (get_or ways (m + 1) no_ways).from_pickup ≡ None) (sym here) e) q.lengths q.changed_legs

-- the first of the lengths ahead is that of the way on
pub long_is : (rates : Rates) (p : Plan) (front : Front) (r : Request) (ways : List NodeWays) (i leave before j z : ℕ) (w : OnTheWay) (led : Leads rates p front r i (into_of ways i) (onto_of ways i) leave before j w) → length p.legs ≡ length p.stops → j < length p.stops
    → IsLengthOn p ways i j (Some z) → led.lengths ≡ z ∷ drop (suc j) (map length_of p.legs)
long_is rates p front r ways i leave before j z w led many within on =
    let zs = map length_of p.legs in
    let count : length zs ≡ length p.stops = length-map p.legs length_of ∙ many in
    let here : drop j zs ≡ get_or zs j 0 ∷ drop (suc j) zs = rw add-one at (drop_more zs j 0 (omega arith)) in
    let order = led.order in
    ⊎_elim
    (λ (later : i < j). led.later_ones later ∙ here ∙ ap (λ (m : ℕ). m ∷ drop (suc j) zs) (on.1 later))
    (λ (first : j ≤ i).
    let same : i ≡ j = omega arith in
    let y : onto_of ways i ≡ z = ap (λ (m : ℕ). onto_of ways m) same ∙ ap (λ (o : Option ℕ). unwrap_or o 0) (on.0 same) in
    led.first_of_them (sym same) ∙ ap (λ (m : ℕ). out_of (onto_of ways i) (drop m zs)) same ∙ ap (out_of (onto_of ways i)) here ∙ ap (λ (m : ℕ). m ∷ drop (suc j) zs) y)
    (cases_lt i j)
