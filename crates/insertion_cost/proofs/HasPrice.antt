use Rattle.std.proofs.Common.{◌≡◌, ℕ, zero, suc, ◌+◌, ◌-◌, ◌<◌, ◌≤◌, ◌==◌, ◌&&◌, Bool, true, false, cond, List, [], ◌∷◌, ◌++◌, take, drop, map, length, Some, None, refl, sym, ap, ◌∙◌, arith, subst, sum}
use Rattle.std.proofs.lemmas.Bool.{ne_eqb, eqb-true, eqb-false, ltb-true}
use Rattle.std.proofs.lemmas.List.{length-map}
use Rattle.std.specs.Prelude.{slice_get, slice_index}
use Rattle.road_graph.specs.declared.road.NodeNo.{NodeNo}
use Rattle.road_graph.specs.Paths.{Path, length_of}
use Rattle.stop_schedule.specs.declared.request.Request.{Request}
use Rattle.stop_schedule.specs.declared.stop.Front.{Front}
use Rattle.stop_schedule.specs.declared.stop.Insertion.{Insertion}
use Rattle.stop_schedule.specs.declared.stop.Stop.{Stop}
use Rattle.stop_schedule.specs.Lists.{with_legs, old_course}
use Rattle.stop_schedule.specs.Plans.{Plan, from_front, halting, Course, course_of}
use Rattle.stop_schedule.specs.Rates.{Rates}
use Rattle.stop_schedule.specs.Times.{halt_time, stop_times}
use Rattle.stop_schedule.proofs.TimeLaws.{AreShorter, AreShorter-refl}
use Rattle.stop_schedule.proofs.TimeLaws.{shorter_each, stop_times_shorter}
use Rattle.stop_schedule.proofs.ListLaws.{changed_count, length-changed_ends, length-with_legs}
use Rattle.insertion_cost.specs.Prices.{Price, priced, busy_time, detour}
use Rattle.insertion_cost.proofs.Cheaper.{cheaper}
use Rattle.stop_schedule.proofs.FrontLaws.{IsLaterFront, IsNoFurther, later_on_leg, later_at_rest}
use Rattle.road_graph.specs.Walks.{IsLeastWalk}
use Rattle.stop_schedule.specs.Fronts.{front_of}
use Rattle.road_graph.proofs.WalkLaws.{triangle, has_distance}
use Rattle.stop_schedule.specs.Lists.{node_at, node_or, changed_ends}
use Rattle.road_graph.specs.Roads.{Roads}
use Rattle.stop_schedule.specs.Distances.{AreDistances}
use Rattle.insertion_cost.specs.Laws.{AreAtMost, LongerLegsAreNoCheaper, IsNoCheaper, LaterFrontsAreNoCheaper}
use Rattle.insertion_cost.specs.Offers.{HasPrice}
use Rattle.insertion_cost.proofs.IsFeasible.{priced_parts, feasible_places}
use Rattle.stop_schedule.proofs.ListLaws.{no_stop}
use Rattle.std.proofs.lemmas.Option.{slice_get-get_or}
use Rattle.std.specs.Prelude.{nat_lt}

at_most-refl : (xs : List ℕ) → AreAtMost xs xs
at_most-refl [] = tt
at_most-refl (x ∷ xs) = (omega arith, at_most-refl xs)

at_most-append : (xs ys vs ws : List ℕ) → AreAtMost xs ys → AreAtMost vs ws → AreAtMost (xs ++ vs) (ys ++ ws)
at_most-append [] [] vs ws h k = k
at_most-append [] (y ∷ ys) vs ws h k = absurd h
at_most-append (x ∷ xs) [] vs ws h k = absurd h
at_most-append (x ∷ xs) (y ∷ ys) vs ws h k = (h.0, at_most-append xs ys vs ws h.1 k)

at_most-take : (n : ℕ) (xs ys : List ℕ) → AreAtMost xs ys → AreAtMost (take n xs) (take n ys)
at_most-take zero xs ys h = tt
at_most-take (suc n) [] [] h = tt
at_most-take (suc n) [] (y ∷ ys) h = absurd h
at_most-take (suc n) (x ∷ xs) [] h = absurd h
at_most-take (suc n) (x ∷ xs) (y ∷ ys) h = (h.0, at_most-take n xs ys h.1)

at_most-drop : (n : ℕ) (xs ys : List ℕ) → AreAtMost xs ys → AreAtMost (drop n xs) (drop n ys)
at_most-drop zero xs ys h = h
at_most-drop (suc n) [] [] h = tt
at_most-drop (suc n) [] (y ∷ ys) h = absurd h
at_most-drop (suc n) (x ∷ xs) [] h = absurd h
at_most-drop (suc n) (x ∷ xs) (y ∷ ys) h = at_most-drop n xs ys h.1

at_most-shorter : (xs ys : List ℕ) → AreAtMost xs ys → AreShorter xs ys
at_most-shorter [] ys h = tt
at_most-shorter (x ∷ xs) [] h = absurd h
at_most-shorter (x ∷ xs) (y ∷ ys) h = (h.0, at_most-shorter xs ys h.1)

at_most-length : (xs ys : List ℕ) → AreAtMost xs ys → length xs ≡ length ys
at_most-length [] [] h = refl
at_most-length [] (y ∷ ys) h = absurd h
at_most-length (x ∷ xs) [] h = absurd h
at_most-length (x ∷ xs) (y ∷ ys) h = ap (λ (n : ℕ). suc n) (at_most-length xs ys h.1)

-- larger changed legs make no leg of the new list shorter
at_most-with_legs : (zs : List ℕ) (at : Insertion) (xs ys : List ℕ) → AreAtMost xs ys → AreAtMost (with_legs zs at xs) (with_legs zs at ys)
at_most-with_legs zs at xs ys h = go (at.i == at.j) where
  go : (same : Bool) → AreAtMost (cond same (take at.i zs ++ xs ++ drop (at.i + 1) zs) (take at.i zs ++ take 2 xs ++ take (at.j - at.i - 1) (drop (at.i + 1) zs) ++ drop 2 xs ++ drop (at.j + 1) zs))
      (cond same (take at.i zs ++ ys ++ drop (at.i + 1) zs) (take at.i zs ++ take 2 ys ++ take (at.j - at.i - 1) (drop (at.i + 1) zs) ++ drop 2 ys ++ drop (at.j + 1) zs))
  go true = at_most-append (take at.i zs ++ xs) (take at.i zs ++ ys) _ _ (at_most-append (take at.i zs) (take at.i zs) xs ys (at_most-refl _) h) (at_most-refl _)
  go false =
      at_most-append _ _ (drop (at.j + 1) zs) (drop (at.j + 1) zs)
      (at_most-append _ _ (drop 2 xs) (drop 2 ys)
      (at_most-append _ _ (take (at.j - at.i - 1) (drop (at.i + 1) zs)) (take (at.j - at.i - 1) (drop (at.i + 1) zs))
      (at_most-append (take at.i zs) (take at.i zs) (take 2 xs) (take 2 ys) (at_most-refl _) (at_most-take 2 xs ys h)) (at_most-refl _))
      (at_most-drop 2 xs ys h)) (at_most-refl _)

-- With larger lengths of the changed legs and the direct way as it is, cost doesn't fall, and what is infeasible stays so.
larger_lengths : (rates : Rates) (p : Plan) (front : Front) (r : Request) (at : Insertion) (direct : ℕ) (lengths lengths' : List ℕ) → length p.legs ≡ length p.stops → at.i ≤ at.j → at.j ≤ length p.stops
    → length lengths ≡ changed_count (length p.stops) at → AreAtMost lengths lengths' → (price' : Price) → priced rates p front r at direct lengths' ≡ Some price'
    → (price : Price) × (priced rates p front r at direct lengths ≡ Some price) × (price.cost ≤ price'.cost)
larger_lengths rates p front r at direct lengths lengths' many order within count more price' h =
    go (with_legs (map length_of p.legs) at lengths) (with_legs (map length_of p.legs) at lengths') refl refl (at_most-with_legs (map length_of p.legs) at lengths lengths' more) long
  where
    older : length (map length_of p.legs) ≡ length p.stops
    older = length-map p.legs length_of ∙ many

    long : length (with_legs (map length_of p.legs) at lengths) ≡ length p.stops + 2
    long = length-with_legs (map length_of p.legs) lengths at order (omega (arith, older)) (count ∙ ap (λ (n : ℕ). changed_count n at) (sym older)) ∙ ap (λ (n : ℕ). n + 2) older

    go : (xs ys : List ℕ) → with_legs (map length_of p.legs) at lengths ≡ xs → with_legs (map length_of p.legs) at lengths' ≡ ys → AreAtMost xs ys → length xs ≡ length p.stops + 2
        → (price : Price) × (priced rates p front r at direct lengths ≡ Some price) × (price.cost ≤ price'.cost)
    go [] ys e f l n = absurd (omega arith)
    go (x ∷ xs) [] e f l n = absurd l
    go (x ∷ xs) (y ∷ ys) e f l n =
        let first : x ≤ y = l.0 in
        let shorter = at_most-shorter xs ys l.1 in
        cheaper rates p front front r at direct lengths lengths' x y xs ys e f
        (record { first = omega arith; halts = λ n. omega arith; legs = shorter_each xs ys shorter }) (λ n. omega arith) shorter (omega arith) (omega arith) price' h

-- the law of longer legs
pub longer_legs : LongerLegsAreNoCheaper
longer_legs rates p front r at direct lengths longer dear many count more h =
    let parts = priced_parts rates p front r at direct longer dear h in
    let places = feasible_places rates p front r at longer parts.0 in
    larger_lengths rates p front r at direct lengths longer many places.0 places.1 (count ∙ length-changed_ends p.stops front r at) more dear h

module _ (stop : ℕ) (p : Plan) (front front' : Front) (later : IsLaterFront p front front') where
  -- at the later front the vehicle halts no longer, or still where it did
  later_halt : ((n : NodeNo) → halt_time stop (halting (from_front front p)) n ≤ halt_time stop (halting (from_front front' p)) n)
      × ((s : Stop) → slice_get p.stops 0 ≡ Some s → halt_time stop (halting (from_front front' p)) s.node ≤ halt_time stop (halting (from_front front p)) s.node)
  later_halt = go p.halt (front.time == p.departure) (front'.time == p.departure) (eqb-true front.time p.departure) (eqb-false front.time p.departure) (eqb-true front'.time p.departure) (eqb-false front'.time p.departure)
    where
      at_most : (here : Bool) → cond here 0 stop ≤ stop
      at_most true = omega arith
      at_most false = omega arith

      away : (here : Bool) → (here ≡ true → ⊥) → stop ≤ cond here 0 stop
      away true h = absurd (h refl)
      away false h = omega arith

      go : (halt now now' : Bool) → (now ≡ true → front.time ≡ p.departure) → (now ≡ false → front.time ≡ p.departure → ⊥) → (now' ≡ true → front'.time ≡ p.departure) → (now' ≡ false → front'.time ≡ p.departure → ⊥)
          → ((n : NodeNo) → halt_time stop (cond (halt && now) (Some front.node) None) n ≤ halt_time stop (cond (halt && now') (Some front'.node) None) n)
          × ((s : Stop) → slice_get p.stops 0 ≡ Some s → halt_time stop (cond (halt && now') (Some front'.node) None) s.node ≤ halt_time stop (cond (halt && now) (Some front.node) None) s.node)
      go false now now' f g f' g' = (λ n. omega arith, λ s e. omega arith)
      go true false false f g f' g' = (λ n. omega arith, λ s e. omega arith)
      go true true true f g f' g' = let a = later.place (f refl) in let b = later.place' (f' refl) in rw (a, b) (λ n. omega arith, λ s e. omega arith)
      go true true false f g f' g' = (
        λ n. at_most (front.node.0 == n.0),
        λ s e. away (front.node.0 == s.node.0) (λ k. let same = eqb-true front.node.0 s.node.0 k in let here = ap (λ (n : NodeNo). n.0) (later.place (f refl)) in g' refl (later.moves s e (omega arith))),
      )
      go true false true f g f' g' = let early = later.begun in let order = later.time in let at' = f' refl in absurd (g refl (omega arith))

-- with the pickup first, the first leg leads into it, and the others don't hang on its length
abbrev first_at : ℕ → Insertion
first_at j = record { i = 0; j = j }

abbrev behind_first : ℕ → List ℕ → List ℕ → List ℕ
behind_first j zs more = cond (0 == j) (more ++ drop 1 zs) (take 1 more ++ take (j - 0 - 1) (drop 1 zs) ++ drop 1 more ++ drop (j + 1) zs)

first_leg : (j x : ℕ) (zs more : List ℕ) → with_legs zs (first_at j) (x ∷ more) ≡ x ∷ behind_first j zs more
first_leg j x zs more = go (0 == j) where
  go : (same : Bool) → cond same (take 0 zs ++ (x ∷ more) ++ drop (0 + 1) zs) (take 0 zs ++ take 2 (x ∷ more) ++ take (j - 0 - 1) (drop (0 + 1) zs) ++ drop 2 (x ∷ more) ++ drop (j + 1) zs)
      ≡ x ∷ cond same (more ++ drop 1 zs) (take 1 more ++ take (j - 0 - 1) (drop 1 zs) ++ drop 1 more ++ drop (j + 1) zs)
  go true = refl
  go false = refl

-- A later front makes no insertion cheaper: with the pickup first, where the way from the earlier front is no longer than by way of
-- the later one ..
pub later_front : (rates : Rates) (p : Plan) (front front' : Front) (r : Request) (j direct x x' : ℕ) (more : List ℕ) → IsLaterFront p front front' → front.time + x ≤ front'.time + x' → front.offset + x ≤ front'.offset + x'
    → (price' : Price) → priced rates p front' r (first_at j) direct (x' ∷ more) ≡ Some price' → (price : Price) × (priced rates p front r (first_at j) direct (x ∷ more) ≡ Some price) × (price.cost ≤ price'.cost)
later_front rates p front front' r j direct x x' more later time offset price' h =
    let halts = later_halt rates.stop p front front' later in
    let zs = map length_of p.legs in
    cheaper rates p front front' r (first_at j) direct (x ∷ more) (x' ∷ more) x x' (behind_first j zs more) (behind_first j zs more) (first_leg j x zs more) (first_leg j x' zs more)
    (record { first = time; halts = λ n. let here = halts.0 n in omega arith; legs = λ k. omega arith }) halts.0 (AreShorter-refl (behind_first j zs more)) offset
    (let old = stop_times_shorter rates.stop (old_course p front' (first_at j)) (old_course p front (first_at j)) refl halts.1 (length p.stops) in omega arith)
    price' h

-- .. and with the pickup behind a stop the price doesn't hang on the front
pub no_front : (rates : Rates) (p : Plan) (front front' : Front) (r : Request) (at : Insertion) (direct : ℕ) (lengths : List ℕ) → 0 < at.i → priced rates p front r at direct lengths ≡ priced rates p front' r at direct lengths
no_front rates p front front' r at direct lengths l = let e : (at.i == 0) ≡ false = ne_eqb at.i 0 (λ k. omega arith) in rw e refl

-- an older stop has its node whatever the front
node_same : (front front' : Front) (stops : List Stop) (k : ℕ) → 1 ≤ k → k ≤ length stops → node_at front stops k ≡ node_at front' stops k
node_same front front' stops k l m =
    let e : (k == 0) ≡ false = ne_eqb k 0 (λ z. omega arith) in
    let there = slice_get-get_or stops (k - 1) no_stop (omega arith) in
    rw (e, there) refl

-- the ends of the changed legs behind the one into the pickup
abbrev ends_behind : List Stop → Front → Request → Insertion → Bool → Bool → List (NodeNo × NodeNo)
ends_behind stops front r at same more =
    cond same ((r.pickup, r.dropoff) ∷ []) ((r.pickup, node_at front stops (at.i + 1)) ∷ (node_at front stops at.j, r.dropoff) ∷ [])
    ++ cond more ((r.dropoff, node_at front stops (at.j + 1)) ∷ []) []

behind_same : (stops : List Stop) (front front' : Front) (r : Request) (at : Insertion) → at.i ≤ at.j → at.j ≤ length stops
    → ends_behind stops front r at (at.i == at.j) (nat_lt at.j (length stops)) ≡ ends_behind stops front' r at (at.i == at.j) (nat_lt at.j (length stops))
behind_same stops front front' r at order within = go (at.i == at.j) (nat_lt at.j (length stops)) (eqb-false at.i at.j) (ltb-true at.j (length stops)) where
  go : (same more : Bool) → (same ≡ false → at.i ≡ at.j → ⊥) → (more ≡ true → at.j < length stops) → ends_behind stops front r at same more ≡ ends_behind stops front' r at same more
  go true true f g = let b = g refl in let k = node_same front front' stops (at.j + 1) (omega arith) (omega arith) in rw k refl
  go true false f g = refl
  go false true f g =
      let a = f refl in let b = g refl in
      let h = node_same front front' stops (at.i + 1) (omega arith) (omega arith) in
      let i = node_same front front' stops at.j (omega arith) within in
      let k = node_same front front' stops (at.j + 1) (omega arith) (omega arith) in rw (h, i, k) refl
  go false false f g =
      let a = f refl in
      let h = node_same front front' stops (at.i + 1) (omega arith) (omega arith) in
      let i = node_same front front' stops at.j (omega arith) within in rw (h, i) refl

later_price_at : (g : Roads) (rates : Rates) (p : Plan) (r : Request) (i j : ℕ) (front front' : Front) (price' : Price) → IsLaterFront p front front' → IsNoFurther g front front'
    → HasPrice g rates front' p r (record { i = i; j = j }) price' → (price : Price) × HasPrice g rates front p r (record { i = i; j = j }) price × (price.cost ≤ price'.cost)
later_price_at g rates p r zero j front front' price' later further h = first h.lengths h.changed_legs h.priced_so where
  first : (lengths : List ℕ) → AreDistances g (changed_ends p.stops front' r (first_at j)) lengths → priced rates p front' r (first_at j) h.direct lengths ≡ Some price'
      → (price : Price) × HasPrice g rates front p r (first_at j) price × (price.cost ≤ price'.cost)
  first [] ways so = absurd ways
  first (x' ∷ more) ways so =
      let way = further.reaches r.pickup x' ways.0 in
      let parts = priced_parts rates p front' r (first_at j) h.direct (x' ∷ more) price' so in
      let places = feasible_places rates p front' r (first_at j) (x' ∷ more) parts.0 in
      let less = later_front rates p front front' r j h.direct way.0 x' more later way.2 way.3 price' so in (
        less.0,
        record {
          direct = h.direct;
          lengths = way.0 ∷ more;
          direct_way = h.direct_way;
          changed_legs = (way.1, subst (λ (ends : List (NodeNo × NodeNo)). AreDistances g ends more) (behind_same p.stops front' front r (first_at j) places.0 places.1) ways.1);
          priced_so = less.1;
        },
        less.2,
      )
later_price_at g rates p r (suc i) j front front' price' later further h =
    let at : Insertion = record { i = suc i; j = j } in
    let parts = priced_parts rates p front' r at h.direct h.lengths price' h.priced_so in
    let places = feasible_places rates p front' r at h.lengths parts.0 in
    let here = node_same front' front p.stops (suc i) (omega arith) (omega (arith, places)) in
    let rest = behind_same p.stops front' front r at places.0 places.1 in (
      price',
      record {
        direct = h.direct;
        lengths = h.lengths;
        direct_way = h.direct_way;
        changed_legs = subst (λ (n : NodeNo). AreDistances g ((n, r.pickup) ∷ ends_behind p.stops front r at (at.i == at.j) (nat_lt at.j (length p.stops))) h.lengths) here
            (subst (λ (ends : List (NodeNo × NodeNo)). AreDistances g ((node_at front' p.stops (suc i), r.pickup) ∷ ends) h.lengths) rest h.changed_legs);
        priced_so = no_front rates p front front' r at h.direct h.lengths (omega arith) ∙ h.priced_so;
      },
      omega arith,
    )

-- A later front of an unchanged schedule makes no insertion cheaper, and what was infeasible stays so.
pub later_price : (g : Roads) (rates : Rates) (p : Plan) (r : Request) (at : Insertion) (front front' : Front) (price' : Price) → IsLaterFront p front front' → IsNoFurther g front front'
    → HasPrice g rates front' p r at price' → (price : Price) × HasPrice g rates front p r at price × (price.cost ≤ price'.cost)
later_price g rates p r at front front' price' later further h = later_price_at g rates p r at.i at.j front front' price' later further h

-- The law of later fronts: the vehicle is on its first leg, or has no stop.
pub later_fronts : LaterFrontsAreNoCheaper
later_fronts g lawful rates p r now later many walks order soon = go p.stops p.legs refl refl where
  fronts : IsLaterFront p (front_of p now) (front_of p later) × IsNoFurther g (front_of p now) (front_of p later) → IsNoCheaper g rates r p (front_of p now) (front_of p later)
  fronts both at dear h = later_price g rates p r at (front_of p now) (front_of p later) dear both.0 both.1 h

  go : (stops : List Stop) (legs : List Path) → p.stops ≡ stops → p.legs ≡ legs → IsNoCheaper g rates r p (front_of p now) (front_of p later)
  go [] [] e f = fronts (later_at_rest g (triangle g lawful) (has_distance g lawful) p now later f e order)
  go [] (leg ∷ legs) e f = let n = sym (ap length f) ∙ many ∙ ap length e in absurd (omega arith)
  go (s ∷ stops) [] e f = let n = sym (ap length f) ∙ many ∙ ap length e in absurd (omega arith)
  go (s ∷ stops) (leg ∷ legs) e f =
      let first : slice_get p.stops 0 ≡ Some s = ap (λ (xs : List Stop). slice_get xs 0) e in
      let way : slice_get p.legs 0 ≡ Some leg = ap (λ (xs : List Path). slice_get xs 0) f in
      let least = subst (λ (n : NodeNo). IsLeastWalk g p.place n leg) (ap (node_or p.place) first) (walks 0 leg way) in
      let long : slice_index (map length_of p.legs) 0 ≡ length_of leg = ap (λ (xs : List Path). slice_index (map length_of xs) 0) f in
      let some = ap length e in
      let ahead = soon (omega arith) in
      fronts (later_on_leg g (triangle g lawful) (has_distance g lawful) p s leg legs now later f first least order (omega arith))

-- Where the list starts from the front, the detour is that of both lists from there.
pub detour_from_front : (rates : Rates) (p : Plan) (front : Front) (at : Insertion) (new : Course) → at.i ≡ 0 → front.offset ≤ sum (map length_of p.legs)
    → detour rates p front at new ≡ busy_time rates.stop new - (sum (map length_of p.legs) - front.offset + stop_times rates.stop (course_of (from_front front p)) (length p.stops))
detour_from_front rates p front at new e l = rw e (omega arith)

-- Where it starts from the place, it is so too, since both lists have the same first leg and the same first stop.
pub detour_from_place : (rates : Rates) (p : Plan) (front : Front) (at : Insertion) (new : Course) → 0 < at.i → front.offset ≤ sum (map length_of p.legs) → front.offset ≤ sum new.lengths
    → detour rates p front at new ≡ sum new.lengths - front.offset + stop_times rates.stop new (length new.stops) - (sum (map length_of p.legs) - front.offset + stop_times rates.stop (course_of p) (length p.stops))
detour_from_place rates p front at new b l m = let e : (at.i == 0) ≡ false = ne_eqb at.i 0 (λ z. omega arith) in rw e (omega arith)
