use Rattle.std.proofs.Common.{◌≡◌, ℕ, zero, suc, ◌+◌, ◌-◌, ◌<◌, ◌≤◌, ◌==◌, ◌&&◌, nat_le, Bool, true, false, cond, List, [], ◌∷◌, ◌++◌, map, length, Option, Some, None, refl, sym, ap, ◌∙◌, arith, subst, ⊎_elim}
use Rattle.std.specs.Prelude.{slice_get, slice_index, nat_lt, option_map}
use Rattle.std.proofs.lemmas.Bool.{and_parts, ne_eqb, eqb-true, eqb-false, ltb-true, ltb-false, leb-true, cases_eq, cases_lt}
use Rattle.std.proofs.lemmas.List.{length-map}
use Rattle.std.proofs.lemmas.Option.{slice_get-get_or, slice_get-map, get_or_from_slice_get}
use Rattle.road_graph.specs.declared.road.NodeNo.{NodeNo}
use Rattle.road_graph.specs.Paths.{Path, length_of}
use Rattle.road_graph.specs.Roads.{Roads}
use Rattle.road_graph.specs.Walks.{IsDist}
use Rattle.road_graph.proofs.WalkLaws.{triangle, has_distance}
use Rattle.stop_schedule.specs.declared.request.Request.{Request}
use Rattle.stop_schedule.specs.declared.stop.Front.{Front}
use Rattle.stop_schedule.specs.declared.stop.Insertion.{Insertion}
use Rattle.stop_schedule.specs.Distances.{AreDistances}
use Rattle.stop_schedule.specs.Fronts.{front_of}
use Rattle.stop_schedule.specs.Keeping.{keeps, keeps_along, is_feasible, HasLeastWalks}
use Rattle.stop_schedule.specs.Lists.{with_legs, node_at, node_or, changed_ends, started, new_course}
use Rattle.stop_schedule.specs.Plans.{Plan, course_of}
use Rattle.stop_schedule.specs.Rates.{Rates}
use Rattle.stop_schedule.proofs.FrontLaws.{on_first_leg}
use Rattle.stop_schedule.proofs.ListLaws.{split, behind_split, shape_together, shape_apart, split_before, split_same, no_stop}
use Rattle.leeway.specs.Ellipses.{stop_node, IsInEllipse, FeasibleOnesLieInEllipses}
use Rattle.leeway.specs.Leeways.{slack}
use Rattle.leeway.proofs.OverNumbers.{AreDetours, pickup_within, dropoff_within}

-- where the front of a schedule with a stop is on its first leg
pub record IsOnLeg (g : Roads) (p : Plan) (f : Front) : Type 0 where
  pub place : f.time ≡ p.departure → f.node ≡ p.place
  pub driven : ℕ
  pub way : IsDist g p.place f.node driven
  pub short : driven ≤ f.offset
  pub time : f.time ≡ p.departure + f.offset

behind_there : (n v : ℕ) (zs : List ℕ) → n < length zs → behind_split n v zs ≡ v ∷ []
behind_there n v [] l = absurd (omega arith)
behind_there zero v (z ∷ zs) l = refl
behind_there (suc n) v (z ∷ zs) l = behind_there n v zs (omega arith)

behind_last : (n v : ℕ) (zs : List ℕ) → length zs ≤ n → behind_split n v zs ≡ []
behind_last zero v [] l = refl
behind_last (suc n) v [] l = refl
behind_last zero v (z ∷ zs) l = absurd (omega arith)
behind_last (suc n) v (z ∷ zs) l = behind_last n v zs (omega arith)

node_from_front : (p : Plan) (f : Front) (k : ℕ) → 1 ≤ k → k ≤ length p.stops → node_at f p.stops k ≡ stop_node p k
node_from_front p f k l m =
    let e : (k == 0) ≡ false = ne_eqb k 0 (λ z. omega arith) in
    let there = slice_get-get_or p.stops (k - 1) no_stop (omega arith) in
    rw (e, there) refl

node_next : (p : Plan) (k : ℕ) → node_or p.place (slice_get p.stops k) ≡ stop_node p (k + 1)
node_next p k = let e : (k + 1 == 0) ≡ false = ne_eqb (k + 1) 0 (λ z. omega arith) in let m : k + 1 - 1 ≡ k = omega arith in rw (e, m) refl

module _ (g : Roads) (tri : (u v w : NodeNo) (x y : ℕ) → IsDist g u v x → IsDist g v w y → (z : ℕ) × IsDist g u w z × (z ≤ x + y)) (rates : Rates) (p : Plan) (f : Front) (r : Request) (at : Insertion)
    (many : length p.legs ≡ length p.stops) (walks : HasLeastWalks g p) (on : IsOnLeg g p f) (kept : keeps rates p ≡ true) (order : at.i ≤ at.j) (within : at.j ≤ length p.stops) (inside : at.i < length p.stops)
  where
    abbrev zs : List ℕ
    zs = map length_of p.legs

    -- each leg's length is the distance of its two places
    leg_dist : (k : ℕ) → k < length p.stops → IsDist g (stop_node p k) (stop_node p (k + 1)) (slice_index zs k)
    leg_dist k l = go (slice_get p.legs k) refl where
      go : (o : Option Path) → slice_get p.legs k ≡ o → IsDist g (stop_node p k) (stop_node p (k + 1)) (slice_index zs k)
      go None e = let there = slice_get-get_or p.legs k (record { nodes = []; offsets = [] }) (omega arith) in let bad = sym e ∙ there in cc
      go (Some leg) e =
          let long : slice_index zs k ≡ length_of leg = get_or_from_slice_get zs k (length_of leg) 0 (slice_get-map length_of p.legs k ∙ ap (option_map length_of) e) in
          subst (λ (n : NodeNo). IsDist g (stop_node p k) n (slice_index zs k)) (node_next p k) (rw long (walks k leg e).least)

    -- from the old place into the pickup
    into : (x : ℕ) → IsDist g (node_at f p.stops at.i) r.pickup x → (x0 : ℕ) × IsDist g (stop_node p at.i) r.pickup x0 × (0 < at.i → x0 ≤ x) × (at.i ≡ 0 → p.departure + x0 ≤ (started at f p).departure + x)
    into x d = ⊎_elim first later (cases_eq at.i 0) where
      first : at.i ≡ 0 → (x0 : ℕ) × IsDist g (stop_node p at.i) r.pickup x0 × (0 < at.i → x0 ≤ x) × (at.i ≡ 0 → p.departure + x0 ≤ (started at f p).departure + x)
      first e =
          let all = tri p.place f.node r.pickup on.driven x on.way (rw e at d) in
          let a = all.2 in let b = on.short in let c = on.time in
          (all.0, rw e all.1, λ l. absurd (omega arith), λ _. rw e (omega arith))

      later : (at.i ≡ 0 → ⊥) → (x0 : ℕ) × IsDist g (stop_node p at.i) r.pickup x0 × (0 < at.i → x0 ≤ x) × (at.i ≡ 0 → p.departure + x0 ≤ (started at f p).departure + x)
      later n = (x, subst (λ (m : NodeNo). IsDist g m r.pickup x) (node_from_front p f at.i (omega arith) (omega arith)) d, λ _. omega arith, λ e. absurd (n e))

    shorter : (a b : NodeNo) (x y : ℕ) → IsDist g a b x → IsDist g a b y → x ≤ y
    shorter a b x y d e = d.least e.reached.0 y e.reached.1

    zs_many : length zs ≡ length p.stops
    zs_many = length-map p.legs length_of ∙ many

    start_late : at.i ≡ 0 → p.departure ≤ (started at f p).departure
    start_late e = let t = on.time in rw e (omega arith)

    next_node : (k : ℕ) → k < length p.stops → node_at f p.stops (k + 1) ≡ stop_node p (k + 1)
    next_node k l = node_from_front p f (k + 1) (omega arith) (omega arith)

    abbrev Lies : Type 0
    Lies = (x : ℕ) × (y : ℕ) × IsDist g (stop_node p at.i) r.pickup x × IsDist g r.pickup (stop_node p (at.i + 1)) y × (x + y ≤ slack rates.stop p.until (course_of p) at.i)

    abbrev LiesToo : Type 0
    LiesToo = (x : ℕ) × (y : ℕ) × IsDist g (stop_node p at.j) r.dropoff x × IsDist g r.dropoff (stop_node p (at.j + 1)) y × (x + y ≤ slack rates.stop p.until (course_of p) at.j)

    -- both stops on one leg
    lies_together : (x y v : ℕ) (rest : List ℕ) → at.i ≡ at.j → at.j < length p.stops → IsDist g (node_at f p.stops at.i) r.pickup x → IsDist g r.pickup r.dropoff y → IsDist g r.dropoff (node_at f p.stops (at.j + 1)) v → rest ≡ []
        → is_feasible rates p f r at (x ∷ y ∷ v ∷ rest) ≡ true → Lies × (at.j < length p.stops → LiesToo)
    lies_together x y v rest e l dx dy dv none feasible =
        let near = into x dx in
        let next = rw (next_node at.j l) at dv in
        let out = tri r.pickup r.dropoff (stop_node p (at.i + 1)) y v dy (rw e next) in
        let short = out.2 in
        let drop = tri (stop_node p at.i) r.pickup r.dropoff near.0 y near.1 dy in
        let u = drop.0 in
        let less = drop.2 in
        let fits : (x ∷ y ∷ v ∷ rest) ≡ (x ∷ y ∷ behind_split at.j v zs) = rw (none, behind_there at.j v zs (omega (arith, zs_many))) refl in
        let shape : with_legs zs at (x ∷ y ∷ v ∷ rest) ≡ split at.i x y (split at.j u v zs) = ap (with_legs zs at) fits ∙ shape_together zs at x y u v e (omega (arith, zs_many)) in
        let there : slice_index (split at.j u v zs) at.j ≡ u = split_same at.j u v zs (omega (arith, zs_many)) in
        let ways : AreDetours at.i at.j (length p.stops) p.departure (started at f p).departure near.0 x y u v out.0 zs = record {
          into = near.2;
          into_first = near.3;
          out = λ b. absurd (omega arith);
          out_same = λ _ _. short;
          leg = λ b _. absurd (omega arith);
          before = λ b. let l = near.2 b in let same : slice_index (split at.j u v zs) at.i ≡ u = ap (slice_index (split at.j u v zs)) e ∙ there in omega arith;
          before_first = λ z. let l = near.3 z in let same : slice_index (split at.j u v zs) 0 ≡ u = ap (slice_index (split at.j u v zs)) (sym z ∙ e) ∙ there in omega arith;
        } in
        let from : IsDist g (stop_node p at.j) r.dropoff u = subst (λ (k : ℕ). IsDist g (stop_node p k) r.dropoff u) e drop.1 in (
          (near.0, out.0, near.1, out.1, pickup_within rates p f r at (x ∷ y ∷ v ∷ rest) near.0 x y u v out.0 many on.place feasible shape kept ways inside),
          λ _. (u, v, from, next, dropoff_within rates p f r at (x ∷ y ∷ v ∷ rest) near.0 x y u v out.0 many on.place feasible shape kept ways l),
        )

    -- the dropoff on a later leg, or at the end
    lies_apart : (x y u v : ℕ) (lengths : List ℕ) → at.i < at.j → IsDist g (node_at f p.stops at.i) r.pickup x → IsDist g r.pickup (node_at f p.stops (at.i + 1)) y → lengths ≡ x ∷ y ∷ u ∷ behind_split at.j v zs
        → IsDist g (stop_node p at.j) r.dropoff u → (at.j < length p.stops → IsDist g r.dropoff (stop_node p (at.j + 1)) v)
        → (at.j < length p.stops → slice_index zs at.j ≤ u + v) → is_feasible rates p f r at lengths ≡ true → Lies × (at.j < length p.stops → LiesToo)
    lies_apart x y u v lengths lt dx dy fits du dv far feasible =
        let near = into x dx in
        let out = rw (next_node at.i inside) at dy in
        let over = tri (stop_node p at.i) r.pickup (stop_node p (at.i + 1)) near.0 y near.1 out in
        let short = over.2 in
        let leg = shorter (stop_node p at.i) (stop_node p (at.i + 1)) (slice_index zs at.i) over.0 (leg_dist at.i inside) over.1 in
        let shape : with_legs zs at lengths ≡ split at.i x y (split at.j u v zs) = ap (with_legs zs at) fits ∙ shape_apart zs at x y u v lt (omega (arith, zs_many)) in
        let there : slice_index (split at.j u v zs) at.i ≡ slice_index zs at.i = split_before at.j at.i u v zs lt (omega (arith, zs_many)) in
        let ways : AreDetours at.i at.j (length p.stops) p.departure (started at f p).departure near.0 x y u v y zs = record {
          into = near.2;
          into_first = near.3;
          out = λ _. omega arith;
          out_same = λ e _. absurd (omega arith);
          leg = λ _ b. far b;
          before = λ b. let l = near.2 b in omega arith;
          before_first = λ z. let l = near.3 z in let same : slice_index (split at.j u v zs) 0 ≡ slice_index zs at.i = ap (slice_index (split at.j u v zs)) (sym z) ∙ there in omega arith;
        } in (
          (near.0, y, near.1, out, pickup_within rates p f r at lengths near.0 x y u v y many on.place feasible shape kept ways inside),
          λ l. (u, v, du, dv l, dropoff_within rates p f r at lengths near.0 x y u v y many on.place feasible shape kept ways l),
        )

    -- the old leg of the dropoff is no longer than the way by it
    far_leg : (u v : ℕ) → at.i < at.j → at.j < length p.stops → IsDist g (node_at f p.stops at.j) r.dropoff u → IsDist g r.dropoff (node_at f p.stops (at.j + 1)) v → slice_index zs at.j ≤ u + v
    far_leg u v lt l du dv =
        let over = tri (stop_node p at.j) r.dropoff (stop_node p (at.j + 1)) u v (rw (node_from_front p f at.j (omega arith) within) at du) (rw (next_node at.j l) at dv) in
        let a = over.2 in
        let b = shorter (stop_node p at.j) (stop_node p (at.j + 1)) (slice_index zs at.j) over.0 (leg_dist at.j l) over.1 in
        omega arith

    -- A feasible insertion's pickup lies in the ellipse of leg i, and its dropoff in that of leg j, where a stop follows it.
    pub both_lie : (lengths : List ℕ) → AreDistances g (changed_ends p.stops f r at) lengths → is_feasible rates p f r at lengths ≡ true → Lies × (at.j < length p.stops → LiesToo)
    both_lie lengths ways feasible = go (at.i == at.j) (nat_lt at.j (length p.stops)) (eqb-true at.i at.j) (eqb-false at.i at.j) (ltb-true at.j (length p.stops)) (ltb-false at.j (length p.stops)) lengths ways feasible where
      go : (same more : Bool) → (same ≡ true → at.i ≡ at.j) → (same ≡ false → at.i ≡ at.j → ⊥) → (more ≡ true → at.j < length p.stops) → (more ≡ false → length p.stops ≤ at.j) → (lengths : List ℕ)
          → AreDistances g ((node_at f p.stops at.i, r.pickup) ∷ cond same ((r.pickup, r.dropoff) ∷ []) ((r.pickup, node_at f p.stops (at.i + 1)) ∷ (node_at f p.stops at.j, r.dropoff) ∷ []) ++ cond more ((r.dropoff, node_at f p.stops (at.j + 1)) ∷ []) []) lengths
          → is_feasible rates p f r at lengths ≡ true → Lies × (at.j < length p.stops → LiesToo)
      go true true h n l m (x ∷ y ∷ v ∷ rest) d k = lies_together x y v rest (h refl) (l refl) d.0 d.1.0 d.1.1.0 d.1.1.1 k
      go true true h n l m [] d k = absurd d
      go true true h n l m (x ∷ []) d k = absurd d.1
      go true true h n l m (x ∷ y ∷ []) d k = absurd d.1.1
      go true false h n l m lengths d k = let e = h refl in let b = m refl in absurd (omega arith)
      go false true h n l m (x ∷ y ∷ u ∷ v ∷ rest) d k =
          let lt : at.i < at.j = (let apart = n refl in omega arith) in
          lies_apart x y u v (x ∷ y ∷ u ∷ v ∷ rest) lt d.0 d.1.0 (rw (d.1.1.1.1, behind_there at.j v zs (let b = l refl in omega (arith, zs_many))) refl) (rw (node_from_front p f at.j (omega arith) within) at d.1.1.0) (λ b. rw (next_node at.j b) at d.1.1.1.0) (λ b. far_leg u v lt b d.1.1.0 d.1.1.1.0) k
      go false true h n l m [] d k = absurd d
      go false true h n l m (x ∷ []) d k = absurd d.1
      go false true h n l m (x ∷ y ∷ []) d k = absurd d.1.1
      go false true h n l m (x ∷ y ∷ u ∷ []) d k = absurd d.1.1.1
      go false false h n l m (x ∷ y ∷ u ∷ rest) d k =
          let lt : at.i < at.j = (let apart = n refl in omega arith) in
          let last = m refl in
          lies_apart x y u 0 (x ∷ y ∷ u ∷ rest) lt d.0 d.1.0 (rw (d.1.1.1, behind_last at.j 0 zs (omega (arith, zs_many))) refl) (rw (node_from_front p f at.j (omega arith) within) at d.1.1.0) (λ b. absurd (omega arith)) (λ b. absurd (omega arith)) k
      go false false h n l m [] d k = absurd d
      go false false h n l m (x ∷ []) d k = absurd d.1
      go false false h n l m (x ∷ y ∷ []) d k = absurd d.1.1

abbrev BothLie : Roads → Rates → Plan → Request → Insertion → Type 0
BothLie g rates p r at = (at.i < length p.stops → IsInEllipse g rates p at.i r.pickup) × (at.j < length p.stops → IsInEllipse g rates p at.j r.dropoff)

-- the law: the front is on the first leg, so that the way from the place to the pickup is no longer than that by the front
pub in_ellipses : FeasibleOnesLieInEllipses
in_ellipses g rates p now r at lengths graph proper kept walks ahead ways feasible =
    record { pickup = λ l. both.0 l; dropoff = λ l. both.1 l }
  where
    order : (at.i ≤ at.j) × (at.j ≤ length p.stops)
    order =
        let all = and_parts (nat_le at.i at.j && nat_le at.j (length p.stops)) (keeps_along rates.stop p (new_course p (front_of p now) r at lengths)) feasible in
        let places = and_parts (nat_le at.i at.j) (nat_le at.j (length p.stops)) all.0 in
        (leb-true at.i at.j places.0, leb-true at.j (length p.stops) places.1)

    on_leg : 0 < length p.stops → IsOnLeg g p (front_of p now)
    on_leg some = go p.legs refl where
      go : (legs : List Path) → p.legs ≡ legs → IsOnLeg g p (front_of p now)
      go [] e = let many = proper.as_many_legs in let none : length p.legs ≡ 0 = rw e refl in absurd (omega arith)
      go (leg ∷ legs) e =
          let soon : now ≤ p.departure + length_of leg = rw e at (ahead some) in
          let first = on_first_leg g (triangle g graph) (has_distance g graph) p (node_or p.place (slice_get p.stops 0)) leg legs now e (walks 0 leg (rw e refl)) soon in
          record { place = first.0; driven = first.1.0; way = first.1.1; short = first.1.2; time = first.2 }

    both : BothLie g rates p r at
    both = ⊎_elim inside outside (cases_lt at.i (length p.stops)) where
      inside : at.i < length p.stops → BothLie g rates p r at
      inside l =
          let lie = both_lie g (triangle g graph) rates p (front_of p now) r at proper.as_many_legs walks (on_leg (omega arith)) kept order.0 order.1 l lengths ways feasible in (
            λ _. record { to = lie.0.0; from = lie.0.1; way_to = lie.0.2; way_from = lie.0.3; within = lie.0.4 },
            λ m. let there = lie.1 m in record { to = there.0; from = there.1; way_to = there.2; way_from = there.3; within = there.4 },
          )

      outside : length p.stops ≤ at.i → BothLie g rates p r at
      outside l = (λ m. absurd (omega arith), λ m. let o = order.0 in absurd (omega arith))
