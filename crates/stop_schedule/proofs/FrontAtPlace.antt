use Rattle.std.proofs.Common.{◌≡◌, ℕ, ◌+◌, ◌≤◌, List, [], ◌∷◌, Some, Bool, true, false, cond, refl, ap, ◌∙◌, arith, max}
use Rattle.std.specs.Prelude.{nat_le, nat_lt, slice_get, slice_index}
use Rattle.std.proofs.lemmas.Bool.Decides.{nat_tests}
use Rattle.road_graph.specs.declared.road.NodeNo.{NodeNo}
use Rattle.road_graph.specs.Paths.{Path}
use Rattle.road_graph.specs.Walks.{Joins}
use Rattle.stop_schedule.specs.declared.stop.Front.{Front}
use Rattle.stop_schedule.specs.Fronts.{first_reached, front_on, front_of}
use Rattle.stop_schedule.specs.Plans.{Plan}

reached : (now departure o : ℕ) → now ≤ departure → nat_le now (departure + o) ≡ true
reached now departure o le = grind (arith, nat_tests)

-- a vehicle that hasn't left by now is at the first node of its leg
first_is_place : (place last : NodeNo) (departure now : ℕ) (nodes : List NodeNo) (offsets : List ℕ) → now ≤ departure → slice_index offsets 0 ≡ 0 → Joins place last nodes
    → first_reached place departure now nodes offsets ≡ record { node = place; time = departure; offset = 0 }
first_is_place place last departure now [] offsets le zero_first joins = refl
first_is_place place last departure now (n ∷ nodes) [] le zero_first joins = refl
first_is_place place last departure now (n ∷ nodes) (o ∷ offsets) le zero_first joins =
    ap {B = Front} (λ (b : Bool). cond b (record { node = n; time = departure + o; offset = o }) (first_reached place departure now nodes offsets)) (reached now departure o le)
    ∙ ap {B = Front} (λ (m : NodeNo). record { node = m; time = departure + o; offset = o }) joins.0
    ∙ ap {B = Front} (λ (x : ℕ). record { node = place; time = departure + x; offset = x }) zero_first
    ∙ ap {B = Front} (λ (x : ℕ). record { node = place; time = x; offset = 0 }) (let e : departure + 0 ≡ departure = omega arith in e)

waits_on : (place last : NodeNo) (departure now : ℕ) (legs : List Path) → now ≤ departure
    → ((leg : Path) → slice_get legs 0 ≡ Some leg → (slice_index leg.offsets 0 ≡ 0) × Joins place last leg.nodes)
    → front_on place departure now legs ≡ record { node = place; time = departure; offset = 0 }
waits_on place last departure now [] le first = ap {B = Front} (λ (x : ℕ). record { node = place; time = x; offset = 0 }) (let e : max departure now ≡ departure = omega arith in e)
waits_on place last departure now (leg ∷ legs) le first = go (nat_lt now departure) where
  go : (b : Bool) → cond b (record { node = place; time = departure; offset = 0 }) (first_reached place departure now leg.nodes leg.offsets) ≡ record { node = place; time = departure; offset = 0 }
  go true = refl
  go false = first_is_place place last departure now leg.nodes leg.offsets le (first leg refl).0 (first leg refl).1

-- Until it leaves its place a vehicle turns from there: at the clock 0, from which every departure is counted, always. Its first
-- leg, where it has one, starts at the place with the offset 0.
pub front_at_place : (p : Plan) (last : NodeNo) (now : ℕ) → now ≤ p.departure
    → ((leg : Path) → slice_get p.legs 0 ≡ Some leg → (slice_index leg.offsets 0 ≡ 0) × Joins p.place last leg.nodes)
    → front_of p now ≡ record { node = p.place; time = p.departure; offset = 0 }
front_at_place p last now le first = waits_on p.place last p.departure now p.legs le first
