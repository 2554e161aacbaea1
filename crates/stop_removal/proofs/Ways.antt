use Rattle.std.proofs.Common.{◌≡◌, ℕ, zero, suc, ◌+◌, ◌<◌, List, [], ◌∷◌, ◌++◌, take, drop, length, map, refl, ap, arith}
use Rattle.std.specs.Prelude.{slice_get, slice_index}
use Rattle.road_graph.specs.declared.road.NodeNo.{NodeNo}
use Rattle.road_graph.specs.Paths.{Path, length_of}
use Rattle.road_graph.specs.Roads.{Roads}
use Rattle.stop_schedule.specs.declared.stop.Stop.{Stop}
use Rattle.stop_schedule.proofs.ListLaws.{split}
use Rattle.stop_schedule.specs.Distances.{AreLeastWalks}
use Rattle.stop_removal.specs.Removals.{leg_to}

-- the lengths of legs
abbrev pub ways : List Path → List ℕ
ways legs = map length_of legs

-- a joined leg for a next one, and none where there is none
abbrev pub AreOneFor : List Path → List Path → Type 0
AreOneFor [] walks = walks ≡ []
AreOneFor (leg ∷ legs) [] = ⊥
AreOneFor (leg ∷ legs) (w ∷ walks) = walks ≡ []

-- where a leg follows each stop
pub one_for : (g : Roads) (from : NodeNo) (stops : List Stop) (legs walks : List Path) (k : ℕ) → length legs ≡ length stops → AreLeastWalks g (leg_to from (slice_get stops k)) walks → AreOneFor (drop k legs) walks
one_for g from [] [] walks zero e w = w
one_for g from [] [] walks (suc k) e w = w
one_for g from [] (l ∷ legs) walks k e w = absurd (omega arith)
one_for g from (s ∷ stops) [] walks k e w = absurd (omega arith)
one_for g from (s ∷ stops) (l ∷ legs) [] zero e w = absurd w
one_for g from (s ∷ stops) (l ∷ legs) (v ∷ walks) zero e w = w.1
one_for g from (s ∷ stops) (l ∷ legs) walks (suc k) e w = one_for g from stops legs walks k (omega arith) w

-- the old lengths are those of the joined legs, with each split again
pub ways_over_one : (legs : List Path) (n : ℕ) (walks : List Path) → n < length legs → AreOneFor (drop (suc n) legs) walks
    → ways legs ≡ split n (slice_index (ways legs) n) (slice_index (ways legs) (suc n)) (ways (take n legs ++ walks ++ drop (suc (suc n)) legs))
ways_over_one [] n walks l w = absurd (omega arith)
ways_over_one (x ∷ []) zero walks l w = rw w refl
ways_over_one (x ∷ y ∷ legs) zero [] l w = absurd w
ways_over_one (x ∷ y ∷ legs) zero (v ∷ walks) l w = rw w refl
ways_over_one (x ∷ legs) (suc n) walks l w = ap (λ (zs : List ℕ). length_of x ∷ zs) (ways_over_one legs n walks (omega arith) w)

pub ways_over_both : (legs : List Path) (i : ℕ) (walks : List Path) (u : ℕ) → suc i < length legs → AreOneFor (drop (suc (suc i)) legs) walks
    → ways legs ≡ split i (slice_index (ways legs) i) (slice_index (ways legs) (suc i)) (split i u (slice_index (ways legs) (suc (suc i))) (ways (take i legs ++ walks ++ drop (suc (suc (suc i))) legs)))
ways_over_both [] i walks u l w = absurd (omega arith)
ways_over_both (x ∷ []) zero walks u l w = absurd (omega arith)
ways_over_both (x ∷ y ∷ []) zero walks u l w = rw w refl
ways_over_both (x ∷ y ∷ z ∷ legs) zero [] u l w = absurd w
ways_over_both (x ∷ y ∷ z ∷ legs) zero (v ∷ walks) u l w = rw w refl
ways_over_both (x ∷ legs) (suc i) walks u l w = ap (λ (zs : List ℕ). length_of x ∷ zs) (ways_over_both legs i walks u (omega arith) w)

pub ways_over_each : (legs : List Path) (i n j : ℕ) (v : Path) (walks : List Path) → j ≡ i + suc n → suc j < length legs → AreOneFor (drop (suc (suc j)) legs) walks
    → ways legs ≡ split i (slice_index (ways legs) i) (slice_index (ways legs) (suc i))
    (split j (slice_index (ways legs) (suc j)) (slice_index (ways legs) (suc (suc j)))
    (ways (take i legs ++ v ∷ [] ++ take n (drop (suc (suc i)) legs) ++ walks ++ drop (suc (suc (suc j))) legs)))
ways_over_each [] i n j v walks e l w = absurd (omega arith)
ways_over_each (x ∷ legs) i n zero v walks e l w = absurd (omega arith)
ways_over_each (x ∷ []) zero n (suc j) v walks e l w = absurd (omega arith)
ways_over_each (x ∷ y ∷ legs) zero n (suc j) v walks e l w =
    let same : n ≡ j = omega arith in
    rw same (ap (λ (zs : List ℕ). length_of x ∷ length_of y ∷ zs) (ways_over_one legs j walks (omega arith) w))
ways_over_each (x ∷ legs) (suc i) n (suc j) v walks e l w = ap (λ (zs : List ℕ). length_of x ∷ zs) (ways_over_each legs i n j v walks (omega arith) (omega arith) w)
