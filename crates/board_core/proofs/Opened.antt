use Rattle.std.proofs.Common.{◌≡◌, ℕ, zero, suc, ◌+◌, ◌<◌, ◌≤◌, ◌⊎◌, inl, inr, List, [], ◌∷◌, map, length, get_or, Some, sym, refl, ap, ◌∙◌, arith}
use Rattle.std.specs.Prelude.{slice_get, slice_set}
use Rattle.std.proofs.lemmas.Bool.{cases_eq, cases_lt}
use Rattle.std.proofs.lemmas.List.{length-map}
use Rattle.std.proofs.lemmas.Option.{same_Some, slice_get-get_or}
use Rattle.stop_schedule.specs.declared.vehicle.Vehicle.{Vehicle}
use Rattle.stop_schedule.specs.Fleets.{Car}
use Rattle.board_core.specs.Boards.{opening_car}
use Rattle.board_core.proofs.Lookups.{map_at, set_here, set_other}

-- the first vehicles stand in their places as they open
abbrev pub IsOpenedTo : List Vehicle → List Car → ℕ → Type 0
IsOpenedTo vehicles cars i = (length cars ≡ length vehicles) × ((k : ℕ) → k < i → slice_get cars k ≡ slice_get (map opening_car vehicles) k)

there : {X : Type 0} (xs : List X) (k : ℕ) → k < length xs → (x : X) × (slice_get xs k ≡ Some x)
there [] k h = absurd (omega arith)
there (x ∷ xs) zero h = (x, refl)
there (x ∷ xs) (suc k) h = there xs k (omega arith)

pub set_length : {X : Type 0} (xs : List X) (i : ℕ) (y : X) → length (slice_set xs i y) ≡ length xs
set_length [] i y = refl
set_length (x ∷ xs) zero y = refl
set_length (x ∷ xs) (suc i) y = ap (λ (n : ℕ). suc n) (set_length xs i y)

-- one vehicle more
pub opened_more : (vehicles : List Vehicle) (cars : List Car) (i : ℕ) (d : Vehicle) (car : Car) → IsOpenedTo vehicles cars i → i < length vehicles → car ≡ opening_car (get_or vehicles i d)
    → IsOpenedTo vehicles (slice_set cars i car) (i + 1)
opened_more vehicles cars i d car h l made = (set_length cars i car ∙ h.0, λ k b. on k b (cases_eq k i))
  where
    stood : (c : Car) × (slice_get cars i ≡ Some c)
    stood = there cars i (let e = h.0 in omega arith)

    on : (k : ℕ) → k < i + 1 → (k ≡ i) ⊎ (k ≡ i → ⊥) → slice_get (slice_set cars i car) k ≡ slice_get (map opening_car vehicles) k
    on k b (inl e) = ap (slice_get (slice_set cars i car)) e ∙ set_here cars i stood.0 car stood.1 ∙ ap (λ (c : Car). Some c) made ∙ sym (map_at opening_car vehicles i (get_or vehicles i d) (slice_get-get_or vehicles i d l)) ∙ ap (slice_get (map opening_car vehicles)) (sym e)
    on k b (inr n) = set_other cars i k car n ∙ h.1 k (below k b n)
      where
        below : (k : ℕ) → k < i + 1 → (k ≡ i → ⊥) → k < i
        below k b d = by (cases_lt k i)
          where
            by : (k < i) ⊎ (i ≤ k) → k < i
            by (inl x) = x
            by (inr x) = absurd (d (omega arith))

same_lists : (xs ys : List Car) → length xs ≡ length ys → ((k : ℕ) → k < length xs → slice_get xs k ≡ slice_get ys k) → xs ≡ ys
same_lists [] [] e h = refl
same_lists [] (y ∷ ys) e h = absurd (omega arith)
same_lists (x ∷ xs) [] e h = absurd (omega arith)
same_lists (x ∷ xs) (y ∷ ys) e h = let a : x ≡ y = same_Some _ _ (h 0 (omega arith)) in let b = same_lists xs ys (omega arith) (λ k l. h (suc k) (omega arith)) in cc

-- all vehicles
pub opened_all : (vehicles : List Vehicle) (cars : List Car) (i : ℕ) → IsOpenedTo vehicles cars i → i ≡ length vehicles → cars ≡ map opening_car vehicles
opened_all vehicles cars i h e = same_lists cars (map opening_car vehicles) (h.0 ∙ sym (length-map vehicles opening_car)) (λ k l. h.1 k (let x = h.0 in omega arith))
