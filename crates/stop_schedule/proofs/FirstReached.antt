use Rattle.std.proofs.Common.{◌≡◌, ℕ, zero, suc, ◌+◌, ◌-◌, ◌<◌, ◌≤◌, true, false, List, [], ◌∷◌, length, Some, refl, ap, arith, ⊎_elim}
use Rattle.std.specs.Prelude.{slice_get, slice_index, nat_le}
use Rattle.std.proofs.lemmas.Bool.{le-leb, lt-leb, cases_lt}
use Rattle.std.proofs.lemmas.Option.{none-some, same_Some}
use Rattle.road_graph.specs.declared.road.NodeNo.{NodeNo}
use Rattle.road_graph.specs.Paths.{Path, length_of, IsPath}
use Rattle.stop_schedule.specs.Fronts.{first_reached}

-- offsets never fall
pub rises : (w : Path) → IsPath w → (i j : ℕ) → i ≤ j → j < length w.offsets → slice_index w.offsets i ≤ slice_index w.offsets j
rises w h i zero l m = let same : i ≡ 0 = omega arith in rw same (omega arith)
rises w h i (suc j) l m =
    ⊎_elim
    (λ (before : i < suc j). let more = rises w h i j (omega arith) (omega arith) in let step = h.rising j (omega arith) in (let e : slice_index w.offsets (j + 1) ≡ slice_index w.offsets (suc j) = ap (slice_index w.offsets) (let a : j + 1 ≡ suc j = omega arith in a) in omega arith))
    (λ (last : suc j ≤ i). let same : i ≡ suc j = omega arith in rw same (omega arith))
    (cases_lt i (suc j))

-- none is past the length
pub at_most_length : (w : Path) → IsPath w → (i : ℕ) → i < length w.nodes → slice_index w.offsets i ≤ length_of w
at_most_length w h i l = let many = h.many in rises w h i (length w.offsets - 1) (omega arith) (omega arith)

-- the first node that is reached in time is the front, where none before it is
pub first_is : (start : NodeNo) (departure now : ℕ) (nodes : List NodeNo) (offsets : List ℕ) (k o : ℕ) (n : NodeNo) → slice_get nodes k ≡ Some n → k < length offsets → slice_index offsets k ≡ o → now ≤ departure + o
    → ((j : ℕ) → j < k → departure + slice_index offsets j < now) → first_reached start departure now nodes offsets ≡ record { node = n; time = departure + o; offset = o }
first_is start departure now [] offsets k o n there many is late before = absurd (none-some n there)
first_is start departure now (m ∷ nodes) [] k o n there many is late before = absurd (omega arith)
first_is start departure now (m ∷ nodes) (q ∷ offsets) zero o n there many is late before =
    let e : nat_le now (departure + q) ≡ true = le-leb now (departure + q) (omega arith) in
    rw (e, same_Some m n there, is) refl
first_is start departure now (m ∷ nodes) (q ∷ offsets) (suc k) o n there many is late before =
    let sooner = before 0 (omega arith) in
    let e : nat_le now (departure + q) ≡ false = lt-leb now (departure + q) (omega arith) in
    rw e (first_is start departure now nodes offsets k o n there (omega arith) is late (λ j l. before (suc j) (omega arith)))
