use Rattle.std.proofs.Common.{◌≡◌, ℕ, zero, suc, ◌+◌, ◌-◌, ◌<◌, ◌≤◌, List, [], ◌∷◌, length, drop, ap, ◌∙◌, sym, arith, refl, subst}
use Rattle.std.specs.Prelude.{slice_index, slice_range}
use Rattle.std.proofs.lemmas.List.{length-drop, length-take-le}
use Rattle.upward_search.specs.declared.slope.Arc.{Arc}
use Rattle.upward_search.specs.Rows.{rows_of, row, count_rows, AreBounds}

-- one row fewer than bounds
pub length-rows_of : (bounds : List ℕ) (arcs : List Arc) → 0 < length bounds → suc (length (rows_of bounds arcs)) ≡ length bounds
length-rows_of [] arcs h = absurd (omega arith)
length-rows_of (a ∷ []) arcs h = refl
length-rows_of (a ∷ b ∷ more) arcs h = ap suc (length-rows_of (b ∷ more) arcs (omega arith))

pub row-rows_of : (bounds : List ℕ) (arcs : List Arc) (p : ℕ) → suc p < length bounds → row (rows_of bounds arcs) p ≡ slice_range arcs (slice_index bounds p) (slice_index bounds (suc p))
row-rows_of [] arcs p h = absurd (omega arith)
row-rows_of (a ∷ []) arcs p h = absurd (omega arith)
row-rows_of (a ∷ b ∷ more) arcs zero h = refl
row-rows_of (a ∷ b ∷ more) arcs (suc p) h = row-rows_of (b ∷ more) arcs p (omega arith)

-- where a row stands
pub record RowFits (bounds : List ℕ) (arcs : List Arc) (rows : List (List Arc)) (p : ℕ) : Type 0 where
  pub next : p + 1 < length bounds
  pub rises : slice_index bounds p ≤ slice_index bounds (p + 1)
  pub inside : slice_index bounds (p + 1) ≤ length arcs
  pub is : slice_range arcs (slice_index bounds p) (slice_index bounds (p + 1)) ≡ row rows p

pub row_fits : (bounds : List ℕ) (arcs : List Arc) (rows : List (List Arc)) (p : ℕ) → AreBounds bounds arcs → rows_of bounds arcs ≡ rows → p < length rows → RowFits bounds arcs rows p
row_fits bounds arcs rows p b view lt =
    let many = length-rows_of bounds arcs b.some in
    let same = ap length view in
    let next : p + 1 < length bounds = omega arith in
    let more : p + 1 ≡ suc p = omega arith in
    record {
      next = next;
      rises = b.rising p next;
      inside = b.within (p + 1) next;
      is = ap (λ n. slice_range arcs (slice_index bounds p) (slice_index bounds n)) more ∙ sym (row-rows_of bounds arcs p (omega arith)) ∙ ap (λ (rs : List (List Arc)). row rs p) view;
    }

-- the rows have all arcs between the first bound and the last
AreBounds-tail : (a b : ℕ) (more : List ℕ) (arcs : List Arc) → ((p : ℕ) → p + 1 < length (a ∷ b ∷ more) → slice_index (a ∷ b ∷ more) p ≤ slice_index (a ∷ b ∷ more) (p + 1)) → (p : ℕ) → p + 1 < length (b ∷ more) → slice_index (b ∷ more) p ≤ slice_index (b ∷ more) (p + 1)
AreBounds-tail a b more arcs up p lt =
    let h = up (suc p) (omega arith) in
    let e : suc p + 1 ≡ suc (p + 1) = omega arith in
    subst (λ n. slice_index (b ∷ more) p ≤ slice_index (a ∷ b ∷ more) n) e h

count_from : (bounds : List ℕ) (arcs : List Arc) → 0 < length bounds → ((p : ℕ) → p + 1 < length bounds → slice_index bounds p ≤ slice_index bounds (p + 1)) → ((p : ℕ) → p < length bounds → slice_index bounds p ≤ length arcs)
    → count_rows (rows_of bounds arcs) + slice_index bounds 0 ≡ slice_index bounds (length bounds - 1)
count_from [] arcs some up within = absurd (omega arith)
count_from (a ∷ []) arcs some up within = let e : length (a ∷ []) - 1 ≡ 0 = omega arith in let last = ap (slice_index (a ∷ [])) e in omega arith
count_from (a ∷ b ∷ more) arcs some up within =
    let ih = count_from (b ∷ more) arcs (omega arith) (AreBounds-tail a b more arcs up) (λ p lt. within (suc p) (omega arith)) in
    let first : a ≤ b = up 0 (omega arith) in
    let high : b ≤ length arcs = within 1 (omega arith) in
    let rest = length-drop a arcs in
    let part = length-take-le (b - a) (drop a arcs) (omega arith) in
    let e : length (a ∷ b ∷ more) - 1 ≡ suc (length (b ∷ more) - 1) = omega arith in
    let last = ap (slice_index (a ∷ b ∷ more)) e in
    omega arith

pub count-rows_of : (bounds : List ℕ) (arcs : List Arc) → AreBounds bounds arcs → count_rows (rows_of bounds arcs) ≡ length arcs
count-rows_of bounds arcs b = let c = count_from bounds arcs b.some b.rising b.within in let f = b.first in let l = b.last in omega arith
