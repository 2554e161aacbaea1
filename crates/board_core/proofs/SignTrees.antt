use Rattle.std.proofs.Common.{◌≡◌, ℕ, zero, suc, ◌+◌, ◌*◌, ◌-◌, ◌/◌, ◌<◌, ◌≤◌, List, length, min, get_or, arith, inl, inr, ◌⊎◌, sym, ap, ◌∙◌, refl, drop, length-drop}
use Rattle.std.proofs.lemmas.Bool.{cases_lt}
use Rattle.std.proofs.lemmas.List.{get_or-drop}
use Rattle.board_core.specs.Arrivals.{HaveLeast, above, leaves_of}
use Rattle.board_core.specs.Queues.{IsSignTree, IsLeast}
use Rattle.board_core.proofs.ArrivalTrees.{least_below}

above_half : (height k : ℕ) → above height (k / 2) ≡ above height k / 2
above_half zero k = refl
above_half (suc height) k = ap (λ (n : ℕ). n / 2) (above_half height k)

-- each node stands below the first one
top : (fuel k : ℕ) → k ≤ fuel → 1 ≤ k → (height : ℕ) × (above height k ≡ 1)
top zero k le some = absurd (omega (arith, le, some))
top (suc fuel) k le some = elim (cases_lt k 2) [
  | inl lt ↦ (0, omega (arith, lt, some))
  | inr more ↦ let up = top fuel (k / 2) (grind (arith, le, more)) (grind (arith, more)) in (suc up.0, sym (above_half up.0 k) ∙ up.1)
]

least_from : (a b m : ℕ) → m ≡ min a b → (m ≡ a) ⊎ (m ≡ b)
least_from a b m e = grind (arith, e)

-- a leaf has the least number
lowest : (leaves : ℕ) (tree : List ℕ) → HaveLeast leaves tree → (fuel node : ℕ) → 2 * leaves ≤ node + fuel → 1 ≤ node → node < 2 * leaves → (leaf : ℕ) × (leaves ≤ leaf) × (leaf < 2 * leaves) × (get_or tree leaf 0 ≡ get_or tree node 0)
lowest leaves tree h zero node le some lt = absurd (omega (arith, le, lt))
lowest leaves tree h (suc fuel) node le some lt = elim (cases_lt node leaves) [
  | inl in_tree ↦ elim (least_from (get_or tree (2 * node) 0) (get_or tree (2 * node + 1) 0) (get_or tree node 0) (h node some in_tree)) [
    | inl e ↦ let r = lowest leaves tree h fuel (2 * node) (omega (arith, le, some)) (omega (arith, some)) (omega (arith, in_tree)) in (r.0, r.1, r.2, r.3 ∙ sym e)
    | inr e ↦ let r = lowest leaves tree h fuel (2 * node + 1) (omega (arith, le, some)) (omega arith) (omega (arith, in_tree)) in (r.0, r.1, r.2, r.3 ∙ sym e)
  ]
  | inr leaf ↦ (node, leaf, lt, refl)
]

at_first : (tree : List ℕ) (n : ℕ) → n ≡ 1 → get_or tree n 0 ≡ get_or tree 1 0
at_first tree n e = ap (λ (i : ℕ). get_or tree i 0) e

-- the first node has the least number of all leaves
pub first_least : (tree : List ℕ) (x : ℕ) → IsSignTree tree → 1 < length tree → x ≡ get_or tree 1 0 → IsLeast (drop (leaves_of tree) tree) x
first_least tree x t long here =
    let low = lowest (leaves_of tree) tree t.least (2 * leaves_of tree) 1 (omega arith) (omega arith) (omega (arith, t.even, long)) in
    let e : leaves_of tree + (low.0 - leaves_of tree) ≡ low.0 = omega (arith, low.1) in
    record {
      each = λ key lt. (let up = top (leaves_of tree + key) (leaves_of tree + key) (omega arith) (omega (arith, t.even, long)) in
          let least = least_below (leaves_of tree) tree t.least up.0 (leaves_of tree + key) (omega (arith, lt, t.even, length-drop (leaves_of tree) tree)) (omega (arith, up.1)) in
          rw (get_or-drop (leaves_of tree) tree key 0) (let same : get_or tree (above up.0 (leaves_of tree + key)) 0 ≡ get_or tree 1 0 = at_first tree (above up.0 (leaves_of tree + key)) up.1 in omega (arith, least, same, here)));
      one = inr (low.0 - leaves_of tree, omega (arith, low.1, low.2, t.even, length-drop (leaves_of tree) tree), get_or-drop (leaves_of tree) tree (low.0 - leaves_of tree) 0 ∙ ap (λ (i : ℕ). get_or tree i 0) e ∙ low.3 ∙ sym here);
    }
