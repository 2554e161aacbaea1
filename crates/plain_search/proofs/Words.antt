use Rattle.std.proofs.Common.{◌≡◌, ◌≢◌, ℕ, zero, suc, ◌+◌, ◌-◌, ◌^◌, ◌<◌, ◌≤◌, ◌⊎◌, inl, inr, ⊎_elim, cond, ◌==◌, Bool, ne_eqb, List, ◌∷◌, map, length, get_or, replicate, sym, ap, ◌∙◌, arith, refl, subst}
use Rattle.std.specs.Prelude.{leb, MatchBool}
use Rattle.std.proofs.lemmas.Bool.{cases_eq, cases_lt, lt-ltb, le-ltb, le-leb, lt-leb}
use Rattle.std.proofs.lemmas.List.{get_or-map}
use Rattle.plain_search.specs.declared.reached.Mark.{Mark}
use Rattle.plain_search.specs.declared.reached.Mark.TheVariants.{Unseen, Seen, Settled}
use Rattle.plain_search.specs.Marking.{mark_in, IsMarkedBy}

-- a word below 2^32 is a place
pub small_word : (w : ℕ) → w < 2 ^ 32 → mark_in w ≡ Settled w
small_word w lt = ap (λ b. cond b (Settled w) (cond (w == 2 ^ 64 - 1) Unseen (Seen (w - 2 ^ 32)))) (lt-ltb w (2 ^ 32) lt)

large_word : (w : ℕ) → 2 ^ 32 ≤ w → mark_in w ≡ cond (w == 2 ^ 64 - 1) Unseen (Seen (w - 2 ^ 32))
large_word w le = ap (λ b. cond b (Settled w) (cond (w == 2 ^ 64 - 1) Unseen (Seen (w - 2 ^ 32)))) (le-ltb w (2 ^ 32) le)

-- the largest word is that of a node that is unseen
last_word : (w : ℕ) → w ≡ 2 ^ 64 - 1 → mark_in w ≡ Unseen
last_word w e = ap mark_in e

-- a word between them is 2^32 and a distance
middle_word : (w : ℕ) → 2 ^ 32 ≤ w → w ≢ 2 ^ 64 - 1 → mark_in w ≡ Seen (w - 2 ^ 32)
middle_word w le ne = large_word w le ∙ ap (λ b. cond b Unseen (Seen (w - 2 ^ 32))) (ne_eqb w (2 ^ 64 - 1) ne)

pub waiting_word : (x : ℕ) → x < 2 ^ 63 → mark_in (2 ^ 32 + x) ≡ Seen x
waiting_word x lt = middle_word (2 ^ 32 + x) (omega arith) (λ e. absurd (omega arith)) ∙ ap Seen less
  where
    less : 2 ^ 32 + x - 2 ^ 32 ≡ x
    less = omega arith

no_place : (w : ℕ) → 2 ^ 32 ≤ w → (k : ℕ) → mark_in w ≡ Settled k → ⊥
no_place w le k e = ⊎_elim (λ same. let m = last_word w same in cc) (λ ne. let m = middle_word w le ne in cc) (cases_eq w (2 ^ 64 - 1))

-- one comparison tells whether a node is settled, or waits at a distance or less
known_word : (w x : ℕ) → x < 2 ^ 63 → w ≤ 2 ^ 32 + x → IsMarkedBy (mark_in w) x
known_word w x few le = at (cases_lt w (2 ^ 32))
  where
    at : (w < 2 ^ 32) ⊎ (2 ^ 32 ≤ w) → IsMarkedBy (mark_in w) x
    at (inl lt) = inl (w, small_word w lt)
    at (inr ge) = inr (w - 2 ^ 32, middle_word w ge (λ e. absurd (omega arith)), omega arith)

new_word : (w x : ℕ) → x < 2 ^ 63 → 2 ^ 32 + x < w → IsMarkedBy (mark_in w) x → ⊥
new_word w x few lt (inl (k, e)) = no_place w (omega arith) k e
new_word w x few lt (inr (y, e, le)) = at (cases_eq w (2 ^ 64 - 1))
  where
    at : (w ≡ 2 ^ 64 - 1) ⊎ (w ≢ 2 ^ 64 - 1) → ⊥
    at (inl same) = let m = last_word w same in cc
    at (inr ne) = let m = middle_word w (omega arith) ne in let is : w - 2 ^ 32 ≡ y = cc in omega arith

-- what a comparison of a word says of its mark
abbrev pub IsKnownIf : Bool → Mark → ℕ → Type 0
IsKnownIf b mark x = MatchBool b (IsMarkedBy mark x) (IsMarkedBy mark x → ⊥)

mark_read : (words : List ℕ) (i w : ℕ) → i < length words → w ≡ get_or words i w → get_or (map mark_in words) i Unseen ≡ mark_in w
mark_read words i w lt e = get_or-map mark_in words i w Unseen lt ∙ ap mark_in (sym e)

pub known_by : (words : List ℕ) (i w x : ℕ) → i < length words → w ≡ get_or words i w → x < 2 ^ 63
    → IsKnownIf (leb w (2 ^ 32 + x)) (get_or (map mark_in words) i Unseen) x
known_by words i w x lt e few =
    subst (λ (m : Mark). IsKnownIf (leb w (2 ^ 32 + x)) m x) (sym (mark_read words i w lt e)) (at (cases_lt (2 ^ 32 + x) w))
  where
    at : (2 ^ 32 + x < w) ⊎ (w ≤ 2 ^ 32 + x) → IsKnownIf (leb w (2 ^ 32 + x)) (mark_in w) x
    at (inl more) = subst (λ b. IsKnownIf b (mark_in w) x) (sym (lt-leb w (2 ^ 32 + x) more)) (new_word w x few more)
    at (inr le) = subst (λ b. IsKnownIf b (mark_in w) x) (sym (le-leb w (2 ^ 32 + x) le)) (known_word w x few le)

pub marks_unseen : (n : ℕ) → map mark_in (replicate n (2 ^ 64 - 1)) ≡ replicate n Unseen
marks_unseen zero = refl
marks_unseen (suc n) = ap (λ ms. Unseen ∷ ms) (marks_unseen n)
