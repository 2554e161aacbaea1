use Rattle.std.proofs.Common.{◌≡◌, ℕ, zero, suc, ◌+◌, ap, ◌∙◌, arith}
use Rattle.city_gen.specs.Draws.{next, after}

-- States behind states.

pub after-none : (n x : ℕ) → n ≡ 0 → after n x ≡ x
unfolding after
after-none n x e = ap (λ k. after k x) e

pub after-plus : (n m x : ℕ) → after (n + m) x ≡ after m (after n x)
unfolding after
after-plus zero m x = let e : zero + m ≡ m = omega arith in ap (λ k. after k x) e
after-plus (suc n) m x = let e : suc n + m ≡ suc (n + m) = omega arith in ap (λ k. after k x) e ∙ after-plus n m (next x)

-- so many draws are those of a front, and then those that are left
pub after_front : (n k m x y : ℕ) → n ≡ k + m → y ≡ after k x → after m y ≡ after n x
after_front n k m x y e is =
    let there : after n x ≡ after m (after k x) = ap (λ j. after j x) e ∙ after-plus k m x in
    ap (λ z. after m z) is ∙ cc there
