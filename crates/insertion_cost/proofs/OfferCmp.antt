use Rattle.std.proofs.Common.{◌≡◌, ℕ, ◌⊎◌, Option, Some, None, ⊎_elim, arith}
use Rattle.std.proofs.lemmas.Bool.Decides.{nat_tests}
use Rattle.std.specs.Ordering.{nat_cmp, ordering_then}
use Rattle.std.specs.declared.cmp.Ordering.{Ordering}
use Rattle.std.specs.declared.cmp.Ordering.TheVariants.{Less}
use Rattle.insertion_cost.specs.declared.offer.Offer.{Offer}
use Rattle.insertion_cost.specs.Offers.{offer_cmp}
use Rattle.insertion_cost.specs.OfferOrder.{IsNotAfter}

-- no offer goes before itself
pub offer_cmp-self : (a : Offer) → offer_cmp a a ≡ Less → ⊥
offer_cmp-self a h = grind (arith, nat_tests)

-- of two offers with another vehicle or other places one goes before the other
pub offer_cmp-apart : (a b : Offer) → ((a.no.0 ≡ b.no.0) × (a.at.i ≡ b.at.i) × (a.at.j ≡ b.at.j) → ⊥) → (offer_cmp a b ≡ Less) ⊎ (offer_cmp b a ≡ Less)
offer_cmp-apart a b h = grind (arith, nat_tests)

-- in order by a number and then by more, if what follows is
then_trans : (x y z : ℕ) (o p q : Ordering) → (o ≡ Less → p ≡ Less → q ≡ Less) → ordering_then (nat_cmp x y) o ≡ Less → ordering_then (nat_cmp y z) p ≡ Less → ordering_then (nat_cmp x z) q ≡ Less
then_trans x y z o p q more h k = grind (arith, nat_tests)

-- in order by a number alone
cmp_trans : (x y z : ℕ) → nat_cmp x y ≡ Less → nat_cmp y z ≡ Less → nat_cmp x z ≡ Less
cmp_trans x y z h k = grind (arith, nat_tests)

-- what goes before an offer goes before all behind it
pub offer_cmp-trans : (a b c : Offer) → offer_cmp a b ≡ Less → offer_cmp b c ≡ Less → offer_cmp a c ≡ Less
offer_cmp-trans a b c =
    then_trans a.cost b.cost c.cost _ _ _ (then_trans a.no.0 b.no.0 c.no.0 _ _ _ (then_trans a.at.i b.at.i c.at.i _ _ _ (cmp_trans a.at.j b.at.j c.at.j)))

-- a third one is behind the former or before the latter, by a number and then by more
then_splits : (x y z : ℕ) (o p q : Ordering) → (o ≡ Less → (p ≡ Less) ⊎ (q ≡ Less)) → ordering_then (nat_cmp x z) o ≡ Less → (ordering_then (nat_cmp x y) p ≡ Less) ⊎ (ordering_then (nat_cmp y z) q ≡ Less)
then_splits x y z o p q more h = grind (arith, nat_tests)

-- by a number alone
cmp_splits : (x y z : ℕ) → nat_cmp x z ≡ Less → (nat_cmp x y ≡ Less) ⊎ (nat_cmp y z ≡ Less)
cmp_splits x y z h = grind (arith, nat_tests)

-- of two offers in order a third is behind the former or before the latter
pub offer_cmp-splits : (a b c : Offer) → offer_cmp a c ≡ Less → (offer_cmp a b ≡ Less) ⊎ (offer_cmp b c ≡ Less)
offer_cmp-splits a b c =
    then_splits a.cost b.cost c.cost _ _ _ (then_splits a.no.0 b.no.0 c.no.0 _ _ _ (then_splits a.at.i b.at.i c.at.i _ _ _ (cmp_splits a.at.j b.at.j c.at.j)))

-- what isn't after an offer isn't after any that isn't before it
pub IsNotAfter-trans : (o a p : Option Offer) → IsNotAfter o a → IsNotAfter a p → IsNotAfter o p
IsNotAfter-trans o a None h k = tt
IsNotAfter-trans o None (Some p) h k = absurd k
IsNotAfter-trans None (Some a) (Some p) h k = absurd h
IsNotAfter-trans (Some o) (Some a) (Some p) h k = λ before. ⊎_elim k h (offer_cmp-splits p a o before)
