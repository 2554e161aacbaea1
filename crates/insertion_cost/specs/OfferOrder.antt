use Rattle.std.specs.Prelude.{◌≡◌, ◌⊎◌, Option, Some, None}
use Rattle.std.specs.declared.cmp.Ordering.TheVariants.{Less}
use Rattle.insertion_cost.specs.declared.offer.Offer.{Offer}
use Rattle.insertion_cost.specs.Offers.{offer_cmp}

-- the second offer doesn't go before the first, and none goes before it where there is none
abbrev pub IsNotAfter : Option Offer → Option Offer → Type 0
IsNotAfter o None = Unit {0}
IsNotAfter None (Some p) = ⊥
IsNotAfter (Some o) (Some p) = offer_cmp p o ≡ Less → ⊥

-- one of two offers, before which neither of them goes; the former, where the latter doesn't go before it
pub record IsFirstOfTwo (a b o : Option Offer) : Type 0 where
  pub one : (o ≡ a) ⊎ (o ≡ b)
  pub first : IsNotAfter o a
  pub second : IsNotAfter o b
  pub former : IsNotAfter a b → o ≡ a
