use Rattle.std.specs.Prelude.{◌≡◌, ℕ, ◌<◌, ◌^◌, ◌↔◌, List, [], ◌∷◌, ◌++◌, option_to_list, Some, None, IsSome, IfSome, refl}
use Rattle.stop_schedule.specs.declared.stop.Insertion.{Insertion}
use Rattle.insertion_cost.specs.declared.pricing.Priced.{Priced}
use Rattle.insertion_cost.specs.declared.spans.Spans.{Spans}
use Rattle.insertion_cost.specs.Prices.{Price}

-- the lengths of the changed legs, in their order
abbrev pub lengths_of : Spans → List ℕ
lengths_of s = s.before_pickup ∷ s.after_pickup ∷ option_to_list s.before_dropoff ++ option_to_list s.after_dropoff

-- there is a length for each changed leg of a list of so many stops, and for no other, and each is below 2^53
pub record AreSpans (stops : ℕ) (at : Insertion) (s : Spans) : Type 0 where
  pub between : IsSome s.before_dropoff ↔ (at.i < at.j)
  pub behind : IsSome s.after_dropoff ↔ (at.j < stops)
  pub before_pickup : s.before_pickup < 2 ^ 53
  pub after_pickup : s.after_pickup < 2 ^ 53
  pub before_dropoff : IfSome s.before_dropoff (λ x. x < 2 ^ 53)
  pub after_dropoff : IfSome s.after_dropoff (λ x. x < 2 ^ 53)

-- a price as the definitions see it
abbrev pub price_from : Priced → Price
price_from p = record { cost = p.cost; leave = p.leave; arrive = p.arrive }

between_pieces : lengths_of (record { before_pickup = 1; after_pickup = 2; before_dropoff = Some 3; after_dropoff = Some 4 }) ≡ 1 ∷ 2 ∷ 3 ∷ 4 ∷ []
between_pieces = refl

at_the_end : lengths_of (record { before_pickup = 1; after_pickup = 2; before_dropoff = None; after_dropoff = None }) ≡ 1 ∷ 2 ∷ []
at_the_end = refl
