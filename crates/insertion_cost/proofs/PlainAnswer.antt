use Rattle.std.proofs.Common.{◌≡◌, ℕ, Option, Some, None, refl, subst}
use Rattle.std.specs.Prelude.{IsSome}
use Rattle.road_graph.specs.Roads.{Roads}
use Rattle.road_graph.specs.Walks.{IsDist}
use Rattle.stop_schedule.specs.declared.request.Request.{Request}
use Rattle.stop_schedule.specs.Fleets.{Cars}
use Rattle.insertion_cost.specs.declared.offer.Offer.{Offer}
use Rattle.insertion_cost.specs.NodeWays.{IsDistOrNone}
use Rattle.insertion_cost.specs.Offers.{IsBest, IsBestOrNone, NoOffer}

-- the best insertion is one, where an offer is told, and there is none where none is
pub best_is : (g : Roads) (fleet : Cars) (r : Request) (told : Option Offer) (o : Offer) → told ≡ Some o → IsBestOrNone g fleet r told → IsBest g fleet r o
best_is g fleet r told o e h = subst (IsBestOrNone g fleet r) e h

pub none_is : (g : Roads) (fleet : Cars) (r : Request) (told : Option Offer) → told ≡ None → IsBestOrNone g fleet r told → NoOffer g fleet r
none_is g fleet r told e h = subst (IsBestOrNone g fleet r) e h

-- where there is an offer, there is a direct way
pub direct_told : (g : Roads) (fleet : Cars) (r : Request) (o : Offer) (told : Option ℕ) → IsBest g fleet r o → IsDistOrNone g r.pickup r.dropoff told → IsSome told
direct_told g fleet r o None b h = let way = b.feasible.price.direct_way.reached in absurd (h way.0 b.feasible.price.direct way.1)
direct_told g fleet r o (Some x) b h = refl

pub direct_is_dist : (g : Roads) (r : Request) (told : Option ℕ) (x : ℕ) → told ≡ Some x → IsDistOrNone g r.pickup r.dropoff told → IsDist g r.pickup r.dropoff x
direct_is_dist g r told x e h = subst (IsDistOrNone g r.pickup r.dropoff) e h
