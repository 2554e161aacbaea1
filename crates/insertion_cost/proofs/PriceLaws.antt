-- what is priced is feasible, its places are those of the list, and its times are in service
pub use Rattle.insertion_cost.proofs.IsFeasible.{priced_parts, feasible_places, feasible_service, priced_times}
-- longer legs and later fronts make no insertion cheaper
pub use Rattle.insertion_cost.proofs.HasPrice.{longer_legs, later_fronts}
-- the detour is that of both lists from the front
pub use Rattle.insertion_cost.proofs.HasPrice.{detour_from_front, detour_from_place}
