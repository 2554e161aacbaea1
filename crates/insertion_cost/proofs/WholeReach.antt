use Rattle.std.proofs.Common.{◌≡◌, ℕ, sym, Option, Some, None, Result, Ok, Err, IfOk, subst, MatchOption}
use Rattle.road_graph.specs.declared.road.NodeNo.{NodeNo}
use Rattle.road_graph.specs.Roads.{Roads}
use Rattle.road_graph.specs.Paths.{Path}
use Rattle.road_graph.specs.Walks.{IsLeastWalk, IsLeastWalkOrNone, NoWalk}
use Rattle.plain_search.specs.declared.reached.Way.{Way}
use Rattle.plain_search.specs.declared.reached.Way.TheVariants.{From, To}
use Rattle.plain_search.specs.Reaching.{Listing, IsBeyond, IsLeastWalkBy}
use Rattle.insertion_cost.specs.Searches.{IsWholeReach}

-- the least walk that a whole reach gives
given : (g : Roads) (way : Way) (start node : NodeNo) (s : Listing) (o : Option Path) → IsWholeReach g way start s → MatchOption o (IsBeyond s.way g s.start s.radius node) (IsLeastWalkBy s.way g s.start node)
    → MatchOption o (IsBeyond way g start None node) (IsLeastWalkBy way g start node)
given g way start node s o w h =
    subst (λ (k : Way). MatchOption o (IsBeyond k g start None node) (IsLeastWalkBy k g start node)) w.its_way
    (subst (λ (n : NodeNo). MatchOption o (IsBeyond s.way g n None node) (IsLeastWalkBy s.way g n node)) w.its_start
    (subst (λ (radius : Option ℕ). MatchOption o (IsBeyond s.way g s.start radius node) (IsLeastWalkBy s.way g s.start node)) w.unbounded h))

given_to : (g : Roads) (start node : NodeNo) (s : Listing) (o : Option Path) → IsWholeReach g To start s → MatchOption o (IsBeyond s.way g s.start s.radius node) (IsLeastWalkBy s.way g s.start node)
    → MatchOption o (NoWalk g node start) (IsLeastWalk g node start)
given_to g start node s None w h = given g To start node s None w h
given_to g start node s (Some x) w h = given g To start node s (Some x) w h

given_from : (g : Roads) (start node : NodeNo) (s : Listing) (o : Option Path) → IsWholeReach g From start s → MatchOption o (IsBeyond s.way g s.start s.radius node) (IsLeastWalkBy s.way g s.start node)
    → MatchOption o (NoWalk g start node) (IsLeastWalk g start node)
given_from g start node s None w h = given g From start node s None w h
given_from g start node s (Some x) w h = given g From start node s (Some x) w h

-- a least walk to its start
pub walk_to : {E : Type 0} (g : Roads) (start node end : NodeNo) (s : Listing) (result : Result (Option Path) E) → IsWholeReach g To start s → end.0 ≡ start.0
    → IfOk result (λ o. MatchOption o (IsBeyond s.way g s.start s.radius node) (IsLeastWalkBy s.way g s.start node)) → IfOk result (IsLeastWalkOrNone g node end)
walk_to g start node end s (Ok o) w e h = subst (λ (n : ℕ). MatchOption o (NoWalk g node (record { 0 = n })) (IsLeastWalk g node (record { 0 = n }))) (sym e) (given_to g start node s o w h)
walk_to g start node end s (Err x) w e h = tt

-- a least walk from its start
pub walk_from : {E : Type 0} (g : Roads) (start node end : NodeNo) (s : Listing) (result : Result (Option Path) E) → IsWholeReach g From start s → end.0 ≡ start.0
    → IfOk result (λ o. MatchOption o (IsBeyond s.way g s.start s.radius node) (IsLeastWalkBy s.way g s.start node)) → IfOk result (IsLeastWalkOrNone g end node)
walk_from g start node end s (Ok o) w e h = subst (λ (n : ℕ). MatchOption o (NoWalk g (record { 0 = n }) node) (IsLeastWalk g (record { 0 = n }) node)) (sym e) (given_from g start node s o w h)
walk_from g start node end s (Err x) w e h = tt
