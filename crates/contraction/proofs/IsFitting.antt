use Rattle.std.proofs.Common.{◌≡◌, ℕ, ◌<◌, List, [], ◌∷◌, sym, arith, subst}
use Rattle.std.specs.Prelude.{Contains}
use Rattle.road_graph.specs.declared.road.NodeNo.{NodeNo}
use Rattle.road_graph.specs.Roads.{Roads, IsNode}
use Rattle.road_graph.specs.Graphs.{IsGraph}
use Rattle.road_graph.specs.Walks.{IsWalk, IsDist}
use Rattle.road_graph.proofs.WalkLaws.{first_is_node}
use Rattle.upward_search.specs.declared.arc.RankArc.{RankArc}
use Rattle.upward_search.specs.Chains.{IsChain}
use Rattle.upward_search.specs.Fitting.{rank_of, Meets, IsFitting}
use Rattle.upward_search.proofs.ChainLaws.{meets_at}
use Rattle.contraction.specs.Removing.{HasChain, IsContracting}
use Rattle.contraction.proofs.HasChain.{has_over}

module _ (g : Roads) (lawful : IsGraph g) (far : ℕ) (ranks : List ℕ) (climbing : List RankArc) (Left : RankArc → Type 0) (falling : List RankArc) (count : ℕ) (s : IsContracting g far ranks count climbing Left falling)
    (all : (n : NodeNo) → IsNode g n → rank_of ranks n < count) (short : (u v : NodeNo) (x : ℕ) → IsDist g u v x → x < far) where
  -- no arc is left, so a chain of such has none
  none_left : (chain : List RankArc) (u v : NodeNo) (x : ℕ) → IsChain Left u v chain x → u ≡ v
  none_left [] u v x c = c.leads
  none_left (a ∷ more) u v x c =
      let b = s.left_between a c.all.0 in
      absurd (let lt = all a.from b.from in let e = b.from_left in let f = s.few in omega arith)

  start_is_node : (nodes : List NodeNo) (u v : NodeNo) (x : ℕ) → IsWalk g u v nodes x → IsNode g u
  start_is_node [] u v x w = absurd w.0
  start_is_node (c ∷ more) u v x w = subst (IsNode g) w.0.0 (first_is_node g lawful c more x w.1)

  meets : (u v : NodeNo) (x : ℕ) → IsDist g u v x → Meets climbing falling u v x
  meets u v x d =
      let p = s.spans u v d.reached.0 x d.reached.1 (short u v x d) in
      let e = none_left p.pass.chain p.top p.turn p.pass.long p.pass.is in
      let fall = subst (λ (n : NodeNo). IsChain (Contains falling) n v p.fall.chain p.fall.long) (sym e) p.fall.is in
      meets_at g lawful ranks climbing falling s.arcs u p.top v p.climb.chain p.fall.chain p.climb.long p.fall.long x
      (start_is_node d.reached.0 u v x d.reached.1) p.climb.is fall (let a = p.climb.less in let b = p.fall.less in let t = p.sum in omega arith) d

  -- once every node is removed the hierarchy fits the graph
  pub contracted : IsFitting g ranks climbing falling
  contracted = record {
    ranked = record { many = s.many; distinct = λ u v hu hv e. s.distinct u v hu hv (all u hu) e };
    arcs = s.arcs;
    meets = meets;
  }

-- some of the arcs are left, and those that aren't have others in their place
pub fewer_left : (g : Roads) (far : ℕ) (ranks : List ℕ) (count : ℕ) (Left Left' : RankArc → Type 0) {climbing falling : List RankArc} → ((a : RankArc) → Left a → HasChain Left' a.from a.to a.length) → ((a : RankArc) → Left' a → Left a)
    → IsContracting g far ranks count climbing Left falling → IsContracting g far ranks count climbing Left' falling
fewer_left g far ranks count Left Left' f h s = record {
  many = s.many;
  few = s.few;
  ranked = s.ranked;
  distinct = s.distinct;
  arcs = s.arcs;
  climbing_done = s.climbing_done;
  falling_done = s.falling_done;
  left_between = λ a q. s.left_between a (h a q);
  left_made = λ a q. s.left_made a (h a q);
  light = λ a q. s.light a (h a q);
  spans = λ u v nodes x w lt. (let p = s.spans u v nodes x w lt in record { top = p.top; turn = p.turn; up = p.up; over = p.over; down = p.down; climb = p.climb; pass = has_over f p.top p.turn p.over p.pass; fall = p.fall; sum = p.sum });
}
