-- Laws of arcs one after another, of every graph and every list of arcs, for crates above as well.
use Rattle.std.proofs.Common.{◌≡◌, ℕ, zero, suc, ◌+◌, ◌<◌, ◌≤◌, List, [], ◌∷◌, ◌++◌, Option, Some, None, sym, ◌∙◌, arith, refl, subst}
use Rattle.std.specs.Prelude.{Contains}
use Rattle.road_graph.specs.declared.road.NodeNo.{NodeNo}
use Rattle.road_graph.specs.Roads.{Roads, IsNode, least_weight}
use Rattle.road_graph.specs.Graphs.{IsGraph}
use Rattle.road_graph.specs.Walks.{IsWalk, IsDist}
use Rattle.road_graph.proofs.WalkLaws.{ends_are_nodes, alone_is_walk, walk_over, walk_after}
use Rattle.upward_search.specs.declared.arc.RankArc.{RankArc}
use Rattle.upward_search.specs.Chains.{Leads, total, AreAll, IsChain}
use Rattle.upward_search.specs.Fitting.{rank_of, IsMadeOver, IsOver, AreArcs, Meets}

-- no arcs
pub chain_none : {Kind : RankArc → Type 0} (u v : NodeNo) → u ≡ v → IsChain Kind u v [] 0
chain_none u v e = record { leads = e; all = tt; sum = refl }

-- one arc alone
pub chain_one : {Kind : RankArc → Type 0} (a : RankArc) (u v : NodeNo) → Kind a → a.from ≡ u → a.to ≡ v → IsChain Kind u v (a ∷ []) a.length
chain_one a u v k e f = record { leads = (e, f); all = (k, tt); sum = omega arith }

-- other arcs after these
pub chain_append : {Kind : RankArc → Type 0} (u v w : NodeNo) (chain : List RankArc) (x : ℕ) → IsChain Kind u v chain x → (next : List RankArc) (y : ℕ) → IsChain Kind v w next y → IsChain Kind u w (chain ++ next) (x + y)
chain_append {Kind} u v w [] x c next y d =
    record { leads = subst (λ (n : NodeNo). Leads n w next) (sym c.leads) d.leads; all = d.all; sum = (let p = c.sum in let q = d.sum in omega arith) }
chain_append {Kind} u v w (a ∷ more) x c next y d =
    let rest = chain_append {Kind = Kind} a.to v w more (total more) (record { leads = c.leads.1; all = c.all.1; sum = refl }) next y d in
    record { leads = (c.leads.0, rest.leads); all = (c.all.0, rest.all); sum = (let p = c.sum in let q = rest.sum in omega arith) }

-- the rest of a chain behind its first arc
pub chain_rest : {Kind : RankArc → Type 0} (a : RankArc) (more : List RankArc) (u v : NodeNo) (x : ℕ) → IsChain Kind u v (a ∷ more) x → IsChain Kind a.to v more (total more)
chain_rest a more u v x c = record { leads = c.leads.1; all = c.all.1; sum = refl }

-- arcs of one kind that are of another, too
pub chain_kind : {Kind Other : RankArc → Type 0} → ((a : RankArc) → Kind a → Other a) → (chain : List RankArc) (u v : NodeNo) (x : ℕ) → IsChain Kind u v chain x → IsChain Other u v chain x
chain_kind {Kind} {Other} f chain u v x c = record { leads = c.leads; all = all_kind chain c.all; sum = c.sum }
  where
    all_kind : (arcs : List RankArc) → AreAll Kind arcs → AreAll Other arcs
    all_kind [] h = tt
    all_kind (a ∷ more) h = (f a h.0, all_kind more h.1)

-- there are nodes that are a walk of this length
abbrev pub HasWalk : Roads → NodeNo → NodeNo → ℕ → Type 0
HasWalk g u v x = (nodes : List NodeNo) × IsWalk g u v nodes x

-- a node alone
pub walk_none : (g : Roads) (u : NodeNo) → IsNode g u → HasWalk g u u 0
walk_none g u n = (u ∷ [], alone_is_walk g u n)

-- one road
pub walk_one : (g : Roads) → IsGraph g → (u v : NodeNo) (w : ℕ) → least_weight g.roads u v ≡ Some w → HasWalk g u v w
walk_one g lawful u v w road =
    let n = ends_are_nodes g lawful u v w road in
    let one = walk_none g v n.1 in
    let q = walk_over g u v v w 0 road one.0 one.1 in
    (u ∷ one.0, subst (λ (x : ℕ). IsWalk g u v (u ∷ one.0) x) (omega arith) q)

-- a chain of arcs that each are as long as a walk between nodes is as long as a walk
pub chain_walk : {Kind : RankArc → Type 0} (g : Roads) → ((a : RankArc) → Kind a → IsNode g a.to × HasWalk g a.from a.to a.length)
    → (chain : List RankArc) (u v : NodeNo) (x : ℕ) → IsNode g u → IsChain Kind u v chain x → HasWalk g u v x
chain_walk {Kind} g real [] u v x n c =
    let w = walk_none g u n in
    let zero : 0 ≡ x = c.sum in
    subst (λ (m : ℕ). HasWalk g u v m) zero (subst (λ (m : NodeNo). HasWalk g u m 0) c.leads w)
chain_walk {Kind} g real (a ∷ more) u v x n c =
    let r = real a c.all.0 in
    let rest = chain_walk {Kind = Kind} g real more a.to v (total more) r.0 (chain_rest {Kind = Kind} a more u v x c) in
    let w = walk_after g r.1.0 a.from a.to v a.length r.1.1 rest.0 (total more) rest.1 in
    subst (λ (m : ℕ). HasWalk g u v m) c.sum (subst (λ (m : NodeNo). HasWalk g m v (a.length + total more)) c.leads.0 w)

-- the arcs whose lower end ranks below n are as long as walks
record AreReal (g : Roads) (ranks : List ℕ) (climbing falling : List RankArc) (n : ℕ) : Type 0 where
  climb : (a : RankArc) → Contains climbing a → rank_of ranks a.from < n → HasWalk g a.from a.to a.length
  fall : (a : RankArc) → Contains falling a → rank_of ranks a.to < n → HasWalk g a.from a.to a.length

module _ (g : Roads) (lawful : IsGraph g) (ranks : List ℕ) (climbing falling : List RankArc) (arcs : AreArcs g ranks climbing falling) where
  real_over : (n : ℕ) → AreReal g ranks climbing falling n → (a : RankArc) (k : NodeNo) → IsOver ranks climbing falling a k → rank_of ranks k < n → HasWalk g a.from a.to a.length
  real_over n r a k o lt =
      let down = r.fall o.down o.falls (subst (λ (m : NodeNo). rank_of ranks m < n) (sym o.into) lt) in
      let up = r.climb o.up o.climbs (subst (λ (m : NodeNo). rank_of ranks m < n) (sym o.from) lt) in
      let meet : o.up.from ≡ o.down.to = o.from ∙ sym o.into in
      let up' = subst (λ (m : NodeNo). HasWalk g m o.up.to o.up.length) meet up in
      let w = walk_after g down.0 o.down.from o.down.to o.up.to o.down.length down.1 up'.0 o.up.length up'.1 in
      subst (λ (m : ℕ). HasWalk g a.from a.to m) o.sum (subst (λ (m : NodeNo). HasWalk g m a.to (o.down.length + o.up.length)) o.out (subst (λ (m : NodeNo). HasWalk g o.down.from m (o.down.length + o.up.length)) o.to w))

  real_made : (n : ℕ) → AreReal g ranks climbing falling n → (a : RankArc) (middle : Option NodeNo) → IsMadeOver g ranks climbing falling a middle
      → ((k : NodeNo) → IsOver ranks climbing falling a k → rank_of ranks k < n) → HasWalk g a.from a.to a.length
  real_made n r a None made low = walk_one g lawful a.from a.to a.length made
  real_made n r a (Some k) made low = real_over n r a k made (low k made)

  real_below : (n : ℕ) → AreReal g ranks climbing falling n
  real_below zero = record { climb = λ a c lt. absurd (omega arith); fall = λ a c lt. absurd (omega arith) }
  real_below (suc n) =
      let r = real_below n in
      record {
        climb = λ a c lt. real_made n r a a.middle (arcs.climbing_made a c) (λ k o. (let b = o.below_from in omega arith));
        fall = λ a c lt. real_made n r a a.middle (arcs.falling_made a c) (λ k o. (let b = o.below_to in omega arith));
      }

  -- each arc of a hierarchy is as long as a walk between its ends
  climb_is_walk : (a : RankArc) → Contains climbing a → HasWalk g a.from a.to a.length
  climb_is_walk a c = (real_below (suc (rank_of ranks a.from))).climb a c (omega arith)

  fall_is_walk : (a : RankArc) → Contains falling a → HasWalk g a.from a.to a.length
  fall_is_walk a c = (real_below (suc (rank_of ranks a.to))).fall a c (omega arith)

  climbs_are_walks : (chain : List RankArc) (u v : NodeNo) (x : ℕ) → IsNode g u → IsChain (Contains climbing) u v chain x → HasWalk g u v x
  climbs_are_walks chain u v x n c = chain_walk g (λ a h. ((arcs.climbs a h).to, climb_is_walk a h)) chain u v x n c

  falls_are_walks : (chain : List RankArc) (u v : NodeNo) (x : ℕ) → IsNode g u → IsChain (Contains falling) u v chain x → HasWalk g u v x
  falls_are_walks chain u v x n c = chain_walk g (λ a h. ((arcs.falls a h).to, fall_is_walk a h)) chain u v x n c

  -- a climb and a fall that meet are together no shorter than the distance
  pub meeting_walk : (u m v : NodeNo) (ups downs : List RankArc) (x y : ℕ) → IsNode g u → IsChain (Contains climbing) u m ups x → IsChain (Contains falling) m v downs y → HasWalk g u v (x + y)
  meeting_walk u m v ups downs x y n c d =
      let w = climbs_are_walks ups u m x n c in
      let t = falls_are_walks downs m v y (end_is_node ups u m x n c) d in
      walk_after g w.0 u m v x w.1 t.0 y t.1
    where
      end_is_node : (chain : List RankArc) (u m : NodeNo) (x : ℕ) → IsNode g u → IsChain (Contains climbing) u m chain x → IsNode g m
      end_is_node [] u m x n c = subst (IsNode g) c.leads n
      end_is_node (a ∷ more) u m x n c = end_is_node more a.to m (total more) (arcs.climbs a c.all.0).to (chain_rest {Kind = Contains climbing} a more u m x c)

  meeting_at_least : (u m v : NodeNo) (ups downs : List RankArc) (x y d : ℕ) → IsNode g u → IsChain (Contains climbing) u m ups x → IsChain (Contains falling) m v downs y → IsDist g u v d → d ≤ x + y
  meeting_at_least u m v ups downs x y d n c e dist = let w = meeting_walk u m v ups downs x y n c e in dist.least w.0 (x + y) w.1

  -- a climb and a fall together as long as the distance, which are then each least
  pub meets_at : (u m v : NodeNo) (ups downs : List RankArc) (x y d : ℕ) → IsNode g u → IsChain (Contains climbing) u m ups x → IsChain (Contains falling) m v downs y → x + y ≤ d → IsDist g u v d → Meets climbing falling u v d
  meets_at u m v ups downs x y d n c e le dist =
      let low = meeting_at_least u m v ups downs x y d n c e dist in
      record {
        top = m;
        up = x;
        down = y;
        climb = record { chain = ups; reached = c; least = λ other z o. (let l = meeting_at_least u m v other downs z y d n o e dist in omega arith) };
        fall = record { chain = downs; reached = e; least = λ other z o. (let l = meeting_at_least u m v ups other x z d n c o dist in omega arith) };
        sum = omega arith;
      }
