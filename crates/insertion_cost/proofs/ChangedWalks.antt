use Rattle.std.proofs.Common.{◌≡◌, ℕ, ◌+◌, ◌<◌, ◌≤◌, List, [], ◌∷◌, length, Option, Some, None, refl, subst, sym, rules, MatchOption, ⊎_elim}
use Rattle.std.specs.Prelude.{option_to_list, IsSome}
use Rattle.road_graph.specs.declared.road.NodeNo.{NodeNo}
use Rattle.road_graph.specs.Paths.{Path}
use Rattle.road_graph.specs.Roads.{Roads, IsNode}
use Rattle.road_graph.specs.Walks.{walk_length, last_of, IsWalk, IsLeastWalk, NoWalk}
use Rattle.stop_schedule.specs.declared.request.Request.{Request}
use Rattle.stop_schedule.specs.declared.stop.Front.{Front}
use Rattle.stop_schedule.specs.declared.stop.Insertion.{Insertion}
use Rattle.stop_schedule.specs.declared.stop.Stop.{Stop}
use Rattle.stop_schedule.specs.Lists.{node_at, changed_ends}
use Rattle.stop_schedule.specs.Distances.{AreDistances, AreLeastWalks}
use Rattle.insertion_cost.specs.Pricers.{HasDistance, HaveDistances}
use Rattle.road_graph.specs.Graphs.{IsGraph}
use Rattle.road_graph.proofs.WalkLaws.{first_is_node, step_of}
use Rattle.std.proofs.lemmas.Bool.{cases_eq}
use Rattle.insertion_cost.proofs.ChangedEnds.{ends_behind, ends_together, ends_apart, one_behind, none_behind}

-- both ends of a distance are nodes of the graph
pub ends_are_nodes : (g : Roads) → IsGraph g → (u v : NodeNo) → HasDistance g u v → IsNode g u × IsNode g v
ends_are_nodes g lawful u v h = go h.1.reached.0 h.1.reached.1 where
  last : (w : NodeNo) (more : List NodeNo) (x : ℕ) → walk_length g (w ∷ more) ≡ Some x → IsNode g (last_of w more)
  last w [] x e = first_is_node g lawful w [] x e
  last w (n ∷ more) x e = let s = step_of g w n more x e in last n more s.rest s.walk

  go : (nodes : List NodeNo) → IsWalk g u v nodes h.0 → IsNode g u × IsNode g v
  go [] w = absurd w.0
  go (n ∷ more) w = (subst (λ (m : NodeNo). IsNode g m) w.0.0 (first_is_node g lawful n more h.0 w.1), subst (λ (m : NodeNo). IsNode g m) w.0.1 (last n more h.0 w.1))

-- so a walk is found
pub walk_is_there : (g : Roads) (u v : NodeNo) (o : Option Path) → HasDistance g u v → MatchOption o (NoWalk g u v) (IsLeastWalk g u v) → IsSome o
walk_is_there g u v None h m = absurd (m h.1.reached.0 h.0 h.1.reached.1)
walk_is_there g u v (Some w) h m = search rules

-- which is a least walk
pub walk_is_least : (g : Roads) (u v : NodeNo) (o : Option Path) (w : Path) → o ≡ Some w → MatchOption o (NoWalk g u v) (IsLeastWalk g u v) → IsLeastWalk g u v w
walk_is_least g u v o w e m = subst (λ (p : Option Path). MatchOption p (NoWalk g u v) (IsLeastWalk g u v)) e m

-- the first of some pairs that have distances
first_has : (g : Roads) (ends : NodeNo × NodeNo) (more : List (NodeNo × NodeNo)) (lengths : List ℕ) → AreDistances g (ends ∷ more) lengths → HasDistance g ends.0 ends.1
first_has g ends more [] d = absurd d
first_has g ends more (x ∷ lengths) d = (x, d.0)

-- and those behind it
rest_have : (g : Roads) (ends : NodeNo × NodeNo) (more : List (NodeNo × NodeNo)) (lengths : List ℕ) → AreDistances g (ends ∷ more) lengths → HaveDistances g more
rest_have g ends more [] d = absurd d
rest_have g ends more (x ∷ lengths) d = record { lengths = lengths; are = d.1 }

-- each changed leg has a distance
module _ (g : Roads) (stops : List Stop) (front : Front) (r : Request) (at : Insertion) (h : HaveDistances g (changed_ends stops front r at)) where
  abbrev into : NodeNo × NodeNo
  into = (node_at front stops at.i, r.pickup)

  abbrev between : NodeNo × NodeNo
  between = (r.pickup, r.dropoff)

  abbrev on : NodeNo × NodeNo
  on = (r.pickup, node_at front stops (at.i + 1))

  abbrev last : NodeNo × NodeNo
  last = (node_at front stops at.j, r.dropoff)

  abbrev behind : List (NodeNo × NodeNo)
  behind = ends_behind stops front r at

  together : at.i ≡ at.j → AreDistances g (into ∷ (r.pickup, r.dropoff) ∷ ends_behind stops front r at) h.lengths
  together same = subst (λ (ends : List (NodeNo × NodeNo)). AreDistances g ends h.lengths) (ends_together stops front r at same) h.are

  apart_are : (at.i ≡ at.j → ⊥) → AreDistances g (into ∷ (r.pickup, node_at front stops (at.i + 1)) ∷ (node_at front stops at.j, r.dropoff) ∷ ends_behind stops front r at) h.lengths
  apart_are apart = subst (λ (ends : List (NodeNo × NodeNo)). AreDistances g ends h.lengths) (ends_apart stops front r at apart) h.are

  pub has_into : HasDistance g (node_at front stops at.i) r.pickup
  has_into = ⊎_elim (λ (same : at.i ≡ at.j). first_has g into (between ∷ behind) h.lengths (together same)) (λ (apart : at.i ≡ at.j → ⊥). first_has g into (on ∷ last ∷ behind) h.lengths (apart_are apart)) (cases_eq at.i at.j)

  pub has_between : at.i ≡ at.j → HasDistance g r.pickup r.dropoff
  has_between same = let rest = rest_have g into (between ∷ behind) h.lengths (together same) in first_has g between behind rest.lengths rest.are

  pub has_on : (at.i ≡ at.j → ⊥) → HasDistance g r.pickup (node_at front stops (at.i + 1))
  has_on apart = let rest = rest_have g into (on ∷ last ∷ behind) h.lengths (apart_are apart) in first_has g on (last ∷ behind) rest.lengths rest.are

  pub has_in : (at.i ≡ at.j → ⊥) → HasDistance g (node_at front stops at.j) r.dropoff
  has_in apart =
      let rest = rest_have g into (on ∷ last ∷ behind) h.lengths (apart_are apart) in
      let more = rest_have g on (last ∷ behind) rest.lengths rest.are in
      first_has g last behind more.lengths more.are

  behind_have : HaveDistances g behind
  behind_have = ⊎_elim
      (λ (same : at.i ≡ at.j). let rest = rest_have g into (between ∷ behind) h.lengths (together same) in rest_have g between behind rest.lengths rest.are)
      (λ (apart : at.i ≡ at.j → ⊥). let rest = rest_have g into (on ∷ last ∷ behind) h.lengths (apart_are apart) in
      let more = rest_have g on (last ∷ behind) rest.lengths rest.are in
      rest_have g last behind more.lengths more.are)
      (cases_eq at.i at.j)

  pub has_out : at.j < length stops → HasDistance g r.dropoff (node_at front stops (at.j + 1))
  has_out follows = let b = behind_have in first_has g (r.dropoff, node_at front stops (at.j + 1)) [] b.lengths (subst (λ (ends : List (NodeNo × NodeNo)). AreDistances g ends b.lengths) (one_behind stops front r at follows) b.are)

-- the walk behind the dropoff, where a stop follows
abbrev pub LeadsOut : Roads → List Stop → Front → Request → Insertion → Option Path → Type 0
LeadsOut g stops front r at o = AreLeastWalks g (ends_behind stops front r at) (option_to_list o)

pub leads_out : (g : Roads) (stops : List Stop) (front : Front) (r : Request) (at : Insertion) (w : Path) → at.j < length stops → IsLeastWalk g r.dropoff (node_at front stops (at.j + 1)) w → LeadsOut g stops front r at (Some w)
leads_out g stops front r at w follows l = subst (λ (ends : List (NodeNo × NodeNo)). AreLeastWalks g ends (w ∷ [])) (sym (one_behind stops front r at follows)) (l, refl)

pub leads_nowhere : (g : Roads) (stops : List Stop) (front : Front) (r : Request) (at : Insertion) → length stops ≤ at.j → LeadsOut g stops front r at None
leads_nowhere g stops front r at last = subst (λ (ends : List (NodeNo × NodeNo)). AreLeastWalks g ends []) (sym (none_behind stops front r at last)) refl

-- the walks where pickup and dropoff are neighbours
pub walks_together : (g : Roads) (stops : List Stop) (front : Front) (r : Request) (at : Insertion) (x y : Path) (o : Option Path) → at.i ≡ at.j
    → IsLeastWalk g (node_at front stops at.i) r.pickup x → IsLeastWalk g r.pickup r.dropoff y → LeadsOut g stops front r at o → AreLeastWalks g (changed_ends stops front r at) (x ∷ y ∷ option_to_list o)
walks_together g stops front r at x y o same first middle out = subst (λ (ends : List (NodeNo × NodeNo)). AreLeastWalks g ends (x ∷ y ∷ option_to_list o)) (sym (ends_together stops front r at same)) (first, (middle, out))

-- and where they are apart
pub walks_apart : (g : Roads) (stops : List Stop) (front : Front) (r : Request) (at : Insertion) (x y z : Path) (o : Option Path) → (at.i ≡ at.j → ⊥)
    → IsLeastWalk g (node_at front stops at.i) r.pickup x → IsLeastWalk g r.pickup (node_at front stops (at.i + 1)) y → IsLeastWalk g (node_at front stops at.j) r.dropoff z → LeadsOut g stops front r at o
    → AreLeastWalks g (changed_ends stops front r at) (x ∷ y ∷ z ∷ option_to_list o)
walks_apart g stops front r at x y z o apart first second third out =
    subst (λ (ends : List (NodeNo × NodeNo)). AreLeastWalks g ends (x ∷ y ∷ z ∷ option_to_list o)) (sym (ends_apart stops front r at apart)) (first, (second, (third, out)))
