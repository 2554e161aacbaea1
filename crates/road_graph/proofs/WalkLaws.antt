-- What holds of the walks and distances of every graph: the laws that crates above cite.
use Rattle.std.proofs.Common.{◌≡◌, ℕ, ◌+◌, ◌^◌, ◌<◌, ◌≤◌, true, List, [], ◌∷◌, ◌++◌, reverse, length, slice_get, Option, Some, ap, ◌∙◌, arith, refl}
use Rattle.road_graph.specs.declared.road.NodeNo.{NodeNo}
use Rattle.road_graph.specs.declared.road.Road.{Road}
use Rattle.road_graph.specs.Roads.{Roads, IsNode, is_node, ins, outs, least_weight}
use Rattle.road_graph.specs.Graphs.{IsGraph}
use Rattle.road_graph.specs.Paths.{Path, IsPath}
use Rattle.road_graph.specs.Walks.{walk_length, last_of, both, IsWalk, IsDist, IsSimple, IsMeasured}
use Rattle.road_graph.specs.Reads.{roads_out, roads_into, read_along}
use Rattle.road_graph.specs.Turned.{turned}
use Rattle.road_graph.specs.WalkLaws.{WalksShorten, SimpleWalksAreFew, SimpleWalksAreShort, DistancesAreShort, DistancesAreOne, DistancesAreSimple, WalksHaveDistances, IsTriangular, PartsAreLeast, PlacesAreLeast, HasFirstStep, HasRoad, IsRoadInto, IsAtMost}
use Rattle.road_graph.proofs.IsWalk as walk
use Rattle.road_graph.proofs.IsSimple as simple
use Rattle.road_graph.proofs.IsDist as dist
use Rattle.road_graph.proofs.IsLeastWalk as least
use Rattle.road_graph.proofs.IsPath as path
use Rattle.road_graph.proofs.LeastWeight as weight
use Rattle.road_graph.proofs.Turned as turning
use Rattle.road_graph.proofs.WalkLength as sum
use Rattle.road_graph.proofs.RoadCounts as counts

-- nodes of one number are one node
pub same_node : {u v : NodeNo} → u.0 ≡ v.0 → u ≡ v
same_node e = walk.same_node e

-- a node passes the test exactly where it is one
pub node_from_test : (g : Roads) (n : NodeNo) → is_node g.nodes n ≡ true → IsNode g n
node_from_test g n h = walk.node_from_test g n h

pub test_from_node : (g : Roads) (n : NodeNo) → IsNode g n → is_node g.nodes n ≡ true
test_from_node g n h = walk.test_from_node g n h

-- a road of the list has the least weight from one node to another
pub has_road : (roads : List Road) (u v : NodeNo) (w : ℕ) → least_weight roads u v ≡ Some w → HasRoad roads u v w
has_road roads u v w h = sum.has_road roads u v w h

-- no road from one node to another weighs less than the least weight
pub least_at_most : (roads : List Road) (k : ℕ) (road : Road) → slice_get roads k ≡ Some road → IsAtMost (least_weight roads road.from road.to) road.weight
least_at_most roads k road at = weight.least_at_most roads k road at

-- both ends of a road are nodes, and its weight fits 32 bits
pub ends_are_nodes : (g : Roads) → IsGraph g → (u v : NodeNo) (w : ℕ) → least_weight g.roads u v ≡ Some w → IsNode g u × IsNode g v
ends_are_nodes g lawful u v w h = walk.ends_are_nodes g lawful u v w h

pub weight_is_light : (g : Roads) → IsGraph g → (u v : NodeNo) (w : ℕ) → least_weight g.roads u v ≡ Some w → w < 2 ^ 32
weight_is_light g lawful u v w h = walk.weight_is_light g lawful u v w h

-- the lightest road into a node is among those into it, and none of them is lighter
pub in_ins : (g : Roads) (u n : NodeNo) (w : ℕ) → least_weight g.roads u n ≡ Some w → (j : ℕ) × (slice_get (ins g n) j ≡ Some (u, w))
in_ins g u n w h = weight.in_ins g u n w h

pub road_of_in : (g : Roads) (n : NodeNo) (j : ℕ) (u : NodeNo) (w : ℕ) → slice_get (ins g n) j ≡ Some (u, w) → IsRoadInto g.roads u n w
road_of_in g n j u w h = weight.of_into g.roads n j u w h

pub weight_of_in : (g : Roads) (n : NodeNo) (j : ℕ) (u : NodeNo) (w : ℕ) → slice_get (ins g n) j ≡ Some (u, w) → IsAtMost (least_weight g.roads u n) w
weight_of_in g n j u w h = weight.weight_of_in g n j u w h

pub node_of_in : (g : Roads) → IsGraph g → (n : NodeNo) (j : ℕ) (u : NodeNo) (w : ℕ) → slice_get (ins g n) j ≡ Some (u, w) → IsNode g u
node_of_in g lawful n j u w h = weight.node_of_in g lawful n j u w h

-- a node alone is a walk of length 0
pub alone_is_walk : (g : Roads) (u : NodeNo) → IsNode g u → IsWalk g u u (u ∷ []) 0
alone_is_walk g u n = ((refl, refl), walk.alone_is_walk g u n)

pub alone_is_node : (g : Roads) (u : NodeNo) (x : ℕ) → walk_length g (u ∷ []) ≡ Some x → IsNode g u × (x ≡ 0)
alone_is_node g u x e = walk.alone_is_node g u x e

-- the nodes of a walk are nodes of the graph
pub first_is_node : (g : Roads) → IsGraph g → (u : NodeNo) (more : List NodeNo) (x : ℕ) → walk_length g (u ∷ more) ≡ Some x → IsNode g u
first_is_node g lawful u more x e = walk.first_is_node g lawful u more x e

pub each_is_node : (g : Roads) → IsGraph g → (nodes : List NodeNo) (x k : ℕ) (n : NodeNo) → walk_length g nodes ≡ Some x → slice_get nodes k ≡ Some n → IsNode g n
each_is_node g lawful nodes x k n e at = walk.each_is_node g lawful nodes x k n e at

-- a walk of two nodes or more is a road and the rest of it
pub step_of : (g : Roads) (u v : NodeNo) (more : List NodeNo) (x : ℕ) → walk_length g (u ∷ v ∷ more) ≡ Some x → HasFirstStep g u v more x
step_of g u v more x h = walk.step_of g u v more x h

pub step_to : (g : Roads) (u v : NodeNo) (more : List NodeNo) (w y : ℕ) → least_weight g.roads u v ≡ Some w → walk_length g (v ∷ more) ≡ Some y → walk_length g (u ∷ v ∷ more) ≡ Some (w + y)
step_to g u v more w y road rest = walk.step_to g u v more w y road rest

-- a road before a walk, one behind it, and one walk after another
pub walk_over : (g : Roads) (u v t : NodeNo) (w d : ℕ) → least_weight g.roads u v ≡ Some w → (nodes : List NodeNo) → IsWalk g v t nodes d → IsWalk g u t (u ∷ nodes) (w + d)
walk_over g u v t w d road nodes h = walk.walk_over g u v t w d road nodes h

pub walk_push : (g : Roads) (nodes : List NodeNo) (a b c : NodeNo) (x w : ℕ) → IsWalk g a b nodes x → least_weight g.roads b c ≡ Some w → IsNode g c → IsWalk g a c (nodes ++ c ∷ []) (x + w)
walk_push g nodes a b c x w h road n = walk.walk_push g nodes a b c x w h road n

pub walk_after : (g : Roads) (nodes : List NodeNo) (u v w : NodeNo) (x : ℕ) → IsWalk g u v nodes x → (next : List NodeNo) (y : ℕ) → IsWalk g v w next y → (ns : List NodeNo) × IsWalk g u w ns (x + y)
walk_after g nodes u v w x a next y b = walk.walk_after g nodes u v w x a next y b

-- one node more at the end of a walk
pub walk_more : (g : Roads) → IsGraph g → (u : NodeNo) (more : List NodeNo) (w : NodeNo) → walk_length g (u ∷ (more ++ w ∷ [])) ≡ both (walk_length g (u ∷ more)) (least_weight g.roads (last_of u more) w)
walk_more g lawful u more w = sum.walk_more g lawful u more w

pub last_push : (u : NodeNo) (more : List NodeNo) (w : NodeNo) → last_of u (more ++ w ∷ []) ≡ w
last_push u more w = sum.last-push u more w

-- both parts of a sum that is there
pub parts : (a b : Option ℕ) (x : ℕ) → both a b ≡ Some x → (w : ℕ) × (y : ℕ) × (a ≡ Some w) × (b ≡ Some y) × (w + y ≡ x)
parts a b x h = walk.parts a b x h

-- the offsets of a walk begin at 0 and don't fall
pub measured_path : (g : Roads) → IsGraph g → (w : Path) → IsMeasured g w → IsPath w
measured_path g lawful w m = path.measured_path g lawful w m

-- each walk can be shortened to one with no node twice, which has no more nodes than the graph and is shorter than the limit
pub shorten : (g : Roads) → WalksShorten g
shorten g u v [] x w = absurd w.0
shorten g u v (c ∷ more) x w = let s = simple.shorten g v c more x w.0.1 w.1 in (c ∷ s.more, s.length, ((w.0.0, s.last), s.walk), s.distinct, s.less)

pub simple_few : (g : Roads) → IsGraph g → SimpleWalksAreFew g
simple_few g lawful u v [] x w d = absurd w.0
simple_few g lawful u v (c ∷ more) x w d = let few = simple.simple_few g lawful c more x w.1 d in omega arith

pub simple_short : (g : Roads) → IsGraph g → SimpleWalksAreShort g
simple_short g lawful u v [] x w d = absurd w.0
simple_short g lawful u v (c ∷ more) x w d = simple.simple_short g lawful c more x w.1 d

-- distances: below the limit, one for two nodes, there where a walk is, and the length of a walk with no node twice
pub dist_short : (g : Roads) → IsGraph g → DistancesAreShort g
dist_short g lawful u v x d = simple.dist_short g lawful u v x d

pub one_distance : (g : Roads) → DistancesAreOne g
one_distance g u v x y a b = least.one_distance g u v x y a b

pub has_distance : (g : Roads) → IsGraph g → WalksHaveDistances g
has_distance g lawful u v nodes x w = dist.has_distance g lawful u v nodes x w

pub dist_simple : (g : Roads) → DistancesAreSimple g
dist_simple g u v x d = let s = shorten g u v d.reached.0 x d.reached.1 in
    let low = d.least s.0 s.1 s.2 in
    let high = s.4 in
    let is : s.1 ≡ x = omega arith in
    (s.0, (s.2.0, s.2.1 ∙ ap Some is), s.3)

-- a walk that no walk is shorter than has the distance for its length
pub dist_from_bound : (g : Roads) (u v : NodeNo) (nodes : List NodeNo) (x : ℕ) → IsWalk g u v nodes x → ((other : List NodeNo) (y : ℕ) → IsWalk g u v other y → x ≤ y) → IsDist g u v x
dist_from_bound g u v nodes x w low = record { reached = (nodes, w); least = low }

-- a node is 0 from itself
pub dist_self : (g : Roads) (u : NodeNo) → IsNode g u → IsDist g u u 0
dist_self g u n = record { reached = (u ∷ [], alone_is_walk g u n); least = λ nodes y w. omega arith }

-- a way over a third node is no shorter, and each part of a least walk is one
pub triangle : (g : Roads) → IsGraph g → IsTriangular g
triangle g lawful u v w x y a b = least.triangle g lawful u v w x y a b

pub parts_are_least : (g : Roads) → IsGraph g → PartsAreLeast g
parts_are_least g lawful u v w whole front part back is a b j = least.parts_are_least g lawful u v w whole front part back is a b j

pub places_are_least : (g : Roads) → IsGraph g → PlacesAreLeast g
places_are_least g lawful u v w whole i j a b le e f = least.places_are_least g lawful u v w whole i j a b le e f

-- no more roads lead out of nodes that each stand once than there are, and no more into them; to follow nodes reads no more
pub out_few : (g : Roads) (nodes : List NodeNo) → IsSimple nodes → roads_out g nodes ≤ length g.roads
out_few g nodes s = counts.out_few g nodes s

pub in_few : (g : Roads) (nodes : List NodeNo) → IsSimple nodes → roads_into g nodes ≤ length g.roads
in_few g nodes s = counts.in_few g nodes s

pub along_out : (g : Roads) (nodes : List NodeNo) → read_along g nodes ≤ roads_out g nodes
along_out g nodes = counts.along_out g nodes

-- one node more at the end
pub out_push : (g : Roads) (nodes : List NodeNo) (n : NodeNo) → roads_out g (nodes ++ n ∷ []) ≡ roads_out g nodes + length (outs g n)
out_push g nodes n = counts.out_append g nodes n

pub in_push : (g : Roads) (nodes : List NodeNo) (n : NodeNo) → roads_into g (nodes ++ n ∷ []) ≡ roads_into g nodes + length (ins g n)
in_push g nodes n = counts.in_append g nodes n

-- with each road the other way round walks go back, and distances are as long
pub turned_turned : (g : Roads) → turned (turned g) ≡ g
turned_turned g = turning.turned-turned g

pub turned_graph : (g : Roads) → IsGraph g → IsGraph (turned g)
turned_graph g lawful = turning.IsGraph-turned g lawful

pub turned_ins : (g : Roads) (n : NodeNo) → ins (turned g) n ≡ outs g n
turned_ins g n = turning.ins-turned g n

pub turned_weight : (g : Roads) (u v : NodeNo) → least_weight (turned g).roads v u ≡ least_weight g.roads u v
turned_weight g u v = turning.least_weight-turned g.roads u v

pub turned_walk : (g : Roads) → IsGraph g → (nodes : List NodeNo) (u v : NodeNo) (x : ℕ) → IsWalk g u v nodes x → IsWalk (turned g) v u (reverse nodes) x
turned_walk g lawful nodes u v x w = turning.IsWalk-turned g lawful nodes u v x w

pub walk_from_turned : (g : Roads) → IsGraph g → (nodes : List NodeNo) (u v : NodeNo) (x : ℕ) → IsWalk (turned g) v u nodes x → IsWalk g u v (reverse nodes) x
walk_from_turned g lawful nodes u v x w = turning.IsWalk-from_turned g lawful nodes u v x w

pub turned_dist : (g : Roads) → IsGraph g → (u v : NodeNo) (x : ℕ) → IsDist g u v x → IsDist (turned g) v u x
turned_dist g lawful u v x d = turning.IsDist-turned g lawful u v x d

pub dist_from_turned : (g : Roads) → IsGraph g → (u v : NodeNo) (x : ℕ) → IsDist (turned g) v u x → IsDist g u v x
dist_from_turned g lawful u v x d = turning.IsDist-from_turned g lawful u v x d
