use Rattle.std.proofs.Common.{◌≡◌, ℕ, zero, suc, ◌+◌, ◌-◌, ◌<◌, ◌⊎◌, inl, inr, List, [], ◌∷◌, length, reverse, Option, Some, None, sym, ap, ◌∙◌, arith, refl, subst, length-append}
use Rattle.std.specs.Prelude.{All, MatchOption, Result, Ok, Err, IfOk}
use Rattle.std.specs.declared.alloc.AllocError.{AllocError}
use Rattle.std.proofs.lemmas.List.Elements.{All-nil}
use Rattle.road_graph.specs.declared.road.NodeNo.{NodeNo}
use Rattle.road_graph.specs.Roads.{Roads}
use Rattle.road_graph.specs.Graphs.{IsGraph}
use Rattle.road_graph.specs.Paths.{Path}
use Rattle.road_graph.specs.Walks.{IsWalk, IsDist, NoWalk, IsLeastWalk}
use Rattle.plain_search.specs.declared.nearest.Candidate.{Candidate}
use Rattle.plain_search.specs.declared.reached.Reached.{Reached}
use Rattle.plain_search.specs.declared.reached.Way.{Way}
use Rattle.plain_search.specs.declared.reached.Way.TheVariants.{From, To}
use Rattle.plain_search.specs.declared.search.Search.{Search}
use Rattle.road_graph.specs.Reads.{roads_into, read_along}
use Rattle.plain_search.specs.Reaching.{nodes_of, nodes_found, AreWalkReads, Listing, AreReached, IsReach, IsDistBy, IsWalkBy, IsLeastWalkBy, IsBeyond, IsInside, IsOutside, HasWayBack, weight_by, distance_of}
use Rattle.plain_search.specs.Searching.{faced, IsSearchOf, AllOfferedIn, IsSettled, IsSameSearch, HasOneMore}
use Rattle.plain_search.proofs.ArePlaces.{listed_once}
use Rattle.plain_search.proofs.Faced.{nodes-faced, IsNode-from_faced, IsGraph-from_faced}
use Rattle.plain_search.proofs.DistanceOf.{found, missing, stands_distance}
use Rattle.plain_search.proofs.BoundedWalk.{bounded_walk, outside_more}
use Rattle.plain_search.proofs.IsSearch.{few_in_search}
use Rattle.road_graph.proofs.WalkLaws.{turned_walk, dist_from_turned, turned_weight}

-- what a search has listed
abbrev pub listing_of : Search → Listing
listing_of s = record { way = s.way; start = s.start; radius = s.radius; listed = s.reached }

-- distances and weights in the graph that a search faces
dist_by : (way : Way) (g : Roads) → IsGraph g → (start n : NodeNo) (x : ℕ) → IsDist (faced way g) n start x → IsDistBy way g start n x
dist_by From g lawful start n x d = dist_from_turned g lawful start n x d
dist_by To g lawful start n x d = d

pub weight_faced : (way : Way) (g : Roads) (p n : NodeNo) → weight_by To (faced way g) p n ≡ weight_by way g p n
weight_faced From g p n = turned_weight g p n
weight_faced To g p n = refl

back_by : (way : Way) (g : Roads) (start : NodeNo) (listed : List Reached) (k : ℕ) (r : Reached) → HasWayBack To (faced way g) start listed k r → HasWayBack way g start listed k r
back_by way g start listed zero r b = b
back_by way g start listed (suc k) r b = record {
  place = b.place;
  before = b.before;
  parent = b.parent;
  stands = b.stands;
  named = b.named;
  weight = b.weight;
  road = sym (weight_faced way g b.parent.node r.node) ∙ b.road;
  sum = b.sum;
}

pub walk_faced : (way : Way) (g : Roads) → IsGraph g → (start n : NodeNo) (nodes : List NodeNo) (x : ℕ) → IsWalkBy way g start n nodes x → (ns : List NodeNo) × IsWalk (faced way g) n start ns x
walk_faced From g lawful start n nodes x w = (reverse nodes, turned_walk g lawful nodes start n x w)
walk_faced To g lawful start n nodes x w = (nodes, w)

-- what is listed while a search goes on is right
pub so_far : (g : Roads) → IsGraph g → (s : Search) → IsSearchOf (faced s.way g) s → AreReached g (listing_of s)
so_far g lawful s h = record {
  graph = lawful;
  start = IsNode-from_faced s.way g s.start h.node;
  exact = λ n x e. (let f = found s.reached n x e in
      dist_by s.way g lawful s.start n x (subst (λ (m : NodeNo). IsDist (faced s.way g) m s.start x) f.3 (subst (λ (y : ℕ). IsDist (faced s.way g) f.1.node s.start y) f.4 (h.exact f.0 f.1 f.2))));
  each = λ k r at. stands_distance s.reached s.marks h.places r.node k (r, at, refl);
  once = listed_once s.reached s.marks h.places;
  rising = h.rising;
  back = λ k r at. back_by s.way g s.start s.reached k r (h.back k r at);
}

-- and it is all within the radius where no candidate is left
pub finished : (g : Roads) → IsGraph g → (s : Search) → IsSearchOf (faced s.way g) s → AllOfferedIn (faced s.way g) s → s.waiting ≡ [] → IsReach g (listing_of s)
finished g lawful s h all empty = record {
  reached = so_far g lawful s h;
  within = λ n x e. (let f = found s.reached n x e in subst (IsInside s.radius) f.4 (h.inside f.0 f.1 f.2));
  others = λ n e nodes x w. (let f = walk_faced s.way g lawful s.start n nodes x w in bound n e f.0 x f.1);
}
  where
    none_waits : All (λ (c : Candidate). IsOutside s.radius c.distance) s.waiting
    none_waits = subst (λ (o : List Candidate). All (λ (c : Candidate). IsOutside s.radius c.distance) o) (sym empty) (All-nil (λ (c : Candidate). IsOutside s.radius c.distance))

    bound : (n : NodeNo) → distance_of s.reached n ≡ None → (nodes : List NodeNo) (x : ℕ) → IsWalk (faced s.way g) n s.start nodes x → IsOutside s.radius x
    bound n e [] x w = absurd w.0
    bound n e (c ∷ more) x w =
        bounded_walk (faced s.way g) s.start s.radius s.reached s.marks s.waiting h all (IsOutside s.radius) (outside_more s.radius) none_waits (λ y out. out) c more x w.0.1 w.1
        (λ q. let p = h.places.stands c q.0 q.1 in missing s.reached n e q.0 p.0 p.1 (p.2 ∙ w.0.0))

-- one node more is listed, and there are only so many
pub falls : (g : Roads) (old new : Search) → HasOneMore old new → IsSearchOf (faced old.way g) new → g.nodes + 2 - length new.reached < g.nodes + 2 - length old.reached
falls g old new more search =
    let few = few_in_search (faced old.way g) new search in
    let n = nodes-faced old.way g in
    let l = ap length more.is in
    let a = length-append old.reached (more.node ∷ []) in
    omega arith

pub finished_after : (g : Roads) (old new : Search) → IsSameSearch old new → IsSearchOf (faced old.way g) new → AllOfferedIn (faced old.way g) new → new.waiting ≡ [] → IsReach g (listing_of new)
finished_after g old new same search offered empty =
    let s = subst (λ (w : Way). IsSearchOf (faced w g) new) (sym same.way) search in
    let o = subst (λ (w : Way). AllOfferedIn (faced w g) new) (sym same.way) offered in
    finished g (IsGraph-from_faced new.way g s.graph) new s o empty

-- a search that ends at a node, or with no candidate, and doesn't list the node: there is no walk
pub no_walk : (g : Roads) (s : Search) (from to : NodeNo) → IsSearchOf (faced s.way g) s → AllOfferedIn (faced s.way g) s → s.way ≡ To → s.start ≡ to → s.radius ≡ None
    → IsSettled s.marks from ⊎ (s.waiting ≡ []) → distance_of s.reached from ≡ None → NoWalk g from to
no_walk g s from to search offered way start radius (inl q) none = let p = search.places.stands from q.0 q.1 in absurd (missing s.reached from none q.0 p.0 p.1 p.2)
no_walk g s from to search offered way start radius (inr empty) none =
    let lawful = IsGraph-from_faced s.way g search.graph in
    let beyond = (finished g lawful s search offered empty).others from none in
    subst (λ (n : NodeNo). NoWalk g from n) start (subst (λ (r : Option ℕ). IsBeyond To g s.start r from) radius (subst (λ (w : Way). IsBeyond w g s.start s.radius from) way beyond))

-- what the listing of such a search says of a walk back
pub walk_or_none : (g : Roads) (s : Search) (from to : NodeNo) (l : Listing) → l ≡ listing_of s → IsSearchOf (faced s.way g) s → AllOfferedIn (faced s.way g) s → s.way ≡ To → s.start ≡ to → s.radius ≡ None
    → IsSettled s.marks from ⊎ (s.waiting ≡ []) → (made : Result (Option Path) AllocError)
    → IfOk made (λ m. MatchOption m (distance_of l.listed from ≡ None) (IsLeastWalkBy l.way g l.start from)) → IfOk made (λ m. MatchOption m (NoWalk g from to) (IsLeastWalk g from to))
walk_or_none g s from to l is search offered way start radius ends (Err e) h = h
walk_or_none g s from to l is search offered way start radius ends (Ok None) h =
    no_walk g s from to search offered way start radius ends (subst (λ (k : Listing). distance_of k.listed from ≡ None) is h)
walk_or_none g s from to l is search offered way start radius ends (Ok (Some w)) h =
    subst (λ (n : NodeNo). IsLeastWalk g from n w) start (subst (λ (y : Way). IsLeastWalkBy y g s.start from w) way (subst (λ (k : Listing). IsLeastWalkBy k.way g k.start from w) is h))

pub reached_so_far : (g : Roads) (s : Search) (l : Listing) → l ≡ listing_of s → IsSearchOf (faced s.way g) s → AreReached g l
reached_so_far g s l is search = subst (AreReached g) (sym is) (so_far g (IsGraph-from_faced s.way g search.graph) s search)

-- what such a search and the walk back read
pub walk_reads_all : (g : Roads) (s : Search) (to : NodeNo) → IsSearchOf (faced s.way g) s → s.way ≡ To → s.start ≡ to → s.radius ≡ None → (made : Result (Option Path) AllocError) (old mid new : ℕ)
    → mid ≡ old + roads_into g (nodes_of s.reached) → IfOk made (λ found. new ≡ mid + read_along g (nodes_found found)) → IfOk made (λ found. AreWalkReads g to found old new)
walk_reads_all g s to search way start radius (Err e) old mid new is h = h
walk_reads_all g s to search way start radius (Ok found) old mid new is h = record {
  listed = s.reached;
  reached = subst (λ (r : Option ℕ). AreReached g (record { way = To; start = to; radius = r; listed = s.reached })) radius
      (subst (λ (n : NodeNo). AreReached g (record { way = To; start = n; radius = s.radius; listed = s.reached })) start
      (subst (λ (w : Way). AreReached g (record { way = w; start = s.start; radius = s.radius; listed = s.reached })) way (so_far g (IsGraph-from_faced s.way g search.graph) s search)));
  reads = (let e = h in omega arith);
}
