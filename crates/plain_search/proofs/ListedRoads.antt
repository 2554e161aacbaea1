use Rattle.std.proofs.Common.{◌≡◌, ℕ, ◌+◌, ◌≤◌, List, [], ◌∷◌, ◌++◌, length, sym, ap, ◌∙◌, arith}
use Rattle.std.proofs.lemmas.List.{map-append}
use Rattle.road_graph.specs.declared.road.NodeNo.{NodeNo}
use Rattle.road_graph.specs.Roads.{Roads, ins}
use Rattle.road_graph.specs.Walks.{IsSimple}
use Rattle.plain_search.specs.declared.nearest.Candidate.{Candidate}
use Rattle.plain_search.specs.declared.reached.Reached.{Reached}
use Rattle.plain_search.specs.declared.reached.Way.{Way}
use Rattle.plain_search.specs.declared.reached.Way.TheVariants.{From, To}
use Rattle.plain_search.specs.declared.search.Search.{Search}
use Rattle.plain_search.specs.Reaching.{nodes_of, roads_by}
use Rattle.plain_search.specs.Searching.{faced, reached_by, IsSearchOf, listed_roads}
use Rattle.road_graph.proofs.WalkLaws.{out_push, in_push, out_few, in_few, turned_ins}
use Rattle.plain_search.proofs.ArePlaces.{listed_once}

roads_push : (way : Way) (g : Roads) (nodes : List NodeNo) (n : NodeNo) → roads_by way g (nodes ++ n ∷ []) ≡ roads_by way g nodes + length (ins (faced way g) n)
roads_push From g nodes n = out_push g nodes n ∙ ap (λ (row : List (NodeNo × ℕ)). roads_by From g nodes + length row) (sym (turned_ins g n))
roads_push To g nodes n = in_push g nodes n

pub roads_few : (way : Way) (g : Roads) (nodes : List NodeNo) → IsSimple nodes → roads_by way g nodes ≤ length g.roads
roads_few From g nodes s = out_few g nodes s
roads_few To g nodes s = in_few g nodes s

-- one node more is listed, and its roads are followed
pub listed_push : (way : Way) (g : Roads) (old new : Search) (c : Candidate) → new.reached ≡ old.reached ++ reached_by c ∷ [] → listed_roads way g new ≡ listed_roads way g old + length (ins (faced way g) c.node)
listed_push way g old new c e =
    ap (roads_by way g) (ap nodes_of e ∙ map-append (λ (r : Reached). r.node) old.reached (reached_by c ∷ [])) ∙ roads_push way g (nodes_of old.reached) c.node

-- each listed node stands once, so no road is followed twice
pub listed_few : (way : Way) (g h : Roads) (s : Search) → IsSearchOf h s → listed_roads way g s ≤ length g.roads
listed_few way g h s search = roads_few way g (nodes_of s.reached) (listed_once s.reached s.marks search.places)

pub none_listed : (way : Way) (g : Roads) (s : Search) → s.reached ≡ [] → listed_roads way g s ≡ 0
none_listed From g s e = ap (λ (rs : List Reached). roads_by From g (nodes_of rs)) e
none_listed To g s e = ap (λ (rs : List Reached). roads_by To g (nodes_of rs)) e

pub listed_same : (way : Way) (g : Roads) (old new : Search) → new.reached ≡ old.reached → listed_roads way g new ≡ listed_roads way g old
listed_same way g old new e = ap (λ (rs : List Reached). roads_by way g (nodes_of rs)) e

-- a node was settled, and of its roads so many were followed
pub few_followed : (way mid_way : Way) (g h : Roads) (old mid : Search) (c : Candidate) (fn_reached : List Reached) (before after : ℕ) → mid_way ≡ way → old.reached ≡ fn_reached → mid.reached ≡ old.reached ++ reached_by c ∷ []
    → IsSearchOf h mid → after ≤ before + length (ins (faced mid_way g) c.node) → after + roads_by way g (nodes_of fn_reached) ≤ before + length g.roads
few_followed way mid_way g h old mid c fn_reached before after same kept made search most =
    let push = listed_push way g old mid c made in
    let few = listed_few way g h mid search in
    let here = ap (λ (w : Way). length (ins (faced w g) c.node)) same in
    let was = ap (λ (rs : List Reached). roads_by way g (nodes_of rs)) kept in
    omega arith

pub all_followed : (way mid_way : Way) (g : Roads) (old mid new : Search) (c : Candidate) (fn_reached : List Reached) (before after : ℕ) → mid_way ≡ way → old.reached ≡ fn_reached → mid.reached ≡ old.reached ++ reached_by c ∷ []
    → new.reached ≡ mid.reached → after ≡ before + length (ins (faced mid_way g) c.node) → after + roads_by way g (nodes_of fn_reached) ≡ before + listed_roads way g new
all_followed way mid_way g old mid new c fn_reached before after same kept made last exact =
    let push = listed_push way g old mid c made in
    let here = ap (λ (w : Way). length (ins (faced w g) c.node)) same in
    let was = ap (λ (rs : List Reached). roads_by way g (nodes_of rs)) kept in
    let is = listed_same way g mid new last in
    omega arith

pub none_followed : (way : Way) (g h : Roads) (old : Search) (fn_reached : List Reached) (before after : ℕ) → old.reached ≡ fn_reached → IsSearchOf h old → after ≡ before → after + roads_by way g (nodes_of fn_reached) ≤ before + length g.roads
none_followed way g h old fn_reached before after kept search same =
    let few = listed_few way g h old search in
    let was = ap (λ (rs : List Reached). roads_by way g (nodes_of rs)) kept in
    omega arith
