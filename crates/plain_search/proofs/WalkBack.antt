use Rattle.std.proofs.Common.{◌≡◌, ℕ, zero, suc, ◌+◌, ◌<◌, ◌≤◌, nat_eq, eqb, ⊎_elim, cond, ne_eqb, false, List, [], ◌∷◌, ◌++◌, append_assoc, length, reverse, get_or, Option, Some, None, sym, ap, ◌∙◌, arith, refl, subst}
use Rattle.std.specs.Prelude.{slice_get, MatchOption, Result, Ok, Err, IfOk}
use Rattle.std.specs.declared.alloc.AllocError.{AllocError}
use Rattle.std.specs.List.{IsDistinct, AllByRecursion}
use Rattle.std.proofs.lemmas.Bool.{cases_eq}
use Rattle.std.proofs.lemmas.List.{length-reverse}
use Rattle.std.proofs.lemmas.List.Sorted.{IsPermutation-reverse, IsPermutation-map}
use Rattle.std.proofs.lemmas.Map.Keys.{IsDistinct-IsPermutation}
use Rattle.std.proofs.lemmas.Option.{get_or_from_slice_get}
use Rattle.road_graph.specs.declared.road.NodeNo.{NodeNo}
use Rattle.road_graph.specs.Roads.{Roads, IsNode, least_weight}
use Rattle.road_graph.specs.Graphs.{IsGraph}
use Rattle.road_graph.specs.Limits.{most_walk_nodes}
use Rattle.road_graph.specs.Paths.{Path, length_of}
use Rattle.road_graph.specs.Walks.{numbers, walk_length, Joins, IsWalk, IsDist, IsSimple, IsMeasured}
use Rattle.plain_search.specs.declared.reached.Reached.{Reached}
use Rattle.plain_search.specs.declared.reached.Way.{Way}
use Rattle.plain_search.specs.declared.reached.Way.TheVariants.{From, To}
use Rattle.plain_search.specs.declared.reached.Mark.{Mark}
use Rattle.plain_search.specs.Marking.{ArePlaces}
use Rattle.plain_search.specs.Reaching.{nodes_found, Listing, AreReached, HasParent, HasWayBack, StandsAt, IsWalkBy, IsDistBy, IsLeastWalkBy, distance_of, in_way}
use Rattle.plain_search.specs.Searching.{faced}
use Rattle.plain_search.proofs.Faced.{nodes-faced, IsNode-faced, IsGraph-faced}
use Rattle.plain_search.proofs.IsReach.{weight_faced}
use Rattle.plain_search.proofs.DistanceOf.{missing, same_place}
use Rattle.road_graph.proofs.WalkLaws.{same_node, test_from_node}
use Rattle.road_graph.proofs.WalkLaws.{walk_over}
use Rattle.road_graph.specs.Reads.{read_along}
use Rattle.road_graph.proofs.WalkLaws.{simple_few, along_out, out_few}
use Rattle.road_graph.proofs.WalkLaws.{walk_from_turned}

-- the node stands at this place or before
abbrev IsUpTo : List Reached → ℕ → NodeNo → Type 0
IsUpTo listed k n = (j : ℕ) × (j ≤ k) × StandsAt listed n j

-- the nodes lead from the node at a place to the start, over nodes that stand before it
pub record IsLine (g : Roads) (s : Listing) (k : ℕ) (nodes : List NodeNo) : Type 0 where
  pub top : Reached
  pub stands : slice_get s.listed k ≡ Some top
  pub walk : IsWalk (faced s.way g) top.node s.start nodes top.distance
  pub simple : IsSimple nodes
  pub below : AllByRecursion (IsUpTo s.listed k) nodes

line_start : (g : Roads) (s : Listing) → AreReached g s → (r : Reached) → slice_get s.listed 0 ≡ Some r → IsLine g s 0 (r.node ∷ [])
unfolding IsDistinct
line_start g s reached r at =
    let b = reached.back 0 r at in
    let n = ap (λ (o : Reached). o.node) b in
    let d = ap (λ (o : Reached). o.distance) b in
    let test = test_from_node (faced s.way g) r.node (subst (IsNode (faced s.way g)) (sym n) (IsNode-faced s.way g s.start reached.start)) in
    record {
      top = r;
      stands = at;
      walk = ((refl, n), ap (λ t. cond t (Some 0) None) test ∙ ap Some (sym d));
      simple = (tt, tt);
      below = ((0, omega arith, (r, at, refl)), tt);
    }

further_up : (listed : List Reached) (j k : ℕ) → j ≤ k → (nodes : List NodeNo) → AllByRecursion (IsUpTo listed j) nodes → AllByRecursion (IsUpTo listed k) nodes
further_up listed j k le [] h = tt
further_up listed j k le (n ∷ nodes) h = ((h.0.0, (let l = h.0.1 in omega arith), h.0.2), further_up listed j k le nodes h.1)

-- a node at a later place is none of them
differs : (listed : List Reached) (marks : List Mark) → ArePlaces listed marks → (j k : ℕ) → j < k → (n : NodeNo) → StandsAt listed n k → (nodes : List NodeNo) → AllByRecursion (IsUpTo listed j) nodes → AllByRecursion (λ m. nat_eq n.0 m ≡ false) (numbers nodes)
differs listed marks p j k lt n at [] h = tt
differs listed marks p j k lt n at (m ∷ nodes) h = (ne_eqb n.0 m.0 (λ same. apart (same_node same)), differs listed marks p j k lt n at nodes h.1)
  where
    apart : n ≡ m → ⊥
    apart same =
        let there : StandsAt listed m k = (at.0, at.1, at.2 ∙ same) in
        let e = (same_place listed marks p m k h.0.0 there h.0.2).0 in
        let l = h.0.1 in
        omega arith

line_more : (g : Roads) (s : Listing) (marks : List Mark) → ArePlaces s.listed marks → (k : ℕ) (r : Reached) → slice_get s.listed k ≡ Some r → (b : HasParent s.way g s.listed k r) → (rest : List NodeNo) → IsLine g s b.place rest → IsLine g s k (r.node ∷ rest)
unfolding IsDistinct
line_more g s marks places k r at b rest line =
    let is : line.top ≡ b.parent = (let x = line.stands in let y = b.stands in cc) in
    let node = ap (λ (o : Reached). o.node) is in
    let dist = ap (λ (o : Reached). o.distance) is in
    let road : least_weight (faced s.way g).roads r.node line.top.node ≡ Some b.weight = ap (least_weight (faced s.way g).roads r.node) node ∙ weight_faced s.way g b.parent.node r.node ∙ b.road in
    let w = walk_over (faced s.way g) r.node line.top.node s.start b.weight line.top.distance road rest line.walk in
    let sum : b.weight + line.top.distance ≡ r.distance = (let q = b.sum in omega arith) in
    let lt = b.before in
    record {
      top = r;
      stands = at;
      walk = (w.0, w.1 ∙ ap Some sum);
      simple = (differs s.listed marks places b.place k lt r.node (r, at, refl) rest line.below, line.simple);
      below = ((k, omega arith, (r, at, refl)), further_up s.listed b.place k (omega arith) rest line.below);
    }

-- the nodes of a walk from a node to the start, none where the node isn't listed
abbrev pub IsTraced : Roads → Listing → NodeNo → List NodeNo → Type 0
IsTraced g s n nodes = MatchOption (distance_of s.listed n) (nodes ≡ []) (λ x. IsWalk (faced s.way g) n s.start nodes x × IsSimple nodes)

-- the nodes so far, and the place of the next one
abbrev pub IsTracing : Roads → Listing → NodeNo → List NodeNo → Option ℕ → Type 0
IsTracing g s n nodes None = IsTraced g s n nodes
IsTracing g s n nodes (Some k) = (r : Reached) × (slice_get s.listed k ≡ Some r) × ((rest : List NodeNo) → IsLine g s k rest → IsTraced g s n (nodes ++ rest))

abbrev pub left_after : Option ℕ → ℕ
left_after None = 0
left_after (Some k) = suc k

pub trace_begins : (g : Roads) (s : Listing) → AreReached g s → (n : NodeNo) (at : Option ℕ) → MatchOption at (distance_of s.listed n ≡ None) (StandsAt s.listed n) → IsTracing g s n [] at
trace_begins g s reached n None e = subst (λ (o : Option ℕ). MatchOption o (◌≡◌ {A = List NodeNo} [] []) (λ x. IsWalk (faced s.way g) n s.start [] x × IsSimple [])) (sym e) refl
trace_begins g s reached n (Some k) st = (st.0, st.1, whole)
  where
    whole : (rest : List NodeNo) → IsLine g s k rest → IsTraced g s n rest
    whole rest line =
        let is : line.top ≡ st.0 = (let x = line.stands in let y = st.1 in cc) in
        let node = ap (λ (o : Reached). o.node) is ∙ st.2 in
        let e = ap (distance_of s.listed) (sym node) ∙ reached.each k line.top line.stands in
        let w = subst (λ (m : NodeNo). IsWalk (faced s.way g) m s.start rest line.top.distance) node line.walk in
        subst (λ (o : Option ℕ). MatchOption o (rest ≡ []) (λ x. IsWalk (faced s.way g) n s.start rest x × IsSimple rest)) (sym e) (w, line.simple)

-- what the parent of a listed node has for a place
abbrev pub IsNext : Listing → Reached → Option ℕ → Type 0
IsNext s r next = MatchOption r.parent (next ≡ None) (λ p. MatchOption next (distance_of s.listed p ≡ None) (StandsAt s.listed p))

parent_at : (g : Roads) (s : Listing) (marks : List Mark) → ArePlaces s.listed marks → (k : ℕ) (r : Reached) → (b : HasParent s.way g s.listed k r) → (p : NodeNo) → r.parent ≡ Some p → (j : ℕ) → StandsAt s.listed p j → j ≡ b.place
parent_at g s marks places k r b p e j st =
    let is : b.parent.node ≡ p = (let q = b.named in cc) in
    (same_place s.listed marks places p j b.place st (b.parent, b.stands, is)).0

step_at : (g : Roads) (s : Listing) (marks : List Mark) → AreReached g s → ArePlaces s.listed marks → (n : NodeNo) (nodes : List NodeNo) (k : ℕ) (r : Reached) → slice_get s.listed k ≡ Some r
    → ((rest : List NodeNo) → IsLine g s k rest → IsTraced g s n (nodes ++ rest)) → HasWayBack s.way g s.start s.listed k r → (o : Option NodeNo) → r.parent ≡ o
    → (next : Option ℕ) → MatchOption o (next ≡ None) (λ p. MatchOption next (distance_of s.listed p ≡ None) (StandsAt s.listed p)) → IsTracing g s n (nodes ++ r.node ∷ []) next × (left_after next < suc k)
step_at g s marks reached places n nodes zero r at cont b None e next is =
    let traced = cont (r.node ∷ []) (line_start g s reached r at) in
    subst (λ (o : Option ℕ). IsTracing g s n (nodes ++ r.node ∷ []) o × (left_after o < 1)) (sym is) (traced, omega arith)
step_at g s marks reached places n nodes (suc k) r at cont b None e next is = let q = b.named in cc
step_at g s marks reached places n nodes zero r at cont b (Some p) e next is = let q = ap (λ (o : Reached). o.parent) b in cc
step_at g s marks reached places n nodes (suc k) r at cont b (Some p) e None is =
    let same : b.parent.node ≡ p = (let q = b.named in cc) in
    absurd (missing s.listed p is b.place b.parent b.stands same)
step_at g s marks reached places n nodes (suc k) r at cont b (Some p) e (Some j) is =
    let there = parent_at g s marks places (suc k) r b p e j is in
    let lt = b.before in
    ((is.0, is.1, λ rest line. subst (λ (ns : List NodeNo). IsTraced g s n ns) (sym (append_assoc nodes (r.node ∷ []) rest)) (cont (r.node ∷ rest) (line_more g s marks places (suc k) r at b rest (subst (λ i. IsLine g s i rest) there line)))), omega arith)

pub trace_step : (g : Roads) (s : Listing) (marks : List Mark) → AreReached g s → ArePlaces s.listed marks → (n : NodeNo) (nodes : List NodeNo) (k : ℕ) (r : Reached)
    → IsTracing g s n nodes (Some k) → slice_get s.listed k ≡ Some r → (next : Option ℕ) → IsNext s r next → IsTracing g s n (nodes ++ r.node ∷ []) next × (left_after next < suc k)
trace_step g s marks reached places n nodes k r t at next is = step_at g s marks reached places n nodes k r at t.2 (reached.back k r at) r.parent refl next is

-- the nodes in the way of the search are no more than two walks of all nodes have
traced_few : (h : Roads) → IsGraph h → (n t : NodeNo) (x : ℕ) (nodes : List NodeNo) → IsWalk h n t nodes x → IsSimple nodes → length nodes ≤ h.nodes + 1
traced_few h lawful n t x [] w d = omega arith
traced_few h lawful n t x (c ∷ more) w d = let few = simple_few h lawful n t (c ∷ more) x w d in omega arith

length-in_way : (way : Way) (nodes : List NodeNo) → length (in_way way nodes) ≡ length nodes
length-in_way From nodes = length-reverse nodes
length-in_way To nodes = refl

pub few_traced : (g : Roads) (s : Listing) → AreReached g s → (n : NodeNo) (nodes : List NodeNo) → IsTraced g s n nodes → length (in_way s.way nodes) ≤ most_walk_nodes
few_traced g s reached n nodes t = at (distance_of s.listed n) t
  where
    at : (o : Option ℕ) → MatchOption o (nodes ≡ []) (λ x. IsWalk (faced s.way g) n s.start nodes x × IsSimple nodes) → length (in_way s.way nodes) ≤ most_walk_nodes
    at None e = let l = length-in_way s.way nodes in let z = ap length e in omega arith
    at (Some x) w =
        let l = length-in_way s.way nodes in
        let few = traced_few (faced s.way g) (IsGraph-faced s.way g reached.graph) n s.start x nodes w.0 w.1 in
        let m = nodes-faced s.way g in
        let most = reached.graph.few_nodes in
        omega arith

-- the walk that is made of them is a least walk
eqb_flips : (x y : ℕ) → eqb x y ≡ eqb y x
eqb_flips x y = ⊎_elim (λ e. ap (λ z. eqb x z) (sym e) ∙ ap (λ z. eqb z x) e) (λ ne. ne_eqb x y ne ∙ sym (ne_eqb y x (λ e. ne (sym e)))) (cases_eq x y)

simple_reverse : (nodes : List NodeNo) → IsSimple nodes → IsSimple (reverse nodes)
simple_reverse nodes d = IsDistinct-IsPermutation nat_eq eqb_flips (numbers nodes) (numbers (reverse nodes)) (IsPermutation-map (λ (n : NodeNo). n.0) nodes (reverse nodes) (IsPermutation-reverse nodes)) d

walk_in_way : (way : Way) (g : Roads) → IsGraph g → (start n : NodeNo) (nodes : List NodeNo) (x : ℕ) → IsWalk (faced way g) n start nodes x → IsSimple nodes → IsWalkBy way g start n (in_way way nodes) x × IsSimple (in_way way nodes)
walk_in_way From g lawful start n nodes x w d = (walk_from_turned g lawful nodes start n x w, simple_reverse nodes d)
walk_in_way To g lawful start n nodes x w d = (w, d)

made_least : (way : Way) (g : Roads) (start n : NodeNo) (nodes : List NodeNo) (x : ℕ) (w : Path) → w.nodes ≡ nodes → IsMeasured g w → IsWalkBy way g start n nodes x → IsSimple nodes → IsDistBy way g start n x → IsLeastWalkBy way g start n w
made_least From g start n nodes x w is m walk d dist =
    let len : length_of w ≡ x = (let a = m.whole in let b = ap (walk_length g) is in let c = walk.1 in cc) in
    record { joins = subst (λ (ns : List NodeNo). Joins start n ns) (sym is) walk.0; measured = m; simple = subst IsSimple (sym is) d; least = subst (IsDist g start n) (sym len) dist }
made_least To g start n nodes x w is m walk d dist =
    let len : length_of w ≡ x = (let a = m.whole in let b = ap (walk_length g) is in let c = walk.1 in cc) in
    record { joins = subst (λ (ns : List NodeNo). Joins n start ns) (sym is) walk.0; measured = m; simple = subst IsSimple (sym is) d; least = subst (IsDist g n start) (sym len) dist }

length_by : (way : Way) (g : Roads) (start n : NodeNo) (nodes : List NodeNo) (x : ℕ) → IsWalkBy way g start n nodes x → walk_length g nodes ≡ Some x
length_by From g start n nodes x w = w.1
length_by To g start n nodes x w = w.1

none_in_way : (way : Way) (nodes : List NodeNo) → nodes ≡ [] → in_way way nodes ≡ []
none_in_way From nodes e = ap reverse e
none_in_way To nodes e = e

pub traced_walk : (g : Roads) (s : Listing) → AreReached g s → (n : NodeNo) (nodes : List NodeNo) → IsTraced g s n nodes → (made : Option Path)
    → MatchOption made (walk_length g (in_way s.way nodes) ≡ None) (λ w. (w.nodes ≡ in_way s.way nodes) × IsMeasured g w) → MatchOption made (distance_of s.listed n ≡ None) (IsLeastWalkBy s.way g s.start n)
traced_walk g s reached n nodes t made m = at (distance_of s.listed n) refl t made m
  where
    at : (o : Option ℕ) → distance_of s.listed n ≡ o → MatchOption o (nodes ≡ []) (λ x. IsWalk (faced s.way g) n s.start nodes x × IsSimple nodes) → (made : Option Path)
        → MatchOption made (walk_length g (in_way s.way nodes) ≡ None) (λ w. (w.nodes ≡ in_way s.way nodes) × IsMeasured g w) → MatchOption made (distance_of s.listed n ≡ None) (IsLeastWalkBy s.way g s.start n)
    at None e z None m = e
    at None e z (Some w) m = let a = ap (walk_length g) (m.0 ∙ none_in_way s.way nodes z) in let b = m.1.whole in cc
    at (Some x) e w None m = let v = walk_in_way s.way g reached.graph s.start n nodes x w.0 w.1 in let l = length_by s.way g s.start n (in_way s.way nodes) x v.0 in cc
    at (Some x) e w (Some made') m =
        let v = walk_in_way s.way g reached.graph s.start n nodes x w.0 w.1 in
        made_least s.way g s.start n (in_way s.way nodes) x made' m.0 m.1 v.0 v.1 (reached.exact n x e)

-- the step as the loop makes it, which reads the list and puts the node at the end
pub trace_more : (g : Roads) (s : Listing) (marks : List Mark) → AreReached g s → ArePlaces s.listed marks → (n : NodeNo) (nodes new : List NodeNo) (at : Option ℕ) (k : ℕ) → at ≡ Some k → IsTracing g s n nodes at
    → (read : List Reached) (d : Reached) → read ≡ s.listed → new ≡ nodes ++ (get_or read k d).node ∷ [] → (next : Option ℕ) → IsNext s (get_or read k d) next
    → IsTracing g s n new next × (left_after next < left_after at)
trace_more g s marks reached places n nodes new at k is t read d same made next parent =
    let tk = subst (IsTracing g s n nodes) is t in
    let here : get_or read k d ≡ tk.0 = ap (λ (rs : List Reached). get_or rs k d) same ∙ get_or_from_slice_get s.listed k tk.0 d tk.1 in
    let step = trace_step g s marks reached places n nodes k (get_or read k d) tk (tk.1 ∙ ap Some (sym here)) next parent in
    let less : left_after at ≡ suc k = ap left_after is in
    let lt = step.1 in
    (subst (λ (ns : List NodeNo). IsTracing g s n ns next) (sym made) step.0, omega arith)

-- what the call that makes the walk says of it
pub walk_made : (g : Roads) (s : Listing) → AreReached g s → (n : NodeNo) (nodes passed : List NodeNo) → IsTraced g s n nodes → passed ≡ in_way s.way nodes → (made : Result (Option Path) AllocError)
    → IfOk made (λ m. MatchOption m (walk_length g passed ≡ None) (λ w. (w.nodes ≡ passed) × IsMeasured g w)) → IfOk made (λ m. MatchOption m (distance_of s.listed n ≡ None) (IsLeastWalkBy s.way g s.start n))
walk_made g s reached n nodes passed t same (Ok m) h = traced_walk g s reached n nodes t m (subst (λ (ns : List NodeNo). MatchOption m (walk_length g ns ≡ None) (λ w. (w.nodes ≡ ns) × IsMeasured g w)) same h)
walk_made g s reached n nodes passed t same (Err e) h = h

none_passed : (g : Roads) (s : Listing) → AreReached g s → (n : NodeNo) (nodes : List NodeNo) → IsTraced g s n nodes → walk_length g (in_way s.way nodes) ≡ None → in_way s.way nodes ≡ []
none_passed g s reached n nodes t none = at (distance_of s.listed n) t
  where
    at : (o : Option ℕ) → MatchOption o (nodes ≡ []) (λ x. IsWalk (faced s.way g) n s.start nodes x × IsSimple nodes) → in_way s.way nodes ≡ []
    at None z = none_in_way s.way nodes z
    at (Some x) w = let v = walk_in_way s.way g reached.graph s.start n nodes x w.0 w.1 in let l = length_by s.way g s.start n (in_way s.way nodes) x v.0 in cc

-- to make the walk the roads out of its nodes are read, of which there are no more than in the graph
pub walk_reads : (g : Roads) (s : Listing) → AreReached g s → (n : NodeNo) (nodes passed : List NodeNo) → IsTraced g s n nodes → passed ≡ in_way s.way nodes → (made : Result (Option Path) AllocError) (old new : ℕ × ℕ)
    → IfOk made (λ m. MatchOption m (walk_length g passed ≡ None) (λ w. (w.nodes ≡ passed) × IsMeasured g w)) → IfOk made (λ m. new ≡ (old.0 + read_along g passed, old.1)) → IfOk made (λ found. new.0 ≡ old.0 + read_along g (nodes_found found))
walk_reads g s reached n nodes passed t same (Ok (Some w)) old new m h = ap (λ (p : ℕ × ℕ). p.0) h ∙ ap (λ (ns : List NodeNo). old.0 + read_along g ns) (sym m.0)
walk_reads g s reached n nodes passed t same (Ok None) old new m h =
    let none = same ∙ none_passed g s reached n nodes t (ap (walk_length g) (sym same) ∙ m) in
    ap (λ (p : ℕ × ℕ). p.0) h ∙ ap (λ (ns : List NodeNo). old.0 + read_along g ns) none
walk_reads g s reached n nodes passed t same (Err e) old new m h = h

pub few_reads : (g : Roads) (s : Listing) → AreReached g s → (n : NodeNo) (nodes passed : List NodeNo) → IsTraced g s n nodes → passed ≡ in_way s.way nodes → read_along g passed ≤ length g.roads
few_reads g s reached n nodes passed t same = subst (λ (ns : List NodeNo). read_along g ns ≤ length g.roads) (sym same) (at (distance_of s.listed n) t)
  where
    at : (o : Option ℕ) → MatchOption o (nodes ≡ []) (λ x. IsWalk (faced s.way g) n s.start nodes x × IsSimple nodes) → read_along g (in_way s.way nodes) ≤ length g.roads
    at None z = let none = ap (read_along g) (none_in_way s.way nodes z) in omega arith
    at (Some x) w =
        let v = walk_in_way s.way g reached.graph s.start n nodes x w.0 w.1 in
        let a = along_out g (in_way s.way nodes) in
        let b = out_few g (in_way s.way nodes) v.1 in
        omega arith
