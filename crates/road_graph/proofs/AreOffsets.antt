use Rattle.std.proofs.Common.{◌≡◌, ℕ, ◌+◌, ◌<◌, ◌≤◌, true, false, cond, List, [], ◌∷◌, ◌++◌, length, get_or, take, drop, Option, Some, None, sym, ap, ◌∙◌, arith, refl, subst, below_more, slice_index}
use Rattle.std.proofs.lemmas.List.{take_more, drop_more, drop_all, get_or_append_left, get_or_push, length_push}
use Rattle.road_graph.specs.declared.road.NodeNo.{NodeNo}
use Rattle.road_graph.specs.Roads.{Roads, outs, least_weight, is_node}
use Rattle.road_graph.specs.Graphs.{IsGraph}
use Rattle.road_graph.specs.Walks.{walk_length, both, last_of}
use Rattle.road_graph.specs.Reads.{read_along, where_joined}
use Rattle.road_graph.specs.Offsets.{AreOffsets}
use Rattle.road_graph.proofs.RoadEnds.{outs_none, least_none}
use Rattle.road_graph.proofs.WalkLength.{walk_more, last-push, both-assoc, joint, is_node-true}

-- the offsets of the first node and of the first i of the rest, where the walk has come to `here` over so long a way
pub record Offset (g : Roads) (first : NodeNo) (rest : List NodeNo) (i : ℕ) (here : NodeNo) (way : ℕ) (offsets : List ℕ) : Type 0 where
  pub many : length offsets ≡ i + 1
  pub begins : slice_index offsets 0 ≡ 0
  pub rising : (k : ℕ) → k < i → slice_index offsets k ≤ slice_index offsets (k + 1)
  pub each : (k : ℕ) → k < i + 1 → walk_length g (first ∷ take k rest) ≡ Some (slice_index offsets k)
  pub at : slice_index offsets i ≡ way
  pub comes : last_of first (take i rest) ≡ here

pub offset_first : (g : Roads) (first : NodeNo) (rest : List NodeNo) → is_node g.nodes first ≡ true → Offset g first rest 0 first 0 (0 ∷ [])
offset_first g first rest e = record {
  many = refl;
  begins = refl;
  rising = λ k lt. absurd (omega arith);
  each = λ k lt. let is : k ≡ 0 = omega arith in rw (is, e) refl;
  at = refl;
  comes = refl;
}

-- one node more
pub offset_more : (g : Roads) → IsGraph g → (first : NodeNo) (rest : List NodeNo) (i : ℕ) (here next d : NodeNo) (way w : ℕ) (offsets : List ℕ)
    → i < length rest → next ≡ get_or rest i d → least_weight g.roads here next ≡ Some w → Offset g first rest i here way offsets
    → Offset g first rest (i + 1) next (way + w) (offsets ++ (way + w) ∷ [])
offset_more g h first rest i here next d way w offsets lt is e o =
    let more : take (i + 1) rest ≡ take i rest ++ next ∷ [] = take_more rest i d lt ∙ ap (λ (n : NodeNo). take i rest ++ n ∷ []) (sym is) in
    let kept : (k : ℕ) → k < i + 1 → slice_index (offsets ++ (way + w) ∷ []) k ≡ slice_index offsets k = λ k l. get_or_append_left offsets ((way + w) ∷ []) 0 k (let m = o.many in omega arith) in
    let new : slice_index (offsets ++ (way + w) ∷ []) (i + 1) ≡ way + w = get_or_push offsets (way + w) 0 (i + 1) o.many in
    let begin : slice_index (offsets ++ (way + w) ∷ []) 0 ≡ 0 = kept 0 (omega arith) ∙ o.begins in
    let at_i : slice_index (offsets ++ (way + w) ∷ []) i ≡ way = kept i (omega arith) ∙ o.at in
    let old : walk_length g (first ∷ take i rest) ≡ Some way = o.each i (omega arith) ∙ ap Some o.at in
    let whole : walk_length g (first ∷ take (i + 1) rest) ≡ Some (way + w) =
    ap (λ (ns : List NodeNo). walk_length g (first ∷ ns)) more ∙ walk_more g h first (take i rest) next ∙ ap (λ (x : Option ℕ). both x (least_weight g.roads (last_of first (take i rest)) next)) old
    ∙ ap (λ (n : NodeNo). both (Some way) (least_weight g.roads n next)) o.comes ∙ ap (both (Some way)) e in
    record {
      many = length_push offsets (way + w) ∙ ap (λ z. z + 1) o.many;
      begins = begin;
      rising = below_more (λ k. slice_index (offsets ++ (way + w) ∷ []) k ≤ slice_index (offsets ++ (way + w) ∷ []) (k + 1)) i
          (λ k l. let a = kept k (omega arith) in let b = kept (k + 1) (omega arith) in let c = o.rising k l in omega arith)
          (omega arith);
      each = below_more (λ k. walk_length g (first ∷ take k rest) ≡ Some (slice_index (offsets ++ (way + w) ∷ []) k)) (i + 1)
          (λ k l. o.each k l ∙ ap Some (sym (kept k l)))
          (whole ∙ ap Some (sym new));
      at = new;
      comes = ap (last_of first) more ∙ last-push first (take i rest) next;
    }

-- the same of all the nodes and the rest of them
pub record OffsetOf (g : Roads) (nodes rest : List NodeNo) (i : ℕ) (here : NodeNo) (way : ℕ) (offsets : List ℕ) : Type 0 where
  pub first : NodeNo
  pub are : nodes ≡ first ∷ rest
  pub offset : Offset g first rest i here way offsets

pub offset_next : (g : Roads) → IsGraph g → (nodes rest : List NodeNo) (i : ℕ) (here next d : NodeNo) (way w : ℕ) (offsets : List ℕ)
    → i < length rest → next ≡ get_or rest i d → least_weight g.roads here next ≡ Some w → OffsetOf g nodes rest i here way offsets
    → OffsetOf g nodes rest (i + 1) next (way + w) (offsets ++ (way + w) ∷ [])
offset_next g h nodes rest i here next d way w offsets lt is e o = record { first = o.first; are = o.are; offset = offset_more g h o.first rest i here next d way w offsets lt is e o.offset }

-- what has been gone and what is left make the whole, one node on
pub whole_next : (g : Roads) (rest : List NodeNo) (i : ℕ) (here next d : NodeNo) (way w : ℕ) (x : Option ℕ) → i < length rest → next ≡ get_or rest i d → least_weight g.roads here next ≡ Some w
    → both (Some way) (walk_length g (here ∷ drop i rest)) ≡ x → both (Some (way + w)) (walk_length g (next ∷ drop (i + 1) rest)) ≡ x
whole_next g rest i here next d way w x lt is e h =
    let left : drop i rest ≡ next ∷ drop (i + 1) rest = drop_more rest i d lt ∙ ap (λ (n : NodeNo). n ∷ drop (i + 1) rest) (sym is) in
    both-assoc (Some way) (Some w) (walk_length g (next ∷ drop (i + 1) rest))
    ∙ ap (λ (y : Option ℕ). both (Some way) (both y (walk_length g (next ∷ drop (i + 1) rest)))) (sym e)
    ∙ ap (λ (ns : List NodeNo). both (Some way) (walk_length g (here ∷ ns))) (sym left) ∙ h

-- what has been read and what is left to read, one node on
pub reads_next : (g : Roads) (rest : List NodeNo) (i : ℕ) (here next d : NodeNo) (before after w x : ℕ) → i < length rest → next ≡ get_or rest i d → least_weight g.roads here next ≡ Some w
    → after ≡ before + length (outs g here) → before + read_along g (here ∷ drop i rest) ≡ x → after + read_along g (next ∷ drop (i + 1) rest) ≡ x
reads_next g rest i here next d before after w x lt is e counted h =
    let left : drop i rest ≡ next ∷ drop (i + 1) rest = drop_more rest i d lt ∙ ap (λ (n : NodeNo). n ∷ drop (i + 1) rest) (sym is) in
    let all = ap (λ (ns : List NodeNo). read_along g (here ∷ ns)) left ∙ ap (λ (o : Option ℕ). length (outs g here) + where_joined o (read_along g (next ∷ drop (i + 1) rest))) e in
    omega arith

-- where the next isn't joined, the roads out of this one are the last that are read
pub reads_last : (g : Roads) (rest : List NodeNo) (i : ℕ) (here next d : NodeNo) (before after x : ℕ) → i < length rest → next ≡ get_or rest i d → least_weight g.roads here next ≡ None
    → after ≡ before + length (outs g here) → before + read_along g (here ∷ drop i rest) ≡ x → after ≡ x
reads_last g rest i here next d before after x lt is e counted h =
    let left : drop i rest ≡ next ∷ drop (i + 1) rest = drop_more rest i d lt ∙ ap (λ (n : NodeNo). n ∷ drop (i + 1) rest) (sym is) in
    let all = ap (λ (ns : List NodeNo). read_along g (here ∷ ns)) left ∙ ap (λ (o : Option ℕ). length (outs g here) + where_joined o (read_along g (next ∷ drop (i + 1) rest))) e in
    omega arith

-- at the end nothing is left to read
pub reads_all : (g : Roads) (rest : List NodeNo) (i : ℕ) (here : NodeNo) (read x : ℕ) → length rest ≤ i → read + read_along g (here ∷ drop i rest) ≡ x → read ≡ x
reads_all g rest i here read x all h =
    let none = ap (λ (ns : List NodeNo). read_along g (here ∷ ns)) (drop_all i rest all) in
    omega arith

-- no road is read from what is no node
pub reads_outside : (g : Roads) → IsGraph g → (u : NodeNo) (more : List NodeNo) → is_node g.nodes u ≡ false → read_along g (u ∷ more) ≡ 0
reads_outside g h u [] e = refl
reads_outside g h u (v ∷ vs) e =
    let none = ap length (outs_none g u h e) in
    let unjoined = ap (λ (o : Option ℕ). where_joined o (read_along g (v ∷ vs))) (sym (least_none g u v h e)) in
    omega arith

-- no walk begins at what is no node
pub none_from : (g : Roads) → IsGraph g → (u : NodeNo) (more : List NodeNo) → is_node g.nodes u ≡ false → walk_length g (u ∷ more) ≡ None
none_from g h u [] e = ap (λ b. cond b (Some 0) None) e
none_from g h u (v ∷ vs) e = at_weight (least_weight g.roads u v) refl
  where
    at_weight : (o : Option ℕ) → least_weight g.roads u v ≡ o → both (least_weight g.roads u v) (walk_length g (v ∷ vs)) ≡ None
    at_weight None q = ap (λ x. both x (walk_length g (v ∷ vs))) q
    at_weight (Some w) q = let j = joint g u v w h q in let t = is_node-true g.nodes u j.from.0 j.from.1 in cc (t, e)

-- at the end they are the offsets of all the nodes
pub offset_all : (g : Roads) (nodes rest : List NodeNo) (i : ℕ) (here : NodeNo) (way : ℕ) (offsets : List ℕ) → length rest ≤ i → i ≤ length rest → OffsetOf g nodes rest i here way offsets → AreOffsets g nodes offsets
offset_all g nodes rest i here way offsets all fits h = let o = h.offset in subst (λ (ns : List NodeNo). AreOffsets g ns offsets) (sym h.are) (record {
  many = let m = o.many in omega arith;
  some = omega arith;
  first = o.begins;
  rising = λ k lt. o.rising k (let m = o.many in omega arith);
  each = λ k lt. o.each k (omega arith);
})
