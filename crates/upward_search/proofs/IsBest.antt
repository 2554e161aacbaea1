use Rattle.std.proofs.Common.{◌≡◌, ℕ, zero, suc, ◌+◌, ◌<◌, ◌≤◌, List, [], ◌∷◌, ◌++◌, length, take, get_or, Option, Some, None, sym, ap, arith, refl, subst}
use Rattle.std.specs.Prelude.{slice_get, MatchOption, Result, Ok, Err, IfOk}
use Rattle.std.proofs.lemmas.List.{take_more}
use Rattle.std.proofs.lemmas.Option.{slice_get-get_or}
use Rattle.road_graph.specs.declared.road.NodeNo.{NodeNo}
use Rattle.road_graph.specs.Roads.{Roads}
use Rattle.road_graph.specs.Paths.{Path, length_of}
use Rattle.road_graph.specs.Walks.{IsWalk, IsDist, IsSimple, IsLeastWalk, IsMeasured, NoWalk, Joins, walk_length}
use Rattle.road_graph.proofs.WalkLaws.{simple_few}
use Rattle.upward_search.specs.declared.slope.Label.{Label}
use Rattle.upward_search.specs.Climbs.{IsIn}
use Rattle.upward_search.specs.Ladders.{Ladder, IsLadder, IsAt, AreApart, IsLeastTop}
use Rattle.upward_search.specs.Hierarchies.{LadderFits}
use Rattle.upward_search.specs.Parts.{AreRoads, roads_length}
use Rattle.upward_search.specs.Lines.{AreLed}
use Rattle.upward_search.specs.Stacks.{IsLeastLine}
use Rattle.upward_search.specs.Names.{AreNamed}
use Rattle.upward_search.proofs.LadderFits.{answer_is}
use Rattle.upward_search.proofs.IsUnpacking.{ends_low}
use Rattle.upward_search.proofs.IsLine.{line_simple}
use Rattle.upward_search.proofs.LineWalk.{line_walk, roads_walk, simple_nodes}

named_push : (nodes : List NodeNo) (rs : List Label) (ns : List NodeNo) (r : Label) (n : NodeNo) → AreNamed nodes rs ns → slice_get nodes r.place ≡ Some n → AreNamed nodes (rs ++ r ∷ []) (ns ++ n ∷ [])
named_push nodes [] [] r n l a = (a, tt)
named_push nodes [] (m ∷ ns) r n l a = absurd l
named_push nodes (s ∷ rs) [] r n l a = absurd l
named_push nodes (s ∷ rs) (m ∷ ns) r n l a = (l.0, named_push nodes rs ns r n l.1 a)

pub named_more : (nodes : List NodeNo) (line : List Label) (i : ℕ) (d : Label) (e : NodeNo) (named : List NodeNo) → i < length line → (get_or line i d).place < length nodes → AreNamed nodes (take i line) named
    → AreNamed nodes (take (i + 1) line) (named ++ get_or nodes (get_or line i d).place e ∷ [])
named_more nodes line i d e named lt low l =
    subst (λ (rs : List Label). AreNamed nodes rs (named ++ get_or nodes (get_or line i d).place e ∷ [])) (sym (take_more line i d lt))
    (named_push nodes (take i line) named (get_or line i d) (get_or nodes (get_or line i d).place e) l (slice_get-get_or nodes (get_or line i d).place e low))

roads_low : (h : Ladder) → IsLadder h → (p q : ℕ) (rs : List Label) → AreRoads h p rs q → (k : ℕ) (r : Label) → slice_get rs k ≡ Some r → r.place < length h.nodes
roads_low h l p q [] a k r e = cc
roads_low h l p q (s ∷ rs) a zero r e = let is : s ≡ r = cc in let i = ap (λ (t : Label). t.place) is in let low = (ends_low h l a.0.part a.0.is).1 in let t = a.0.ends in omega arith
roads_low h l p q (s ∷ rs) a (suc k) r e = roads_low h l s.place q rs a.1 k r e

line_low : (h : Ladder) → IsLadder h → (p q : ℕ) (line : List Label) → AreLed h p line q → p < length h.nodes → (k : ℕ) (r : Label) → slice_get line k ≡ Some r → r.place < length h.nodes
line_low h l p q [] a low k r e = absurd a
line_low h l p q (s ∷ rs) a low zero r e = let is : s ≡ r = cc in let i = ap (λ (t : Label). t.place) is in let t = a.0 in omega arith
line_low h l p q (s ∷ rs) a low (suc k) r e = roads_low h l s.place q rs a.2 k r e

pub least_low : (h : Ladder) → IsLadder h → (p q : ℕ) (line : List Label) (run : ℕ) → IsLeastLine h p q line run → p < length h.nodes → (r : Label) → IsIn line r → r.place < length h.nodes
least_low h l p q line run least low r i = line_low h l p q line least.is.is.leads low i.0 r i.1

-- roads have nodes
names_of : (h : Ladder) → IsLadder h → (p q : ℕ) (rs : List Label) → AreRoads h p rs q → (ns : List NodeNo) × AreNamed h.nodes rs ns
names_of h l p q [] a = ([], tt)
names_of h l p q (r ∷ rs) a =
    let rest = names_of h l r.place q rs a.1 in
    let low = roads_low h l p q (r ∷ rs) a 0 r refl in
    (get_or h.nodes r.place (record { 0 = 0 }) ∷ rest.0, (slice_get-get_or h.nodes r.place (record { 0 = 0 }) low, rest.1))

pub record IsBest (g : Roads) (u v : NodeNo) (nodes : List NodeNo) : Type 0 where
  pub length : ℕ
  pub walk : IsWalk g u v nodes length
  pub dist : IsDist g u v length
  pub simple : IsSimple nodes

pub best_of : (g : Roads) (h : Ladder) → LadderFits g h → IsLadder h → AreApart h → (p q : ℕ) (u v : NodeNo) → IsAt h p u → IsAt h q v → (line : List Label) (run : ℕ) → IsLeastLine h p q line run → (nodes : List NodeNo) → AreNamed h.nodes line nodes → IsBest g u v nodes
best_of g h f l apart p q u v a b line run least nodes named =
    let d : IsDist g u v least.length = answer_is g h f l p q u v a b (Some least.length) least.least in
    let w = line_walk g h f l line nodes p q u v least.is.is.leads named a b in
    let total = least.is.is.total in
    let short = least.is.short in
    let low = d.least nodes (roads_length line) w in
    let same : roads_length line ≡ least.length = omega arith in
    record {
      length = least.length;
      walk = subst (IsWalk g u v nodes) same w;
      dist = d;
      simple = simple_nodes h apart line nodes named (line_simple h p line run q least.is.length least.is.is (λ rs roads. bound d rs roads (omega arith)));
    }
  where
    bound : IsDist g u v least.length → (rs : List Label) → AreRoads h p rs q → least.is.length ≤ least.length → least.is.length ≤ roads_length rs
    bound d rs roads le =
        let ns = names_of h l p q rs roads in
        let w = roads_walk g h f l rs ns.0 p q u v roads ns.1 a b in
        let m = d.least (u ∷ ns.0) (roads_length rs) ((refl, w.0), w.1) in
        omega arith

pub best_few : (g : Roads) (h : Ladder) → LadderFits g h → (u v : NodeNo) (nodes : List NodeNo) → IsBest g u v nodes → length nodes ≤ 4194304
best_few g h f u v [] b = omega arith
best_few g h f u v (c ∷ more) b = let few = simple_few g f.graph u v (c ∷ more) b.length b.walk b.simple in let n = f.graph.few_nodes in omega arith

pub walk_made : (g : Roads) (u v : NodeNo) (nodes : List NodeNo) → IsBest g u v nodes → {E : Type 0} (made : Result (Option Path) E) → IfOk made (λ m. MatchOption m (walk_length g nodes ≡ None) (λ w. (w.nodes ≡ nodes) × IsMeasured g w)) → IfOk made (λ m. MatchOption m (NoWalk g u v) (IsLeastWalk g u v))
walk_made g u v nodes b (Ok None) h = let e = b.walk.1 in cc
walk_made g u v nodes b (Ok (Some w)) h =
    let long : length_of w ≡ b.length = (let a = h.1.whole in let e = ap (walk_length g) h.0 in let c = b.walk.1 in cc) in
    record {
      joins = subst (Joins u v) (sym h.0) b.walk.0;
      measured = h.1;
      simple = subst IsSimple (sym h.0) b.simple;
      least = subst (IsDist g u v) (sym long) b.dist;
    }
walk_made g u v nodes b (Err e) h = h

pub no_walk : (g : Roads) (h : Ladder) → LadderFits g h → IsLadder h → (p q : ℕ) (u v : NodeNo) → IsAt h p u → IsAt h q v → IsLeastTop h p q None → NoWalk g u v
no_walk g h f l p q u v a b none = answer_is g h f l p q u v a b None none
