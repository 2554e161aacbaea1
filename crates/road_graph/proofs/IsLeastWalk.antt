use Rattle.std.proofs.Common.{◌≡◌, ℕ, zero, suc, ◌+◌, ◌-◌, ◌≤◌, take, nat_eq, false, cond, List, [], ◌∷◌, ◌++◌, map, Some, None, sym, ap, ◌∙◌, arith, refl, subst}
use Rattle.std.specs.Prelude.{slice_get, slice_index}
use Rattle.std.specs.List.{IsDistinct, AllByRecursion}
use Rattle.std.proofs.lemmas.Option.{slice_get_within}
use Rattle.std.proofs.lemmas.List.{map-append}
use Rattle.road_graph.specs.declared.road.NodeNo.{NodeNo}
use Rattle.road_graph.specs.Roads.{Roads}
use Rattle.road_graph.specs.Graphs.{IsGraph}
use Rattle.road_graph.specs.Paths.{Path, length_of}
use Rattle.road_graph.specs.Walks.{walk_length, last_of, Joins, IsWalk, IsDist, IsSimple, IsLeastWalk}
use Rattle.road_graph.proofs.IsWalk.{step_of, step_to, test_from_node, first_is_node, alone_is_walk, alone_is_node, walk_after}
use Rattle.road_graph.proofs.IsDist.{has_distance}

-- two nodes have one distance
pub one_distance : (g : Roads) (u v : NodeNo) (x y : ℕ) → IsDist g u v x → IsDist g u v y → x ≡ y
one_distance g u v x y a b = let p = a.least b.reached.0 y b.reached.1 in let q = b.least a.reached.0 x a.reached.1 in omega arith

pub triangle : (g : Roads) → IsGraph g → (u v w : NodeNo) (x y : ℕ) → IsDist g u v x → IsDist g v w y → (z : ℕ) × IsDist g u w z × (z ≤ x + y)
triangle g lawful u v w x y a b =
    let n = walk_after g a.reached.0 u v w x a.reached.1 b.reached.0 y b.reached.1 in
    has_distance g lawful u w n.0 (x + y) n.1

-- what comes before a node: its length, whatever comes after
record Before (g : Roads) (front : List NodeNo) (a : NodeNo) (rest : List NodeNo) (x : ℕ) : Type 0 where
  ahead : ℕ
  here : ℕ
  walk : walk_length g (a ∷ rest) ≡ Some here
  sum : ahead + here ≡ x
  other : (rest' : List NodeNo) (z : ℕ) → walk_length g (a ∷ rest') ≡ Some z → walk_length g (front ++ a ∷ rest') ≡ Some (ahead + z)

before : (g : Roads) (front : List NodeNo) (a : NodeNo) (rest : List NodeNo) (x : ℕ) → walk_length g (front ++ a ∷ rest) ≡ Some x → Before g front a rest x
before g [] a rest x e = record { ahead = 0; here = x; walk = e; sum = omega arith; other = λ rest' z q. q ∙ ap Some (omega arith) }
before g (c ∷ []) a rest x e =
    let s = step_of g c a rest x e in
    record { ahead = s.weight; here = s.rest; walk = s.walk; sum = s.sum; other = λ rest' z q. step_to g c a rest' s.weight z s.road q }
before g (c ∷ d ∷ front) a rest x e =
    let s = step_of g c d (front ++ a ∷ rest) x e in
    let b = before g (d ∷ front) a rest s.rest s.walk in
    record {
      ahead = s.weight + b.ahead;
      here = b.here;
      walk = b.walk;
      sum = (let p = s.sum in let q = b.sum in omega arith);
      other = λ rest' z q. step_to g c d (front ++ a ∷ rest') s.weight (b.ahead + z) s.road (b.other rest' z q) ∙ ap Some (omega arith);
    }

-- what comes after the last of a part
record After (g : Roads) (a : NodeNo) (more back : List NodeNo) (x : ℕ) : Type 0 where
  here : ℕ
  behind : ℕ
  walk : walk_length g (a ∷ more) ≡ Some here
  tail : walk_length g (last_of a more ∷ back) ≡ Some behind
  sum : here + behind ≡ x

behind_of : (g : Roads) → IsGraph g → (a : NodeNo) (more back : List NodeNo) (x : ℕ) → walk_length g (a ∷ more ++ back) ≡ Some x → After g a more back x
behind_of g lawful a [] back x e =
    let n = test_from_node g a (first_is_node g lawful a back x e) in
    record { here = 0; behind = x; walk = ap (λ t. cond t (Some 0) None) n; tail = e; sum = omega arith }
behind_of g lawful a (b ∷ more) back x e =
    let s = step_of g a b (more ++ back) x e in
    let r = behind_of g lawful b more back s.rest s.walk in
    record { here = s.weight + r.here; behind = r.behind; walk = step_to g a b more s.weight r.here s.road r.walk; tail = r.tail; sum = (let p = s.sum in let q = r.sum in omega arith) }

onto : (g : Roads) (a : NodeNo) (more back : List NodeNo) (p q : ℕ) → walk_length g (a ∷ more) ≡ Some p → walk_length g (last_of a more ∷ back) ≡ Some q → walk_length g (a ∷ more ++ back) ≡ Some (p + q)
onto g a [] back p q w t = let z = (alone_is_node g a p w).1 in t ∙ ap Some (omega arith)
onto g a (b ∷ more) back p q w t =
    let s = step_of g a b more p w in
    let sum = s.sum in
    step_to g a b (more ++ back) s.weight (s.rest + q) s.road (onto g b more back s.rest q s.walk t) ∙ ap Some (omega arith)

-- the ends of lists that are put together
last_over : (a : NodeNo) (more back : List NodeNo) → last_of a (more ++ back) ≡ last_of (last_of a more) back
last_over a [] back = refl
last_over a (b ∷ more) back = last_over b more back

-- where the front is, the walk still joins the same nodes
joins_part : (front : List NodeNo) (a b : NodeNo) (more more' back : List NodeNo) (u v : NodeNo) → last_of a more ≡ b → last_of a more' ≡ b → Joins u v (front ++ (a ∷ (more ++ back))) → Joins u v (front ++ (a ∷ (more' ++ back)))
joins_part [] a b more more' back u v l l' j = (j.0, last_over a more' back ∙ ap (λ n. last_of n back) (l' ∙ sym l) ∙ sym (last_over a more back) ∙ j.1)
joins_part (c ∷ front) a b more more' back u v l l' j =
    (j.0, last_over c front (a ∷ (more' ++ back)) ∙ last_over a more' back ∙ ap (λ n. last_of n back) (l' ∙ sym l) ∙ sym (last_over a more back) ∙ sym (last_over c front (a ∷ (more ++ back))) ∙ j.1)

-- a part of a list with no node twice has none twice
front_all : (n : ℕ) (xs ys : List ℕ) → AllByRecursion (λ k. nat_eq n k ≡ false) (xs ++ ys) → AllByRecursion (λ k. nat_eq n k ≡ false) xs
front_all n [] ys h = tt
front_all n (x ∷ xs) ys h = (h.0, front_all n xs ys h.1)

front_distinct : (xs ys : List ℕ) → IsDistinct nat_eq (xs ++ ys) → IsDistinct nat_eq xs
unfolding IsDistinct
front_distinct [] ys h = tt
front_distinct (x ∷ xs) ys h = (front_all x xs ys h.0, front_distinct xs ys h.1)

back_distinct : (xs ys : List ℕ) → IsDistinct nat_eq (xs ++ ys) → IsDistinct nat_eq ys
unfolding IsDistinct
back_distinct [] ys h = h
back_distinct (x ∷ xs) ys h = back_distinct xs ys h.1

simple_part : (front part back : List NodeNo) → IsSimple (front ++ (part ++ back)) → IsSimple part
simple_part front part back h =
    let f = λ (n : NodeNo). n.0 in
    let a = subst (λ (ns : List ℕ). IsDistinct nat_eq ns) (map-append f front (part ++ back)) h in
    let b = back_distinct (map f front) (map f (part ++ back)) a in
    front_distinct (map f part) (map f back) (subst (λ (ns : List ℕ). IsDistinct nat_eq ns) (map-append f part back) b)

pub parts_are_least : (g : Roads) → IsGraph g → (u v : NodeNo) (w : Path) → IsLeastWalk g u v w → (front part back : List NodeNo) → w.nodes ≡ front ++ (part ++ back)
    → (a b : NodeNo) → Joins a b part → (x : ℕ) × IsWalk g a b part x × IsDist g a b x × IsSimple part
parts_are_least g lawful u v w least front [] back is a b j = absurd j
parts_are_least g lawful u v w least front (c ∷ more) back is a b j =
    let whole = ap (walk_length g) (sym is) ∙ least.measured.whole in
    let p = before g front c (more ++ back) (length_of w) whole in
    let r = behind_of g lawful c more back p.here p.walk in
    let joins = subst (Joins u v) is least.joins in
    let simple = simple_part front (c ∷ more) back (subst IsSimple is least.simple) in
    (r.here, (j, r.walk), record { reached = (c ∷ more, (j, r.walk)); least = λ nodes y h. shorter p.ahead r.here r.behind p.here (p.other) r.tail p.sum r.sum joins nodes y h }, simple)
  where
    shorter : (ahead here behind both' : ℕ) → ((rest' : List NodeNo) (z : ℕ) → walk_length g (c ∷ rest') ≡ Some z → walk_length g (front ++ c ∷ rest') ≡ Some (ahead + z)) → walk_length g (last_of c more ∷ back) ≡ Some behind
        → ahead + both' ≡ length_of w → here + behind ≡ both' → Joins u v (front ++ (c ∷ (more ++ back))) → (nodes : List NodeNo) (y : ℕ) → IsWalk g a b nodes y → here ≤ y
    shorter ahead here behind both' other tail sum sum' joins [] y h = absurd h.0
    shorter ahead here behind both' other tail sum sum' joins (d ∷ ns) y h =
        let dc : d ≡ c = h.0.0 ∙ sym j.0 in
        let last : last_of c ns ≡ b = ap (λ (n : NodeNo). last_of n ns) (sym dc) ∙ h.0.1 in
        let walk : walk_length g (c ∷ ns) ≡ Some y = ap (λ (n : NodeNo). walk_length g (n ∷ ns)) (sym dc) ∙ h.1 in
        let t : walk_length g (last_of c ns ∷ back) ≡ Some behind = ap (λ (n : NodeNo). walk_length g (n ∷ back)) (last ∙ sym j.1) ∙ tail in
        let o = other (ns ++ back) (y + behind) (onto g c ns back y behind walk t) in
        let l = least.least.least (front ++ (c ∷ (ns ++ back))) (ahead + (y + behind)) (joins_part front c b more ns back u v j.1 last joins, o) in
        omega arith

-- the nodes from one place to another, and those before and behind them
record HasPart (nodes : List NodeNo) (i j : ℕ) (a b : NodeNo) : Type 0 where
  front : List NodeNo
  more : List NodeNo
  back : List NodeNo
  is : nodes ≡ front ++ (a ∷ (more ++ back))
  last : last_of a more ≡ b
  low : take (suc i) nodes ≡ front ++ a ∷ []
  high : take (suc j) nodes ≡ front ++ (a ∷ more)

part_from : (c : NodeNo) (more : List NodeNo) (j : ℕ) (b : NodeNo) → slice_get (c ∷ more) j ≡ Some b → HasPart (c ∷ more) 0 j c b
part_from c more zero b e = record { front = []; more = []; back = more; is = refl; last = cc; low = refl; high = refl }
part_from c [] (suc j) b e = cc
part_from c (d ∷ ds) (suc j) b e = longer (part_at_head d ds j b e)
  where
    part_at_head : (d : NodeNo) (ds : List NodeNo) (j : ℕ) (b : NodeNo) → slice_get (d ∷ ds) j ≡ Some b → (mid : List NodeNo) × (back : List NodeNo) × (ds ≡ mid ++ back) × (last_of d mid ≡ b) × (take (suc j) (d ∷ ds) ≡ d ∷ mid)
    part_at_head d ds zero b e = ([], ds, refl, cc, refl)
    part_at_head d [] (suc j) b e = cc
    part_at_head d (f ∷ fs) (suc j) b e = let r = part_at_head f fs j b e in (f ∷ r.0, r.1, ap (λ ns. f ∷ ns) r.2, r.3, ap (λ ns. d ∷ ns) r.4)

    longer : (mid : List NodeNo) × (back : List NodeNo) × (ds ≡ mid ++ back) × (last_of d mid ≡ b) × (take (suc j) (d ∷ ds) ≡ d ∷ mid) → HasPart (c ∷ d ∷ ds) 0 (suc j) c b
    longer r = record { front = []; more = d ∷ r.0; back = r.1; is = ap (λ (ns : List NodeNo). c ∷ d ∷ ns) r.2; last = r.3; low = refl; high = ap (λ (ns : List NodeNo). c ∷ ns) r.4 }

has_part : (nodes : List NodeNo) (i j : ℕ) (a b : NodeNo) → i ≤ j → slice_get nodes i ≡ Some a → slice_get nodes j ≡ Some b → HasPart nodes i j a b
has_part [] i j a b le e f = cc
has_part (c ∷ more) zero j a b le e f = let is : c ≡ a = cc in subst (λ (n : NodeNo). HasPart (c ∷ more) 0 j n b) is (part_from c more j b f)
has_part (c ∷ more) (suc i) zero a b le e f = absurd (omega arith)
has_part (c ∷ more) (suc i) (suc j) a b le e f =
    let r = has_part more i j a b (omega arith) e f in
    record {
      front = c ∷ r.front;
      more = r.more;
      back = r.back;
      is = ap (λ (ns : List NodeNo). c ∷ ns) r.is;
      last = r.last;
      low = ap (λ (ns : List NodeNo). c ∷ ns) r.low;
      high = ap (λ (ns : List NodeNo). c ∷ ns) r.high;
    }

pub places_are_least : (g : Roads) → IsGraph g → (u v : NodeNo) (w : Path) → IsLeastWalk g u v w → (i j : ℕ) (a b : NodeNo) → i ≤ j → slice_get w.nodes i ≡ Some a → slice_get w.nodes j ≡ Some b
    → (slice_index w.offsets i ≤ slice_index w.offsets j) × IsDist g a b (slice_index w.offsets j - slice_index w.offsets i)
places_are_least g lawful u v w least i j a b le e f =
    let p = has_part w.nodes i j a b le e f in
    let part = parts_are_least g lawful u v w least p.front (a ∷ p.more) p.back p.is a b (refl, p.last) in
    let low = ap (walk_length g) (sym p.low) ∙ least.measured.each i (slice_get_within w.nodes i a e) in
    let high = ap (walk_length g) (sym p.high) ∙ least.measured.each j (slice_get_within w.nodes j b f) in
    let s = before g p.front a p.more (slice_index w.offsets j) high in
    let alone : walk_length g (a ∷ []) ≡ Some 0 = alone_is_walk g a (first_is_node g lawful a p.more s.here s.walk) in
    let first = s.other [] 0 alone in
    let ahead : s.ahead + 0 ≡ slice_index w.offsets i = (let q = low in let r = first in cc) in
    let here : s.here ≡ part.0 = (let q = s.walk in let r = part.1.1 in cc) in
    let sum = s.sum in
    let long : part.0 ≡ slice_index w.offsets j - slice_index w.offsets i = omega arith in
    (omega arith, subst (IsDist g a b) long part.2)
