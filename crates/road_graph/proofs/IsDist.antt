use Rattle.std.proofs.Common.{◌≡◌, ℕ, zero, suc, ◌+◌, ◌<◌, ◌≤◌, ◌&&◌, ◌⊎◌, inl, inr, ◌==◌, Bool, true, false, cond, eqb-true, eq-eqb, List, [], ◌∷◌, length, min, Option, Some, None, sym, ap, ◌∙◌, arith, refl}
use Rattle.std.specs.Prelude.{slice_get}
use Rattle.std.proofs.lemmas.Bool.{cases_lt}
use Rattle.road_graph.specs.declared.road.NodeNo.{NodeNo}
use Rattle.road_graph.specs.declared.road.Road.{Road}
use Rattle.road_graph.specs.Roads.{Roads, is_node, least_weight, lighter_of}
use Rattle.road_graph.specs.Graphs.{IsGraph}
use Rattle.road_graph.specs.WalkLaws.{IsAtMost}
use Rattle.road_graph.specs.Walks.{walk_length, last_of, both, IsWalk, IsDist}
use Rattle.road_graph.proofs.WalkLength.{has_road}
use Rattle.road_graph.proofs.IsWalk.{same_node, step_of, step_to, test_from_node, alone_is_node}
use Rattle.road_graph.proofs.LeastWeight.{lighter_left, lighter_right, least_at_most}
use Rattle.road_graph.proofs.IsSimple.{shorten, simple_few}

-- the least over the roads out of a node, of what the other ends have
abbrev over : (NodeNo → Option ℕ) → List Road → NodeNo → Option ℕ
over f [] u = None
over f (r ∷ rs) u = lighter_of (cond (r.from.0 == u.0) (both (Some r.weight) (f r.to)) None) (over f rs u)

-- a length that no walk over so many roads is below
abbrev near : Roads → NodeNo → ℕ → NodeNo → Option ℕ
near g t zero u = cond (is_node g.nodes u && (u.0 == t.0)) (Some 0) None
near g t (suc k) u = lighter_of (near g t k u) (over (near g t k) g.roads u)

left_at_most : (a b : Option ℕ) (w : ℕ) → IsAtMost a w → IsAtMost (lighter_of a b) w
left_at_most None b w h = let e = h.1 in cc
left_at_most (Some a) b w h = let l = lighter_left a b in let e : a ≡ h.0 = (let q = h.1 in cc) in let x = l.2 in let y = h.2 in (l.0, l.1, omega arith)

over_at : (f : NodeNo → Option ℕ) (roads : List Road) (i : ℕ) (road : Road) (u : NodeNo) (y : ℕ) → slice_get roads i ≡ Some road → road.from.0 ≡ u.0 → f road.to ≡ Some y → IsAtMost (over f roads u) (road.weight + y)
over_at f [] i road u y at from has = cc
over_at f (r ∷ rs) zero road u y at from has =
    let is : r ≡ road = cc in
    let e : cond (r.from.0 == u.0) (both (Some r.weight) (f r.to)) None ≡ Some (road.weight + y) =
    ap (λ (q : Road). cond (q.from.0 == u.0) (both (Some q.weight) (f q.to)) None) is ∙ ap (λ b. cond b (both (Some road.weight) (f road.to)) None) (eq-eqb _ _ from) ∙ ap (both (Some road.weight)) has in
    left_at_most (cond (r.from.0 == u.0) (both (Some r.weight) (f r.to)) None) (over f rs u) (road.weight + y) (road.weight + y, e, omega arith)
over_at f (r ∷ rs) (suc i) road u y at from has = lighter_right (cond (r.from.0 == u.0) (both (Some r.weight) (f r.to)) None) (over f rs u) (road.weight + y) (over_at f rs i road u y at from has)

no_shorter : (g : Roads) → IsGraph g → (t : NodeNo) (k : ℕ) (u : NodeNo) (more : List NodeNo) (x : ℕ) → last_of u more ≡ t → walk_length g (u ∷ more) ≡ Some x → length more ≤ k → IsAtMost (near g t k u) x
no_shorter g lawful t zero u [] x l e le =
    let n = test_from_node g u (alone_is_node g u x e).0 in
    let s = eq-eqb u.0 t.0 (ap (λ (m : NodeNo). m.0) l) in
    (0, ap (λ b. cond (b && (u.0 == t.0)) (Some 0) None) n ∙ ap (λ b. cond b (Some 0) None) s, omega arith)
no_shorter g lawful t zero u (v ∷ vs) x l e le = absurd (omega arith)
no_shorter g lawful t (suc k) u [] x l e le = left_at_most (near g t k u) (over (near g t k) g.roads u) x (no_shorter g lawful t k u [] x l e (omega arith))
no_shorter g lawful t (suc k) u (v ∷ vs) x l e le =
    let s = step_of g u v vs x e in
    let ih = no_shorter g lawful t k v vs s.rest l s.walk (omega arith) in
    let r = has_road g.roads u v s.weight s.road in
    let o = over_at (near g t k) g.roads r.k r.road u ih.0 r.stands r.from (ap (near g t k) (same_node r.to) ∙ ih.1) in
    let a = o.2 in
    let b = ih.2 in
    let c = s.sum in
    let w = r.weight in
    lighter_right (near g t k u) (over (near g t k) g.roads u) x (o.0, o.1, omega arith)

-- a walk that is no longer
record Reaches (g : Roads) (u t : NodeNo) (x : ℕ) : Type 0 where
  more : List NodeNo
  length : ℕ
  last : last_of u more ≡ t
  walk : walk_length g (u ∷ more) ≡ Some length
  less : length ≤ x

lesser : (g : Roads) (u t : NodeNo) (a b : Option ℕ) (x : ℕ) → ((y : ℕ) → a ≡ Some y → Reaches g u t y) → ((y : ℕ) → b ≡ Some y → Reaches g u t y) → lighter_of a b ≡ Some x → Reaches g u t x
lesser g u t None b x f h e = h x e
lesser g u t (Some a) None x f h e = f x e
lesser g u t (Some a) (Some b) x f h e = at (cases_lt a b)
  where
    at : (a < b) ⊎ (b ≤ a) → Reaches g u t x
    at (inl lt) = let is : a ≡ x = (let m : min a b ≡ a = omega arith in let n : min a b ≡ x = cc in omega arith) in f x (ap Some is)
    at (inr ge) = let is : b ≡ x = (let m : min a b ≡ b = omega arith in let n : min a b ≡ x = cc in omega arith) in h x (ap Some is)

over_reaches : (g : Roads) (t u : NodeNo) (f : NodeNo → Option ℕ) → ((v : NodeNo) (y : ℕ) → f v ≡ Some y → Reaches g v t y)
    → (rs : List Road) → ((i : ℕ) (road : Road) → slice_get rs i ≡ Some road → IsAtMost (least_weight g.roads road.from road.to) road.weight) → (x : ℕ) → over f rs u ≡ Some x → Reaches g u t x
over_reaches g t u f reach [] light x e = cc
over_reaches g t u f reach (r ∷ rs) light x e =
    lesser g u t (cond (r.from.0 == u.0) (both (Some r.weight) (f r.to)) None) (over f rs u) x (λ y q. first (r.from.0 == u.0) refl (f r.to) refl y q) (λ y q. over_reaches g t u f reach rs (λ i road at. light (suc i) road at) y q) e
  where
    first : (b : Bool) → (r.from.0 == u.0) ≡ b → (o : Option ℕ) → f r.to ≡ o → (y : ℕ) → cond b (both (Some r.weight) o) None ≡ Some y → Reaches g u t y
    first false eb o eo y q = cc
    first true eb None eo y q = cc
    first true eb (Some z) eo y q =
        let w = reach r.to z eo in
        let l = light 0 r refl in
        let from : r.from ≡ u = same_node (eqb-true _ _ eb) in
        let road : least_weight g.roads u r.to ≡ Some l.0 = ap (λ (n : NodeNo). least_weight g.roads n r.to) (sym from) ∙ l.1 in
        let sum : r.weight + z ≡ y = cc in
        let a = l.2 in
        let b = w.less in
        record { more = r.to ∷ w.more; length = l.0 + w.length; last = w.last; walk = step_to g u r.to w.more l.0 w.length road w.walk; less = omega arith }

near_reaches : (g : Roads) (t : NodeNo) (k : ℕ) (u : NodeNo) (x : ℕ) → near g t k u ≡ Some x → Reaches g u t x
near_reaches g t zero u x e = at (is_node g.nodes u) (u.0 == t.0) refl refl e
  where
    at : (a b : Bool) → is_node g.nodes u ≡ a → (u.0 == t.0) ≡ b → cond (a && b) (Some 0) None ≡ Some x → Reaches g u t x
    at true true ea eb q = record { more = []; length = 0; last = same_node (eqb-true _ _ eb); walk = ap (λ c. cond c (Some 0) None) ea; less = omega arith }
    at true false ea eb q = cc
    at false b ea eb q = cc
near_reaches g t (suc k) u x e =
    lesser g u t (near g t k u) (over (near g t k) g.roads u) x (λ y q. near_reaches g t k u y q) (λ y q. over_reaches g t u (near g t k) (λ v z p. near_reaches g t k v z p) g.roads (λ i road at. least_at_most g.roads i road at) y q) e

-- each walk is at least that
below_all : (g : Roads) → IsGraph g → (u v : NodeNo) (nodes : List NodeNo) (x : ℕ) → IsWalk g u v nodes x → IsAtMost (near g v g.nodes u) x
below_all g lawful u v [] x w = absurd w.0
below_all g lawful u v (c ∷ more) x w =
    let s = shorten g v c more x w.0.1 w.1 in
    let few = simple_few g lawful c s.more s.length s.walk s.distinct in
    let a = no_shorter g lawful v g.nodes c s.more s.length s.last s.walk (omega arith) in
    let le = s.less in
    let b = a.2 in
    (a.0, ap (near g v g.nodes) (sym w.0.0) ∙ a.1, omega arith)

-- where there is a walk there is a distance
pub has_distance : (g : Roads) → IsGraph g → (u v : NodeNo) (nodes : List NodeNo) (x : ℕ) → IsWalk g u v nodes x → (y : ℕ) × IsDist g u v y × (y ≤ x)
has_distance g lawful u v nodes x w =
    let a = below_all g lawful u v nodes x w in
    let r = near_reaches g v g.nodes u a.0 a.1 in
    let back : IsWalk g u v (u ∷ r.more) r.length = ((refl, r.last), r.walk) in
    let low = below_all g lawful u v (u ∷ r.more) r.length back in
    let same : low.0 ≡ a.0 = (let p = low.1 in let q = a.1 in cc) in
    let up = low.2 in
    let le = r.less in
    let is : r.length ≡ a.0 = omega arith in
    (a.0, record { reached = (u ∷ r.more, (back.0, back.1 ∙ ap Some is)); least = λ ns y h. (let b = below_all g lawful u v ns y h in let same' : b.0 ≡ a.0 = (let p = b.1 in let q = a.1 in cc) in let z = b.2 in omega arith) }, a.2)
