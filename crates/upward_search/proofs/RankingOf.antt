use Rattle.std.proofs.Common.{◌≡◌, ℕ, zero, suc, ◌+◌, ◌<◌, ◌≤◌, ◌⊎◌, inl, inr, ⊎_elim, false, cond, List, [], ◌∷◌, ◌++◌, length, map, Option, Some, None, sym, ap, ◌∙◌, arith, refl, subst, length-append}
use Rattle.std.specs.Prelude.{slice_get, Contains, nat_lt}
use Rattle.std.proofs.lemmas.Bool.Decides.{nat_tests}
use Rattle.std.proofs.lemmas.List.{length-map, get_or_past}
use Rattle.std.proofs.lemmas.Option.{slice_get_within, slice_get-get_or, get_or_from_slice_get}
use Rattle.road_graph.specs.declared.road.NodeNo.{NodeNo}
use Rattle.road_graph.specs.Roads.{Roads, node}
use Rattle.road_graph.specs.Graphs.{IsGraph}
use Rattle.road_graph.specs.Walks.{IsDist}
use Rattle.upward_search.specs.declared.arc.RankArc.{RankArc}
use Rattle.upward_search.specs.declared.slope.Arc.{Arc}
use Rattle.upward_search.specs.Rows.{row, count_rows}
use Rattle.upward_search.specs.Climbs.{IsIn, IsClimb, climb_length}
use Rattle.upward_search.specs.Ladders.{Ladder, IsLadder, IsAt, AreApart, ArePlaces, IsTop}
use Rattle.upward_search.specs.Chains.{Leads, total, AreAll, IsChain}
use Rattle.upward_search.proofs.ChainLaws.{chain_one, chain_append}
use Rattle.upward_search.specs.Fitting.{IsMadeOver, IsMade}
use Rattle.upward_search.specs.Hierarchies.{Fits, node_at, middle_at, climbing_arc, falling_arc, arcs_by, ranking_of, LadderFits}
use Rattle.upward_search.proofs.IsSearch.{climb-push, climb_length-push}

-- x is one of a list
abbrev pub Has : {X : Type 0} → List X → X → Type 0
Has [] x = ⊥
Has (y ∷ ys) x = (y ≡ x) ⊎ Has ys x

pub has_in : {X : Type 0} (xs : List X) (x : X) → Has xs x → IsIn xs x
has_in [] x h = absurd h
has_in (y ∷ ys) x (inl e) = (0, ap Some e)
has_in (y ∷ ys) x (inr h) = let r = has_in ys x h in (suc r.0, r.1)

pub in_has : {X : Type 0} (xs : List X) (k : ℕ) (x : X) → slice_get xs k ≡ Some x → Has xs x
in_has [] k x e = cc
in_has (y ∷ ys) zero x e = inl cc
in_has (y ∷ ys) (suc k) x e = inr (in_has ys k x e)

pub contains_in : {X : Type 0} (xs : List X) (x : X) → Contains xs x → IsIn xs x
contains_in xs x c = (c.0, slice_get-get_or xs c.0 x c.1 ∙ ap Some c.2)

pub in_contains : {X : Type 0} (xs : List X) (x : X) → IsIn xs x → Contains xs x
in_contains xs x i = (i.0, slice_get_within xs i.0 x i.1, get_or_from_slice_get xs i.0 x x i.1)

has_left : {X : Type 0} (xs ys : List X) (x : X) → Has xs x → Has (xs ++ ys) x
has_left [] ys x h = absurd h
has_left (y ∷ xs) ys x (inl e) = inl e
has_left (y ∷ xs) ys x (inr h) = inr (has_left xs ys x h)

has_right : {X : Type 0} (xs ys : List X) (x : X) → Has ys x → Has (xs ++ ys) x
has_right [] ys x h = h
has_right (y ∷ xs) ys x h = inr (has_right xs ys x h)

has_either : {X : Type 0} (xs ys : List X) (x : X) → Has (xs ++ ys) x → Has xs x ⊎ Has ys x
has_either [] ys x h = inr h
has_either (y ∷ xs) ys x (inl e) = inl (inl e)
has_either (y ∷ xs) ys x (inr h) = ⊎_elim (λ l. inl (inr l)) (λ r. inr r) (has_either xs ys x h)

pub has_map : {X Y : Type 0} (f : X → Y) (xs : List X) (x : X) → Has xs x → Has (map f xs) (f x)
has_map f [] x h = absurd h
has_map f (y ∷ xs) x (inl e) = inl (ap f e)
has_map f (y ∷ xs) x (inr h) = inr (has_map f xs x h)

pub map_has : {X Y : Type 0} (f : X → Y) (xs : List X) (y : Y) → Has (map f xs) y → (x : X) × Has xs x × (f x ≡ y)
map_has f [] y h = absurd h
map_has f (x ∷ xs) y (inl e) = (x, inl refl, e)
map_has f (x ∷ xs) y (inr h) = let r = map_has f xs y h in (r.0, inr r.1, r.2)

-- an arc between nodes is one of some row
pub record InRow (make : ℕ → Arc → RankArc) (rows : List (List Arc)) (p0 : ℕ) (x : RankArc) : Type 0 where
  pub place : ℕ
  pub arc : Arc
  pub stands : IsIn (row rows place) arc
  pub is : x ≡ make (p0 + place) arc

rows_have : (make : ℕ → Arc → RankArc) (p0 : ℕ) (rows : List (List Arc)) (p : ℕ) (a : Arc) → IsIn (row rows p) a → Has (arcs_by make p0 rows) (make (p0 + p) a)
rows_have make p0 [] p a i = let none : row [] p ≡ [] = get_or_past [] p [] (omega arith) in let j = subst (λ (xs : List Arc). IsIn xs a) none i in let e = j.1 in cc
rows_have make p0 (r ∷ rows) zero a i =
    let e : p0 ≡ p0 + 0 = omega arith in
    has_left (map (make p0) r) (arcs_by make (suc p0) rows) (make (p0 + 0) a) (subst (λ n. Has (map (make p0) r) (make n a)) e (has_map (make p0) r a (in_has r i.0 a i.1)))
rows_have make p0 (r ∷ rows) (suc p) a i =
    let e : suc p0 + p ≡ p0 + suc p = omega arith in
    has_right (map (make p0) r) (arcs_by make (suc p0) rows) (make (p0 + suc p) a) (subst (λ n. Has (arcs_by make (suc p0) rows) (make n a)) e (rows_have make (suc p0) rows p a i))

rows_from : (make : ℕ → Arc → RankArc) (p0 : ℕ) (rows : List (List Arc)) (x : RankArc) → Has (arcs_by make p0 rows) x → InRow make rows p0 x
rows_from make p0 [] x h = absurd h
rows_from make p0 (r ∷ rows) x h = at (has_either (map (make p0) r) (arcs_by make (suc p0) rows) x h) (λ q. rows_from make (suc p0) rows x q)
  where
    at : Has (map (make p0) r) x ⊎ Has (arcs_by make (suc p0) rows) x → (Has (arcs_by make (suc p0) rows) x → InRow make rows (suc p0) x) → InRow make (r ∷ rows) p0 x
    at (inl q) rest = let m = map_has (make p0) r x q in let e : p0 ≡ p0 + 0 = omega arith in record { place = 0; arc = m.0; stands = has_in r m.0 m.1; is = sym m.2 ∙ ap (λ n. make n m.0) e }
    at (inr q) rest = let m = rest q in let e : suc p0 + m.place ≡ p0 + suc m.place = omega arith in record { place = suc m.place; arc = m.arc; stands = m.stands; is = m.is ∙ ap (λ n. make n m.arc) e }

pub arcs_have : (make : ℕ → Arc → RankArc) (rows : List (List Arc)) (p : ℕ) (a : Arc) → IsIn (row rows p) a → Contains (arcs_by make 0 rows) (make p a)
arcs_have make rows p a i =
    let e : 0 + p ≡ p = omega arith in
    subst (λ n. Contains (arcs_by make 0 rows) (make n a)) e (in_contains (arcs_by make 0 rows) (make (0 + p) a) (has_in (arcs_by make 0 rows) (make (0 + p) a) (rows_have make 0 rows p a i)))

pub arcs_from : (make : ℕ → Arc → RankArc) (rows : List (List Arc)) (x : RankArc) → Contains (arcs_by make 0 rows) x → InRow make rows 0 x
arcs_from make rows x c = let i = contains_in (arcs_by make 0 rows) x c in rows_from make 0 rows x (in_has (arcs_by make 0 rows) i.0 x i.1)

-- as many arcs as stand in the rows
pub length-arcs_by : (make : ℕ → Arc → RankArc) (p : ℕ) (rows : List (List Arc)) → length (arcs_by make p rows) ≡ count_rows rows
length-arcs_by make p [] = refl
length-arcs_by make p (r ∷ rows) =
    let a = length-append (map (make p) r) (arcs_by make (suc p) rows) in
    let b = length-map r (make p) in
    let c = length-arcs_by make (suc p) rows in
    omega arith

-- the node at a place
pub node_is : (nodes : List NodeNo) (p : ℕ) (n : NodeNo) → slice_get nodes p ≡ Some n → node_at nodes p ≡ n
node_is nodes p n e = get_or_from_slice_get nodes p n (node 0) e

pub at_node : (l : Ladder) (p : ℕ) → p < length l.nodes → IsAt l p (node_at l.nodes p)
at_node l p lt = slice_get-get_or l.nodes p (node 0) lt

-- where climbing arcs from a place lead
pub record EndsAt (l : Ladder) (rows : List (List Arc)) (p : ℕ) (n : NodeNo) (x : ℕ) : Type 0 where
  pub end : ℕ
  pub ends : IsAt l end n
  pub arcs : List Arc
  pub climb : IsClimb rows p end arcs
  pub long : climb_length arcs ≡ x

pub same_at : (l : Ladder) (p q : ℕ) (u v : NodeNo) → IsAt l p u → IsAt l q v → p ≡ q → u ≡ v
same_at l p q u v a b e = let s = ap (slice_get l.nodes) e in cc

module _ (l : Ladder) (lad : IsLadder l) where
  pub climb_low : (p : ℕ) (a : Arc) → IsIn (row l.climbs p) a → (p < length l.nodes) × (a.to < length l.nodes)
  climb_low p a i = let u = lad.climbs_up.up p i.0 a i.1 in let m = lad.climbs_many in let x = u.0 in let y = u.1 in (omega arith, omega arith)

  pub fall_low : (p : ℕ) (a : Arc) → IsIn (row l.falls p) a → (p < length l.nodes) × (a.to < length l.nodes)
  fall_low p a i = let u = lad.falls_up.up p i.0 a i.1 in let m = lad.falls_many in let x = u.0 in let y = u.1 in (omega arith, omega arith)

  -- arcs that lead up from a place, as arcs between nodes
  pub chain_up : (arcs : List Arc) (p q : ℕ) (u v : NodeNo) → IsClimb l.climbs p q arcs → IsAt l p u → IsAt l q v → (chain : List RankArc) × IsChain (Contains (ranking_of l).climbing) u v chain (climb_length arcs)
  chain_up [] p q u v c a b = ([], record { leads = same_at l p q u v a b c; all = tt; sum = refl })
  chain_up (arc ∷ arcs) p q u v c a b =
      let low = climb_low p arc c.0 in
      let rest = chain_up arcs arc.to q (node_at l.nodes arc.to) v c.1 (at_node l arc.to low.1) b in
      (climbing_arc l.nodes p arc ∷ rest.0, record { leads = (node_is l.nodes p u a, rest.1.leads); all = (arcs_have (climbing_arc l.nodes) l.climbs p arc c.0, rest.1.all); sum = (let s = rest.1.sum in omega arith) })

  pub chain_down : (arcs : List Arc) (p q : ℕ) (v u : NodeNo) → IsClimb l.falls p q arcs → IsAt l p v → IsAt l q u → (chain : List RankArc) × IsChain (Contains (ranking_of l).falling) u v chain (climb_length arcs)
  chain_down [] p q v u c a b = ([], record { leads = sym (same_at l p q v u a b c); all = tt; sum = refl })
  chain_down (arc ∷ arcs) p q v u c a b =
      let low = fall_low p arc c.0 in
      let rest = chain_down arcs arc.to q (node_at l.nodes arc.to) u c.1 (at_node l arc.to low.1) b in
      let last = chain_one {Kind = Contains (ranking_of l).falling} (falling_arc l.nodes p arc) (node_at l.nodes arc.to) v (arcs_have (falling_arc l.nodes) l.falls p arc c.0) refl (node_is l.nodes p v a) in
      let more = chain_append {Kind = Contains (ranking_of l).falling} u (node_at l.nodes arc.to) v rest.0 (climb_length arcs) rest.1 (falling_arc l.nodes p arc ∷ []) arc.length last in
      (rest.0 ++ falling_arc l.nodes p arc ∷ [], record { leads = more.leads; all = more.all; sum = (let s = more.sum in omega arith) })

module _ (l : Ladder) (lad : IsLadder l) (apart : AreApart l) where
  pub climb_chain : (chain : List RankArc) (u v : NodeNo) → Leads u v chain → AreAll (Contains (ranking_of l).climbing) chain → (p : ℕ) → IsAt l p u → EndsAt l l.climbs p v (total chain)
  climb_chain [] u v e all p at = record { end = p; ends = subst (IsAt l p) e at; arcs = []; climb = refl; long = refl }
  climb_chain (a ∷ more) u v lead all p at =
      let r = arcs_from (climbing_arc l.nodes) l.climbs a all.0 in
      let low = climb_low l lad r.place r.arc r.stands in
      let z : 0 + r.place ≡ r.place = omega arith in
      let is : climbing_arc l.nodes r.place r.arc ≡ a = ap (λ n. climbing_arc l.nodes n r.arc) (sym z) ∙ sym r.is in
      let here = subst (IsAt l r.place) (ap (λ (b : RankArc). b.from) is ∙ lead.0) (at_node l r.place low.0) in
      let same = apart r.place p u here at in
      let next = subst (IsAt l r.arc.to) (ap (λ (b : RankArc). b.to) is) (at_node l r.arc.to low.1) in
      let rest = climb_chain more a.to v lead.1 all.1 r.arc.to next in
      let long = ap (λ (b : RankArc). b.length) is in
      record { end = rest.end; ends = rest.ends; arcs = r.arc ∷ rest.arcs; climb = (subst (λ n. IsIn (row l.climbs n) r.arc) same r.stands, rest.climb); long = (let q = rest.long in omega arith) }

  pub fall_chain : (chain : List RankArc) (u v : NodeNo) → Leads u v chain → AreAll (Contains (ranking_of l).falling) chain → (q : ℕ) → IsAt l q v → EndsAt l l.falls q u (total chain)
  fall_chain [] u v e all q at = record { end = q; ends = subst (IsAt l q) (sym e) at; arcs = []; climb = refl; long = refl }
  fall_chain (a ∷ more) u v lead all q at =
      let rest = fall_chain more a.to v lead.1 all.1 q at in
      let r = arcs_from (falling_arc l.nodes) l.falls a all.0 in
      let low = fall_low l lad r.place r.arc r.stands in
      let z : 0 + r.place ≡ r.place = omega arith in
      let is : falling_arc l.nodes r.place r.arc ≡ a = ap (λ n. falling_arc l.nodes n r.arc) (sym z) ∙ sym r.is in
      let here = subst (IsAt l r.place) (ap (λ (b : RankArc). b.to) is) (at_node l r.place low.0) in
      let same = apart r.place rest.end a.to here rest.ends in
      let next = subst (IsAt l r.arc.to) (ap (λ (b : RankArc). b.from) is ∙ lead.0) (at_node l r.arc.to low.1) in
      let long = ap (λ (b : RankArc). b.length) is in
      let more_long = climb_length-push rest.arcs r.arc in
      record {
        end = r.arc.to;
        ends = next;
        arcs = rest.arcs ++ r.arc ∷ [];
        climb = climb-push l.falls rest.arcs q rest.end r.arc rest.climb (subst (λ n. IsIn (row l.falls n) r.arc) same r.stands);
        long = (let s = rest.long in omega arith);
      }

  -- an arc whose middle isn't below its lower end is a road
  no_middle : (low k : ℕ) → low ≤ k → middle_at l.nodes low k ≡ None
  no_middle low k le = let t : nat_lt k low ≡ false = grind (arith, nat_tests) in ap (λ b. cond b (Some (node_at l.nodes k)) None) t

  road_made : (g : Roads) (a : RankArc) → IsMade g (ranking_of l).ranks (ranking_of l).climbing (ranking_of l).falling a → a.middle ≡ None → IsMadeOver g (ranking_of l).ranks (ranking_of l).climbing (ranking_of l).falling a None
  road_made g a made e = subst (λ (m : Option NodeNo). IsMadeOver g (ranking_of l).ranks (ranking_of l).climbing (ranking_of l).falling a m) e made

  -- what fits a graph between nodes fits it between places
  pub fits_ladder : (g : Roads) → IsGraph g → ArePlaces l.nodes l.places → Fits g (ranking_of l) → LadderFits g l
  fits_ladder g lawful placed fit = record {
    graph = lawful;
    nodes = λ p n at. (let m = fit.ranked.many in let s = placed.some p n at in let i = placed.inside p n at in (s, omega arith));
    climbing = λ p a i le. (let low = climb_low l lad p a i in
        record {
          u = node_at l.nodes p;
          v = node_at l.nodes a.to;
          starts = at_node l p low.0;
          ends = at_node l a.to low.1;
          weight = road_made g (climbing_arc l.nodes p a) (fit.arcs.climbing_made (climbing_arc l.nodes p a) (arcs_have (climbing_arc l.nodes) l.climbs p a i)) (no_middle p a.middle le);
        });
    falling = λ p a i le. (let low = fall_low l lad p a i in
        record {
          u = node_at l.nodes a.to;
          v = node_at l.nodes p;
          starts = at_node l a.to low.1;
          ends = at_node l p low.0;
          weight = road_made g (falling_arc l.nodes p a) (fit.arcs.falling_made (falling_arc l.nodes p a) (arcs_have (falling_arc l.nodes) l.falls p a i)) (no_middle p a.middle le);
        });
    arcs = fit.arcs;
    covers = λ p q u v x a b d. top p q u v x a b d;
  }
    where
      top : (p q : ℕ) (u v : NodeNo) (x : ℕ) → IsAt l p u → IsAt l q v → IsDist g u v x → IsTop l p q x
      top p q u v x a b d =
          let m = fit.meets u v x d in
          let up = climb_chain m.climb.chain u m.top m.climb.reached.leads m.climb.reached.all p a in
          let down = fall_chain m.fall.chain m.top v m.fall.reached.leads m.fall.reached.all q b in
          let same = apart up.end down.end m.top up.ends down.ends in
          record {
            top = up.end;
            up = up.arcs;
            climbs = up.climb;
            down = down.arcs;
            falls = subst (λ n. IsClimb l.falls q n down.arcs) (sym same) down.climb;
            sum = (let s = m.sum in let s1 = m.climb.reached.sum in let s2 = m.fall.reached.sum in let l1 = up.long in let l2 = down.long in omega arith);
          }
