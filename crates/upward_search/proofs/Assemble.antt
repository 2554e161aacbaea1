use Rattle.std.proofs.Common.{◌≡◌, ℕ, ◌+◌, ◌<◌, ◌≤◌, ◌⊎◌, inl, inr, true, false, cond, List, [], ◌∷◌, length, map, Option, Some, None, sym, ap, ◌∙◌, arith, refl, subst}
use Rattle.std.specs.Prelude.{slice_get, slice_index, Contains, nat_lt}
use Rattle.std.proofs.lemmas.Bool.{cases_lt}
use Rattle.std.proofs.lemmas.Bool.Decides.{nat_tests}
use Rattle.std.proofs.lemmas.Option.{slice_get_within}
use Rattle.road_graph.specs.declared.road.NodeNo.{NodeNo}
use Rattle.road_graph.specs.Roads.{Roads, IsNode}
use Rattle.upward_search.specs.declared.arc.RankArc.{RankArc}
use Rattle.upward_search.specs.declared.slope.Arc.{Arc}
use Rattle.upward_search.specs.declared.backing.Rung.{Rung}
use Rattle.upward_search.specs.Rows.{row, IsUpward}
use Rattle.upward_search.specs.Climbs.{IsIn}
use Rattle.upward_search.specs.Cuts.{AreWithin, AreRowsOf}
use Rattle.upward_search.specs.Ladders.{Ladder, IsLadder, ArePlaces, IsOverPlace}
use Rattle.upward_search.specs.Chains.{IsLeastChain, AreAll}
use Rattle.upward_search.specs.Fitting.{IsFitting, Climbs, Falls, IsOver, IsMade, IsMadeOver}
use Rattle.upward_search.specs.Hierarchies.{Fits, node_at, middle_at, climbing_arc, falling_arc, ranking_of}
use Rattle.upward_search.specs.Orders.{AreInOrder, ArePut, IsMiddleBelow, AreBelow, middle_place, climbing_rung, falling_rung}
use Rattle.upward_search.proofs.RankingOf.{has_in, in_has, has_map, map_has, contains_in, in_contains, arcs_have, arcs_from, node_is}

-- an element of a list that was made of another
in_map : {X Y : Type 0} (f : X → Y) (xs : List X) (x : X) → IsIn xs x → IsIn (map f xs) (f x)
in_map f xs x i = has_in (map f xs) (f x) (has_map f xs x (in_has xs i.0 x i.1))

map_in : {X Y : Type 0} (f : X → Y) (xs : List X) (y : Y) → IsIn (map f xs) y → (x : X) × Contains xs x × (f x ≡ y)
map_in f xs y i = let m = map_has f xs y (in_has (map f xs) i.0 y i.1) in (m.0, in_contains xs m.0 (has_in xs m.0 m.1), m.2)

moved : (h : Ladder) (f f' t t' k k' x x' : ℕ) → f ≡ f' → t ≡ t' → k ≡ k' → x ≡ x' → IsOverPlace h f t k x → IsOverPlace h f' t' k' x'
moved h f f' t t' k k' x x' a b c d o = subst (λ n. IsOverPlace h f' t' k' n) d (subst (λ n. IsOverPlace h f' t' n x) c (subst (λ n. IsOverPlace h f' n k x) b (subst (λ n. IsOverPlace h n t k x) a o)))

module _ (g : Roads) (ranks : List ℕ) (C F : List RankArc) (fit : IsFitting g ranks C F) (nodes : List NodeNo) (places : List ℕ)
    (order : AreInOrder ranks nodes) (many : length places ≡ length nodes + 1) (put : ArePut nodes places (length nodes)) where
  at_place : (n : NodeNo) → IsNode g n → slice_get nodes (slice_index places n.0) ≡ Some n
  at_place n node =
      let r = fit.ranked.many in
      let high = node.1 in
      let s = order.all n node.0 (omega arith) in
      let e : slice_index places n.0 ≡ s.0 = put s.0 n (slice_get_within nodes s.0 n s.1) s.1 in
      ap (slice_get nodes) e ∙ s.1

  low_place : (n : NodeNo) → IsNode g n → slice_index places n.0 < length nodes
  low_place n node = slice_get_within nodes (slice_index places n.0) n (at_place n node)

  -- higher ranks have higher places
  mono : (u v : NodeNo) → IsNode g u → IsNode g v → slice_index ranks u.0 < slice_index ranks v.0 → slice_index places u.0 < slice_index places v.0
  mono u v nu nv lt = at (cases_lt (slice_index places u.0) (slice_index places v.0)) (cases_lt (slice_index places v.0) (slice_index places u.0))
    where
      at : (slice_index places u.0 < slice_index places v.0) ⊎ (slice_index places v.0 ≤ slice_index places u.0) → (slice_index places v.0 < slice_index places u.0) ⊎ (slice_index places u.0 ≤ slice_index places v.0)
          → slice_index places u.0 < slice_index places v.0
      at (inl l) q = l
      at (inr le) (inl l) = let up = order.rising (slice_index places v.0) (slice_index places u.0) v u l (at_place v nv) (at_place u nu) in absurd (omega arith)
      at (inr le) (inr le') =
          let same : slice_index places u.0 ≡ slice_index places v.0 = omega arith in
          let a = at_place u nu in
          let b = ap (slice_get nodes) same ∙ at_place v nv in
          let one : u ≡ v = cc in
          let e = ap (λ (n : NodeNo). slice_index ranks n.0) one in
          absurd (omega arith)

  pub placed : ArePlaces nodes places
  placed = record {
    many = many;
    each = λ n some high. at_place n (some, (let r = fit.ranked.many in let m = order.many in omega arith));
    back = λ p n e. put p n (slice_get_within nodes p n e) e;
    inside = λ p n e. (let r = (order.each p n e).1 in let m = order.many in omega arith);
    some = λ p n e. (order.each p n e).0;
  }

  middle_node : (a : RankArc) → IsMade g ranks C F a → (k : NodeNo) → a.middle ≡ Some k → IsOver ranks C F a k
  middle_node a made k e = subst (λ (m : Option NodeNo). IsMadeOver g ranks C F a m) e made

  over_node : (a : RankArc) (k : NodeNo) → IsOver ranks C F a k → IsNode g k
  over_node a k o = subst (IsNode g) o.from (fit.arcs.climbs o.up o.climbs).from

  middle_below : (a : RankArc) → IsMade g ranks C F a → (m : Option NodeNo) → a.middle ≡ m → IsMiddleBelow (length places) m
  middle_below a made None e = tt
  middle_below a made (Some k) e = let n = (over_node a k (middle_node a made k e)).1 in let r = fit.ranked.many in let o = order.many in omega arith

  -- the numbers that arcs name are below the number of places
  pub climbing_below : AreBelow (length places) C
  climbing_below k a e =
      let c = in_contains C a (k, e) in
      let i = fit.arcs.climbs a c in
      let r = fit.ranked.many in let o = order.many in
      let x = i.from.1 in let y = i.to.1 in
      (omega arith, omega arith, middle_below a (fit.arcs.climbing_made a c) a.middle refl)

  pub falling_below : AreBelow (length places) F
  falling_below k a e =
      let c = in_contains F a (k, e) in
      let i = fit.arcs.falls a c in
      let r = fit.ranked.many in let o = order.many in
      let x = i.from.1 in let y = i.to.1 in
      (omega arith, omega arith, middle_below a (fit.arcs.falling_made a c) a.middle refl)

  up_of : (a : RankArc) → Climbs g ranks a → slice_index places a.from.0 < slice_index places a.to.0
  up_of a i = mono a.from a.to i.from i.to i.higher

  down_of : (a : RankArc) → Falls g ranks a → slice_index places a.to.0 < slice_index places a.from.0
  down_of a i = mono a.to a.from i.to i.from i.lower

  pub climbing_within : AreWithin (length nodes) (map (climbing_rung places) C)
  climbing_within g' i =
      let m = map_in (climbing_rung places) C g' i in
      let c = fit.arcs.climbs m.0 m.1 in
      let low = ap (λ (r : Rung). r.low) m.2 in
      let high = ap (λ (r : Rung). r.arc.to) m.2 in
      let up = up_of m.0 c in
      let top = low_place m.0.to c.to in
      (omega arith, omega arith)

  pub falling_within : AreWithin (length nodes) (map (falling_rung places) F)
  falling_within g' i =
      let m = map_in (falling_rung places) F g' i in
      let c = fit.arcs.falls m.0 m.1 in
      let low = ap (λ (r : Rung). r.low) m.2 in
      let high = ap (λ (r : Rung). r.arc.to) m.2 in
      let up = down_of m.0 c in
      let top = low_place m.0.from c.from in
      (omega arith, omega arith)

  -- an arc between places is the arc between nodes again
  middle_back : (a : RankArc) (low high : NodeNo) → slice_index places low.0 < slice_index places high.0 → ((k : NodeNo) → a.middle ≡ Some k → (slice_index places k.0 < slice_index places low.0) × IsNode g k)
      → (m : Option NodeNo) → a.middle ≡ m → middle_at nodes (slice_index places low.0) (middle_place places m high) ≡ m
  middle_back a low high lt below None e =
      let t : nat_lt (slice_index places high.0) (slice_index places low.0) ≡ false = grind (arith, nat_tests) in
      ap (λ b. cond b (Some (node_at nodes (slice_index places high.0))) None) t
  middle_back a low high lt below (Some k) e =
      let l = (below k e).0 in
      let t : nat_lt (slice_index places k.0) (slice_index places low.0) ≡ true = grind (arith, nat_tests) in
      ap (λ b. cond b (Some (node_at nodes (slice_index places k.0))) None) t ∙ ap Some (node_is nodes (slice_index places k.0) k (at_place k (below k e).1))

  climbing_back : (a : RankArc) → Contains C a → climbing_arc nodes (climbing_rung places a).low (climbing_rung places a).arc ≡ a
  climbing_back a c =
      let i = fit.arcs.climbs a c in
      let from = node_is nodes (slice_index places a.from.0) a.from (at_place a.from i.from) in
      let to = node_is nodes (slice_index places a.to.0) a.to (at_place a.to i.to) in
      let made = fit.arcs.climbing_made a c in
      let middle = middle_back a a.from a.to (up_of a i) (λ k e. let o = middle_node a made k e in let n = over_node a k o in (mono k a.from n i.from o.below_from, n)) a.middle refl in
      let x = node_at nodes (slice_index places a.to.0) in
      let y = middle_at nodes (slice_index places a.from.0) (middle_place places a.middle a.to) in
      ap (λ (n : NodeNo). let b : RankArc = record { from = n; to = x; length = a.length; middle = y } in b) from
      ∙ ap (λ (n : NodeNo). let b : RankArc = record { from = a.from; to = n; length = a.length; middle = y } in b) to
      ∙ ap (λ (m : Option NodeNo). let b : RankArc = record { from = a.from; to = a.to; length = a.length; middle = m } in b) middle

  falling_back : (a : RankArc) → Contains F a → falling_arc nodes (falling_rung places a).low (falling_rung places a).arc ≡ a
  falling_back a c =
      let i = fit.arcs.falls a c in
      let from = node_is nodes (slice_index places a.from.0) a.from (at_place a.from i.from) in
      let to = node_is nodes (slice_index places a.to.0) a.to (at_place a.to i.to) in
      let made = fit.arcs.falling_made a c in
      let middle = middle_back a a.to a.from (down_of a i) (λ k e. let o = middle_node a made k e in let n = over_node a k o in (mono k a.to n i.to o.below_to, n)) a.middle refl in
      let x = node_at nodes (slice_index places a.to.0) in
      let y = middle_at nodes (slice_index places a.to.0) (middle_place places a.middle a.from) in
      ap (λ (n : NodeNo). let b : RankArc = record { from = n; to = x; length = a.length; middle = y } in b) from
      ∙ ap (λ (n : NodeNo). let b : RankArc = record { from = a.from; to = n; length = a.length; middle = y } in b) to
      ∙ ap (λ (m : Option NodeNo). let b : RankArc = record { from = a.from; to = a.to; length = a.length; middle = m } in b) middle

  module _ (climbs falls : List (List Arc)) (cs : AreRowsOf (map (climbing_rung places) C) climbs) (fs : AreRowsOf (map (falling_rung places) F) falls) where
    -- the rows have exactly the arcs that were given
    climbing_kept : (a : RankArc) → Contains C a → Contains (ranking_of (record { nodes = nodes; places = places; climbs = climbs; falls = falls })).climbing a
    climbing_kept a c = subst (Contains (ranking_of (record { nodes = nodes; places = places; climbs = climbs; falls = falls })).climbing) (climbing_back a c)
        (arcs_have (climbing_arc nodes) climbs (climbing_rung places a).low (climbing_rung places a).arc (cs.all (climbing_rung places a) (in_map (climbing_rung places) C a (contains_in C a c))))

    falling_kept : (a : RankArc) → Contains F a → Contains (ranking_of (record { nodes = nodes; places = places; climbs = climbs; falls = falls })).falling a
    falling_kept a c = subst (Contains (ranking_of (record { nodes = nodes; places = places; climbs = climbs; falls = falls })).falling) (falling_back a c)
        (arcs_have (falling_arc nodes) falls (falling_rung places a).low (falling_rung places a).arc (fs.all (falling_rung places a) (in_map (falling_rung places) F a (contains_in F a c))))

    climbing_was : (a : RankArc) → Contains (ranking_of (record { nodes = nodes; places = places; climbs = climbs; falls = falls })).climbing a → Contains C a
    climbing_was a c =
        let r = arcs_from (climbing_arc nodes) climbs a c in
        let z : 0 + r.place ≡ r.place = omega arith in
        let m = map_in (climbing_rung places) C (record { low = r.place; arc = r.arc }) (cs.only r.place r.arc r.stands) in
        let e : a ≡ m.0 = r.is ∙ ap (λ n. climbing_arc nodes n r.arc) z ∙ ap (λ (o : Rung). climbing_arc nodes o.low o.arc) (sym m.2) ∙ climbing_back m.0 m.1 in
        subst (Contains C) (sym e) m.1

    falling_was : (a : RankArc) → Contains (ranking_of (record { nodes = nodes; places = places; climbs = climbs; falls = falls })).falling a → Contains F a
    falling_was a c =
        let r = arcs_from (falling_arc nodes) falls a c in
        let z : 0 + r.place ≡ r.place = omega arith in
        let m = map_in (falling_rung places) F (record { low = r.place; arc = r.arc }) (fs.only r.place r.arc r.stands) in
        let e : a ≡ m.0 = r.is ∙ ap (λ n. falling_arc nodes n r.arc) z ∙ ap (λ (o : Rung). falling_arc nodes o.low o.arc) (sym m.2) ∙ falling_back m.0 m.1 in
        subst (Contains F) (sym e) m.1

    -- what an arc over a node is between places
    over_places : (a : RankArc) (k : NodeNo) → IsNode g a.from → IsNode g a.to → IsOver ranks C F a k
        → IsOverPlace (record { nodes = nodes; places = places; climbs = climbs; falls = falls }) (slice_index places a.from.0) (slice_index places a.to.0) (slice_index places k.0) a.length
    over_places a k from to o =
        let n = over_node a k o in
        let down = fs.all (falling_rung places o.down) (in_map (falling_rung places) F o.down (contains_in F o.down o.falls)) in
        let up = cs.all (climbing_rung places o.up) (in_map (climbing_rung places) C o.up (contains_in C o.up o.climbs)) in
        record {
          lower = mono k a.from n from o.below_from;
          below = mono k a.to n to o.below_to;
          fall = (falling_rung places o.down).arc;
          falls = subst (λ (m : NodeNo). IsIn (row falls (slice_index places m.0)) (falling_rung places o.down).arc) o.into down;
          starts = ap (λ (m : NodeNo). slice_index places m.0) o.out;
          climb = (climbing_rung places o.up).arc;
          climbs = subst (λ (m : NodeNo). IsIn (row climbs (slice_index places m.0)) (climbing_rung places o.up).arc) o.from up;
          ends = ap (λ (m : NodeNo). slice_index places m.0) o.to;
          sum = o.sum;
        }

    climb_over : (p : ℕ) (a : Arc) → IsIn (row climbs p) a → a.middle < p → IsOverPlace (record { nodes = nodes; places = places; climbs = climbs; falls = falls }) p a.to a.middle a.length
    climb_over p a i lt =
        let m = map_in (climbing_rung places) C (record { low = p; arc = a }) (cs.only p a i) in
        let c = fit.arcs.climbs m.0 m.1 in
        let made = fit.arcs.climbing_made m.0 m.1 in
        let low = ap (λ (r : Rung). r.low) m.2 in
        let high = ap (λ (r : Rung). r.arc.to) m.2 in
        let middle = ap (λ (r : Rung). r.arc.middle) m.2 in
        let long = ap (λ (r : Rung). r.arc.length) m.2 in
        let up = up_of m.0 c in
        at m.0 c.from c.to (λ k e. middle_node m.0 made k e) low high long (omega arith) m.0.middle refl middle
      where
        at : (r : RankArc) → IsNode g r.from → IsNode g r.to → ((k : NodeNo) → r.middle ≡ Some k → IsOver ranks C F r k) → slice_index places r.from.0 ≡ p → slice_index places r.to.0 ≡ a.to → r.length ≡ a.length → p < slice_index places r.to.0
            → (m : Option NodeNo) → r.middle ≡ m → middle_place places m r.to ≡ a.middle → IsOverPlace (record { nodes = nodes; places = places; climbs = climbs; falls = falls }) p a.to a.middle a.length
        at r from to made low high long up None e middle = absurd (omega arith)
        at r from to made low high long up (Some k) e middle = moved _ _ _ _ _ _ _ _ _ low high middle long (over_places r k from to (made k e))

    fall_over : (p : ℕ) (a : Arc) → IsIn (row falls p) a → a.middle < p → IsOverPlace (record { nodes = nodes; places = places; climbs = climbs; falls = falls }) a.to p a.middle a.length
    fall_over p a i lt =
        let m = map_in (falling_rung places) F (record { low = p; arc = a }) (fs.only p a i) in
        let c = fit.arcs.falls m.0 m.1 in
        let made = fit.arcs.falling_made m.0 m.1 in
        let low = ap (λ (r : Rung). r.low) m.2 in
        let high = ap (λ (r : Rung). r.arc.to) m.2 in
        let middle = ap (λ (r : Rung). r.arc.middle) m.2 in
        let long = ap (λ (r : Rung). r.arc.length) m.2 in
        let up = down_of m.0 c in
        at m.0 c.from c.to (λ k e. middle_node m.0 made k e) low high long (omega arith) m.0.middle refl middle
      where
        at : (r : RankArc) → IsNode g r.from → IsNode g r.to → ((k : NodeNo) → r.middle ≡ Some k → IsOver ranks C F r k) → slice_index places r.to.0 ≡ p → slice_index places r.from.0 ≡ a.to → r.length ≡ a.length → p < slice_index places r.from.0
            → (m : Option NodeNo) → r.middle ≡ m → middle_place places m r.from ≡ a.middle → IsOverPlace (record { nodes = nodes; places = places; climbs = climbs; falls = falls }) a.to p a.middle a.length
        at r from to made low high long up None e middle = absurd (omega arith)
        at r from to made low high long up (Some k) e middle = moved _ _ _ _ _ _ _ _ _ high low middle long (over_places r k from to (made k e))

    pub ladder : length climbs ≡ length nodes → length falls ≡ length nodes → IsUpward climbs → IsUpward falls → IsLadder (record { nodes = nodes; places = places; climbs = climbs; falls = falls })
    ladder cm fm cu fu = record { climbs_many = cm; falls_many = fm; climbs_up = cu; falls_up = fu; climbs_over = climb_over; falls_over = fall_over }

    all_kept : (C' F' : List RankArc) → ((a : RankArc) → Contains C' a → Contains F' a) → (chain : List RankArc) → AreAll (Contains C') chain → AreAll (Contains F') chain
    all_kept C' F' keep [] h = tt
    all_kept C' F' keep (a ∷ more) h = (keep a h.0, all_kept C' F' keep more h.1)

    least_kept : (C' F' : List RankArc) → ((a : RankArc) → Contains C' a → Contains F' a) → ((a : RankArc) → Contains F' a → Contains C' a) → (u v : NodeNo) (x : ℕ) → IsLeastChain C' u v x → IsLeastChain F' u v x
    least_kept C' F' keep was u v x c = record {
      chain = c.chain;
      reached = record { leads = c.reached.leads; all = all_kept C' F' keep c.chain c.reached.all; sum = c.reached.sum };
      least = λ other y d. c.least other y (record { leads = d.leads; all = all_kept F' C' was other d.all; sum = d.sum });
    }

    made_kept : (a : RankArc) → IsNode g a.from → IsNode g a.to → (m : Option NodeNo) → IsMadeOver g ranks C F a m
        → IsMadeOver g places (ranking_of (record { nodes = nodes; places = places; climbs = climbs; falls = falls })).climbing (ranking_of (record { nodes = nodes; places = places; climbs = climbs; falls = falls })).falling a m
    made_kept a from to None made = made
    made_kept a from to (Some k) o =
        let n = over_node a k o in
        record {
          down = o.down;
          up = o.up;
          falls = falling_kept o.down o.falls;
          climbs = climbing_kept o.up o.climbs;
          out = o.out;
          into = o.into;
          from = o.from;
          to = o.to;
          sum = o.sum;
          below_from = mono k a.from n from o.below_from;
          below_to = mono k a.to n to o.below_to;
        }

    -- the hierarchy between places fits the graph, too
    pub fits : Fits g (ranking_of (record { nodes = nodes; places = places; climbs = climbs; falls = falls }))
    fits = record {
      ranked = record {
        many = (let r = fit.ranked.many in let o = order.many in omega arith);
        distinct = λ u v nu nv same. (let a = at_place u nu in let b = ap (slice_get nodes) same ∙ at_place v nv in cc);
      };
      arcs = record {
        climbs = λ a c. (let i = fit.arcs.climbs a (climbing_was a c) in record { from = i.from; to = i.to; higher = up_of a i });
        falls = λ a c. (let i = fit.arcs.falls a (falling_was a c) in record { from = i.from; to = i.to; lower = down_of a i });
        climbing_made = λ a c. (let w = climbing_was a c in let i = fit.arcs.climbs a w in made_kept a i.from i.to a.middle (fit.arcs.climbing_made a w));
        falling_made = λ a c. (let w = falling_was a c in let i = fit.arcs.falls a w in made_kept a i.from i.to a.middle (fit.arcs.falling_made a w));
      };
      meets = λ u v x d. (let m = fit.meets u v x d in record {
        top = m.top;
        up = m.up;
        down = m.down;
        climb = least_kept C (ranking_of (record { nodes = nodes; places = places; climbs = climbs; falls = falls })).climbing climbing_kept climbing_was u m.top m.up m.climb;
        fall = least_kept F (ranking_of (record { nodes = nodes; places = places; climbs = climbs; falls = falls })).falling falling_kept falling_was m.top v m.down m.fall;
        sum = m.sum;
      });
    }

-- what calls say of the lists that they read
pub put_read : (nodes read : List NodeNo) (places : List ℕ) → read ≡ nodes → ArePut read places (length read) → ArePut nodes places (length nodes)
put_read nodes read places e put = subst (λ (ns : List NodeNo). ArePut ns places (length ns)) e put

pub within_read : (n m : ℕ) (gs rungs : List Rung) → m ≡ n → rungs ≡ gs → AreWithin n gs → AreWithin m rungs
within_read n m gs rungs e f w = subst (λ k. AreWithin k rungs) (sym e) (subst (AreWithin n) (sym f) w)
