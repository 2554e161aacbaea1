use Rattle.std.proofs.Common.{◌≡◌, ℕ, ◌+◌, ◌<◌, ◌≤◌, ◌^◌, ◌⊎◌, inl, inr, List, [], ◌∷◌, ◌++◌, length, get_or, replicate, set, slice_set, length-append, sym, ap, ◌∙◌, arith, refl, subst}
use Rattle.std.specs.Prelude.{Contains, slice_get, Some}
use Rattle.std.proofs.lemmas.Bool.{cases_lt}
use Rattle.std.proofs.lemmas.List.{get_or-set_same, get_or-set_other, length-set, get_or-replicate, get_or_past, length-replicate, get_or_append_left}
use Rattle.std.proofs.lemmas.Option.{get_or_from_slice_get}
use Rattle.road_graph.specs.declared.road.NodeNo.{NodeNo}
use Rattle.road_graph.specs.Roads.{Roads, IsNode}
use Rattle.road_graph.specs.Graphs.{IsGraph}
use Rattle.road_graph.proofs.WalkLaws.{same_node, ends_are_nodes, weight_is_light}
use Rattle.upward_search.specs.declared.arc.RankArc.{RankArc}
use Rattle.upward_search.specs.Fitting.{rank_of}
use Rattle.contraction.specs.declared.work.Work.{Work}
use Rattle.contraction.specs.declared.rows.End.TheVariants.{From, To}
use Rattle.contraction.specs.Removing.{HasChain, IsNextRank, IsContracting}
use Rattle.contraction.specs.Bridging.{AreBridges}
use Rattle.contraction.specs.Rows.{row_of, AreDetached, AreStanding, AreSound, Stands, IsHere, AreHere, ArePut}
use Rattle.contraction.specs.Starting.{AreFirst}
use Rattle.contraction.specs.Working.{IsWork, AreRows, AreEmpty}
use Rattle.contraction.proofs.HasChain.{has_one}
use Rattle.contraction.proofs.AreBridges.{none_contained}
use Rattle.contraction.proofs.AreFirst.{begun}
use Rattle.contraction.proofs.IsFitting.{fewer_left}
use Rattle.contraction.proofs.IsContracting.{next_contracting}
use Rattle.contraction.proofs.ClearedRows.{out_cleared, cleared_standing, removed_rows}

-- a rank written at a node's number
pub set_rank : (ranks : List ℕ) (k : NodeNo) (count : ℕ) → k.0 < length ranks → IsNextRank ranks (slice_set ranks k.0 count) k count
set_rank ranks k count lt = record {
  many = length-set ranks k.0 count;
  here = get_or-set_same ranks k.0 count 0 lt;
  others = λ n ne. get_or-set_other ranks k.0 n.0 count 0 (λ e. ne (same_node e));
}

-- one node is removed from the rows
pub work_step : (g : Roads) (w w' : Work) (count : ℕ) (k : NodeNo) (outs1 ins1 : List (List RankArc)) (outs ins found : List RankArc)
    → IsWork g count w → IsNode g k → rank_of w.ranks.items k ≡ g.nodes → count < g.nodes → IsNextRank w.ranks.items w'.ranks.items k count
    → outs ≡ row_of w.outs.items k → ins ≡ row_of w.ins.items k
    → AreDetached From k ins (set w.outs.items k.0 []) outs1 → AreDetached To k outs (set w.ins.items k.0 []) ins1
    → AreBridges (2 ^ 53) k ins outs (Stands outs1) found → ArePut found outs1 ins1 w'.outs.items w'.ins.items
    → w'.climbing.items ≡ w.climbing.items ++ outs → w'.falling.items ≡ w.falling.items ++ ins → IsWork g (count + 1) w'
work_step g w w' count k outs1 ins1 outs ins found s node last room n o i d1 d2 b p c f =
    let d1' = subst (λ (xs : List RankArc). AreDetached From k xs (set w.outs.items k.0 []) outs1) i d1 in
    let d2' = subst (λ (xs : List RankArc). AreDetached To k xs (set w.ins.items k.0 []) ins1) o d2 in
    let b1 = subst (λ (xs : List RankArc). AreBridges (2 ^ 53) k xs outs (Stands outs1) found) i b in
    let b2 = subst (λ (xs : List RankArc). AreBridges (2 ^ 53) k (row_of w.ins.items k) xs (Stands outs1) found) o b1 in
    let apart = λ (a : RankArc) (h : Stands w.outs.items a). (s.state.left_between a h).apart in
    let in_outs : k.0 < length w.outs.items = (let q = s.many_outs in let z = node.1 in omega arith) in
    let in_ins : k.0 < length w.ins.items = (let q = s.many_ins in let z = node.1 in omega arith) in
    let r = removed_rows (2 ^ 53) k w.outs.items w.ins.items outs1 ins1 w'.outs.items w'.ins.items found w.climbing.items w.falling.items s.standing apart in_outs in_ins d1' d2' b2 p in
    let next = next_contracting g (2 ^ 53) w.ranks.items w'.ranks.items count k w.climbing.items (Stands w.outs.items) w.falling.items (w.climbing.items ++ row_of w.outs.items k) (Stands w'.outs.items) (w.falling.items ++ row_of w.ins.items k) s.state node last room n r in
    record {
      standing = p.standing;
      many_outs = (let m = d1.many in let q = p.many_outs in let z = s.many_outs in let l = length-set w.outs.items k.0 [] in omega arith);
      many_ins = (let m = d2.many in let q = p.many_ins in let z = s.many_ins in let l = length-set w.ins.items k.0 [] in omega arith);
      state = rw (c, f, o, i) next;
    }

-- the ends of an arc that is left are nodes, and it is short
stands_here : (g : Roads) (w : Work) (count : ℕ) → IsWork g count w → (a : RankArc) → Stands w.outs.items a → IsHere (g.nodes + 1) a
stands_here g w count s a h =
    let b = s.state.left_between a h in
    let f = b.from.1 in
    let t = b.to.1 in
    record { from = omega arith; to = omega arith; light = s.state.light a h }

outs_here : (g : Roads) (w : Work) (count : ℕ) → IsWork g count w → (k : NodeNo) (a : RankArc) → Contains (row_of w.outs.items k) a → IsHere (g.nodes + 1) a
outs_here g w count s k a h = stands_here g w count s a (subst (λ (m : NodeNo). Contains (row_of w.outs.items m) a) (sym (s.standing.out_from k a h)) h)

ins_here : (g : Roads) (w : Work) (count : ℕ) → IsWork g count w → (k : NodeNo) (a : RankArc) → Contains (row_of w.ins.items k) a → IsHere (g.nodes + 1) a
ins_here g w count s k a h = stands_here g w count s a (s.standing.out_both a (subst (λ (m : NodeNo). Contains (row_of w.ins.items m) a) (sym (s.standing.in_to k a h)) h))

-- the rows of the work
pub rows_of_work : (g : Roads) (w : Work) (count : ℕ) → IsWork g count w → AreRows (g.nodes + 1) w
rows_of_work g w count s = record {
  many_outs = s.many_outs;
  many_ins = s.many_ins;
  outs = λ n a h. (subst (λ (m : ℕ). IsHere m a) (sym s.many_outs) (outs_here g w count s n a h), s.standing.out_from n a h);
  ins = λ n a h. (subst (λ (m : ℕ). IsHere m a) (sym s.many_ins) (ins_here g w count s n a h), s.standing.in_to n a h);
}

-- the arcs in a row of the work
pub out_row_here : (g : Roads) (w : Work) (count : ℕ) → IsWork g count w → (k : NodeNo) (xs : List RankArc) → xs ≡ row_of w.outs.items k → AreHere (g.nodes + 1) xs
out_row_here g w count s k xs e a h = outs_here g w count s k a (subst (λ (r : List RankArc). Contains r a) e h)

pub in_row_here : (g : Roads) (w : Work) (count : ℕ) → IsWork g count w → (k : NodeNo) (xs : List RankArc) → xs ≡ row_of w.ins.items k → AreHere (g.nodes + 1) xs
in_row_here g w count s k xs e a h = ins_here g w count s k a (subst (λ (r : List RankArc). Contains r a) e h)

-- what was left of rows is sound
sound_rest : (g : Roads) (w : Work) (count : ℕ) (k : NodeNo) (outs1 : List (List RankArc)) → IsWork g count w → length outs1 ≡ g.nodes + 1 → ((n : NodeNo) (a : RankArc) → Contains (row_of outs1 n) a → Contains (row_of w.outs.items n) a) → AreSound From outs1
sound_rest g w count k outs1 s e was n a h = (subst (λ (m : ℕ). IsHere m a) (sym e) (outs_here g w count s n a (was n a h)), s.standing.out_from n a (was n a h))

-- rows out of which a node was taken
pub record AreCleared (g : Roads) (outs ins : List (List RankArc)) : Type 0 where
  pub standing : AreStanding outs ins
  pub many_outs : length outs ≡ g.nodes + 1
  pub many_ins : length ins ≡ g.nodes + 1
  pub sound : AreSound From outs

pub work_cleared : (g : Roads) (w : Work) (count : ℕ) (k : NodeNo) (outs ins : List RankArc) (outs1 ins1 : List (List RankArc)) → IsWork g count w → IsNode g k → outs ≡ row_of w.outs.items k → ins ≡ row_of w.ins.items k
    → AreDetached From k ins (set w.outs.items k.0 []) outs1 → AreDetached To k outs (set w.ins.items k.0 []) ins1 → AreCleared g outs1 ins1
work_cleared g w count k outs ins outs1 ins1 s node o i d1 d2 =
    let e1 = subst (λ (xs : List RankArc). AreDetached From k xs (set w.outs.items k.0 []) outs1) i d1 in
    let e2 = subst (λ (xs : List RankArc). AreDetached To k xs (set w.ins.items k.0 []) ins1) o d2 in
    let in_outs : k.0 < length w.outs.items = (let q = s.many_outs in let z = node.1 in omega arith) in
    let in_ins : k.0 < length w.ins.items = (let q = s.many_ins in let z = node.1 in omega arith) in
    let many : length outs1 ≡ g.nodes + 1 = d1.many ∙ length-set w.outs.items k.0 [] ∙ s.many_outs in
    record {
      standing = cleared_standing k w.outs.items w.ins.items outs1 ins1 s.standing in_outs in_ins e1 e2;
      many_outs = many;
      many_ins = d2.many ∙ length-set w.ins.items k.0 [] ∙ s.many_ins;
      sound = sound_rest g w count k outs1 s many (λ n a h. (out_cleared k w.outs.items w.ins.items outs1 ins1 s.standing in_outs in_ins e1 e2 n a h).0);
    }

pub bridges_here : (many : ℕ) (k : NodeNo) (ins outs found : List RankArc) (Beside : RankArc → Type 0) → AreHere many ins → AreHere many outs → AreBridges (2 ^ 53) k ins outs Beside found → AreHere many found
bridges_here many k ins outs found Beside f h b a c =
    let m = b.made a c in
    let d = (f m.down m.down_in).from in
    let u = (h m.up m.up_in).to in
    let e1 = ap (λ (n : NodeNo). n.0) m.from in
    let e2 = ap (λ (n : NodeNo). n.0) m.to in
    record { from = omega arith; to = omega arith; light = m.light }

-- empty rows
pub empty_standing : (many : ℕ) (outs ins : List (List RankArc)) → AreEmpty many outs → AreEmpty many ins → AreStanding outs ins
empty_standing many outs ins o i = record {
  out_from = λ n a h. absurd (o.none n a h);
  in_to = λ n a h. absurd (i.none n a h);
  in_both = λ a h. absurd (o.none a.from a h);
  out_both = λ a h. absurd (i.none a.to a h);
}

-- the work before any node is removed
pub work_begun : (g : Roads) → IsGraph g → (w : Work) (arcs : List RankArc) (blank1 blank2 : List (List RankArc)) → AreFirst g g.nodes arcs → w.ranks.items ≡ replicate (g.nodes + 1) g.nodes → AreEmpty (g.nodes + 1) blank1 → AreEmpty (g.nodes + 1) blank2
    → ArePut arcs blank1 blank2 w.outs.items w.ins.items → w.climbing.items ≡ [] → w.falling.items ≡ [] → IsWork g 0 w
work_begun g lawful w arcs blank1 blank2 f e n1 n2 p c d = record {
  standing = p.standing;
  many_outs = p.many_outs ∙ n1.many;
  many_ins = p.many_ins ∙ n2.many;
  state = rw (c, d) state;
}
  where
    only : (a : RankArc) → Stands blank1 a ⊎ Contains arcs a → Contains arcs a
    only a (inl h) = absurd (n1.none a.from a h)
    only a (inr h) = h

    came : (a : RankArc) → Contains arcs a → HasChain (Stands w.outs.items) a.from a.to a.length
    came a h = let q = p.came a h in has_one {Kind = Stands w.outs.items} q.arc a.from a.to a.length q.here q.from q.to q.short

    state : IsContracting g (2 ^ 53) w.ranks.items 0 [] (Stands w.outs.items) []
    state = fewer_left g (2 ^ 53) w.ranks.items 0 (Contains arcs) (Stands w.outs.items) came (λ a h. only a (p.was a h))
        (begun g lawful arcs f (2 ^ 53) w.ranks.items (omega arith) (ap length e ∙ length-replicate (g.nodes + 1) g.nodes)
        (λ n h. ap (λ (rs : List ℕ). rank_of rs n) e ∙ get_or-replicate (g.nodes + 1) n.0 g.nodes 0 (let m = h.1 in omega arith)))

at_last : (xs : List (List RankArc)) (y : List RankArc) → slice_get (xs ++ y ∷ []) (length xs) ≡ Some y
at_last [] y = refl
at_last (x ∷ xs) y = at_last xs y

pub empty_more : (i : ℕ) (old new : List (List RankArc)) (row : List RankArc) → AreEmpty i old → row ≡ [] → new ≡ old ++ row ∷ [] → AreEmpty (i + 1) new
empty_more i old new row a e is = subst (AreEmpty (i + 1)) (sym is) (record { many = (let l = length-append old (row ∷ []) in let c = a.many in omega arith); none = λ n b h. none n b h })
  where
    none : (n : NodeNo) (b : RankArc) → Contains (row_of (old ++ row ∷ []) n) b → ⊥
    none n b h = at (cases_lt n.0 (length old))
      where
        at : (n.0 < length old) ⊎ (length old ≤ n.0) → ⊥
        at (inl lt) = a.none n b (subst (λ (r : List RankArc). Contains r b) (get_or_append_left old (row ∷ []) [] n.0 lt) h)
        at (inr ge) = by (cases_lt (length old) n.0)
          where
            by : (length old < n.0) ⊎ (n.0 ≤ length old) → ⊥
            by (inl lt) = none_contained b (subst (λ (r : List RankArc). Contains r b) (get_or_past (old ++ row ∷ []) n.0 [] (let l = length-append old (row ∷ []) in omega arith)) h)
            by (inr le) = none_contained b (subst (λ (r : List RankArc). Contains r b) (ap (λ (j : ℕ). get_or (old ++ row ∷ []) j []) (omega arith) ∙ last_row ∙ e) h)
              where
                last_row : get_or (old ++ row ∷ []) (length old) [] ≡ row
                last_row = get_or_from_slice_get (old ++ row ∷ []) (length old) row [] (at_last old row)

-- roads as arcs are between nodes, and short
pub first_here : (g : Roads) → IsGraph g → (arcs : List RankArc) (many : ℕ) → AreFirst g g.nodes arcs → many ≡ g.nodes + 1 → AreHere many arcs
first_here g lawful arcs many f m a h =
    let r = f.made a h in
    let n = ends_are_nodes g lawful a.from a.to a.length r.weight in
    let p = n.0.1 in
    let q = n.1.1 in
    let l = weight_is_light g lawful a.from a.to a.length r.weight in
    record { from = omega arith; to = omega arith; light = omega arith }
