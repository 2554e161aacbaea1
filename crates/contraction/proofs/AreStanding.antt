use Rattle.std.proofs.Common.{◌≡◌, ◌≢◌, ℕ, ◌+◌, ◌<◌, ◌≤◌, ◌⊎◌, inl, inr, ◌==◌, ◌&&◌, not, Bool, true, false, List, [], ◌∷◌, ◌++◌, length, take, get_or, set, sym, ap, ◌∙◌, arith, refl, subst}
use Rattle.std.specs.Prelude.{Contains, IsTrue, nat_le}
use Rattle.std.specs.List.{filter}
use Rattle.std.proofs.lemmas.Bool.{eqb-true, eq-eqb}
use Rattle.std.proofs.lemmas.Bool.Decides.{nat_tests}
use Rattle.std.proofs.lemmas.List.{take_more, get_or-set_same, get_or-set_other, get_or_default, length-set, set-set}
use Rattle.std.proofs.lemmas.List.Elements.{Contains-append_left, Contains-push, Contains-push_cases, Contains-get_or}
use Rattle.road_graph.specs.declared.road.NodeNo.{NodeNo}
use Rattle.road_graph.proofs.WalkLaws.{same_node}
use Rattle.upward_search.specs.declared.arc.RankArc.{RankArc}
use Rattle.contraction.specs.declared.rows.End.{End}
use Rattle.contraction.specs.declared.rows.End.TheVariants.{From, To}
use Rattle.contraction.specs.Rows.{near_end, far_end, leads_elsewhere, is_beside, row_of, AreDetached, IsAttached, AreStanding, Stands, HasNoLonger, ArePut, IsHere, AreHere, AreSound}
use Rattle.contraction.proofs.HasChain.{no_arc, same_or_not}
use Rattle.contraction.proofs.Contains.{filter_from, filter_has}

-- one row written
pub row_set : (rows : List (List RankArc)) (p : NodeNo) (row : List RankArc) → p.0 < length rows → (n : NodeNo) → ((n ≡ p) × (row_of (set rows p.0 row) n ≡ row)) ⊎ ((n ≢ p) × (row_of (set rows p.0 row) n ≡ row_of rows n))
row_set rows p row lt n = at (same_or_not n p)
  where
    at : (n ≡ p) ⊎ (n ≢ p) → ((n ≡ p) × (row_of (set rows p.0 row) n ≡ row)) ⊎ ((n ≢ p) × (row_of (set rows p.0 row) n ≡ row_of rows n))
    at (inl e) = inl (e, ap (row_of (set rows p.0 row)) e ∙ get_or-set_same rows p.0 row [] lt)
    at (inr ne) = inr (ne, get_or-set_other rows p.0 n.0 row [] (λ e. ne (same_node e)))

elsewhere_not : (m k : NodeNo) → not (m.0 == k.0) ≡ true → m ≢ k
elsewhere_not m k e s = let t = eq-eqb m.0 k.0 (ap (λ (n : NodeNo). n.0) s) in let u = ap not t in cc

not_elsewhere : (m k : NodeNo) → m ≢ k → not (m.0 == k.0) ≡ true
not_elsewhere m k ne = at (m.0 == k.0) refl
  where
    at : (b : Bool) → (m.0 == k.0) ≡ b → not b ≡ true
    at true e = absurd (ne (same_node (eqb-true _ _ e)))
    at false e = refl

-- what a row has in a list with one row written
in_row : (rows : List (List RankArc)) (p : NodeNo) (row : List RankArc) (a : RankArc) (n : NodeNo) → p.0 < length rows → Contains (row_of (set rows p.0 row) n) a → ((n ≡ p) × Contains row a) ⊎ ((n ≢ p) × Contains (row_of rows n) a)
in_row rows p row a n lt h = at (row_set rows p row lt n)
  where
    at : ((n ≡ p) × (row_of (set rows p.0 row) n ≡ row)) ⊎ ((n ≢ p) × (row_of (set rows p.0 row) n ≡ row_of rows n)) → ((n ≡ p) × Contains row a) ⊎ ((n ≢ p) × Contains (row_of rows n) a)
    at (inl q) = inl (q.0, subst (λ (r : List RankArc). Contains r a) q.1 h)
    at (inr q) = inr (q.0, subst (λ (r : List RankArc). Contains r a) q.1 h)

to_row : (rows : List (List RankArc)) (p : NodeNo) (row : List RankArc) (a : RankArc) (n : NodeNo) → p.0 < length rows → (n ≡ p → Contains row a) → (n ≢ p → Contains (row_of rows n) a) → Contains (row_of (set rows p.0 row) n) a
to_row rows p row a n lt f g = at (row_set rows p row lt n)
  where
    at : ((n ≡ p) × (row_of (set rows p.0 row) n ≡ row)) ⊎ ((n ≢ p) × (row_of (set rows p.0 row) n ≡ row_of rows n)) → Contains (row_of (set rows p.0 row) n) a
    at (inl q) = subst (λ (r : List RankArc). Contains r a) (sym q.1) (f q.0)
    at (inr q) = subst (λ (r : List RankArc). Contains r a) (sym q.1) (g q.0)

-- nothing to detach from
pub detached_none : (end : End) (k : NodeNo) (rows : List (List RankArc)) → AreDetached end k [] rows rows
detached_none end k rows = record { many = refl; kept = λ n a h ne. h; was = λ n a h. h; gone = λ o c a h. absurd (let l = c.1 in omega arith) }

-- one row more was filtered
pub detached_step : (end : End) (k : NodeNo) (arcs : List RankArc) (i : ℕ) (old mid : List (List RankArc)) (p : NodeNo) (row : List RankArc) → i < length arcs → AreDetached end k (take i arcs) old mid → p ≡ near_end end (get_or arcs i no_arc) → p.0 < length mid
    → row ≡ filter (leads_elsewhere end k) (row_of mid p) → AreDetached end k (take (i + 1) arcs) old (set mid p.0 row)
detached_step end k arcs i old mid p row lt d is in' e = record {
  many = length-set mid p.0 row ∙ d.many;
  kept = λ n a h ne. to_row mid p row a n in'
      (λ s. subst (λ (r : List RankArc). Contains r a) (sym e) (filter_has (leads_elsewhere end k) (row_of mid p) a (subst (λ (m : NodeNo). Contains (row_of mid m) a) s (d.kept n a h ne)) (not_elsewhere (far_end end a) k ne)))
      (λ s. d.kept n a h ne);
  was = λ n a h. was n a (in_row mid p row a n in' h);
  gone = λ o c a h. gone o (Contains-push_cases (take i arcs) (get_or arcs i no_arc) o (subst (λ (as' : List RankArc). Contains as' o) (take_more arcs i no_arc lt) c)) a (in_row mid p row a (near_end end o) in' h);
}
  where
    from_row : (a : RankArc) → Contains row a → Contains (row_of mid p) a × (far_end end a ≢ k)
    from_row a h = let f = filter_from (leads_elsewhere end k) (row_of mid p) a (subst (λ (r : List RankArc). Contains r a) e h) in (f.0, elsewhere_not (far_end end a) k f.1)

    was : (n : NodeNo) (a : RankArc) → ((n ≡ p) × Contains row a) ⊎ ((n ≢ p) × Contains (row_of mid n) a) → Contains (row_of old n) a
    was n a (inl q) = d.was n a (subst (λ (m : NodeNo). Contains (row_of mid m) a) (sym q.0) (from_row a q.1).0)
    was n a (inr q) = d.was n a q.1

    gone : (o : RankArc) → Contains (take i arcs) o ⊎ (get_or arcs i no_arc ≡ o) → (a : RankArc) → ((near_end end o ≡ p) × Contains row a) ⊎ ((near_end end o ≢ p) × Contains (row_of mid (near_end end o)) a) → far_end end a ≢ k
    gone o c a (inl q) = (from_row a q.1).1
    gone o (inl c) a (inr q) = d.gone o c a q.1
    gone o (inr s) a (inr q) = absurd (q.0 (ap (near_end end) (sym s) ∙ sym is))

-- an arc with another end than the new one is beside it
other_from : (new a : RankArc) → a.from ≢ new.from → IsTrue (is_beside new a)
other_from new a ne = at (a.from.0 == new.from.0) (a.to.0 == new.to.0) refl
  where
    at : (b c : Bool) → (a.from.0 == new.from.0) ≡ b → not (b && c && nat_le new.length a.length) ≡ true
    at true c e = absurd (ne (same_node (eqb-true _ _ e)))
    at false c e = refl

other_to : (new a : RankArc) → a.to ≢ new.to → IsTrue (is_beside new a)
other_to new a ne = at (a.from.0 == new.from.0) (a.to.0 == new.to.0) refl
  where
    at : (b c : Bool) → (a.to.0 == new.to.0) ≡ c → not (b && c && nat_le new.length a.length) ≡ true
    at b true e = absurd (ne (same_node (eqb-true _ _ e)))
    at true false e = refl
    at false false e = refl

other_near : (end : End) (new a : RankArc) → near_end end a ≢ near_end end new → IsTrue (is_beside new a)
other_near From new a ne = other_from new a ne
other_near To new a ne = other_to new a ne

-- an arc that gives way has the same ends, and the new one is no longer
gives_way : (new a : RankArc) → is_beside new a ≡ false → (new.from ≡ a.from) × (new.to ≡ a.to) × (new.length ≤ a.length)
gives_way new a e = at (a.from.0 == new.from.0) (a.to.0 == new.to.0) (nat_le new.length a.length) refl refl refl e
  where
    at : (b c d : Bool) → (a.from.0 == new.from.0) ≡ b → (a.to.0 == new.to.0) ≡ c → nat_le new.length a.length ≡ d → not (b && c && d) ≡ false → (new.from ≡ a.from) × (new.to ≡ a.to) × (new.length ≤ a.length)
    at true true true p q r e = (sym (same_node (eqb-true _ _ p)), sym (same_node (eqb-true _ _ q)), grind (arith, nat_tests))
    at true true false p q r e = cc
    at true false d p q r e = cc
    at false c d p q r e = cc

-- one arc came into one row
pub attached : (end : End) (arc : RankArc) (old : List (List RankArc)) (p : NodeNo) (row : List RankArc) → p ≡ near_end end arc → p.0 < length old → row ≡ filter (is_beside arc) (row_of old p) ++ arc ∷ [] → IsAttached end arc old (set old p.0 row)
attached end arc old p row is in' e = record {
  many = length-set old p.0 row;
  kept = λ n a h b. to_row old p row a n in'
      (λ s. subst (λ (r : List RankArc). Contains r a) (sym e) (Contains-append_left (filter (is_beside arc) (row_of old p)) (arc ∷ []) a (filter_has (is_beside arc) (row_of old p) a (subst (λ (m : NodeNo). Contains (row_of old m) a) s h) b)))
      (λ s. h);
  came = to_row old p row arc (near_end end arc) in' (λ s. subst (λ (r : List RankArc). Contains r arc) (sym e) (Contains-push (filter (is_beside arc) (row_of old p)) arc)) (λ s. absurd (s (sym is)));
  was = λ n a at h. was n a at (in_row old p row a n in' h);
  own = λ n a h. own n a (in_row old p row a n in' h);
}
  where
    from_row : (a : RankArc) → Contains row a → (Contains (row_of old p) a × IsTrue (is_beside arc a)) ⊎ (arc ≡ a)
    from_row a h = at (Contains-push_cases (filter (is_beside arc) (row_of old p)) arc a (subst (λ (r : List RankArc). Contains r a) e h))
      where
        at : Contains (filter (is_beside arc) (row_of old p)) a ⊎ (arc ≡ a) → (Contains (row_of old p) a × IsTrue (is_beside arc a)) ⊎ (arc ≡ a)
        at (inl f) = inl (filter_from (is_beside arc) (row_of old p) a f)
        at (inr s) = inr s

    was : (n : NodeNo) (a : RankArc) → near_end end a ≡ n → ((n ≡ p) × Contains row a) ⊎ ((n ≢ p) × Contains (row_of old n) a) → (Contains (row_of old n) a × IsTrue (is_beside arc a)) ⊎ (arc ≡ a)
    was n a at (inl q) = by (from_row a q.1)
      where
        by : (Contains (row_of old p) a × IsTrue (is_beside arc a)) ⊎ (arc ≡ a) → (Contains (row_of old n) a × IsTrue (is_beside arc a)) ⊎ (arc ≡ a)
        by (inl f) = inl (subst (λ (m : NodeNo). Contains (row_of old m) a) (sym q.0) f.0, f.1)
        by (inr s) = inr s
    was n a at (inr q) = inl (q.1, other_near end arc a (λ s. q.0 (sym at ∙ s ∙ sym is)))

    own : (n : NodeNo) (a : RankArc) → ((n ≡ p) × Contains row a) ⊎ ((n ≢ p) × Contains (row_of old n) a) → Contains (row_of old n) a ⊎ (near_end end a ≡ n)
    own n a (inl q) = by (from_row a q.1)
      where
        by : (Contains (row_of old p) a × IsTrue (is_beside arc a)) ⊎ (arc ≡ a) → Contains (row_of old n) a ⊎ (near_end end a ≡ n)
        by (inl f) = inl (subst (λ (m : NodeNo). Contains (row_of old m) a) (sym q.0) f.0)
        by (inr s) = inr (ap (near_end end) (sym s) ∙ sym is ∙ sym q.0)
    own n a (inr q) = inl q.1

-- a row that was read
pub row_read : (rows : List (List RankArc)) (p : NodeNo) (row : List RankArc) → p.0 < length rows → row ≡ get_or rows p.0 row → row ≡ row_of rows p
row_read rows p row lt e = e ∙ get_or_default rows p.0 row [] lt

-- the same arc itself
pub no_longer_self : (Kind : RankArc → Type 0) (a : RankArc) → Kind a → HasNoLonger Kind a
no_longer_self Kind a h = record { arc = a; here = h; from = refl; to = refl; short = omega arith }

-- no arc came
pub put_none : (outs ins : List (List RankArc)) → AreStanding outs ins → ArePut [] outs ins outs ins
put_none outs ins s = record {
  standing = s;
  many_outs = refl;
  many_ins = refl;
  kept = λ a h. no_longer_self (Stands outs) a h;
  came = λ a h. absurd (let l = h.1 in omega arith);
  was = λ a h. inl h;
}

-- one arc more came
module _ (arcs : List RankArc) (arc : RankArc) (outs0 ins0 outs ins outs' ins' : List (List RankArc)) (p : ArePut arcs outs0 ins0 outs ins)
    (o : IsAttached From arc outs outs') (i : IsAttached To arc ins ins') where
  -- what stands afterwards
  stands : (a : RankArc) → Stands outs' a → (Stands outs a × IsTrue (is_beside arc a)) ⊎ (arc ≡ a)
  stands a h = o.was a.from a refl h

  in_stands : (a : RankArc) → Contains (row_of ins' a.to) a → (Contains (row_of ins a.to) a × IsTrue (is_beside arc a)) ⊎ (arc ≡ a)
  in_stands a h = i.was a.to a refl h

  standing : AreStanding outs' ins'
  standing = record {
    out_from = λ n a h. out_from n a (o.own n a h);
    in_to = λ n a h. in_to n a (i.own n a h);
    in_both = λ a h. in_both a (stands a h);
    out_both = λ a h. out_both a (in_stands a h);
  }
    where
      out_from : (n : NodeNo) (a : RankArc) → Contains (row_of outs n) a ⊎ (a.from ≡ n) → a.from ≡ n
      out_from n a (inl h) = p.standing.out_from n a h
      out_from n a (inr e) = e

      in_to : (n : NodeNo) (a : RankArc) → Contains (row_of ins n) a ⊎ (a.to ≡ n) → a.to ≡ n
      in_to n a (inl h) = p.standing.in_to n a h
      in_to n a (inr e) = e

      in_both : (a : RankArc) → (Stands outs a × IsTrue (is_beside arc a)) ⊎ (arc ≡ a) → Contains (row_of ins' a.to) a
      in_both a (inl q) = i.kept a.to a (p.standing.in_both a q.0) q.1
      in_both a (inr e) = subst (λ (b : RankArc). Contains (row_of ins' b.to) b) e i.came

      out_both : (a : RankArc) → (Contains (row_of ins a.to) a × IsTrue (is_beside arc a)) ⊎ (arc ≡ a) → Contains (row_of outs' a.from) a
      out_both a (inl q) = o.kept a.from a (p.standing.out_both a q.0) q.1
      out_both a (inr e) = subst (λ (b : RankArc). Contains (row_of outs' b.from) b) e o.came

  -- an arc that stood stands, or the new one is in its place
  still : (a : RankArc) → Stands outs a → HasNoLonger (Stands outs') a
  still a h = at (is_beside arc a) refl
    where
      at : (b : Bool) → is_beside arc a ≡ b → HasNoLonger (Stands outs') a
      at true e = no_longer_self (Stands outs') a (o.kept a.from a h e)
      at false e = let g = gives_way arc a e in record { arc = arc; here = o.came; from = g.0; to = g.1; short = g.2 }

  still_no_longer : (a : RankArc) → HasNoLonger (Stands outs) a → HasNoLonger (Stands outs') a
  still_no_longer a h = let n = still h.arc h.here in record { arc = n.arc; here = n.here; from = n.from ∙ h.from; to = n.to ∙ h.to; short = (let x = n.short in let y = h.short in omega arith) }

  pub put_more : ArePut (arcs ++ arc ∷ []) outs0 ins0 outs' ins'
  put_more = record {
    standing = standing;
    many_outs = o.many ∙ p.many_outs;
    many_ins = i.many ∙ p.many_ins;
    kept = λ a h. still_no_longer a (p.kept a h);
    came = λ a h. came a (Contains-push_cases arcs arc a h);
    was = λ a h. was a (stands a h);
  }
    where
      came : (a : RankArc) → Contains arcs a ⊎ (arc ≡ a) → HasNoLonger (Stands outs') a
      came a (inl h) = still_no_longer a (p.came a h)
      came a (inr e) = no_longer_self (Stands outs') a (subst (λ (b : RankArc). Stands outs' b) e o.came)

      was : (a : RankArc) → (Stands outs a × IsTrue (is_beside arc a)) ⊎ (arc ≡ a) → Stands outs0 a ⊎ Contains (arcs ++ arc ∷ []) a
      was a (inr e) = inr (subst (λ (b : RankArc). Contains (arcs ++ arc ∷ []) b) e (Contains-push arcs arc))
      was a (inl q) = before (p.was a q.0)
        where
          before : Stands outs0 a ⊎ Contains arcs a → Stands outs0 a ⊎ Contains (arcs ++ arc ∷ []) a
          before (inl h) = inl h
          before (inr h) = inr (Contains-append_left arcs (arc ∷ []) a h)

-- the same at a place in a list
pub put_step : (arcs : List RankArc) (i : ℕ) (outs0 ins0 outs ins outs' ins' : List (List RankArc)) → i < length arcs → ArePut (take i arcs) outs0 ins0 outs ins
    → IsAttached From (get_or arcs i no_arc) outs outs' → IsAttached To (get_or arcs i no_arc) ins ins' → ArePut (take (i + 1) arcs) outs0 ins0 outs' ins'
put_step arcs i outs0 ins0 outs ins outs' ins' lt p o n =
    subst (λ (as' : List RankArc). ArePut as' outs0 ins0 outs' ins') (sym (take_more arcs i no_arc lt)) (put_more (take i arcs) (get_or arcs i no_arc) outs0 ins0 outs ins outs' ins' p o n)

-- the arc at a place
pub here_at : {count : ℕ} (arcs : List RankArc) (i : ℕ) → i < length arcs → AreHere count arcs → IsHere count (get_or arcs i no_arc)
here_at arcs i lt h = h (get_or arcs i no_arc) (Contains-get_or arcs i no_arc lt)

near_here : (end : End) (count : ℕ) (a : RankArc) → IsHere count a → (near_end end a).0 < count
near_here From count a h = h.from
near_here To count a h = h.to

-- the near end of an arc at a place is within the rows
pub near_within : (end : End) (arcs : List RankArc) (i many : ℕ) (rows : List (List RankArc)) (p : NodeNo) → i < length arcs → AreHere many arcs → length rows ≡ many → p ≡ near_end end (get_or arcs i no_arc) → p.0 < length rows
near_within end arcs i many rows p lt all e is = let l = near_here end many (get_or arcs i no_arc) (here_at arcs i lt all) in let q = ap (λ (n : NodeNo). n.0) is in omega arith

-- a row that was taken out and written anew
pub row_back : (rows taken : List (List RankArc)) (i : ℕ) (row : List RankArc) → taken ≡ set rows i [] → set taken i row ≡ set rows i row
row_back rows taken i row e = ap (λ (rs : List (List RankArc)). set rs i row) e ∙ set-set rows i [] row

far_here : (end : End) (count : ℕ) (a : RankArc) → IsHere count a → (far_end end a).0 < count
far_here From count a h = h.to
far_here To count a h = h.from

-- the far end of an arc at a place is below the number
pub far_within : (end : End) (arcs : List RankArc) (i count : ℕ) (p : NodeNo) → i < length arcs → AreHere count arcs → p ≡ far_end end (get_or arcs i no_arc) → p.0 < count
far_within end arcs i count p lt all is = let l = far_here end count (get_or arcs i no_arc) (here_at arcs i lt all) in let q = ap (λ (n : NodeNo). n.0) is in omega arith

-- the arcs of a row that was read
pub sound_row : (end : End) (rows : List (List RankArc)) (n : NodeNo) (row : List RankArc) → AreSound end rows → row ≡ row_of rows n → AreHere (length rows) row
sound_row end rows n row sound e a h = (sound n a (subst (λ (r : List RankArc). Contains r a) e h)).0

pub here_same : {count many : ℕ} (arcs : List RankArc) → count ≡ many → AreHere count arcs → AreHere many arcs
here_same arcs e h = subst (λ (n : ℕ). AreHere n arcs) e h
