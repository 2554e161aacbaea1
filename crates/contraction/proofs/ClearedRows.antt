use Rattle.std.proofs.Common.{◌≡◌, ◌≢◌, ℕ, ◌+◌, ◌<◌, ◌⊎◌, inl, inr, List, [], ◌++◌, length, set, sym, ◌∙◌, subst}
use Rattle.std.specs.Prelude.{Contains}
use Rattle.std.proofs.lemmas.List.Elements.{Contains-append_left, Contains-append_right, Contains-append_cases}
use Rattle.road_graph.specs.declared.road.NodeNo.{NodeNo}
use Rattle.upward_search.specs.declared.arc.RankArc.{RankArc}
use Rattle.contraction.specs.declared.rows.End.{End}
use Rattle.contraction.specs.declared.rows.End.TheVariants.{From, To}
use Rattle.contraction.specs.Removing.{HasChain, IsOut, IsIn, IsAside, IsShortcut, IsRemoved, IsBridge, IsEither}
use Rattle.contraction.specs.Bridging.{AreBridges}
use Rattle.contraction.specs.Rows.{near_end, far_end, row_of, AreDetached, AreStanding, Stands, HasNoLonger, ArePut}
use Rattle.contraction.proofs.HasChain.{has_one, has_over}
use Rattle.contraction.proofs.AreBridges.{none_contained}
use Rattle.contraction.proofs.AreStanding.{row_set}

-- rows without the arcs of k
module _ (end : End) (k : NodeNo) (arcs : List RankArc) (old new : List (List RankArc)) (in' : k.0 < length old)
    (own : (n : NodeNo) (a : RankArc) → Contains (row_of old n) a → near_end end a ≡ n) (cross : (n : NodeNo) (a : RankArc) → Contains (row_of old n) a → far_end end a ≡ k → Contains arcs a)
    (d : AreDetached end k arcs (set old k.0 []) new) where
  pub cleared_from : (n : NodeNo) (a : RankArc) → Contains (row_of new n) a → Contains (row_of old n) a × (near_end end a ≢ k) × (far_end end a ≢ k)
  cleared_from n a h = at (row_set old k [] in' n)
    where
      at : ((n ≡ k) × (row_of (set old k.0 []) n ≡ [])) ⊎ ((n ≢ k) × (row_of (set old k.0 []) n ≡ row_of old n)) → Contains (row_of old n) a × (near_end end a ≢ k) × (far_end end a ≢ k)
      at (inl q) = absurd (none_contained a (subst (λ (r : List RankArc). Contains r a) q.1 (d.was n a h)))
      at (inr q) =
          let was = subst (λ (r : List RankArc). Contains r a) q.1 (d.was n a h) in
          let is = own n a was in
          let here = subst (λ (m : NodeNo). Contains (row_of new m) a) (sym is) h in
          (was, (λ e. q.0 (sym is ∙ e)), λ e. d.gone a (cross n a was e) a here e)

  pub cleared_has : (n : NodeNo) (a : RankArc) → Contains (row_of old n) a → near_end end a ≢ k → far_end end a ≢ k → Contains (row_of new n) a
  cleared_has n a h ne fe = at (row_set old k [] in' n)
    where
      at : ((n ≡ k) × (row_of (set old k.0 []) n ≡ [])) ⊎ ((n ≢ k) × (row_of (set old k.0 []) n ≡ row_of old n)) → Contains (row_of new n) a
      at (inl q) = absurd (ne (own n a h ∙ q.0))
      at (inr q) = d.kept n a (subst (λ (r : List RankArc). Contains r a) (sym q.1) h) fe

module _ (k : NodeNo) (outs ins outs1 ins1 : List (List RankArc)) (s : AreStanding outs ins) (in_outs : k.0 < length outs) (in_ins : k.0 < length ins)
    (detach_outs : AreDetached From k (row_of ins k) (set outs k.0 []) outs1) (detach_ins : AreDetached To k (row_of outs k) (set ins k.0 []) ins1) where
  crosses_out : (n : NodeNo) (a : RankArc) → Contains (row_of outs n) a → a.to ≡ k → Contains (row_of ins k) a
  crosses_out n a h e = subst (λ (m : NodeNo). Contains (row_of ins m) a) e (s.in_both a (subst (λ (m : NodeNo). Contains (row_of outs m) a) (sym (s.out_from n a h)) h))

  crosses_in : (n : NodeNo) (a : RankArc) → Contains (row_of ins n) a → a.from ≡ k → Contains (row_of outs k) a
  crosses_in n a h e = subst (λ (m : NodeNo). Contains (row_of outs m) a) e (s.out_both a (subst (λ (m : NodeNo). Contains (row_of ins m) a) (sym (s.in_to n a h)) h))

  pub out_cleared : (n : NodeNo) (a : RankArc) → Contains (row_of outs1 n) a → Contains (row_of outs n) a × (a.from ≢ k) × (a.to ≢ k)
  out_cleared n a h = cleared_from From k (row_of ins k) outs outs1 in_outs s.out_from crosses_out detach_outs n a h

  in_cleared : (n : NodeNo) (a : RankArc) → Contains (row_of ins1 n) a → Contains (row_of ins n) a × (a.to ≢ k) × (a.from ≢ k)
  in_cleared n a h = cleared_from To k (row_of outs k) ins ins1 in_ins s.in_to crosses_in detach_ins n a h

  pub out_stays : (n : NodeNo) (a : RankArc) → Contains (row_of outs n) a → IsAside k a → Contains (row_of outs1 n) a
  out_stays n a h o = cleared_has From k (row_of ins k) outs outs1 in_outs s.out_from crosses_out detach_outs n a h o.0 o.1

  in_stays : (n : NodeNo) (a : RankArc) → Contains (row_of ins n) a → IsAside k a → Contains (row_of ins1 n) a
  in_stays n a h o = cleared_has To k (row_of outs k) ins ins1 in_ins s.in_to crosses_in detach_ins n a h o.1 o.0

  -- each arc still stands in the rows of both its ends
  pub cleared_standing : AreStanding outs1 ins1
  cleared_standing = record {
    out_from = λ n a h. s.out_from n a (out_cleared n a h).0;
    in_to = λ n a h. s.in_to n a (in_cleared n a h).0;
    in_both = λ a h. (let c = out_cleared a.from a h in in_stays a.to a (s.in_both a c.0) (c.1, c.2));
    out_both = λ a h. (let c = in_cleared a.to a h in out_stays a.from a (s.out_both a c.0) (c.2, c.1));
  }

-- arcs that are left, some of them in the place of others
no_longer_chain : {Kind : RankArc → Type 0} (a : RankArc) → HasNoLonger Kind a → HasChain Kind a.from a.to a.length
no_longer_chain a h = has_one h.arc a.from a.to a.length h.here h.from h.to h.short

module _ (far : ℕ) (k : NodeNo) (outs ins outs1 ins1 outs2 ins2 : List (List RankArc)) (found climbing falling : List RankArc) (s : AreStanding outs ins)
    (apart : (a : RankArc) → Stands outs a → a.from ≢ a.to) (in_outs : k.0 < length outs) (in_ins : k.0 < length ins)
    (detach_outs : AreDetached From k (row_of ins k) (set outs k.0 []) outs1) (detach_ins : AreDetached To k (row_of outs k) (set ins k.0 []) ins1)
    (b : AreBridges far k (row_of ins k) (row_of outs k) (Stands outs1) found) (p : ArePut found outs1 ins1 outs2 ins2) where
  out_stands : (a : RankArc) → Contains (row_of outs k) a → Stands outs a × IsOut k a
  out_stands a h =
      let e = s.out_from k a h in
      let here = subst (λ (m : NodeNo). Contains (row_of outs m) a) (sym e) h in
      (here, (e, λ t. apart a here (e ∙ sym t)))

  in_stands : (a : RankArc) → Contains (row_of ins k) a → Stands outs a × IsIn k a
  in_stands a h =
      let e = s.in_to k a h in
      let here = s.out_both a (subst (λ (m : NodeNo). Contains (row_of ins m) a) (sym e) h) in
      (here, ((λ f. apart a here (f ∙ sym e)), e))

  shortcut : (a : RankArc) → IsBridge far k (row_of ins k) (row_of outs k) a → IsShortcut far (Stands outs) k a
  shortcut a q =
      let d = in_stands q.down q.down_in in
      let u = out_stands q.up q.up_in in
      record { down = q.down; up = q.up; down_left = d.0; up_left = u.0; into = d.1; out = u.1; from = q.from; to = q.to; apart = q.apart; middle = q.middle; sum = q.sum; light = q.light }

  from_left : (a : RankArc) → Stands outs1 a ⊎ Contains found a → (Stands outs a × IsAside k a) ⊎ IsShortcut far (Stands outs) k a
  from_left a (inl h) = let c = out_cleared k outs ins outs1 ins1 s in_outs in_ins detach_outs detach_ins a.from a h in inl (c.0, (c.1, c.2))
  from_left a (inr h) = inr (shortcut a (b.made a h))

  from_climbing : (a : RankArc) → Contains climbing a ⊎ Contains (row_of outs k) a → Contains climbing a ⊎ (Stands outs a × IsOut k a)
  from_climbing a (inl h) = inl h
  from_climbing a (inr h) = let o = out_stands a h in inr (o.0, o.1)

  from_falling : (a : RankArc) → Contains falling a ⊎ Contains (row_of ins k) a → Contains falling a ⊎ (Stands outs a × IsIn k a)
  from_falling a (inl h) = inl h
  from_falling a (inr h) = let o = in_stands a h in inr (o.0, o.1)

  either : (a : RankArc) → IsEither (Stands outs1) found a → HasChain (Stands outs2) a.from a.to a.length
  either a (inl h) = no_longer_chain a (p.kept a h)
  either a (inr h) = no_longer_chain a (p.came a h)

  -- a node is removed from rows
  pub removed_rows : IsRemoved far k climbing (Stands outs) falling (climbing ++ row_of outs k) (Stands outs2) (falling ++ row_of ins k)
  removed_rows = record {
    kept_climbing = λ a h. Contains-append_left climbing (row_of outs k) a h;
    kept_falling = λ a h. Contains-append_left falling (row_of ins k) a h;
    outs = λ a h o. Contains-append_right climbing (row_of outs k) a (subst (λ (m : NodeNo). Contains (row_of outs m) a) o.0 h);
    ins = λ a h o. Contains-append_right falling (row_of ins k) a (subst (λ (m : NodeNo). Contains (row_of ins m) a) o.1 (s.in_both a h));
    asides = λ a h o. no_longer_chain a (p.kept a (out_stays k outs ins outs1 ins1 s in_outs in_ins detach_outs detach_ins a.from a h o));
    bridged = λ down up h i o q lt. has_over either down.from up.to (down.length + up.length)
        (b.bridged down up (subst (λ (m : NodeNo). Contains (row_of ins m) down) o.1 (s.in_both down h)) (subst (λ (m : NodeNo). Contains (row_of outs m) up) q.0 i) lt);
    from_climbing = λ a h. from_climbing a (Contains-append_cases climbing (row_of outs k) a h);
    from_falling = λ a h. from_falling a (Contains-append_cases falling (row_of ins k) a h);
    from_left = λ a h. from_left a (p.was a h);
  }
