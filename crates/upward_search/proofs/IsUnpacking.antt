use Rattle.std.proofs.Common.{◌≡◌, ℕ, zero, suc, ◌+◌, ◌<◌, ◌≤◌, ◌⊎◌, inl, inr, ⊎_elim, List, [], ◌∷◌, ◌++◌, length, get_or, Option, Some, None, sym, ap, ◌∙◌, arith, refl, subst}
use Rattle.std.specs.Prelude.{slice_get, sum_by}
use Rattle.std.proofs.lemmas.Bool.{cases_lt}
use Rattle.std.proofs.lemmas.List.Sums.{sum_by_push}
use Rattle.std.proofs.lemmas.Option.{slice_get_within, slice_get-get_or}
use Rattle.upward_search.specs.declared.slope.Arc.{Arc}
use Rattle.upward_search.specs.declared.slope.Label.{Label}
use Rattle.upward_search.specs.declared.unpacking.Part.{Part}
use Rattle.upward_search.specs.Rows.{row}
use Rattle.upward_search.specs.Climbs.{IsIn}
use Rattle.upward_search.specs.Ladders.{Ladder, IsLadder, IsOverPlace}
use Rattle.upward_search.specs.Parts.{IsRoad, HasMiddle, HasArcTo, IsLeastArc, IsLeastArcBelow, IsArcSoFar, arc_of, IsPart, IsClimbPart, IsFallPart, IsRoadPart, AreRoads, AreWaiting, IsUnpacking}

-- what stands below the next index stands below this one or is this arc
below_more : (arcs : List Arc) (i : ℕ) (a : Arc) → slice_get arcs i ≡ Some a → (k : ℕ) (b : Arc) → k < i + 1 → slice_get arcs k ≡ Some b → (k < i) ⊎ (a ≡ b)
below_more arcs i a at k b lt s = here (cases_lt k i)
  where
    here : (k < i) ⊎ (i ≤ k) → (k < i) ⊎ (a ≡ b)
    here (inl l) = inl l
    here (inr ge) = let e : k ≡ i = omega arith in let q = ap (slice_get arcs) e in inr cc

-- one arc more is looked at
least_arc_more : (arcs : List Arc) (to i : ℕ) (a : Arc) (least new : Option Arc) → slice_get arcs i ≡ Some a → IsLeastArcBelow arcs to i least → IsArcSoFar least a to new → IsLeastArcBelow arcs to (i + 1) new
least_arc_more arcs to i a None new at l (inl (ne, e)) = subst (IsLeastArcBelow arcs to (i + 1)) (sym e)
    (λ k b lt s is. ⊎_elim (λ m. l k b m s is) (λ q. ne (ap (λ (c : Arc). c.to) q ∙ is)) (below_more arcs i a at k b lt s))
least_arc_more arcs to i a None new at l (inr (is, e)) = subst (IsLeastArcBelow arcs to (i + 1)) (sym e)
    ((i, at), is, λ k b lt s is'. ⊎_elim (λ m. absurd (l k b m s is')) (λ q. let w = ap (λ (c : Arc). c.length) q in omega arith) (below_more arcs i a at k b lt s))
least_arc_more arcs to i a (Some b) new at l (inl (ne, e)) = subst (IsLeastArcBelow arcs to (i + 1)) (sym e)
    (l.0, l.1, λ k d lt s is. ⊎_elim (λ m. l.2 k d m s is) (λ q. absurd (ne (ap (λ (c : Arc). c.to) q ∙ is))) (below_more arcs i a at k d lt s))
least_arc_more arcs to i a (Some b) new at l (inr (is, inl (le, e))) = subst (IsLeastArcBelow arcs to (i + 1)) (sym e)
    (l.0, l.1, λ k d lt s is'. ⊎_elim (λ m. l.2 k d m s is') (λ q. let w = ap (λ (c : Arc). c.length) q in omega arith) (below_more arcs i a at k d lt s))
least_arc_more arcs to i a (Some b) new at l (inr (is, inr (le, e))) = subst (IsLeastArcBelow arcs to (i + 1)) (sym e)
    ((i, at), is, λ k d lt s is'. ⊎_elim (λ m. let w = l.2 k d m s is' in omega arith) (λ q. let w = ap (λ (c : Arc). c.length) q in omega arith) (below_more arcs i a at k d lt s))

pub least_arc_read : (arcs : List Arc) (to i : ℕ) (d : Arc) → i < length arcs → (least new : Option Arc) → IsLeastArcBelow arcs to i least → IsArcSoFar least (get_or arcs i d) to new → IsLeastArcBelow arcs to (i + 1) new
least_arc_read arcs to i d lt least new l s = least_arc_more arcs to i (get_or arcs i d) least new (slice_get-get_or arcs i d lt) l s

pub least_arc_all : (arcs : List Arc) (to i : ℕ) (a : Arc) → length arcs ≤ i → IsLeastArcBelow arcs to i (Some a) → IsLeastArc arcs to a
least_arc_all arcs to i a le l = record { stands = l.0; ends = l.1; least = λ b j is. l.2 j.0 b (let w = slice_get_within arcs j.0 b j.1 in omega arith) j.1 is }

pub least_arc_none : (arcs : List Arc) (to i : ℕ) → length arcs ≤ i → IsLeastArcBelow arcs to i None → HasArcTo arcs to → ⊥
least_arc_none arcs to i le l (a, j, is) = l j.0 a (let w = slice_get_within arcs j.0 a j.1 in omega arith) j.1 is

pub climb_part_is : (h : Ladder) (from to : ℕ) (arcs : List Arc) (a : Arc) → arcs ≡ row h.climbs from → IsLeastArc arcs to a → IsClimbPart h from to (record { from = from; to = to; length = a.length; middle = a.middle })
climb_part_is h from to arcs a e l = record {
  starts = refl;
  ends = refl;
  stands = subst (λ (xs : List Arc). IsIn xs (record { to = to; length = a.length; middle = a.middle })) e (subst (λ n. IsIn arcs (record { to = n; length = a.length; middle = a.middle })) l.ends l.stands);
  least = λ b i is. l.least b (subst (λ (xs : List Arc). IsIn xs b) (sym e) i) is;
}

pub fall_part_is : (h : Ladder) (from to : ℕ) (arcs : List Arc) (a : Arc) → arcs ≡ row h.falls to → IsLeastArc arcs from a → IsFallPart h from to (record { from = from; to = to; length = a.length; middle = a.middle })
fall_part_is h from to arcs a e l = record {
  starts = refl;
  ends = refl;
  stands = subst (λ (xs : List Arc). IsIn xs (record { to = from; length = a.length; middle = a.middle })) e (subst (λ n. IsIn arcs (record { to = n; length = a.length; middle = a.middle })) l.ends l.stands);
  least = λ b i is. l.least b (subst (λ (xs : List Arc). IsIn xs b) (sym e) i) is;
}

-- a number that two parts over a middle make smaller
abbrev pub power : ℕ → ℕ
power zero = 1
power (suc n) = power n + power n + power n

abbrev pub weight : Part → ℕ
weight x = power (x.from + x.to)

abbrev pub weights : List Part → ℕ
weights xs = sum_by (λ (x : Part). power (x.from + x.to)) xs

power_some : (n : ℕ) → 0 < power n
power_some zero = omega arith
power_some (suc n) = let h = power_some n in omega arith

power_mono : (a n : ℕ) → a ≤ n → power a ≤ power n
power_mono a zero le = let e : a ≡ 0 = omega arith in let q = ap power e in omega arith
power_mono a (suc n) le = at (cases_lt n a) (power_mono a n)
  where
    at : (n < a) ⊎ (a ≤ n) → (a ≤ n → power a ≤ power n) → power a ≤ power (suc n)
    at (inl lt) ih = let e : a ≡ suc n = omega arith in let q = ap power e in omega arith
    at (inr l) ih = let h = ih l in omega arith

power_pair : (a b n : ℕ) → a < n → b < n → power a + power b < power n
power_pair a b zero lt lt' = absurd (omega arith)
power_pair a b (suc n) lt lt' = let x = power_mono a n (omega arith) in let y = power_mono b n (omega arith) in let z = power_some n in omega arith

-- what an arc with a middle stands for
over_of : (h : Ladder) → IsLadder h → (x : Part) → IsPart h x → HasMiddle x → IsOverPlace h x.from x.to x.middle x.length
over_of h l x (inl i) e = l.climbs_over x.from (arc_of x.to x) i e.0
over_of h l x (inr i) e = l.falls_over x.to (arc_of x.from x) i e.1

pub ends_low : (h : Ladder) → IsLadder h → (x : Part) → IsPart h x → (x.from < length h.nodes) × (x.to < length h.nodes)
ends_low h l x (inl i) = let u = l.climbs_up.up x.from i.0 (arc_of x.to x) i.1 in let m = l.climbs_many in let a = u.0 in let b = u.1 in (omega arith, omega arith)
ends_low h l x (inr i) = let u = l.falls_up.up x.to i.0 (arc_of x.from x) i.1 in let m = l.falls_many in let a = u.0 in let b = u.1 in (omega arith, omega arith)

pub waiting_pop : (h : Ladder) (p q : ℕ) (xs : List Part) (x : Part) → AreWaiting h p q (xs ++ x ∷ []) → (x.from ≡ p) × IsPart h x × AreWaiting h x.to q xs
waiting_pop h p q [] x (e, part, s) = (sym s, part, e)
waiting_pop h p q (y ∷ xs) x (e, part, rest) = let w = waiting_pop h p y.from xs x rest in (w.0, w.1, (e, part, w.2))

pub waiting_push : (h : Ladder) (q : ℕ) (xs : List Part) (x : Part) → AreWaiting h x.to q xs → IsPart h x → AreWaiting h x.from q (xs ++ x ∷ [])
waiting_push h q [] x e part = (e, part, refl)
waiting_push h q (y ∷ xs) x (e, other, rest) part = (e, other, waiting_push h y.from xs x rest part)

pub roads_push : (h : Ladder) (p c : ℕ) (rs : List Label) (r : Label) → AreRoads h p rs c → IsRoadPart h c r.place r.length → AreRoads h p (rs ++ r ∷ []) r.place
roads_push h p c [] r e road = (subst (λ n. IsRoadPart h n r.place r.length) (sym e) road, refl)
roads_push h p c (s ∷ rs) r (road', rest) road = (road', roads_push h s.place c rs r rest road)

pub over_middle : (h : Ladder) → IsLadder h → (x : Part) (roads : List Label) (parts : List Part) (y : Part) → IsUnpacking h x roads (parts ++ y ∷ []) → HasMiddle y → IsOverPlace h y.from y.to y.middle y.length × (y.middle < length h.nodes)
over_middle h l x roads parts y u e =
    let w = waiting_pop h u.here x.to parts y u.waits in
    let o = over_of h l y w.1 e in
    let low = ends_low h l y w.1 in
    (o, (let a = low.0 in let b = o.lower in omega arith))

pub unpack_road : (h : Ladder) (x : Part) (roads : List Label) (parts : List Part) (y : Part) → IsUnpacking h x roads (parts ++ y ∷ []) → IsRoad y
    → IsUnpacking h x (roads ++ record { place = y.to; length = y.length } ∷ []) parts × (weights parts < weights (parts ++ y ∷ []))
unpack_road h x roads parts y u e =
    let w = waiting_pop h u.here x.to parts y u.waits in
    let r : Label = record { place = y.to; length = y.length } in
    let road : IsRoadPart h u.here y.to y.length = record { part = y; is = w.1; starts = w.0; ends = refl; long = refl; road = e } in
    let more = sum_by_push (λ (r : Label). r.length) roads r in
    let less = sum_by_push (λ (x : Part). x.length) parts y in
    let light = sum_by_push (λ (x : Part). power (x.from + x.to)) parts y in
    let some = power_some (y.from + y.to) in
    (record { here = y.to; leads = roads_push h x.from u.here roads r u.leads road; waits = w.2; short = (let s = u.short in omega arith) }, omega arith)

pub unpack_over : (h : Ladder) → IsLadder h → (x : Part) (roads : List Label) (parts : List Part) (y : Part) → IsUnpacking h x roads (parts ++ y ∷ []) → HasMiddle y
    → (c f : Part) → IsClimbPart h y.middle y.to c → IsFallPart h y.from y.middle f
    → IsUnpacking h x roads ((parts ++ c ∷ []) ++ f ∷ []) × (weights ((parts ++ c ∷ []) ++ f ∷ []) < weights (parts ++ y ∷ []))
unpack_over h l x roads parts y u e c f up down =
    let w = waiting_pop h u.here x.to parts y u.waits in
    let o = over_of h l y w.1 e in
    let climb : IsPart h c = inl (subst (λ n. IsIn (row h.climbs n) (arc_of c.to c)) (sym up.starts) (subst (λ n. IsIn (row h.climbs y.middle) (arc_of n c)) (sym up.ends) up.stands)) in
    let fall : IsPart h f = inr (subst (λ n. IsIn (row h.falls n) (arc_of f.from f)) (sym down.ends) (subst (λ n. IsIn (row h.falls y.middle) (arc_of n f)) (sym down.starts) down.stands)) in
    let one = waiting_push h x.to parts c (subst (λ n. AreWaiting h n x.to parts) (sym up.ends) w.2) climb in
    let two = waiting_push h x.to (parts ++ c ∷ []) f (subst (λ n. AreWaiting h n x.to (parts ++ c ∷ [])) (up.starts ∙ sym down.ends) one) fall in
    let low = up.least o.climb o.climbs o.ends in
    let low' = down.least o.fall o.falls o.starts in
    let total = o.sum in
    let sum = sum_by_push (λ (x : Part). x.length) parts y in
    let sum' = sum_by_push (λ (x : Part). x.length) parts c in
    let sum'' = sum_by_push (λ (x : Part). x.length) (parts ++ c ∷ []) f in
    let light = sum_by_push (λ (x : Part). power (x.from + x.to)) parts y in
    let light' = sum_by_push (λ (x : Part). power (x.from + x.to)) parts c in
    let light'' = sum_by_push (λ (x : Part). power (x.from + x.to)) (parts ++ c ∷ []) f in
    let pair = power_pair (c.from + c.to) (f.from + f.to) (y.from + y.to) (let a = up.starts in let b = up.ends in let d = o.lower in omega arith) (let a = down.starts in let b = down.ends in let d = o.below in omega arith) in
    (record { here = u.here; leads = u.leads; waits = subst (λ n. AreWaiting h n x.to ((parts ++ c ∷ []) ++ f ∷ [])) (down.starts ∙ w.0) two; short = (let s = u.short in omega arith) }, omega arith)
