use Rattle.std.proofs.Common.{◌≡◌, ℕ, zero, suc, ◌+◌, ◌<◌, ◌≤◌, ◌^◌, ◌⊎◌, inl, inr, ⊎_elim, List, [], ◌∷◌, ◌++◌, length, get_or, Some, sym, ap, ◌∙◌, arith, refl, subst}
use Rattle.std.specs.Prelude.{slice_get, Contains, IsPermutation, All, Result, Ok, Err, OnErr}
use Rattle.std.proofs.lemmas.Bool.{cases_lt}
use Rattle.std.proofs.lemmas.List.Elements.{All-contains}
use Rattle.std.proofs.lemmas.List.Sums.{sum_by_push, sum_by-cons}
use Rattle.std.proofs.lemmas.Option.{slice_get_within, slice_get-get_or}
use Rattle.std.proofs.lemmas.List.Sorted.{Contains-permutation, IsPermutation-sym}
use Rattle.upward_search.specs.declared.slope.Arc.{Arc}
use Rattle.upward_search.specs.declared.slope.Label.{Label}
use Rattle.upward_search.specs.Rows.{row, IsUpward}
use Rattle.upward_search.specs.Climbs.{IsIn, IsClimb, climb_length, IsRisingWithin, HasPlace, IsSpace, work}
use Rattle.upward_search.specs.Searches.{IsNoLater, AreStale, IsNext, AreDropped, offer, Offers, AreOffered, IsTaken, IsKnown, IsReal, IsSearch}
use Rattle.upward_search.proofs.Lists.{at-push, at-append, at-last, in-cons, in-more, in-first, in-taken}

-- what a heap that one was taken from had
pub kept_by_pop : (old new : List Label) (r o : Label) → IsPermutation old (r ∷ new) → Contains old o → (o ≡ r) ⊎ Contains new o
kept_by_pop old new r o p h = ⊎_elim (λ e. inl (sym e)) (λ q. inr q) (in-taken old new r o p h)

pub had_by_pop : (old new : List Label) (r o : Label) → IsPermutation old (r ∷ new) → Contains new o → Contains old o
had_by_pop old new r o p h = Contains-permutation (r ∷ new) old o (IsPermutation-sym old (r ∷ new) p) (in-more r new o h)

pub had_taken : (old new : List Label) (r : Label) → IsPermutation old (r ∷ new) → Contains old r
had_taken old new r p = Contains-permutation (r ∷ new) old r (IsPermutation-sym old (r ∷ new) p) (in-first r new)

-- one more below the floor is dropped
pub drop_more : (floor : ℕ) (start old new : List Label) (r : Label) → AreDropped floor start old → IsPermutation old (r ∷ new) → r.place < floor → AreDropped floor start new
drop_more floor start old new r d p low = record {
  kept = λ o h. ⊎_elim (λ l. inl l) (λ q. at o (kept_by_pop old new r o p q)) (d.kept o h);
  only = λ o h. d.only o (had_by_pop old new r o p h);
}
  where
    at : (o : Label) → (o ≡ r) ⊎ Contains new o → (o.place < floor) ⊎ Contains new o
    at o (inl e) = inl (subst (λ (q : Label). q.place < floor) (sym e) low)
    at o (inr q) = inr q

pub next_of : (floor : ℕ) (start old new : List Label) (r : Label) → AreDropped floor start old → IsPermutation old (r ∷ new) → All (IsNoLater r) new → floor ≤ r.place → IsNext floor start new r
next_of floor start old new r d p first high = record {
  high = high;
  was = d.only r (had_taken old new r p);
  kept = λ o h. ⊎_elim (λ l. inl l) (λ q. inr (kept_by_pop old new r o p q)) (d.kept o h);
  only = λ o h. d.only o (had_by_pop old new r o p h);
  first = λ o h. All-contains (IsNoLater r) new o first h;
}

pub none_left : (floor : ℕ) (start old : List Label) → AreDropped floor start old → old ≡ [] → AreStale floor start
none_left floor start old d e o h = at (d.kept o h)
  where
    empty : Contains old o → ⊥
    empty q = let w : Contains [] o = subst (λ (xs : List Label). Contains xs o) e q in let l = w.1 in omega arith

    at : (o.place < floor) ⊎ Contains old o → o.place < floor
    at (inl l) = l
    at (inr q) = absurd (empty q)

-- one more arc is offered
pub offer_more : (arcs : List Arc) (r : Label) (start old new : List Label) (i : ℕ) (a : Arc) → slice_get arcs i ≡ Some a → AreOffered arcs r start old i → Offers r a old new → AreOffered arcs r start new (i + 1)
offer_more arcs r start old new i a at d (inl (far, same)) = record {
  kept = λ o h. subst (λ (xs : List Label). Contains xs o) (sym same) (d.kept o h);
  each = each_now;
  only = λ o h. d.only o (subst (λ (xs : List Label). Contains xs o) same h);
}
  where
    each_now : (k : ℕ) (b : Arc) → k < i + 1 → slice_get arcs k ≡ Some b → r.length + b.length < 2 ^ 53 → Contains new (offer r b)
    each_now k b lt h near = here (cases_lt k i)
      where
        here : (k < i) ⊎ (i ≤ k) → Contains new (offer r b)
        here (inl l) = subst (λ (xs : List Label). Contains xs (offer r b)) (sym same) (d.each k b l h near)
        here (inr ge) = let e : k ≡ i = omega arith in let q = ap (slice_get arcs) e in let is : a ≡ b = cc (at, h, q) in let l = ap (λ (c : Arc). c.length) is in absurd (omega arith)
offer_more arcs r start old new i a at d (inr (near, p)) = record {
  kept = λ o h. Contains-permutation (offer r a ∷ old) new o p (in-more (offer r a) old o (d.kept o h));
  each = each_now;
  only = λ o h. only_now o (in-cons (offer r a) old o (Contains-permutation new (offer r a ∷ old) o (IsPermutation-sym (offer r a ∷ old) new p) h));
}
  where
    each_now : (k : ℕ) (b : Arc) → k < i + 1 → slice_get arcs k ≡ Some b → r.length + b.length < 2 ^ 53 → Contains new (offer r b)
    each_now k b lt h near' = here (cases_lt k i)
      where
        here : (k < i) ⊎ (i ≤ k) → Contains new (offer r b)
        here (inl l) = Contains-permutation (offer r a ∷ old) new (offer r b) p (in-more (offer r a) old (offer r b) (d.each k b l h near'))
        here (inr ge) = let e : k ≡ i = omega arith in let q = ap (slice_get arcs) e in let is : a ≡ b = cc (at, h, q) in
            subst (λ (c : Arc). Contains new (offer r c)) is (Contains-permutation (offer r a ∷ old) new (offer r a) p (in-first (offer r a) old))

    only_now : (o : Label) → (offer r a ≡ o) ⊎ Contains old o → Contains start o ⊎ ((k : ℕ) × (b : Arc) × (slice_get arcs k ≡ Some b) × (o ≡ offer r b) × (r.length + b.length < 2 ^ 53))
    only_now o (inl e) = inr (i, a, at, sym e, near)
    only_now o (inr q) = d.only o q

-- the same of an element of a slice
pub offer_at : (arcs items : List Arc) (r : Label) (start old new : List Label) (i : ℕ) (d : Arc) → items ≡ arcs → i < length items → AreOffered arcs r start old i → Offers r (get_or items i d) old new → AreOffered arcs r start new (i + 1)
offer_at arcs items r start old new i d e lt o f = offer_more arcs r start old new i (get_or items i d) (ap (λ (xs : List Arc). slice_get xs i) (sym e) ∙ slice_get-get_or items i d lt) o f

pub offer_none : (arcs : List Arc) (r : Label) (start : List Label) → AreOffered arcs r start start 0
offer_none arcs r start = record { kept = λ o h. h; each = λ k a lt h near. absurd (omega arith); only = λ o h. inl h }

-- an arc at the end of a climb
pub climb-push : (rows : List (List Arc)) (arcs : List Arc) (p q : ℕ) (a : Arc) → IsClimb rows p q arcs → IsIn (row rows q) a → IsClimb rows p a.to (arcs ++ a ∷ [])
climb-push rows [] p q a h i = (subst (λ n. IsIn (row rows n) a) (sym h) i, refl)
climb-push rows (b ∷ arcs) p q a h i = (h.0, climb-push rows arcs b.to q a h.1 i)

pub climb_length-push : (arcs : List Arc) (a : Arc) → climb_length (arcs ++ a ∷ []) ≡ climb_length arcs + a.length
climb_length-push [] a = omega arith
climb_length-push (b ∷ arcs) a = let ih = climb_length-push arcs a in omega arith

pub rising-push : (low floor : ℕ) (space : List Label) (r : Label) → IsRisingWithin low floor space → floor ≤ r.place → IsRisingWithin low (suc r.place) (space ++ r ∷ [])
rising-push low floor [] r h le = (omega arith, omega arith)
rising-push low floor (s ∷ space) r h le = (h.0, rising-push (suc s.place) floor space r h.1 le)

taken_more : (space : List Label) (r : Label) (q x : ℕ) → IsTaken space q x → IsTaken (space ++ r ∷ []) q x
taken_more space r q x t = let i = t.1 in (t.0, (i.0, at-append space (r ∷ []) i.0 t.0 i.1), t.2, t.3)

taken_last : (space : List Label) (r : Label) (q x : ℕ) → r.place ≡ q → r.length ≤ x → IsTaken (space ++ r ∷ []) q x
taken_last space r q x e le = (r, (length space, at-last space r), e, le)

module _ (rows : List (List Arc)) (up : IsUpward rows) (start floor : ℕ) (space waiting mid new : List Label) (r : Label)
    (s : IsSearch rows start floor space waiting) (n : IsNext floor waiting mid r) (d : AreOffered (row rows r.place) r mid new (length (row rows r.place))) where
  its : IsReal rows start r
  its = s.found r n.was

  known_more : (q x : ℕ) → IsKnown space waiting q x → IsKnown (space ++ r ∷ []) new q x
  known_more q x (inl t) = inl (taken_more space r q x t)
  known_more q x (inr (inr far)) = inr (inr far)
  known_more q x (inr (inl (o, h, e, le))) = at (n.kept o h)
    where
      at : (o.place < floor) ⊎ ((o ≡ r) ⊎ Contains mid o) → IsKnown (space ++ r ∷ []) new q x
      at (inl low) = let t = s.stale o h low in let l = t.3 in inl (taken_more space r q x (t.0, t.1, t.2 ∙ e, omega arith))
      at (inr (inl is)) = inl (taken_last space r q x (ap (λ (o : Label). o.place) (sym is) ∙ e) (let l = ap (λ (o : Label). o.length) is in omega arith))
      at (inr (inr m)) = inr (inl (o, d.kept o m, e, le))

  real_of_offer : (k : ℕ) (a : Arc) → slice_get (row rows r.place) k ≡ Some a → r.length + a.length < 2 ^ 53 → IsReal rows start (offer r a)
  real_of_offer k a at near = record {
    arcs = its.arcs ++ a ∷ [];
    leads = climb-push rows its.arcs start r.place a its.leads (k, at);
    long = climb_length-push its.arcs a ∙ ap (λ n. n + a.length) its.long;
    near = near;
    place = (up.up r.place k a at).1;
  }

  found_now : (o : Label) → Contains mid o ⊎ ((k : ℕ) × (a : Arc) × (slice_get (row rows r.place) k ≡ Some a) × (o ≡ offer r a) × (r.length + a.length < 2 ^ 53)) → IsReal rows start o
  found_now o (inl m) = s.found o (n.only o m)
  found_now o (inr (k, a, at, is, near)) = subst (IsReal rows start) (sym is) (real_of_offer k a at near)

  stale_now : (o : Label) → o.place < suc r.place → Contains mid o ⊎ ((k : ℕ) × (a : Arc) × (slice_get (row rows r.place) k ≡ Some a) × (o ≡ offer r a) × (r.length + a.length < 2 ^ 53)) → IsTaken (space ++ r ∷ []) o.place o.length
  stale_now o low (inl m) = at (n.first o m)
    where
      at : IsNoLater r o → IsTaken (space ++ r ∷ []) o.place o.length
      at (inl lt) = absurd (omega arith)
      at (inr (e, le)) = taken_last space r o.place o.length (sym e) le
  stale_now o low (inr (k, a, at, is, near)) = let u = (up.up r.place k a at).0 in let e = ap (λ (o : Label). o.place) is in absurd (omega arith)

  taken_now : (t : Label) → IsIn (space ++ r ∷ []) t → (IsIn space t) ⊎ (r ≡ t)
  taken_now t i = at (at-push space r i.0 t i.1)
    where
      at : ((i.0 < length space) × (slice_get space i.0 ≡ Some t)) ⊎ ((i.0 ≡ length space) × (r ≡ t)) → (IsIn space t) ⊎ (r ≡ t)
      at (inl q) = inl (i.0, q.1)
      at (inr q) = inr q.1

  offered_last : (a : Arc) → IsIn (row rows r.place) a → IsKnown (space ++ r ∷ []) new a.to (r.length + a.length)
  offered_last a i = at (cases_lt (r.length + a.length) (2 ^ 53))
    where
      at : (r.length + a.length < 2 ^ 53) ⊎ (2 ^ 53 ≤ r.length + a.length) → IsKnown (space ++ r ∷ []) new a.to (r.length + a.length)
      at (inl near) = inr (inl (offer r a, d.each i.0 a (slice_get_within (row rows r.place) i.0 a i.1) i.1 near, refl, omega arith))
      at (inr far) = inr (inr far)

  pub step_search : IsSearch rows start (suc r.place) (space ++ r ∷ []) new
  step_search = record {
    begun = known_more start 0 s.begun;
    rising = rising-push 0 floor space r s.rising n.high;
    within = (let p = its.place in omega arith);
    taken = λ t i. ⊎_elim (λ old. s.taken t old) (λ e. subst (IsReal rows start) e its) (taken_now t i);
    found = λ o h. found_now o (d.only o h);
    stale = λ o h low. stale_now o low (d.only o h);
    offered = λ t i a j. ⊎_elim (λ old. known_more a.to (t.length + a.length) (s.offered t old a j)) (λ e. subst (λ (t : Label). IsKnown (space ++ r ∷ []) new a.to (t.length + a.length)) e (offered_last a (subst (λ (t : Label). IsIn (row rows t.place) a) (sym e) j))) (taken_now t i);
  }

-- a search begins
pub begin_search : (rows : List (List Arc)) (start : ℕ) (r : Label) (waiting : List Label) → start < length rows → r ≡ record { place = start; length = 0 } → IsPermutation (r ∷ []) waiting → IsSearch rows start 0 [] waiting
begin_search rows start r waiting low is p = record {
  begun = inr (inl (r, Contains-permutation (r ∷ []) waiting r p (in-first r []), ap (λ (o : Label). o.place) is, (let l = ap (λ (o : Label). o.length) is in omega arith)));
  rising = omega arith;
  within = omega arith;
  taken = λ t i. absurd (nothing t i);
  found = λ o h. at o (in-cons r [] o (Contains-permutation waiting (r ∷ []) o (IsPermutation-sym (r ∷ []) waiting p) h));
  stale = λ o h l. absurd (omega arith);
  offered = λ t i a j. absurd (nothing t i);
}
  where
    nothing : (t : Label) → IsIn [] t → ⊥
    nothing t i = let e = i.1 in cc

    first : IsReal rows start r
    first = subst (IsReal rows start) (sym is) (record { arcs = []; leads = refl; long = refl; near = omega arith; place = low })

    at : (o : Label) → (r ≡ o) ⊎ Contains [] o → IsReal rows start o
    at o (inl e) = subst (IsReal rows start) e first
    at o (inr q) = let l = q.1 in absurd (omega arith)

-- two labels of one place in a rising list are one
rising_apart : (low high : ℕ) (space : List Label) (t : Label) (k : ℕ) → IsRisingWithin low high space → slice_get space k ≡ Some t → low ≤ t.place
rising_apart low high [] t k h e = cc
rising_apart low high (s ∷ space) t zero h e = let is : s ≡ t = cc in let p = ap (λ (o : Label). o.place) is in let l = h.0 in omega arith
rising_apart low high (s ∷ space) t (suc k) h e = let ih = rising_apart (suc s.place) high space t k h.1 e in let l = h.0 in omega arith

pub one_label : (low high : ℕ) (space : List Label) (r t : Label) (j k : ℕ) → IsRisingWithin low high space → slice_get space j ≡ Some r → slice_get space k ≡ Some t → r.place ≡ t.place → r ≡ t
one_label low high [] r t j k h a b e = cc
one_label low high (s ∷ space) r t zero zero h a b e = cc
one_label low high (s ∷ space) r t zero (suc k) h a b e = let is : s ≡ r = cc in let p = ap (λ (o : Label). o.place) is in let l = rising_apart (suc s.place) high space t k h.1 b in absurd (omega arith)
one_label low high (s ∷ space) r t (suc j) zero h a b e = let is : s ≡ t = cc in let p = ap (λ (o : Label). o.place) is in let l = rising_apart (suc s.place) high space r j h.1 a in absurd (omega arith)
one_label low high (s ∷ space) r t (suc j) (suc k) h a b e = one_label (suc s.place) high space r t j k h.1 a b e

pub rising_high : (low high more : ℕ) (space : List Label) → IsRisingWithin low high space → high ≤ more → IsRisingWithin low more space
rising_high low high more [] h le = omega arith
rising_high low high more (s ∷ space) h le = (h.0, rising_high (suc s.place) high more space h.1 le)

module _ (rows : List (List Arc)) (start floor : ℕ) (space waiting : List Label) (s : IsSearch rows start floor space waiting) (over : AreStale floor waiting) where
  -- nothing waits that isn't taken
  settled : (q x : ℕ) → IsKnown space waiting q x → IsTaken space q x ⊎ (2 ^ 53 ≤ x)
  settled q x (inl t) = inl t
  settled q x (inr (inr far)) = inr far
  settled q x (inr (inl (o, h, e, le))) = let t = s.stale o h (over o h) in let l = t.3 in inl (t.0, t.1, t.2 ∙ e, omega arith)

  reaches : (arcs : List Arc) (p q x : ℕ) → IsTaken space p x ⊎ (2 ^ 53 ≤ x) → IsClimb rows p q arcs → IsTaken space q (x + climb_length arcs) ⊎ (2 ^ 53 ≤ x + climb_length arcs)
  reaches arcs p q x (inr far) c = inr (omega arith)
  reaches [] p q x (inl t) c = let l = t.3 in inl (t.0, t.1, t.2 ∙ c, omega arith)
  reaches (a ∷ arcs) p q x (inl (t, i, e, le)) c =
      let k = settled a.to (t.length + a.length) (s.offered t i a (subst (λ n. IsIn (row rows n) a) (sym e) c.0)) in
      let go = reaches arcs a.to q (x + a.length) (⊎_elim (λ u. let l = u.3 in inl (u.0, u.1, u.2, omega arith)) (λ far. inr (omega arith)) k) c.1 in
      let sum : (x + a.length) + climb_length arcs ≡ x + (a.length + climb_length arcs) = omega arith in
      subst (λ y. IsTaken space q y ⊎ (2 ^ 53 ≤ y)) sum go

  from_start : (arcs : List Arc) (q : ℕ) → IsClimb rows start q arcs → IsTaken space q (climb_length arcs) ⊎ (2 ^ 53 ≤ climb_length arcs)
  from_start arcs q c = let sum : 0 + climb_length arcs ≡ climb_length arcs = omega arith in
      subst (λ y. IsTaken space q y ⊎ (2 ^ 53 ≤ y)) sum (reaches arcs start q 0 (settled start 0 s.begun) c)

  least_of : (r : Label) → IsIn space r → (arcs : List Arc) → IsClimb rows start r.place arcs → r.length ≤ climb_length arcs
  least_of r i arcs c = at (from_start arcs r.place c)
    where
      at : IsTaken space r.place (climb_length arcs) ⊎ (2 ^ 53 ≤ climb_length arcs) → r.length ≤ climb_length arcs
      at (inl (t, j, e, le)) = let is = one_label 0 floor space r t i.0 j.0 s.rising i.1 j.1 (sym e) in let l = ap (λ (o : Label). o.length) is in omega arith
      at (inr far) = let near = (s.taken r i).near in omega arith

  pub space_of_search : IsSpace rows start space
  space_of_search = record {
    rising = rising_high 0 floor (length rows) space s.rising s.within;
    exact = λ r i. let t = s.taken r i in (record { reached = (t.arcs, t.leads, t.long); least = least_of r i }, t.near);
    whole = λ q arcs c near. whole_at q (climb_length arcs) near (from_start arcs q c);
  }
    where
      whole_at : (q x : ℕ) → x < 2 ^ 53 → IsTaken space q x ⊎ (2 ^ 53 ≤ x) → HasPlace space q
      whole_at q x near (inr far) = absurd (omega arith)
      whole_at q x near (inl (t, i, e, le)) = record { label = t; stands = i; is = e }

pub work-push : (rows : List (List Arc)) (space : List Label) (r : Label) → work rows (space ++ r ∷ []) ≡ work rows space + length (row rows r.place)
work-push rows space r = sum_by_push (λ (r : Label). length (row rows r.place)) space r

-- what was taken so far has no more arcs than the space
later_place : (b : Label) (space : List Label) (q : ℕ) → HasPlace (b ∷ space) q → b.place < q → HasPlace space q
later_place b space q h lt = at h.stands.0 h.stands.1
  where
    at : (k : ℕ) → slice_get (b ∷ space) k ≡ Some h.label → HasPlace space q
    at zero e = let is : b ≡ h.label = cc in let p = ap (λ (o : Label). o.place) is in let q = h.is in absurd (omega arith)
    at (suc k) e = record { label = h.label; stands = (k, e); is = h.is }

rising_low : (low more high : ℕ) (space : List Label) → IsRisingWithin low high space → more ≤ low → IsRisingWithin more high space
rising_low low more high [] h le = omega arith
rising_low low more high (s ∷ space) h le = (let a = h.0 in omega arith, h.1)

above_low : (low high : ℕ) (space : List Label) (t : Label) → IsRisingWithin low high space → IsIn space t → low ≤ t.place
above_low low high space t h i = rising_apart low high space t i.0 h i.1

sub_work : (rows : List (List Arc)) (part space : List Label) (low high low' high' : ℕ) → IsRisingWithin low high part → IsRisingWithin low' high' space
    → ((t : Label) → IsIn part t → HasPlace space t.place) → work rows part ≤ work rows space
sub_work rows [] space low high low' high' a b h = omega arith
sub_work rows (r ∷ part) [] low high low' high' a b h = let w = h r (0, refl) in let e = w.stands.1 in cc
sub_work rows (r ∷ part) (b ∷ space) low high low' high' up up' h =
    at (cases_lt b.place r.place) (λ w. sub_work rows (r ∷ part) space low high (suc b.place) high' up up'.1 w) (λ w. sub_work rows part space (suc r.place) high (suc b.place) high' up.1 up'.1 w)
  where
    inside : (t : Label) → IsIn part t → IsIn (r ∷ part) t
    inside t i = (suc i.0, i.1)

    at_most : r.place ≤ b.place → r.place ≡ b.place
    at_most le = here (h r (0, refl)).stands.0 (h r (0, refl)).stands.1
      where
        here : (k : ℕ) → slice_get (b ∷ space) k ≡ Some (h r (0, refl)).label → r.place ≡ b.place
        here zero e = let is : b ≡ (h r (0, refl)).label = cc in let p = ap (λ (o : Label). o.place) is in let q = (h r (0, refl)).is in omega arith
        here (suc k) e = let l = above_low (suc b.place) high' space (h r (0, refl)).label up'.1 (k, e) in let q = (h r (0, refl)).is in absurd (omega arith)

    at : (b.place < r.place) ⊎ (r.place ≤ b.place)
        → (((t : Label) → IsIn (r ∷ part) t → HasPlace space t.place) → work rows (r ∷ part) ≤ work rows space)
        → (((t : Label) → IsIn part t → HasPlace space t.place) → work rows part ≤ work rows space)
        → work rows (r ∷ part) ≤ work rows (b ∷ space)
    at (inl lt) all less =
        let rest = all (λ t i. later_place b space t.place (h t i) (let l = above_low r.place high (r ∷ part) t (omega arith, up.1) i in omega arith)) in
        let sum = sum_by-cons (λ (t : Label). length (row rows t.place)) b space in
        omega arith
    at (inr le) all less =
        let same = at_most le in
        let rest = less (λ t i. later_place b space t.place (h t (inside t i)) (let l = above_low (suc r.place) high part t up.1 i in omega arith)) in
        let left = sum_by-cons (λ (t : Label). length (row rows t.place)) r part in
        let right = sum_by-cons (λ (t : Label). length (row rows t.place)) b space in
        let equal : length (row rows r.place) ≡ length (row rows b.place) = ap (λ n. length (row rows n)) same in
        omega arith

real_in_space : (rows : List (List Arc)) (start : ℕ) (space : List Label) (t : Label) → IsSpace rows start space → IsReal rows start t → HasPlace space t.place
real_in_space rows start space t s real = s.whole t.place real.arcs real.leads (let l = real.long in let n = real.near in omega arith)

pub spent_so_far : (rows : List (List Arc)) (start floor : ℕ) (space waiting whole : List Label) → IsSearch rows start floor space waiting → IsSpace rows start whole → work rows space ≤ work rows whole
spent_so_far rows start floor space waiting whole s is = sub_work rows space whole 0 floor 0 (length rows) s.rising is.rising (λ t i. real_in_space rows start whole t is (s.taken t i))

pub spent_with : (rows : List (List Arc)) (start floor : ℕ) (space waiting mid whole : List Label) (r : Label) → IsSearch rows start floor space waiting → IsNext floor waiting mid r → IsSpace rows start whole → work rows space + length (row rows r.place) ≤ work rows whole
spent_with rows start floor space waiting mid whole r s n is =
    let all = sub_work rows (space ++ r ∷ []) whole 0 (suc r.place) 0 (length rows) (rising-push 0 floor space r s.rising n.high) is.rising (λ t i. each t (at-push space r i.0 t i.1)) in
    let push = work-push rows space r in
    omega arith
  where
    each : (t : Label) → {k : ℕ} → ((k < length space) × (slice_get space k ≡ Some t)) ⊎ ((k ≡ length space) × (r ≡ t)) → HasPlace whole t.place
    each t {k} (inl q) = real_in_space rows start whole t is (s.taken t (k, q.1))
    each t (inr q) = subst (λ (o : Label). HasPlace whole o.place) q.1 (real_in_space rows start whole r is (s.found r n.was))

pub on_err : {T E : Type 0} (r : Result T E) (P : Type 0) → P → OnErr r P
on_err (Ok x) P p = tt
on_err (Err e) P p = p

-- a start has one space, up to what its arcs count
pub one_work : (rows : List (List Arc)) (start : ℕ) (one other : List Label) → IsSpace rows start one → IsSpace rows start other → work rows one ≡ work rows other
one_work rows start one other a b =
    let l = sub_work rows one other 0 (length rows) 0 (length rows) a.rising b.rising (λ t i. place_of one other t a b i) in
    let m = sub_work rows other one 0 (length rows) 0 (length rows) b.rising a.rising (λ t i. place_of other one t b a i) in
    omega arith
  where
    place_of : (one other : List Label) (t : Label) → IsSpace rows start one → IsSpace rows start other → IsIn one t → HasPlace other t.place
    place_of one other t a b i = let e = a.exact t i in let r = e.0.reached in b.whole t.place r.0 r.1 (let x = r.2 in let y = e.1 in omega arith)
