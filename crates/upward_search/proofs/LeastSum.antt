use Rattle.std.proofs.Common.{◌≡◌, ℕ, zero, suc, ◌+◌, ◌-◌, ◌<◌, ◌≤◌, ◌⊎◌, inl, inr, ⊎_elim, List, [], ◌∷◌, length, get_or, Option, Some, None, min, sym, ap, ◌∙◌, arith, refl, subst}
use Rattle.std.specs.Prelude.{slice_get, MatchOption}
use Rattle.std.proofs.lemmas.Bool.{cases_lt}
use Rattle.std.proofs.lemmas.Option.{slice_get_within, slice_get-get_or}
use Rattle.upward_search.specs.declared.slope.Label.{Label}
use Rattle.upward_search.specs.Climbs.{IsRisingWithin, IsRising}
use Rattle.upward_search.specs.Sums.{lesser_of, Common, HasNoCommon, IsLeastSum, IsAtMost, IsReached, IsCompared}
use Rattle.upward_search.proofs.IsSearch.{one_label}

-- in a rising list what stands later is higher
rises_from : (low high : ℕ) (space : List Label) (t : Label) (k : ℕ) → IsRisingWithin low high space → slice_get space k ≡ Some t → low ≤ t.place
rises_from low high [] t k h e = cc
rises_from low high (s ∷ space) t zero h e = let is : s ≡ t = cc in let p = ap (λ (o : Label). o.place) is in let l = h.0 in omega arith
rises_from low high (s ∷ space) t (suc k) h e = let ih = rises_from (suc s.place) high space t k h.1 e in let l = h.0 in omega arith

pub rising_order : (low high : ℕ) (space : List Label) (b t : Label) (j q : ℕ) → IsRisingWithin low high space → slice_get space j ≡ Some b → slice_get space q ≡ Some t → j ≤ q → b.place ≤ t.place
rising_order low high [] b t j q h e f le = cc
rising_order low high (s ∷ space) b t zero zero h e f le = let is : b ≡ t = cc in let p = ap (λ (o : Label). o.place) is in omega arith
rising_order low high (s ∷ space) b t zero (suc q) h e f le = let is : s ≡ b = cc in let p = ap (λ (o : Label). o.place) is in let l = rises_from (suc s.place) high space t q h.1 f in omega arith
rising_order low high (s ∷ space) b t (suc j) zero h e f le = absurd (omega arith)
rising_order low high (s ∷ space) b t (suc j) (suc q) h e f le = rising_order (suc s.place) high space b t j q h.1 e f (omega arith)

lesser_old : (least : Option ℕ) (y x : ℕ) → IsAtMost least x → lesser_of least y ≤ x
lesser_old None y x h = absurd h
lesser_old (Some z) y x h = omega arith

lesser_new : (least : Option ℕ) (y : ℕ) → lesser_of least y ≤ y
lesser_new None y = omega arith
lesser_new (Some z) y = omega arith

reached_more : (left right : List Label) (least : Option ℕ) (y : ℕ) → IsReached left right least → Common left right y → Common left right (lesser_of least y)
reached_more left right None y h c = c
reached_more left right (Some z) y h c = at (cases_lt z y)
  where
    at : (z < y) ⊎ (y ≤ z) → Common left right (min z y)
    at (inl lt) = let e : z ≡ min z y = omega arith in subst (Common left right) e h
    at (inr le) = let e : y ≡ min z y = omega arith in subst (Common left right) e c

module _ (left right : List Label) (a b : ℕ) (up : IsRisingWithin 0 a left) (up' : IsRisingWithin 0 b right) (i j : ℕ) (r t : Label)
    (at : slice_get left i ≡ Some r) (at' : slice_get right j ≡ Some t) (least : Option ℕ) (c : IsCompared left right i j least) where
  pub both_more : r.place ≡ t.place → IsCompared left right (i + 1) (j + 1) (Some (lesser_of least (r.length + t.length)))
  both_more e = record {
    reached = reached_more left right least (r.length + t.length) c.reached (record { r = r; t = t; left_has = (i, at); right_has = (j, at'); same = e; sum = refl });
    covers = λ p q r' t' h h' same low. covers_now p q r' t' h h' same (cases_lt p i) (cases_lt q j) low;
  }
    where
      covers_now : (p q : ℕ) (r' t' : Label) → slice_get left p ≡ Some r' → slice_get right q ≡ Some t' → r'.place ≡ t'.place → (p < i) ⊎ (i ≤ p) → (q < j) ⊎ (j ≤ q) → (p < i + 1) ⊎ (q < j + 1)
          → lesser_of least (r.length + t.length) ≤ r'.length + t'.length
      covers_now p q r' t' h h' same (inl lt) _ low = lesser_old least (r.length + t.length) (r'.length + t'.length) (c.covers p q r' t' h h' same (inl lt))
      covers_now p q r' t' h h' same (inr ge) (inl lt) low = lesser_old least (r.length + t.length) (r'.length + t'.length) (c.covers p q r' t' h h' same (inr lt))
      covers_now p q r' t' h h' same (inr ge) (inr ge') (inl lt) =
          let k : p ≡ i = omega arith in
          let stands = ap (slice_get left) k in
          let is : r ≡ r' = cc (at, h, stands) in
          let place = ap (λ (o : Label). o.place) is in
          let is' = one_label 0 b right t t' j q up' at' h' (sym e ∙ place ∙ same) in
          let l = ap (λ (o : Label). o.length) is in
          let l' = ap (λ (o : Label). o.length) is' in
          let m = lesser_new least (r.length + t.length) in
          omega arith
      covers_now p q r' t' h h' same (inr ge) (inr ge') (inr lt) =
          let k : q ≡ j = omega arith in
          let stands = ap (slice_get right) k in
          let is : t ≡ t' = cc (at', h', stands) in
          let place = ap (λ (o : Label). o.place) is in
          let is' = one_label 0 a left r r' i p up at h (e ∙ place ∙ sym same) in
          let l = ap (λ (o : Label). o.length) is in
          let l' = ap (λ (o : Label). o.length) is' in
          let m = lesser_new least (r.length + t.length) in
          omega arith

  pub left_more : r.place < t.place → IsCompared left right (i + 1) j least
  left_more lt = record {
    reached = c.reached;
    covers = λ p q r' t' h h' same low. covers_now p q r' t' h h' same (cases_lt p i) (cases_lt q j) low;
  }
    where
      covers_now : (p q : ℕ) (r' t' : Label) → slice_get left p ≡ Some r' → slice_get right q ≡ Some t' → r'.place ≡ t'.place → (p < i) ⊎ (i ≤ p) → (q < j) ⊎ (j ≤ q) → (p < i + 1) ⊎ (q < j) → IsAtMost least (r'.length + t'.length)
      covers_now p q r' t' h h' same (inl l) _ low = c.covers p q r' t' h h' same (inl l)
      covers_now p q r' t' h h' same (inr ge) (inl l) low = c.covers p q r' t' h h' same (inr l)
      covers_now p q r' t' h h' same (inr ge) (inr ge') (inr l) = absurd (omega arith)
      covers_now p q r' t' h h' same (inr ge) (inr ge') (inl l) =
          let k : p ≡ i = omega arith in
          let stands = ap (slice_get left) k in
          let is : r ≡ r' = cc (at, h, stands) in
          let place = ap (λ (o : Label). o.place) is in
          let high = rising_order 0 b right t t' j q up' at' h' ge' in
          absurd (omega arith)

  pub right_more : t.place < r.place → IsCompared left right i (j + 1) least
  right_more lt = record {
    reached = c.reached;
    covers = λ p q r' t' h h' same low. covers_now p q r' t' h h' same (cases_lt p i) (cases_lt q j) low;
  }
    where
      covers_now : (p q : ℕ) (r' t' : Label) → slice_get left p ≡ Some r' → slice_get right q ≡ Some t' → r'.place ≡ t'.place → (p < i) ⊎ (i ≤ p) → (q < j) ⊎ (j ≤ q) → (p < i) ⊎ (q < j + 1) → IsAtMost least (r'.length + t'.length)
      covers_now p q r' t' h h' same (inl l) _ low = c.covers p q r' t' h h' same (inl l)
      covers_now p q r' t' h h' same (inr ge) (inl l) low = c.covers p q r' t' h h' same (inr l)
      covers_now p q r' t' h h' same (inr ge) (inr ge') (inl l) = absurd (omega arith)
      covers_now p q r' t' h h' same (inr ge) (inr ge') (inr l) =
          let k : q ≡ j = omega arith in
          let stands = ap (slice_get right) k in
          let is : t ≡ t' = cc (at', h', stands) in
          let place = ap (λ (o : Label). o.place) is in
          let high = rising_order 0 a left r r' i p up at h ge in
          absurd (omega arith)

pub compared_more : (left right : List Label) → IsRising left → IsRising right → (i j : ℕ) (d : Label) → i < length left → j < length right → (least : Option ℕ) → IsCompared left right i j least
    → (i' j' : ℕ) (least' : Option ℕ)
    → ((get_or left i d).place ≡ (get_or right j d).place → (i' ≡ i + 1) × (j' ≡ j + 1) × (least' ≡ Some (lesser_of least ((get_or left i d).length + (get_or right j d).length))))
    → ((get_or left i d).place < (get_or right j d).place → (i' ≡ i + 1) × (j' ≡ j) × (least' ≡ least))
    → ((get_or right j d).place < (get_or left i d).place → (i' ≡ i) × (j' ≡ j + 1) × (least' ≡ least))
    → IsCompared left right i' j' least' × ((length left - i') + (length right - j') < (length left - i) + (length right - j))
compared_more left right up up' i j d lt lt' least c i' j' least' same low high = at (cases_lt (get_or left i d).place (get_or right j d).place)
  where
    moved : (k l : ℕ) (o : Option ℕ) → IsCompared left right k l o → i' ≡ k → j' ≡ l → least' ≡ o → IsCompared left right i' j' least'
    moved k l o m e f g = subst (λ n. IsCompared left right n j' least') (sym e) (subst (λ n. IsCompared left right k n least') (sym f) (subst (λ n. IsCompared left right k l n) (sym g) m))

    at_most : ((get_or right j d).place < (get_or left i d).place) ⊎ ((get_or left i d).place ≤ (get_or right j d).place) → (get_or right j d).place ≤ (get_or left i d).place
        → IsCompared left right i' j' least' × ((length left - i') + (length right - j') < (length left - i) + (length right - j))
    at_most (inl l) le = let m = high l in let e = m.0 in let f = m.1 in
        (moved i (j + 1) least (right_more left right up.0 up'.0 up.1 up'.1 i j _ _ (slice_get-get_or left i d lt) (slice_get-get_or right j d lt') least c l) m.0 m.1 m.2, omega arith)
    at_most (inr ge) le = let q : (get_or left i d).place ≡ (get_or right j d).place = omega arith in let m = same q in let e = m.0 in let f = m.1 in
        (moved (i + 1) (j + 1) (Some (lesser_of least ((get_or left i d).length + (get_or right j d).length))) (both_more left right up.0 up'.0 up.1 up'.1 i j _ _ (slice_get-get_or left i d lt) (slice_get-get_or right j d lt') least c q) m.0 m.1 m.2, omega arith)

    at : ((get_or left i d).place < (get_or right j d).place) ⊎ ((get_or right j d).place ≤ (get_or left i d).place) → IsCompared left right i' j' least' × ((length left - i') + (length right - j') < (length left - i) + (length right - j))
    at (inl l) = let m = low l in let e = m.0 in let f = m.1 in
        (moved (i + 1) j least (left_more left right up.0 up'.0 up.1 up'.1 i j _ _ (slice_get-get_or left i d lt) (slice_get-get_or right j d lt') least c l) m.0 m.1 m.2, omega arith)
    at (inr le) = at_most (cases_lt (get_or right j d).place (get_or left i d).place) le

pub compared_none : (left right : List Label) → IsCompared left right 0 0 None
compared_none left right = record { reached = tt; covers = λ p q r t h h' same low. absurd (⊎_elim (λ l. omega arith) (λ l. omega arith) low) }

-- where one list is at its end
pub compared_all : (left right : List Label) (i j : ℕ) (least : Option ℕ) → IsCompared left right i j least → (length left ≤ i) ⊎ (length right ≤ j) → MatchOption least (HasNoCommon left right) (IsLeastSum left right)
compared_all left right i j least c over = at least c.reached (λ x m. bound x m)
  where
    bound : (x : ℕ) → Common left right x → IsAtMost least x
    bound x m = subst (IsAtMost least) m.sum (c.covers m.left_has.0 m.right_has.0 m.r m.t m.left_has.1 m.right_has.1 m.same
        (⊎_elim (λ l. inl (let w = slice_get_within left m.left_has.0 m.r m.left_has.1 in omega arith)) (λ l. inr (let w = slice_get_within right m.right_has.0 m.t m.right_has.1 in omega arith)) over))

    at : (o : Option ℕ) → IsReached left right o → ((x : ℕ) → Common left right x → IsAtMost o x) → MatchOption o (HasNoCommon left right) (IsLeastSum left right)
    at None reached all = all
    at (Some x) reached all = record { reached = reached; least = all }
