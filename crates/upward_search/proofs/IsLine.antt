use Rattle.std.proofs.Common.{◌≡◌, ◌≢◌, ℕ, zero, suc, ◌+◌, ◌<◌, ◌≤◌, ◌⊎◌, inl, inr, List, [], ◌∷◌, ◌++◌, length, take, drop, get_or, Some, sym, ap, ◌∙◌, arith, refl, subst}
use Rattle.std.specs.Prelude.{slice_get}
use Rattle.std.proofs.lemmas.Bool.{cases_lt}
use Rattle.std.proofs.lemmas.List.{take-take, take_all, take-append-le, length-take, length-append}
use Rattle.std.proofs.lemmas.List.Sums.{sum_by_push, sum_by-cons, sum_by-append, sum_by-take-le, sum_by-take-drop}
use Rattle.std.proofs.lemmas.Option.{slice_get_within, slice_get-get_or}
use Rattle.upward_search.specs.declared.slope.Label.{Label}
use Rattle.upward_search.specs.Ladders.{Ladder}
use Rattle.upward_search.specs.Parts.{IsRoadPart, AreRoads, roads_length}
use Rattle.upward_search.specs.Lines.{AreLed, offset, IsLine, LacksFrom, LacksBetween, IsFrom}
use Rattle.upward_search.proofs.Lists.{at-push}
use Rattle.upward_search.proofs.IsUnpacking.{roads_push}

led_push : (h : Ladder) (p c : ℕ) (line : List Label) (r : Label) → AreLed h p line c → IsRoadPart h c r.place r.length → AreLed h p (line ++ r ∷ []) r.place
led_push h p c [] r l road = absurd l
led_push h p c (s ∷ line) r l road = (l.0, l.1, roads_push h s.place c line r l.2 road)

roads_take : (h : Ladder) (p q : ℕ) (rs : List Label) (i : ℕ) (r : Label) → AreRoads h p rs q → slice_get rs i ≡ Some r → AreRoads h p (take (suc i) rs) r.place
roads_take h p q [] i r l e = cc
roads_take h p q (s ∷ rs) zero r l e = let is : s ≡ r = cc in (l.0, ap (λ (t : Label). t.place) is)
roads_take h p q (s ∷ rs) (suc i) r l e = (l.0, roads_take h s.place q rs i r l.1 e)

roads_drop : (h : Ladder) (p q : ℕ) (rs : List Label) (i : ℕ) (r : Label) → AreRoads h p rs q → slice_get rs i ≡ Some r → AreRoads h r.place (drop (suc i) rs) q
roads_drop h p q [] i r l e = cc
roads_drop h p q (s ∷ rs) zero r l e = let is : s ≡ r = cc in subst (λ (t : Label). AreRoads h t.place rs q) is l.1
roads_drop h p q (s ∷ rs) (suc i) r l e = roads_drop h s.place q rs i r l.1 e

roads_append : (h : Ladder) (p c q : ℕ) (xs ys : List Label) → AreRoads h p xs c → AreRoads h c ys q → AreRoads h p (xs ++ ys) q
roads_append h p c q [] ys a b = subst (λ n. AreRoads h n ys q) (sym a) b
roads_append h p c q (x ∷ xs) ys a b = (a.0, roads_append h x.place c q xs ys a.1 b)

led_take : (h : Ladder) (p q : ℕ) (line : List Label) (i : ℕ) (r : Label) → AreLed h p line q → slice_get line i ≡ Some r → AreLed h p (take (suc i) line) r.place
led_take h p q [] i r l e = absurd l
led_take h p q (s ∷ line) zero r l e = let is : s ≡ r = cc in (l.0, l.1, ap (λ (t : Label). t.place) is)
led_take h p q (s ∷ line) (suc i) r l e = (l.0, l.1, roads_take h s.place q line i r l.2 e)

pub in-take : {X : Type 0} (n : ℕ) (xs : List X) (k : ℕ) (x : X) → slice_get (take n xs) k ≡ Some x → (k < n) × (slice_get xs k ≡ Some x)
in-take zero xs k x e = cc
in-take (suc n) [] k x e = cc
in-take (suc n) (y ∷ xs) zero x e = (omega arith, e)
in-take (suc n) (y ∷ xs) (suc k) x e = let r = in-take n xs k x e in (let l = r.0 in omega arith, r.1)

offset_push : (line : List Label) (r : Label) (k : ℕ) → k < length line → offset (line ++ r ∷ []) k ≡ offset line k
offset_push line r k lt = ap roads_length (take-append-le (suc k) line (r ∷ []) (omega arith))

offset_last : (line : List Label) (r : Label) → offset (line ++ r ∷ []) (length line) ≡ roads_length line + r.length
offset_last line r = ap roads_length (take_all (suc (length line)) (line ++ r ∷ []) (let e = length-append line (r ∷ []) in omega arith)) ∙ sum_by_push (λ (r : Label). r.length) line r

offset_take : (line : List Label) (i k : ℕ) → k ≤ i → offset (take (suc i) line) k ≡ offset line k
offset_take line i k le = ap roads_length (take-take (suc k) (suc i) line (omega arith))

offset_le : (line : List Label) (k : ℕ) → offset line k ≤ roads_length line
offset_le line k = sum_by-take-le (λ (r : Label). r.length) line (suc k)

module _ (h : Ladder) (p : ℕ) (line : List Label) (run q x : ℕ) (l : IsLine h p line run q x) (r : Label) (road : IsRoadPart h q r.place r.length) where
  -- a road to a place that doesn't stand at this length yet
  pushed : (run' : ℕ) → ((k : ℕ) → k < run' → offset (line ++ r ∷ []) k < x + r.length) → ((k : ℕ) → run' ≤ k → k < length (line ++ r ∷ []) → offset (line ++ r ∷ []) k ≡ x + r.length)
      → ((i : ℕ) (s : Label) → slice_get line i ≡ Some s → s.place ≡ r.place → offset line i < x + r.length) → IsLine h p (line ++ r ∷ []) run' r.place (x + r.length)
  pushed run' early late new = record {
    leads = led_push h p q line r l.leads road;
    total = sum_by_push (λ (r : Label). r.length) line r ∙ ap (λ n. n + r.length) l.total;
    apart = λ i j s t lt a b e. apart_now i j s t lt a e (at-push line r j t b);
    early = early;
    late = late;
  }
    where
      apart_now : (i j : ℕ) (s t : Label) → i < j → slice_get (line ++ r ∷ []) i ≡ Some s → s.place ≡ t.place → ((j < length line) × (slice_get line j ≡ Some t)) ⊎ ((j ≡ length line) × (r ≡ t)) → offset (line ++ r ∷ []) i < offset (line ++ r ∷ []) j
      apart_now i j s t lt a e (inl (low, b)) = old (at-push line r i s a)
        where
          old : ((i < length line) × (slice_get line i ≡ Some s)) ⊎ ((i ≡ length line) × (r ≡ s)) → offset (line ++ r ∷ []) i < offset (line ++ r ∷ []) j
          old (inl (low', a')) = let m = l.apart i j s t lt a' b e in let u = offset_push line r i low' in let v = offset_push line r j low in omega arith
          old (inr (is, _)) = absurd (omega arith)
      apart_now i j s t lt a e (inr (is, same)) = last (at-push line r i s a)
        where
          last : ((i < length line) × (slice_get line i ≡ Some s)) ⊎ ((i ≡ length line) × (r ≡ s)) → offset (line ++ r ∷ []) i < offset (line ++ r ∷ []) j
          last (inl (low', a')) =
              let m = new i s a' (e ∙ ap (λ (o : Label). o.place) (sym same)) in
              let u = offset_push line r i low' in
              let v = ap (offset (line ++ r ∷ [])) is ∙ offset_last line r in
              let w = l.total in
              omega arith
          last (inr (is', _)) = absurd (omega arith)

  pub pushed_far : 0 < r.length → IsLine h p (line ++ r ∷ []) (length line) r.place (x + r.length)
  pushed_far some = pushed (length line)
      (λ k lt. let u = offset_push line r k lt in let m = offset_le line k in let w = l.total in omega arith)
      (λ k le lt. let n = length-append line (r ∷ []) in let is : k ≡ length line = omega arith in ap (offset (line ++ r ∷ [])) is ∙ offset_last line r ∙ ap (λ n. n + r.length) l.total)
      (λ i s a e. let m = offset_le line i in let w = l.total in omega arith)

  pub pushed_near : r.length ≡ 0 → LacksFrom line run r.place → IsLine h p (line ++ r ∷ []) run r.place (x + r.length)
  pushed_near none lacks = pushed run (λ k lt. early_now k lt (cases_lt k (length line))) (λ k le lt. late_now k le lt (cases_lt k (length line)))
      (λ i s a e. before i s a e (cases_lt i run))
    where
      early_now : (k : ℕ) → k < run → (k < length line) ⊎ (length line ≤ k) → offset (line ++ r ∷ []) k < x + r.length
      early_now k lt (inl low) = let u = offset_push line r k low in let m = l.early k lt in omega arith
      early_now k lt (inr high) =
          let u = ap roads_length (take_all (suc k) line (omega arith)) in
          let m = l.early k lt in
          let w = l.total in
          absurd (omega arith)

      late_now : (k : ℕ) → run ≤ k → k < length (line ++ r ∷ []) → (k < length line) ⊎ (length line ≤ k) → offset (line ++ r ∷ []) k ≡ x + r.length
      late_now k le lt (inl low) = let u = offset_push line r k low in let m = l.late k le low in omega arith
      late_now k le lt (inr high) = let n = length-append line (r ∷ []) in let is : k ≡ length line = omega arith in ap (offset (line ++ r ∷ [])) is ∙ offset_last line r ∙ ap (λ n. n + r.length) l.total

      before : (i : ℕ) (s : Label) → slice_get line i ≡ Some s → s.place ≡ r.place → (i < run) ⊎ (run ≤ i) → offset line i < x + r.length
      before i s a e (inl lt) = let m = l.early i lt in omega arith
      before i s a e (inr le) = absurd (lacks i s le a e)

  -- a road back to a place at this length
  pub cut_back : r.length ≡ 0 → (i : ℕ) → IsFrom line run r.place i → IsLine h p (take (i + 1) line) run r.place (x + r.length)
  cut_back none i (le, (s, a, e)) =
      let more : suc i ≡ i + 1 = omega arith in
      subst (λ n. IsLine h p (take n line) run r.place (x + r.length)) more (record {
        leads = subst (AreLed h p (take (suc i) line)) e (led_take h p q line i s l.leads a);
        total = l.late i le (slice_get_within line i s a) ∙ (omega arith);
        apart = λ j k t u lt b c f. (
            let b' = in-take (suc i) line j t b in
            let c' = in-take (suc i) line k u c in
            let x = b'.0 in
            let y = c'.0 in
            let m = l.apart j k t u lt b'.1 c'.1 f in
            let o = offset_take line i j (omega arith) in
            let o' = offset_take line i k (omega arith) in
            omega arith);
        early = λ k lt. (let o = offset_take line i k (omega arith) in let m = l.early k lt in omega arith);
        late = λ k le' lt. (
            let n = length-take (suc i) line in
            let o = offset_take line i k (omega arith) in
            let m = l.late k le' (omega arith) in
            omega arith);
      })

pub begin_line : (h : Ladder) (p : ℕ) → IsLine h p (record { place = p; length = 0 } ∷ []) 0 p 0
begin_line h p = record {
  leads = (refl, refl, refl);
  total = refl;
  apart = λ i j r s lt a b e. (let m = slice_get_within (record { place = p; length = 0 } ∷ []) j s b in absurd (omega arith));
  early = λ k lt. absurd (omega arith);
  late = λ k le lt. (let is : k ≡ 0 = omega arith in ap (offset (record { place = p; length = 0 } ∷ [])) is);
}

led_drop : (h : Ladder) (p q : ℕ) (line : List Label) (j : ℕ) (s : Label) → AreLed h p line q → slice_get line j ≡ Some s → AreRoads h s.place (drop (suc j) line) q
led_drop h p q [] j s l e = absurd l
led_drop h p q (f ∷ rest) zero s l e = let is : f ≡ s = cc in subst (λ (t : Label). AreRoads h t.place rest q) is l.2
led_drop h p q (f ∷ rest) (suc j) s l e = roads_drop h f.place q rest j s l.2 e

-- where no roads between the ends are shorter, no place stands twice
pub line_simple : (h : Ladder) (p : ℕ) (line : List Label) (run q x : ℕ) → IsLine h p line run q x → ((rs : List Label) → AreRoads h p rs q → x ≤ roads_length rs)
    → (i j : ℕ) (r s : Label) → i < j → slice_get line i ≡ Some r → slice_get line j ≡ Some s → r.place ≡ s.place → ⊥
line_simple h p [] run q x l least i j r s lt a b e = absurd l.leads
line_simple h p (f ∷ rest) run q x l least i j r s lt a b e =
    let front = (led_take h p q (f ∷ rest) i r l.leads a).2 in
    let back = led_drop h p q (f ∷ rest) j s l.leads b in
    let whole = roads_append h f.place r.place q (take i rest) (drop j rest) front (subst (λ n. AreRoads h n (drop j rest) q) (sym e) back) in
    let low = least (take i rest ++ drop j rest) (subst (λ n. AreRoads h n (take i rest ++ drop j rest) q) l.leads.0 whole) in
    let sum = sum_by-append (λ (r : Label). r.length) (take i rest) (drop j rest) in
    let first = sum_by-cons (λ (r : Label). r.length) f (take i rest) in
    let none = l.leads.1 in
    let all = sum_by-take-drop (λ (r : Label). r.length) (f ∷ rest) (suc j) in
    let total = l.total in
    let apart = l.apart i j r s lt a b e in
    omega arith

lacks_none : (line : List Label) (from p : ℕ) → LacksBetween line from from p
lacks_none line from p k r le lt e is = omega arith

pub lacks_more : (line : List Label) (from i p : ℕ) (d : Label) → LacksBetween line from i p → i < length line → (get_or line i d).place ≢ p → LacksBetween line from (i + 1) p
lacks_more line from i p d l lt ne k r le lt' e is = at (cases_lt k i)
  where
    at : (k < i) ⊎ (i ≤ k) → ⊥
    at (inl low) = l k r le low e is
    at (inr ge) = let same : k ≡ i = omega arith in let here = slice_get-get_or line i d lt in let there = ap (slice_get line) same in let q : get_or line i d ≡ r = cc in ne (ap (λ (o : Label). o.place) q ∙ is)

pub lacks_all : (line : List Label) (from i p : ℕ) → LacksBetween line from i p → length line ≤ i → LacksFrom line from p
lacks_all line from i p l le k r le' e is = l k r le' (let w = slice_get_within line k r e in omega arith) e is
