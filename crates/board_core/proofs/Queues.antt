use Rattle.std.proofs.Common.{◌≡◌, ℕ, zero, suc, ◌+◌, ◌<◌, ◌≤◌, ◌^◌, ◌-◌, ◌==◌, Bool, true, false, cond, not, List, [], ◌∷◌, ◌++◌, map, length, set, get_or, arith, inl, inr, ◌⊎◌, sym, ap, ◌∙◌, refl, subst, Some, None, Option, is_some, Ok, Err, Result, length-set}
use Rattle.std.specs.Prelude.{slice_get, find, filter, filter_map, option_map}
use Rattle.std.specs.BTreeMap.{is_at, insert_entry}
use Rattle.std.specs.Cmp.{eq_by_cmp_equiv}
use Rattle.std.specs.List.{AllByRecursion, cons_option}
use Rattle.std.specs.List.Sorted.{IsStrictlySortedBy}
use Rattle.std.specs.Map.{keys_of, remove_entry}
use Rattle.std.specs.Ordering.{nat_cmp, is_eq}
use Rattle.std.specs.Result.{is_err, OnErr}
use Rattle.std.specs.declared.cmp.Ordering.TheVariants.{Less, Greater}
use Rattle.std.proofs.lemmas.Bool.{cases_eq, cases_lt, eq-eqb, ne_eqb}
use Rattle.std.proofs.lemmas.Bool.Decides.{nat_tests}
use Rattle.std.proofs.lemmas.Cmp.{nat_cmp_total}
use Rattle.std.proofs.lemmas.List.{get_or-set_other, get_or-set_same, get_or_past}
use Rattle.std.proofs.lemmas.List.Elements.{filter_map-append}
use Rattle.std.proofs.lemmas.Map.Entries.{place_from_lookup, lookup_from_place}
use Rattle.std.proofs.lemmas.Map.Keys.{IsDistinct-from_sorted}
use Rattle.ride_base.specs.declared.numbers.RequestNo.{RequestNo}
use Rattle.stop_schedule.specs.declared.request.Request.{Request}
use Rattle.board_core.specs.Queues.{Waiting, Kept, is_number, is_unheld, waiting_in, unheld_in, held_by, with_holder, without, by_number, kept_at, waiting_at, in_order, key_at, key_of, sign_of, Stands, IsNumbered, IsQueue, IsLeast, IsLonger}
use Rattle.board_core.specs.WaitingLaws.{HaveOwnNumbers}

-- ---- keys by numbers
equal_is : (x y : ℕ) → is_eq (nat_cmp x y) ≡ (x == y)
equal_is x y = grind (arith, nat_tests)

at_same : (a : ℕ) → is_at (nat_cmp a) a ≡ true
at_same a = equal_is a a ∙ eq-eqb a a refl

at_other : (a b : ℕ) → (b ≡ a → ⊥) → is_at (nat_cmp a) b ≡ false
at_other a b h = equal_is a b ∙ ne_eqb a b (λ e. h (sym e))

at_equal : (a b : ℕ) → is_at (nat_cmp a) b ≡ true → b ≡ a
at_equal a b h = grind (arith, nat_tests, h, equal_is a b)

greater : (a b : ℕ) → b < a → nat_cmp a b ≡ Greater
greater a b h = grind (arith, nat_tests)

-- ---- entries by their places
entry_of : (order : List (ℕ × ℕ)) (a k : ℕ) → key_at order a ≡ Some k → (i : ℕ) × (slice_get order i ≡ Some (a, k))
entry_of order a k h =
    let p = place_from_lookup (is_at (nat_cmp a)) order k h in
    (p.0, p.2 ∙ ap (λ (b : ℕ). Some (b, k)) (at_equal a p.1 p.3))

key_by : (order : List (ℕ × ℕ)) → IsStrictlySortedBy nat_cmp (keys_of order) → (i : ℕ) (e : ℕ × ℕ) → slice_get order i ≡ Some e → key_at order e.0 ≡ Some e.1
key_by order rising i e h = lookup_from_place (eq_by_cmp_equiv nat_cmp_total) order i e.0 e.1 (IsDistinct-from_sorted nat_cmp (keys_of order) rising) h

each_key : (P : ℕ → Type 0) (order : List (ℕ × ℕ)) → AllByRecursion P (keys_of order) → (i : ℕ) (e : ℕ × ℕ) → slice_get order i ≡ Some e → P e.0
each_key P [] all i e h = absurd (let bad = h in cc)
each_key P (d ∷ order) all zero e h = let same : d ≡ e = cc in subst (λ (x : ℕ × ℕ). P x.0) same all.0
each_key P (d ∷ order) all (suc i) e h = each_key P order all.1 i e h

less_is : (x y : ℕ) → nat_cmp x y ≡ Less → x < y
less_is x y h = grind (arith, nat_tests, h)

rises : (order : List (ℕ × ℕ)) → IsStrictlySortedBy nat_cmp (keys_of order) → (i j : ℕ) (d e : ℕ × ℕ) → i < j → slice_get order i ≡ Some d → slice_get order j ≡ Some e → d.0 < e.0
unfolding IsStrictlySortedBy
rises [] rising i j d e lt here there = absurd (let bad = here in cc)
rises (x ∷ order) rising i zero d e lt here there = absurd (omega (arith, lt))
rises (x ∷ order) rising zero (suc j) d e lt here there =
    let same : x ≡ d = cc in less_is d.0 e.0 (subst (λ (y : ℕ × ℕ). nat_cmp y.0 e.0 ≡ Less) same (each_key (λ (y : ℕ). nat_cmp x.0 y ≡ Less) order rising.0 j e there))
rises (x ∷ order) rising (suc i) (suc j) d e lt here there = rises order rising.1 i j d e (omega (arith, lt)) here there

-- ---- lists of what stands behind entries
find_none : (p : Waiting → Bool) (f : ℕ × ℕ → Option Waiting) (es : List (ℕ × ℕ))
    → ((i : ℕ) (e : ℕ × ℕ) (w : Waiting) → slice_get es i ≡ Some e → f e ≡ Some w → p w ≡ false) → find p (filter_map f es) ≡ None
find_none p f [] h = refl
find_none p f (e ∷ es) h = on (f e) refl (find_none p f es (λ i d w s t. h (suc i) d w s t))
  where
    on : (o : Option Waiting) → f e ≡ o → find p (filter_map f es) ≡ None → find p (cons_option o (filter_map f es)) ≡ None
    on None s rest = rest
    on (Some w) s rest = rw (h 0 e w refl s) rest

find_some : (p : Waiting → Bool) (f : ℕ × ℕ → Option Waiting) (es : List (ℕ × ℕ)) (at : ℕ) (e : ℕ × ℕ) (x : Waiting) → slice_get es at ≡ Some e → f e ≡ Some x → p x ≡ true
    → ((i : ℕ) (e : ℕ × ℕ) (w : Waiting) → i < at → slice_get es i ≡ Some e → f e ≡ Some w → p w ≡ false) → find p (filter_map f es) ≡ Some x
find_some p f [] at e x here is passes h = absurd (let bad = here in cc)
find_some p f (d ∷ es) zero e x here is passes h =
    let same : d ≡ e = cc in rw (ap f same ∙ is, passes) refl
find_some p f (d ∷ es) (suc at) e x here is passes h = on (f d) refl (find_some p f es at e x here is passes (λ i c w lt s t. h (suc i) c w (omega (arith, lt)) s t))
  where
    on : (o : Option Waiting) → f d ≡ o → find p (filter_map f es) ≡ Some x → find p (cons_option o (filter_map f es)) ≡ Some x
    on None s rest = rest
    on (Some w) s rest = rw (h 0 d w (omega arith) refl s) rest

-- what stands in such a list stands behind an entry
shown_by : (f : ℕ × ℕ → Option Waiting) (es : List (ℕ × ℕ)) (k : ℕ) (w : Waiting) → slice_get (filter_map f es) k ≡ Some w
    → (i : ℕ) × (e : ℕ × ℕ) × (slice_get es i ≡ Some e) × (f e ≡ Some w)
shown_by f [] k w h = cc
shown_by f (e ∷ es) k w h = on (f e) refl k h (λ k h. shown_by f es k w h)
  where
    on : (o : Option Waiting) → f e ≡ o → (k : ℕ) → slice_get (cons_option o (filter_map f es)) k ≡ Some w
        → ((k : ℕ) → slice_get (filter_map f es) k ≡ Some w → (i : ℕ) × (d : ℕ × ℕ) × (slice_get es i ≡ Some d) × (f d ≡ Some w))
        → (i : ℕ) × (d : ℕ × ℕ) × (slice_get (e ∷ es) i ≡ Some d) × (f d ≡ Some w)
    on None s k h rest = let r = rest k h in (suc r.0, r.1, r.2, r.3)
    on (Some v) s zero h rest = (0, e, refl, s ∙ h)
    on (Some v) s (suc k) h rest = let r = rest k h in (suc r.0, r.1, r.2, r.3)

map_each : (g : Waiting → Waiting) (f f' : ℕ × ℕ → Option Waiting) (es : List (ℕ × ℕ))
    → ((i : ℕ) (e : ℕ × ℕ) → slice_get es i ≡ Some e → f' e ≡ option_map g (f e)) → filter_map f' es ≡ map g (filter_map f es)
map_each g f f' [] h = refl
map_each g f f' (e ∷ es) h = rw (h 0 e refl) (on (f e) (map_each g f f' es (λ i d s. h (suc i) d s)))
  where
    on : (o : Option Waiting) → filter_map f' es ≡ map g (filter_map f es) → cons_option (option_map g o) (filter_map f' es) ≡ map g (cons_option o (filter_map f es))
    on None rest = rest
    on (Some w) rest = ap (λ (l : List Waiting). g w ∷ l) rest

same_each : (f f' : ℕ × ℕ → Option Waiting) (es : List (ℕ × ℕ))
    → ((i : ℕ) (e : ℕ × ℕ) → slice_get es i ≡ Some e → f' e ≡ f e) → filter_map f' es ≡ filter_map f es
same_each f f' [] h = refl
same_each f f' (e ∷ es) h = rw (h 0 e refl, same_each f f' es (λ i d s. h (suc i) d s)) refl

keep_each : (q : Waiting → Bool) (f f' : ℕ × ℕ → Option Waiting) (es : List (ℕ × ℕ))
    → ((i : ℕ) (e : ℕ × ℕ) → slice_get es i ≡ Some e → f' e ≡ f e) → ((i : ℕ) (e : ℕ × ℕ) (w : Waiting) → slice_get es i ≡ Some e → f e ≡ Some w → q w ≡ true)
    → filter_map f' es ≡ filter q (filter_map f es)
keep_each q f f' [] same passes = refl
keep_each q f f' (e ∷ es) same passes = rw (same 0 e refl) (on (f e) refl (keep_each q f f' es (λ i d s. same (suc i) d s) (λ i d w s t. passes (suc i) d w s t)))
  where
    on : (o : Option Waiting) → f e ≡ o → filter_map f' es ≡ filter q (filter_map f es) → cons_option o (filter_map f' es) ≡ filter q (cons_option o (filter_map f es))
    on None s rest = rest
    on (Some w) s rest = rw (passes 0 e w refl s) (ap (λ (l : List Waiting). w ∷ l) rest)

drop_one : (q : Waiting → Bool) (f f' : ℕ × ℕ → Option Waiting) (a : ℕ) (es : List (ℕ × ℕ)) → IsStrictlySortedBy nat_cmp (keys_of es)
    → ((i : ℕ) (e : ℕ × ℕ) (w : Waiting) → slice_get es i ≡ Some e → e.0 ≡ a → f e ≡ Some w → q w ≡ false)
    → ((i : ℕ) (e : ℕ × ℕ) → slice_get es i ≡ Some e → (e.0 ≡ a → ⊥) → f' e ≡ f e)
    → ((i : ℕ) (e : ℕ × ℕ) (w : Waiting) → slice_get es i ≡ Some e → (e.0 ≡ a → ⊥) → f e ≡ Some w → q w ≡ true)
    → filter_map f' (remove_entry (is_at (nat_cmp a)) es) ≡ filter q (filter_map f es)
unfolding IsStrictlySortedBy
drop_one q f f' a [] rising out same passes = refl
drop_one q f f' a (e ∷ es) rising out same passes = elim (cases_eq e.0 a) [
  | inl here ↦ rw (ap (is_at (nat_cmp a)) here ∙ at_same a) (gone (f e) refl here)
  | inr apart ↦ rw (at_other a e.0 apart, same 0 e refl apart) (stays (f e) refl apart (drop_one q f f' a es rising.1 (λ i d w s t. out (suc i) d w s t) (λ i d s t. same (suc i) d s t) (λ i d w s t. passes (suc i) d w s t)))
]
  where
    later : e.0 ≡ a → (i : ℕ) (d : ℕ × ℕ) → slice_get es i ≡ Some d → d.0 ≡ a → ⊥
    later here i d s t = (let lt = less_is e.0 d.0 (each_key (λ (y : ℕ). nat_cmp e.0 y ≡ Less) es rising.0 i d s) in omega (arith, lt, here, t))

    gone : (o : Option Waiting) → f e ≡ o → e.0 ≡ a → filter_map f' es ≡ filter q (cons_option o (filter_map f es))
    gone None s here = keep_each q f f' es (λ i d t. same (suc i) d t (later here i d t)) (λ i d w t u. passes (suc i) d w t (later here i d t) u)
    gone (Some w) s here = rw (out 0 e w refl here s) (keep_each q f f' es (λ i d t. same (suc i) d t (later here i d t)) (λ i d v t u. passes (suc i) d v t (later here i d t) u))

    stays : (o : Option Waiting) → f e ≡ o → (e.0 ≡ a → ⊥) → filter_map f' (remove_entry (is_at (nat_cmp a)) es) ≡ filter q (filter_map f es)
        → cons_option o (filter_map f' (remove_entry (is_at (nat_cmp a)) es)) ≡ filter q (cons_option o (filter_map f es))
    stays None s apart rest = rest
    stays (Some w) s apart rest = rw (passes 0 e w refl apart s) (ap (λ (l : List Waiting). w ∷ l) rest)

-- ---- a key behind all others
tail_none : (e : ℕ × ℕ) (es : List (ℕ × ℕ)) (a : ℕ) → e.0 < a → ((other : ℕ) → a ≤ other → key_at (e ∷ es) other ≡ None) → (other : ℕ) → a ≤ other → key_at es other ≡ None
tail_none e es a lt none other le = rw (at_other other e.0 (λ same. omega (arith, same, lt, le))) at (none other le)

head_below : (e : ℕ × ℕ) (es : List (ℕ × ℕ)) (a : ℕ) → ((other : ℕ) → a ≤ other → key_at (e ∷ es) other ≡ None) → e.0 < a
head_below e es a none = elim (cases_lt e.0 a) [
  | inl lt ↦ lt
  | inr le ↦ absurd (let bad = rw (at_same e.0) at (none e.0 le) in cc)
]

pub insert_end : (es : List (ℕ × ℕ)) (a k : ℕ) → ((other : ℕ) → a ≤ other → key_at es other ≡ None) → insert_entry nat_cmp es a k ≡ es ++ (a, k) ∷ []
insert_end [] a k none = refl
insert_end (e ∷ es) a k none = rw (greater a e.0 (head_below e es a none)) (ap (λ (l : List (ℕ × ℕ)). e ∷ l) (insert_end es a k (tail_none e es a (head_below e es a none) none)))

pub remove_end : (es : List (ℕ × ℕ)) (a k : ℕ) → ((other : ℕ) → a ≤ other → key_at es other ≡ None) → remove_entry (is_at (nat_cmp a)) (es ++ (a, k) ∷ []) ≡ es
remove_end [] a k none = rw (at_same a) refl
remove_end (e ∷ es) a k none = rw (at_other a e.0 (λ same. omega (arith, same, head_below e es a none))) (ap (λ (l : List (ℕ × ℕ)). e ∷ l) (remove_end es a k (tail_none e es a (head_below e es a none) none)))

pub refused : {T E : Type 0} {P : Type 0} (r : Result T E) → is_err r ≡ true → OnErr r P → P
refused (Ok x) e h = absurd (let bad = e in cc)
refused (Err x) e h = h

-- ---- slots
has_slot : (slots : List (Option Kept)) (key : ℕ) (x : Kept) → kept_at slots key ≡ Some x → key < length slots
has_slot slots key x h = elim (cases_lt key (length slots)) [
  | inl lt ↦ lt
  | inr le ↦ absurd (let none = get_or_past slots key None le in let bad = sym none ∙ h in cc)
]

written_here : (slots : List (Option Kept)) (key : ℕ) (x : Kept) (o : Option Kept) → kept_at slots key ≡ Some x → kept_at (set slots key o) key ≡ o
written_here slots key x o h = get_or-set_same slots key o None (has_slot slots key x h)

written_there : (slots : List (Option Kept)) (key other : ℕ) (o : Option Kept) → (other ≡ key → ⊥) → kept_at (set slots key o) other ≡ kept_at slots other
written_there slots key other o h = get_or-set_other slots key other o None h

one_kept : {x y : Kept} {o : Option Kept} → o ≡ Some x → o ≡ Some y → x ≡ y
one_kept a b = let e = sym a ∙ b in cc

one_key : {j k : ℕ} {o : Option ℕ} → o ≡ Some j → o ≡ Some k → j ≡ k
one_key a b = let e = sym a ∙ b in cc

number_same : (a b : RequestNo) → a ≡ b → is_number a b ≡ true
number_same a b h = eq-eqb a.0 b.0 (ap (λ (n : RequestNo). n.0) h)

number_apart : (a b : RequestNo) → (a ≡ b → ⊥) → is_number a b ≡ false
number_apart a b h = ne_eqb a.0 b.0 (λ e. h (ap (λ (n : ℕ). let r : RequestNo = record { 0 = n } in r) e))

number_cases : (a b : RequestNo) → (a ≡ b) ⊎ (a ≡ b → ⊥)
number_cases a b = elim (cases_eq a.0 b.0) [
  | inl e ↦ inl (ap (λ (n : ℕ). let r : RequestNo = record { 0 = n } in r) e)
  | inr h ↦ inr (λ e. h (ap (λ (n : RequestNo). n.0) e))
]

module _ (slots : List (Option Kept)) (order : List (ℕ × ℕ)) (numbers : List (RequestNo × ℕ)) (signs : List ℕ) (next : ℕ) where
  -- what stands at a place of the order
  stands_at : IsQueue slots order numbers signs next → (i : ℕ) (e : ℕ × ℕ) → slice_get order i ≡ Some e → Stands slots numbers signs next e.0 e.1
  stands_at q i e h = q.each e.0 e.1 (key_by order q.rising i e h)

  waits_as : (e : ℕ × ℕ) (w : Waiting) (x : Kept) → kept_at slots e.1 ≡ Some x → waiting_at slots e ≡ Some w → w ≡ x.waiting
  waits_as e w x s t = let u : waiting_at slots e ≡ Some x.waiting = ap (option_map (λ (x : Kept). x.waiting)) s in (let v = sym t ∙ u in cc)

  shows : (e : ℕ × ℕ) (x : Kept) → kept_at slots e.1 ≡ Some x → waiting_at slots e ≡ Some x.waiting
  shows e x s = ap (option_map (λ (x : Kept). x.waiting)) s

  -- before the place of an arrival stand others
  others_before : IsQueue slots order numbers signs next → (at : ℕ) (a k : ℕ) → slice_get order at ≡ Some (a, k) → (i : ℕ) (e : ℕ × ℕ) → i < at → slice_get order i ≡ Some e → e.0 < a
  others_before q at a k here i e lt there = rises order q.rising i at e (a, k) lt there here

  pub found : IsQueue slots order numbers signs next → (number : RequestNo) (key : ℕ) (x : Kept) → key_of numbers number ≡ Some key → kept_at slots key ≡ Some x → waiting_in (in_order order slots) number ≡ Some x.waiting
  found q number key x h s =
      let n = q.numbered number key h in
      let same : n.kept ≡ x = one_kept n.stands s in
      let at = entry_of order n.kept.arrival key n.found in
      find_some (λ (w : Waiting). is_number w.request.no number) (waiting_at slots) order at.0 (n.kept.arrival, key) x.waiting at.1
      (shows (n.kept.arrival, key) x s)
      (number_same x.waiting.request.no number (ap (λ (y : Kept). y.waiting.request.no) (sym same) ∙ n.same))
      (λ i e w lt there t. earlier i e w n at lt there t)
    where
      earlier : (i : ℕ) (e : ℕ × ℕ) (w : Waiting) → (n : IsNumbered slots order number key) (at : (i : ℕ) × (slice_get order i ≡ Some (n.kept.arrival, key))) → i < at.0 → slice_get order i ≡ Some e → waiting_at slots e ≡ Some w
          → is_number w.request.no number ≡ false
      earlier i e w n at lt there t =
          let d = stands_at q i e there in
          let is : w ≡ d.kept.waiting = waits_as e w d.kept d.stands t in
          rw is (number_apart d.kept.waiting.request.no number (λ same.
          (let one : e.1 ≡ key = one_key d.found (ap (key_of numbers) same ∙ h) in
          let alike : d.kept ≡ n.kept = one_kept (ap (kept_at slots) (sym one) ∙ d.stands) n.stands in
          let arrived : n.kept.arrival ≡ e.0 = ap (λ (y : Kept). y.arrival) (sym alike) ∙ d.arrived in
          omega (arith, arrived, others_before q at.0 n.kept.arrival key at.1 i e lt there))))

  -- one that waits is found by its number
  pub each_found : IsQueue slots order numbers signs next → (k : ℕ) (w : Waiting) → slice_get (in_order order slots) k ≡ Some w → waiting_in (in_order order slots) w.request.no ≡ Some w
  each_found q k w h =
      let from = shown_by (waiting_at slots) order k w h in
      let d = stands_at q from.0 from.1 from.2 in
      let is : w ≡ d.kept.waiting = waits_as from.1 w d.kept d.stands from.3 in
      rw is (found q d.kept.waiting.request.no from.1.1 d.kept d.found d.stands)

  -- no two of those that wait have one number
  own_from : (es : List (ℕ × ℕ)) → IsStrictlySortedBy nat_cmp (keys_of es) → ((i : ℕ) (e : ℕ × ℕ) → slice_get es i ≡ Some e → Stands slots numbers signs next e.0 e.1) → HaveOwnNumbers (filter_map (waiting_at slots) es)
  unfolding IsStrictlySortedBy
  own_from [] rising stands = tt
  own_from (e ∷ es) rising stands = rw (shows e (stands 0 e refl).kept (stands 0 e refl).stands) (
    find_none (λ (w : Waiting). is_number w.request.no (stands 0 e refl).kept.waiting.request.no) (waiting_at slots) es (λ i f v there t. other i f v there t),
    own_from es rising.1 (λ i f h. stands (suc i) f h),
  )
    where
      other : (i : ℕ) (f : ℕ × ℕ) (v : Waiting) → slice_get es i ≡ Some f → waiting_at slots f ≡ Some v → is_number v.request.no (stands 0 e refl).kept.waiting.request.no ≡ false
      other i f v there t =
          let d = stands 0 e refl in
          let c = stands (suc i) f there in
          let is : v ≡ c.kept.waiting = waits_as f v c.kept c.stands t in
          rw is (number_apart c.kept.waiting.request.no d.kept.waiting.request.no (λ same.
          (let one : f.1 ≡ e.1 = one_key c.found (ap (key_of numbers) same ∙ d.found) in
          let alike : c.kept ≡ d.kept = one_kept c.stands (ap (kept_at slots) one ∙ d.stands) in
          let arrived : f.0 ≡ e.0 = sym c.arrived ∙ ap (λ (y : Kept). y.arrival) alike ∙ d.arrived in
          omega (arith, arrived, rises (e ∷ es) rising 0 (suc i) e f (omega arith) refl there))))

  pub own_numbers : IsQueue slots order numbers signs next → HaveOwnNumbers (in_order order slots)
  own_numbers q = own_from order q.rising (λ i e h. stands_at q i e h)

  pub not_found : IsQueue slots order numbers signs next → (number : RequestNo) → key_of numbers number ≡ None → waiting_in (in_order order slots) number ≡ None
  not_found q number h = find_none (λ (w : Waiting). is_number w.request.no number) (waiting_at slots) order (λ i e w there t.
      (let d = stands_at q i e there in
      let is : w ≡ d.kept.waiting = waits_as e w d.kept d.stands t in
      rw is (number_apart d.kept.waiting.request.no number (λ same. (let bad = sym d.found ∙ ap (key_of numbers) same ∙ h in cc)))))

  -- a sign tells of an arrival or of none
  sign_cases : (x : Kept) → ((is_unheld x.waiting ≡ true) × (sign_of x ≡ x.arrival)) ⊎ ((is_unheld x.waiting ≡ false) × (sign_of x ≡ 2 ^ 64 - 1))
  sign_cases x = on x.waiting.holder
    where
      on : (o : Option ℕ) → ((not (is_some o) ≡ true) × (cond (is_some o) (2 ^ 64 - 1) x.arrival ≡ x.arrival)) ⊎ ((not (is_some o) ≡ false) × (cond (is_some o) (2 ^ 64 - 1) x.arrival ≡ 2 ^ 64 - 1))
      on None = inl (refl, refl)
      on (Some h) = inr (refl, refl)

  later_held : IsQueue slots order numbers signs next → (x : ℕ) → IsLeast signs x → (i : ℕ) (e : ℕ × ℕ) (w : Waiting) → e.0 < x → slice_get order i ≡ Some e → waiting_at slots e ≡ Some w → is_unheld w ≡ false
  later_held q x least i e w lt there t =
      let d = stands_at q i e there in
      let is : w ≡ d.kept.waiting = waits_as e w d.kept d.stands t in
      rw is (elim (sign_cases d.kept) [
        | inl u ↦ absurd (omega (arith, lt, least.each e.1 d.within, d.sign, u.1, d.arrived))
        | inr h ↦ h.0
      ])

  pub oldest_found : IsQueue slots order numbers signs next → (x : ℕ) → IsLeast signs x → (key : ℕ) (y : Kept) → key_at order x ≡ Some key → kept_at slots key ≡ Some y → unheld_in (in_order order slots) ≡ Some y.waiting
  oldest_found q x least key y h s =
      let d = q.each x key h in
      let at = entry_of order x key h in
      find_some is_unheld (waiting_at slots) order at.0 (x, key) y.waiting at.1 (shows (x, key) y s) (unheld d least.one)
      (λ i e w lt there t. later_held q x least i e w (others_before q at.0 x key at.1 i e lt there) there t)
    where
      by_sign : (d : Stands slots numbers signs next x key) → get_or signs key 0 ≡ x → is_unheld y.waiting ≡ true
      by_sign d e =
          let same : d.kept ≡ y = one_kept d.stands s in
          elim (sign_cases d.kept) [
            | inl u ↦ ap (λ (z : Kept). is_unheld z.waiting) (sym same) ∙ u.0
            | inr n ↦ absurd (omega (arith, n.1, d.sign, e, d.before, q.few))
          ]

      unheld : Stands slots numbers signs next x key → (x ≡ 2 ^ 64 - 1) ⊎ ((k : ℕ) × (k < length signs) × (get_or signs k 0 ≡ x)) → is_unheld y.waiting ≡ true
      unheld d (inl never) = absurd (omega (arith, never, d.before, q.few))
      unheld d (inr o) = elim (q.signed o.0 o.1) [
        | inl never ↦ absurd (omega (arith, never, o.2, d.before, q.few))
        | inr f ↦ by_sign d (ap (λ (k : ℕ). get_or signs k 0) (one_key h (ap (key_at order) (sym o.2) ∙ f)) ∙ o.2)
      ]

  pub oldest_none : IsQueue slots order numbers signs next → (x : ℕ) → IsLeast signs x → key_at order x ≡ None → unheld_in (in_order order slots) ≡ None
  oldest_none q x least h = find_none is_unheld (waiting_at slots) order (λ i e w there t. later_held q x least i e w (below (never least.one) (stands_at q i e there)) there t)
    where
      never : (x ≡ 2 ^ 64 - 1) ⊎ ((k : ℕ) × (k < length signs) × (get_or signs k 0 ≡ x)) → x ≡ 2 ^ 64 - 1
      never (inl n) = n
      never (inr o) = elim (q.signed o.0 o.1) [
        | inl n ↦ sym o.2 ∙ n
        | inr f ↦ absurd (let bad = sym h ∙ ap (key_at order) (sym o.2) ∙ f in cc)
      ]

      below : x ≡ 2 ^ 64 - 1 → {e : ℕ × ℕ} → Stands slots numbers signs next e.0 e.1 → e.0 < x
      below n d = omega (arith, n, d.before, q.few)

  -- ---- the keys of a number and of another one
  other_key : IsQueue slots order numbers signs next → (number : RequestNo) (key : ℕ) → key_of numbers number ≡ Some key → (a k : ℕ) (d : Stands slots numbers signs next a k) → (k ≡ key → ⊥) → d.kept.waiting.request.no ≡ number → ⊥
  other_key q number key h a k d apart same = apart (one_key d.found (ap (key_of numbers) same ∙ h))

  pub with_holder_is : IsQueue slots order numbers signs next → (number : RequestNo) (key : ℕ) (x y : Kept) → key_of numbers number ≡ Some key → kept_at slots key ≡ Some x → y.waiting.request ≡ x.waiting.request
      → in_order order (set slots key (Some y)) ≡ with_holder number y.waiting.holder (in_order order slots)
  with_holder_is q number key x y h s asks = map_each (held_by number y.waiting.holder) (waiting_at slots) (waiting_at (set slots key (Some y))) order (λ i e there. each e (stands_at q i e there) (cases_eq e.1 key))
    where
      n : IsNumbered slots order number key
      n = q.numbered number key h

      asked : is_number x.waiting.request.no number ≡ true
      asked = number_same x.waiting.request.no number (ap (λ (z : Kept). z.waiting.request.no) (one_kept s n.stands) ∙ n.same)

      new : held_by number y.waiting.holder x.waiting ≡ y.waiting
      new = rw asked (ap (λ (r : Request). let w : Waiting = record { request = r; holder = y.waiting.holder } in w) (sym asks))

      each : (e : ℕ × ℕ) → Stands slots numbers signs next e.0 e.1 → (e.1 ≡ key) ⊎ (e.1 ≡ key → ⊥) → waiting_at (set slots key (Some y)) e ≡ option_map (held_by number y.waiting.holder) (waiting_at slots e)
      each e d (inl same) =
          ap (option_map (λ (z : Kept). z.waiting)) (ap (kept_at (set slots key (Some y))) same ∙ written_here slots key x (Some y) s)
          ∙ sym (ap (option_map (held_by number y.waiting.holder)) (shows e x (ap (kept_at slots) same ∙ s)) ∙ ap (λ (w : Waiting). Some w) new)
      each e d (inr apart) =
          let kept : held_by number y.waiting.holder d.kept.waiting ≡ d.kept.waiting = rw (number_apart d.kept.waiting.request.no number (other_key q number key h e.0 e.1 d apart)) refl in
          ap (option_map (λ (z : Kept). z.waiting)) (written_there slots key e.1 (Some y) apart ∙ d.stands)
          ∙ sym (ap (option_map (held_by number y.waiting.holder)) (shows e d.kept d.stands) ∙ ap (λ (w : Waiting). Some w) kept)

  pub same_holders : IsQueue slots order numbers signs next → (number : RequestNo) (holder : Option ℕ) → key_of numbers number ≡ None → in_order order slots ≡ with_holder number holder (in_order order slots)
  same_holders q number holder h = map_each (held_by number holder) (waiting_at slots) (waiting_at slots) order (λ i e there. each e (stands_at q i e there))
    where
      each : (e : ℕ × ℕ) → Stands slots numbers signs next e.0 e.1 → waiting_at slots e ≡ option_map (held_by number holder) (waiting_at slots e)
      each e d =
          let kept : held_by number holder d.kept.waiting ≡ d.kept.waiting = rw (number_apart d.kept.waiting.request.no number (λ same. (let bad = sym d.found ∙ ap (key_of numbers) same ∙ h in cc))) refl in
          shows e d.kept d.stands ∙ sym (ap (option_map (held_by number holder)) (shows e d.kept d.stands) ∙ ap (λ (w : Waiting). Some w) kept)

  pub held : IsQueue slots order numbers signs next → (number : RequestNo) (key : ℕ) (x y : Kept) → key_of numbers number ≡ Some key → kept_at slots key ≡ Some x → y.arrival ≡ x.arrival → y.waiting.request ≡ x.waiting.request
      → IsQueue (set slots key (Some y)) order numbers (set signs key (sign_of y)) next
  held q number key x y h s arrived asks = record {
    few = q.few;
    rising = q.rising;
    each = λ a k f. each a k (q.each a k f) (cases_eq k key);
    numbered = λ m k f. numbered m k (q.numbered m k f) (cases_eq k key);
    signed = λ k lt. signed k (omega (arith, lt, length-set signs key (sign_of y))) (cases_eq k key);
  }
    where
      n : IsNumbered slots order number key
      n = q.numbered number key h

      placed : key_at order y.arrival ≡ Some key
      placed = ap (key_at order) (arrived ∙ ap (λ (z : Kept). z.arrival) (one_kept s n.stands)) ∙ n.found

      each : (a k : ℕ) → Stands slots numbers signs next a k → (k ≡ key) ⊎ (k ≡ key → ⊥) → Stands (set slots key (Some y)) numbers (set signs key (sign_of y)) next a k
      each a k d (inl e) = let same : d.kept ≡ x = one_kept (ap (kept_at slots) (sym e) ∙ d.stands) s in record {
        kept = y;
        stands = ap (kept_at (set slots key (Some y))) e ∙ written_here slots key x (Some y) s;
        arrived = arrived ∙ ap (λ (z : Kept). z.arrival) (sym same) ∙ d.arrived;
        found = ap (key_of numbers) (ap (λ (r : Request). r.no) (asks ∙ ap (λ (z : Kept). z.waiting.request) (sym same))) ∙ d.found;
        within = omega (arith, d.within, length-set signs key (sign_of y));
        sign = ap (λ (j : ℕ). get_or (set signs key (sign_of y)) j 0) e ∙ get_or-set_same signs key (sign_of y) 0 (omega (arith, e, d.within));
        before = d.before;
      }
      each a k d (inr apart) = record {
        kept = d.kept;
        stands = written_there slots key k (Some y) apart ∙ d.stands;
        arrived = d.arrived;
        found = d.found;
        within = omega (arith, d.within, length-set signs key (sign_of y));
        sign = get_or-set_other signs key k (sign_of y) 0 apart ∙ d.sign;
        before = d.before;
      }

      numbered : (m : RequestNo) (k : ℕ) → IsNumbered slots order m k → (k ≡ key) ⊎ (k ≡ key → ⊥) → IsNumbered (set slots key (Some y)) order m k
      numbered m k d (inl e) = let same : d.kept ≡ x = one_kept (ap (kept_at slots) (sym e) ∙ d.stands) s in record {
        kept = y;
        stands = ap (kept_at (set slots key (Some y))) e ∙ written_here slots key x (Some y) s;
        same = ap (λ (r : Request). r.no) (asks ∙ ap (λ (z : Kept). z.waiting.request) (sym same)) ∙ d.same;
        found = placed ∙ ap (λ (j : ℕ). Some j) (sym e);
      }
      numbered m k d (inr apart) = record { kept = d.kept; stands = written_there slots key k (Some y) apart ∙ d.stands; same = d.same; found = d.found }

      signed : (k : ℕ) → k < length signs → (k ≡ key) ⊎ (k ≡ key → ⊥) → (get_or (set signs key (sign_of y)) k 0 ≡ 2 ^ 64 - 1) ⊎ (key_at order (get_or (set signs key (sign_of y)) k 0) ≡ Some k)
      signed k lt (inl e) =
          let now : get_or (set signs key (sign_of y)) k 0 ≡ sign_of y = ap (λ (j : ℕ). get_or (set signs key (sign_of y)) j 0) e ∙ get_or-set_same signs key (sign_of y) 0 (omega (arith, e, lt)) in
          elim (sign_cases y) [
            | inl u ↦ inr (ap (key_at order) (now ∙ u.1) ∙ placed ∙ ap (λ (j : ℕ). Some j) (sym e))
            | inr v ↦ inl (now ∙ v.1)
          ]
      signed k lt (inr apart) = rw (get_or-set_other signs key k (sign_of y) 0 apart) (q.signed k lt)

  -- ---- without one request
  same_behind : (slots' : List (Option Kept)) (key : ℕ) → ((other : ℕ) → (other ≡ key → ⊥) → kept_at slots' other ≡ kept_at slots other) → (e : ℕ × ℕ) → (e.1 ≡ key → ⊥) → waiting_at slots' e ≡ waiting_at slots e
  same_behind slots' key others e apart = ap (option_map (λ (z : Kept). z.waiting)) (others e.1 apart)

  -- one key is the key of one arrival
  arrival_of_key : IsQueue slots order numbers signs next → (key : ℕ) (x : Kept) → kept_at slots key ≡ Some x → (a k : ℕ) → Stands slots numbers signs next a k → k ≡ key → a ≡ x.arrival
  arrival_of_key q key x s a k d e = sym d.arrived ∙ ap (λ (z : Kept). z.arrival) (one_kept (ap (kept_at slots) (sym e) ∙ d.stands) s)

  pub without_is : IsQueue slots order numbers signs next → (slots' : List (Option Kept)) (number : RequestNo) (key : ℕ) (x : Kept) → key_of numbers number ≡ Some key → kept_at slots key ≡ Some x
      → ((other : ℕ) → (other ≡ key → ⊥) → kept_at slots' other ≡ kept_at slots other)
      → in_order (remove_entry (is_at (nat_cmp x.arrival)) order) slots' ≡ without number (in_order order slots)
  without_is q slots' number key x h s others =
      drop_one (λ (w : Waiting). not (is_number w.request.no number)) (waiting_at slots) (waiting_at slots') x.arrival order q.rising
      (λ i e w there at t. out i e w there at t)
      (λ i e there apart. same_behind slots' key others e (λ one. apart (arrival_of_key q key x s e.0 e.1 (stands_at q i e there) one)))
      (λ i e w there apart t. stays e w (stands_at q i e there) apart t)
    where
      n : IsNumbered slots order number key
      n = q.numbered number key h

      placed : key_at order x.arrival ≡ Some key
      placed = ap (key_at order) (ap (λ (z : Kept). z.arrival) (one_kept s n.stands)) ∙ n.found

      out : (i : ℕ) (e : ℕ × ℕ) (w : Waiting) → slice_get order i ≡ Some e → e.0 ≡ x.arrival → waiting_at slots e ≡ Some w → not (is_number w.request.no number) ≡ false
      out i e w there at t =
          let one : e.1 ≡ key = one_key (key_by order q.rising i e there) (ap (key_at order) at ∙ placed) in
          let is : w ≡ n.kept.waiting = waits_as e w n.kept (ap (kept_at slots) one ∙ n.stands) t in
          rw is (ap not (number_same n.kept.waiting.request.no number n.same))

      stays : (e : ℕ × ℕ) (w : Waiting) → Stands slots numbers signs next e.0 e.1 → (e.0 ≡ x.arrival → ⊥) → waiting_at slots e ≡ Some w → not (is_number w.request.no number) ≡ true
      stays e w d apart t =
          let is : w ≡ d.kept.waiting = waits_as e w d.kept d.stands t in
          rw is (ap not (number_apart d.kept.waiting.request.no number (other_key q number key h e.0 e.1 d (λ one. apart (arrival_of_key q key x s e.0 e.1 d one)))))

  pub same_without : IsQueue slots order numbers signs next → (number : RequestNo) → key_of numbers number ≡ None → in_order order slots ≡ without number (in_order order slots)
  same_without q number h = keep_each (λ (w : Waiting). not (is_number w.request.no number)) (waiting_at slots) (waiting_at slots) order (λ i e there. refl)
      (λ i e w there t. (let d = stands_at q i e there in
      let is : w ≡ d.kept.waiting = waits_as e w d.kept d.stands t in
      rw is (ap not (number_apart d.kept.waiting.request.no number (λ same. (let bad = sym d.found ∙ ap (key_of numbers) same ∙ h in cc))))))

  pub removed : IsQueue slots order numbers signs next → (slots' : List (Option Kept)) (order' : List (ℕ × ℕ)) (numbers' : List (RequestNo × ℕ)) (number : RequestNo) (key : ℕ) (x : Kept) → key_of numbers number ≡ Some key → kept_at slots key ≡ Some x
      → ((other : ℕ) → (other ≡ key → ⊥) → kept_at slots' other ≡ kept_at slots other)
      → ((a : ℕ) → key_at order' a ≡ cond (is_at (nat_cmp x.arrival) a) None (key_at order a))
      → ((m : RequestNo) → key_of numbers' m ≡ cond (is_at (by_number number) m) None (key_of numbers m))
      → IsStrictlySortedBy nat_cmp (keys_of order')
      → IsQueue slots' order' numbers' (set signs key (2 ^ 64 - 1)) next
  removed q slots' order' numbers' number key x h s others arrivals taken rising = record {
    few = q.few;
    rising = rising;
    each = λ a k f. each a k f (cases_eq a x.arrival);
    numbered = λ m k f. numbered m k f (number_cases m number);
    signed = λ k lt. signed k (omega (arith, lt, length-set signs key (2 ^ 64 - 1))) (cases_eq k key);
  }
    where
      n : IsNumbered slots order number key
      n = q.numbered number key h

      placed : key_at order x.arrival ≡ Some key
      placed = ap (key_at order) (ap (λ (z : Kept). z.arrival) (one_kept s n.stands)) ∙ n.found

      asked : x.waiting.request.no ≡ number
      asked = ap (λ (z : Kept). z.waiting.request.no) (one_kept s n.stands) ∙ n.same

      gone : key_at order' x.arrival ≡ None
      gone = arrivals x.arrival ∙ rw (at_same x.arrival) refl

      there : (a : ℕ) → (a ≡ x.arrival → ⊥) → key_at order' a ≡ key_at order a
      there a apart = arrivals a ∙ rw (at_other x.arrival a apart) refl

      not_there : key_of numbers' number ≡ None
      not_there = taken number ∙ rw (at_same number.0) refl

      found_there : (m : RequestNo) → (m ≡ number → ⊥) → key_of numbers' m ≡ key_of numbers m
      found_there m apart = taken m ∙ rw (at_other number.0 m.0 (λ e. apart (ap (λ (n : ℕ). let r : RequestNo = record { 0 = n } in r) e))) refl

      keep : (a k : ℕ) → (a ≡ x.arrival → ⊥) → (d : Stands slots numbers signs next a k) → Stands slots' numbers' (set signs key (2 ^ 64 - 1)) next a k
      keep a k apart d = let not_key : k ≡ key → ⊥ = λ one. apart (arrival_of_key q key x s a k d one) in record {
        kept = d.kept;
        stands = others k not_key ∙ d.stands;
        arrived = d.arrived;
        found = found_there d.kept.waiting.request.no (other_key q number key h a k d not_key) ∙ d.found;
        within = omega (arith, d.within, length-set signs key (2 ^ 64 - 1));
        sign = get_or-set_other signs key k (2 ^ 64 - 1) 0 not_key ∙ d.sign;
        before = d.before;
      }

      each : (a k : ℕ) → key_at order' a ≡ Some k → (a ≡ x.arrival) ⊎ (a ≡ x.arrival → ⊥) → Stands slots' numbers' (set signs key (2 ^ 64 - 1)) next a k
      each a k f (inl e) = absurd (let bad = sym gone ∙ ap (key_at order') (sym e) ∙ f in cc)
      each a k f (inr apart) = keep a k apart (q.each a k (sym (there a apart) ∙ f))

      keep_number : (m : RequestNo) (k : ℕ) → (m ≡ number → ⊥) → IsNumbered slots order m k → IsNumbered slots' order' m k
      keep_number m k apart d =
          let not_key : k ≡ key → ⊥ = λ one. apart (sym d.same ∙ ap (λ (z : Kept). z.waiting.request.no) (one_kept (ap (kept_at slots) (sym one) ∙ d.stands) s) ∙ asked) in
          record {
            kept = d.kept;
            stands = others k not_key ∙ d.stands;
            same = d.same;
            found = there d.kept.arrival (λ e. not_key (one_key d.found (ap (key_at order) e ∙ placed))) ∙ d.found;
          }

      numbered : (m : RequestNo) (k : ℕ) → key_of numbers' m ≡ Some k → (m ≡ number) ⊎ (m ≡ number → ⊥) → IsNumbered slots' order' m k
      numbered m k f (inl e) = absurd (let bad = sym not_there ∙ ap (key_of numbers') (sym e) ∙ f in cc)
      numbered m k f (inr apart) = keep_number m k apart (q.numbered m k (sym (found_there m apart) ∙ f))

      signed : (k : ℕ) → k < length signs → (k ≡ key) ⊎ (k ≡ key → ⊥) → (get_or (set signs key (2 ^ 64 - 1)) k 0 ≡ 2 ^ 64 - 1) ⊎ (key_at order' (get_or (set signs key (2 ^ 64 - 1)) k 0) ≡ Some k)
      signed k lt (inl e) = inl (ap (λ (j : ℕ). get_or (set signs key (2 ^ 64 - 1)) j 0) e ∙ get_or-set_same signs key (2 ^ 64 - 1) 0 (omega (arith, e, lt)))
      signed k lt (inr apart) = rw (get_or-set_other signs key k (2 ^ 64 - 1) 0 apart) (elim (q.signed k lt) [
        | inl never ↦ inl never
        | inr f ↦ inr (there (get_or signs k 0) (λ e. apart (one_key f (ap (key_at order) e ∙ placed))) ∙ f)
      ])

  -- ---- with room for more keys
  pub lengthened : IsQueue slots order numbers signs next → (signs' : List ℕ) → IsLonger signs signs' → IsQueue slots order numbers signs' next
  lengthened q signs' longer = record {
    few = q.few;
    rising = q.rising;
    each = λ a k f. (let d = q.each a k f in record {
      kept = d.kept;
      stands = d.stands;
      arrived = d.arrived;
      found = d.found;
      within = omega (arith, d.within, longer.long);
      sign = longer.same k d.within ∙ d.sign;
      before = d.before;
    });
    numbered = q.numbered;
    signed = λ k lt. signed k lt (cases_lt k (length signs));
  }
    where
      signed : (k : ℕ) → k < length signs' → (k < length signs) ⊎ (length signs ≤ k) → (get_or signs' k 0 ≡ 2 ^ 64 - 1) ⊎ (key_at order (get_or signs' k 0) ≡ Some k)
      signed k lt (inl old) = rw (longer.same k old) (q.signed k old)
      signed k lt (inr new) = inl (longer.more k new lt)

  -- ---- with one request more
  pub no_key : IsQueue slots order numbers signs next → (other : ℕ) → next ≤ other → key_at order other ≡ None
  no_key q other le = on (key_at order other) refl
    where
      on : (o : Option ℕ) → key_at order other ≡ o → o ≡ None
      on None e = refl
      on (Some k) e = absurd (omega (arith, le, (q.each other k e).before))

  pub no_number : IsQueue slots order numbers signs next → (number : RequestNo) → waiting_in (in_order order slots) number ≡ None → key_of numbers number ≡ None
  no_number q number none = on (key_of numbers number) refl
    where
      on : (o : Option ℕ) → key_of numbers number ≡ o → o ≡ None
      on None e = refl
      on (Some k) e = absurd (let n = q.numbered number k e in let bad = sym none ∙ found q number k n.kept e n.stands in cc)

  pub more_is : IsQueue slots order numbers signs next → (slots' : List (Option Kept)) (key : ℕ) (x : Kept) → kept_at slots key ≡ None → kept_at slots' key ≡ Some x
      → ((other : ℕ) → (other ≡ key → ⊥) → kept_at slots' other ≡ kept_at slots other)
      → in_order (order ++ (x.arrival, key) ∷ []) slots' ≡ in_order order slots ++ x.waiting ∷ []
  more_is q slots' key x vacant stands others =
      rw (filter_map-append (waiting_at slots') order ((x.arrival, key) ∷ []), same_each (waiting_at slots) (waiting_at slots') order (λ i e there. same_behind slots' key others e (λ one. (let bad = sym (stands_at q i e there).stands ∙ ap (kept_at slots) one ∙ vacant in cc))))
      (ap (λ (o : Option Waiting). in_order order slots ++ cons_option o []) (ap (option_map (λ (z : Kept). z.waiting)) stands))

  pub pushed : IsQueue slots order numbers signs next → (slots' : List (Option Kept)) (order' : List (ℕ × ℕ)) (numbers' : List (RequestNo × ℕ)) (signs' : List ℕ) (key : ℕ) (x : Kept)
      → x.arrival ≡ next → next < 2 ^ 64 - 1 → key_of numbers x.waiting.request.no ≡ None → kept_at slots key ≡ None → kept_at slots' key ≡ Some x
      → ((other : ℕ) → (other ≡ key → ⊥) → kept_at slots' other ≡ kept_at slots other)
      → ((a : ℕ) → key_at order' a ≡ cond (is_at (nat_cmp x.arrival) a) (Some key) (key_at order a))
      → ((m : RequestNo) → key_of numbers' m ≡ cond (is_at (by_number x.waiting.request.no) m) (Some key) (key_of numbers m))
      → IsStrictlySortedBy nat_cmp (keys_of order') → IsLonger signs signs' → key < length signs'
      → IsQueue slots' order' numbers' (set signs' key (sign_of x)) (next + 1)
  pushed q slots' order' numbers' signs' key x last few free vacant stands others arrivals taken rising longer room = record {
    few = omega (arith, few);
    rising = rising;
    each = λ a k f. each a k f (cases_eq a x.arrival);
    numbered = λ m k f. numbered m k f (number_cases m x.waiting.request.no);
    signed = λ k lt. signed k (omega (arith, lt, length-set signs' key (sign_of x))) (cases_eq k key) (cases_lt k (length signs));
  }
    where
      number : RequestNo
      number = x.waiting.request.no

      here : key_at order' x.arrival ≡ Some key
      here = arrivals x.arrival ∙ rw (at_same x.arrival) refl

      there : (a : ℕ) → (a ≡ x.arrival → ⊥) → key_at order' a ≡ key_at order a
      there a apart = arrivals a ∙ rw (at_other x.arrival a apart) refl

      found_here : key_of numbers' x.waiting.request.no ≡ Some key
      found_here = taken x.waiting.request.no ∙ rw (at_same x.waiting.request.no.0) refl

      found_there : (m : RequestNo) → (m ≡ x.waiting.request.no → ⊥) → key_of numbers' m ≡ key_of numbers m
      found_there m apart = taken m ∙ rw (at_other x.waiting.request.no.0 m.0 (λ e. apart (ap (λ (n : ℕ). let r : RequestNo = record { 0 = n } in r) e))) refl

      sign_here : get_or (set signs' key (sign_of x)) key 0 ≡ sign_of x
      sign_here = get_or-set_same signs' key (sign_of x) 0 room

      now : (k : ℕ) → k ≡ key → Stands slots' numbers' (set signs' key (sign_of x)) (next + 1) x.arrival k
      now k e = record {
        kept = x;
        stands = ap (kept_at slots') e ∙ stands;
        arrived = refl;
        found = found_here ∙ ap (λ (j : ℕ). Some j) (sym e);
        within = omega (arith, e, room, length-set signs' key (sign_of x));
        sign = ap (λ (j : ℕ). get_or (set signs' key (sign_of x)) j 0) e ∙ sign_here;
        before = omega (arith, last);
      }

      keep : (a k : ℕ) → Stands slots numbers signs next a k → Stands slots' numbers' (set signs' key (sign_of x)) (next + 1) a k
      keep a k d = let not_key : k ≡ key → ⊥ = λ one. (let bad = sym d.stands ∙ ap (kept_at slots) one ∙ vacant in cc) in record {
        kept = d.kept;
        stands = others k not_key ∙ d.stands;
        arrived = d.arrived;
        found = found_there d.kept.waiting.request.no (λ same. (let bad = sym d.found ∙ ap (key_of numbers) same ∙ free in cc)) ∙ d.found;
        within = omega (arith, d.within, longer.long, length-set signs' key (sign_of x));
        sign = get_or-set_other signs' key k (sign_of x) 0 not_key ∙ longer.same k d.within ∙ d.sign;
        before = omega (arith, d.before);
      }

      each : (a k : ℕ) → key_at order' a ≡ Some k → (a ≡ x.arrival) ⊎ (a ≡ x.arrival → ⊥) → Stands slots' numbers' (set signs' key (sign_of x)) (next + 1) a k
      each a k f (inl e) = rw e (now k (one_key (ap (key_at order') (sym e) ∙ f) here))
      each a k f (inr apart) = keep a k (q.each a k (sym (there a apart) ∙ f))

      keep_number : (m : RequestNo) (k : ℕ) → IsNumbered slots order m k → IsNumbered slots' order' m k
      keep_number m k d =
          let not_key : k ≡ key → ⊥ = λ one. (let bad = sym d.stands ∙ ap (kept_at slots) one ∙ vacant in cc) in
          record {
            kept = d.kept;
            stands = others k not_key ∙ d.stands;
            same = d.same;
            found = there d.kept.arrival (λ e. (let before = (q.each d.kept.arrival k d.found).before in omega (arith, before, e, last))) ∙ d.found;
          }

      numbered : (m : RequestNo) (k : ℕ) → key_of numbers' m ≡ Some k → (m ≡ x.waiting.request.no) ⊎ (m ≡ x.waiting.request.no → ⊥) → IsNumbered slots' order' m k
      numbered m k f (inl e) = let one : k ≡ key = one_key (ap (key_of numbers') (sym e) ∙ f) found_here in record {
        kept = x;
        stands = ap (kept_at slots') one ∙ stands;
        same = sym e;
        found = here ∙ ap (λ (j : ℕ). Some j) (sym one);
      }
      numbered m k f (inr apart) = keep_number m k (q.numbered m k (sym (found_there m apart) ∙ f))

      signed : (k : ℕ) → k < length signs' → (k ≡ key) ⊎ (k ≡ key → ⊥) → (k < length signs) ⊎ (length signs ≤ k) → (get_or (set signs' key (sign_of x)) k 0 ≡ 2 ^ 64 - 1) ⊎ (key_at order' (get_or (set signs' key (sign_of x)) k 0) ≡ Some k)
      signed k lt (inl e) old =
          let is : get_or (set signs' key (sign_of x)) k 0 ≡ sign_of x = ap (λ (j : ℕ). get_or (set signs' key (sign_of x)) j 0) e ∙ sign_here in
          elim (sign_cases x) [
            | inl u ↦ inr (ap (key_at order') (is ∙ u.1) ∙ here ∙ ap (λ (j : ℕ). Some j) (sym e))
            | inr v ↦ inl (is ∙ v.1)
          ]
      signed k lt (inr apart) (inl old) = rw (get_or-set_other signs' key k (sign_of x) 0 apart, longer.same k old) (elim (q.signed k old) [
        | inl never ↦ inl never
        | inr f ↦ inr (there (get_or signs k 0) (λ e. (let before = (q.each (get_or signs k 0) k f).before in omega (arith, before, e, last))) ∙ f)
      ])
      signed k lt (inr apart) (inr new) = inl (get_or-set_other signs' key k (sign_of x) 0 apart ∙ longer.more k new lt)
