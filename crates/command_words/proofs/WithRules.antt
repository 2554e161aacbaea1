use Rattle.std.proofs.Common.{◌≡◌, ◌∙◌, ◌<◌, ◌≤◌, ◌+◌, ◌*◌, ◌&&◌, inl, inr, ℕ, Bool, true, false, cond, suc, refl, sym, ap, ap₂, subst, List, [], ◌∷◌, map, drop, length, get_or, drop-cons, append-nil, append_assoc, arith, Option, Some, None, IfSome, IfNone, codes}
use Rattle.std.specs.Prelude.{nat_le}
use Rattle.std.proofs.lemmas.Bool.{leb-true, leb-false}
use Rattle.clap.specs.Words.{App, HasKind, Kinds, Row, Rule, kind_of, with_rule}
use Rattle.clap.specs.declared.error.Error.{Error}
use Rattle.clap.specs.declared.error.kind.ErrorKind.TheVariants.{OutOfMemory}
use Rattle.ride_base.specs.Digits.{are_digits, value_after}
use Rattle.stop_schedule.specs.Rates.{AreInRange, Rates}
use Rattle.command_words.specs.Commands.{rates_from, Word, is_fair, kept_where, number_or}
use Rattle.command_words.specs.Reading.{cut, with_rules}

-- a loop that adds a rule for each name has one more
pub next_rule : {X : Type 0} (f : X → Rule) (names : List X) (i : ℕ) (d : X) (before after target : App) (rule : Rule) → i < length names
    → with_rules before (map f (drop i names)) ≡ target → after ≡ with_rule before rule → rule ≡ f (get_or names i d) → with_rules after (map f (drop (i + 1) names)) ≡ target
next_rule f names i d before after target rule lt so_far is same =
    let next : i + 1 ≡ suc i = omega arith in
    let rest = drop (suc i) names in
    ap₂ (λ (a : App) (k : ℕ). with_rules a (map f (drop k names))) is next
    ∙ ap (λ (r : Rule). with_rules (with_rule before r) (map f rest)) same
    ∙ ap (λ (rs : List Rule). record before { top = record before.top { rules = rs } }) (append_assoc before.top.rules (f (get_or names i d) ∷ []) (map f rest))
    ∙ ap (λ (xs : List _). with_rules before (map f xs)) (sym (drop-cons names i d lt)) ∙ so_far

pub map_through : {X Y Z : Type 0} (f : Y → Z) (g : X → Y) (xs : List X) → map (λ x. f (g x)) xs ≡ map f (map g xs)
map_through f g [] = refl
map_through f g (x ∷ xs) = ap (λ ys. f (g x) ∷ ys) (map_through f g xs)

-- ---- what clap answers

pub takes_words : (kinds : Kinds) (rows matched : List Row) → kinds ≡ [] → rows ≡ matched → Some rows ≡ cut kinds (Some matched)
takes_words kinds rows matched none same = ap₂ (λ (k : Kinds) (r : List Row). cut k (Some r)) (sym none) same

pub refuses_words : (kinds : Kinds) (e : Error) (x : Option (List Row)) → HasKind kinds e → (kind_of e ≡ OutOfMemory → ⊥) → None ≡ cut kinds x
refuses_words [] e x (inl memory) other = absurd (other memory)
refuses_words [] e x (inr none) other = absurd none
refuses_words (k ∷ ks) e x h other = refl

-- ---- parameters

abbrev IsWithin : ℕ → ℕ → ℕ → Type 0
IsWithin least most n = (least ≤ n) × (n ≤ most)

kept_within : (least most n v : ℕ) (test : Bool) → Some n ≡ kept_where (nat_le least) (cond (test && nat_le v most) (Some v) None) → IsWithin least most n
kept_within least most n v false e = cc
kept_within least most n v true e = go (nat_le v most) refl (nat_le least v) refl e
  where
    go : (a : Bool) → nat_le v most ≡ a → (b : Bool) → nat_le least v ≡ b → Some n ≡ kept_where (nat_le least) (cond a (Some v) None) → IsWithin least most n
    go false f b g h = cc
    go true f false g h = let bad : Some n ≡ None = rw g at h in cc
    go true f true g h =
        let same : Some n ≡ Some v = rw g at h in
        let is : n ≡ v = cc in
        let low = leb-true least v g in
        let high = leb-true v most f in
        (omega arith, omega arith)

number_within : (least most other n : ℕ) (x : Option Word) → Some n ≡ number_or least most other x → least ≤ other → other ≤ most → IsWithin least most n
number_within least most other n None e low high = let is : n ≡ other = cc in (omega arith, omega arith)
number_within least most other n (Some []) e low high = cc
number_within least most other n (Some (b ∷ bs)) e low high = kept_within least most n (value_after 0 (b ∷ bs)) (are_digits (b ∷ bs)) e

made : (result : Option Rates) (r : Rates) → (nat_le r.trip_num (16 * r.trip_den) ≡ true → AreInRange r) → IfSome result (λ p. p ≡ r) → IfSome result AreInRange → IfNone result (AreInRange r → ⊥)
    → result ≡ kept_where is_fair (Some r)
made result r ranged value in_range none = go (nat_le r.trip_num (16 * r.trip_den)) refl result value in_range none
  where
    go : (t : Bool) → nat_le r.trip_num (16 * r.trip_den) ≡ t → (result : Option Rates) → IfSome result (λ p. p ≡ r) → IfSome result AreInRange → IfNone result (AreInRange r → ⊥)
        → result ≡ cond t (Some r) None
    go true e (Some p) value in_range none = ap Some value
    go true e None value in_range none = absurd (none (ranged e))
    go false e None value in_range none = refl
    go false e (Some p) value in_range none =
        let factor : r.trip_num ≤ 16 * r.trip_den = (subst AreInRange value in_range).factor in
        let high = leb-false r.trip_num (16 * r.trip_den) e in
        absurd (omega arith)

pub params_are : (find : Word → Option Word) (stop wait trip_num trip_den trip_add wait_weight trip_weight : ℕ) (result : Option Rates)
    → Some stop ≡ number_or 0 65536 2 (find (codes "stop"))
    → Some wait ≡ number_or 0 65536 20 (find (codes "wait"))
    → Some trip_num ≡ number_or 0 65536 2 (find (codes "trip-num"))
    → Some trip_den ≡ number_or 1 65536 1 (find (codes "trip-den"))
    → Some trip_add ≡ number_or 0 65536 10 (find (codes "trip-add"))
    → Some wait_weight ≡ number_or 0 65536 1 (find (codes "wait-weight"))
    → Some trip_weight ≡ number_or 0 65536 1 (find (codes "trip-weight"))
    → IfSome result (λ p. p ≡ record { stop = stop; wait = wait; trip_num = trip_num; trip_den = trip_den; trip_add = trip_add; wait_weight = wait_weight; trip_weight = trip_weight })
    → IfSome result AreInRange
    → IfNone result (AreInRange (record { stop = stop; wait = wait; trip_num = trip_num; trip_den = trip_den; trip_add = trip_add; wait_weight = wait_weight; trip_weight = trip_weight }) → ⊥)
    → result ≡ rates_from find
params_are find stop wait trip_num trip_den trip_add wait_weight trip_weight result a b c d e f g value in_range none =
    let r : Rates = record { stop = stop; wait = wait; trip_num = trip_num; trip_den = trip_den; trip_add = trip_add; wait_weight = wait_weight; trip_weight = trip_weight } in
    rw (← a, ← b, ← c, ← d, ← e, ← f, ← g) (made result r (λ fair. record {
      stop = (number_within 0 65536 2 stop (find (codes "stop")) a (omega arith) (omega arith)).1;
      wait = (number_within 0 65536 20 wait (find (codes "wait")) b (omega arith) (omega arith)).1;
      trip_num = (number_within 0 65536 2 trip_num (find (codes "trip-num")) c (omega arith) (omega arith)).1;
      trip_den = (number_within 1 65536 1 trip_den (find (codes "trip-den")) d (omega arith) (omega arith)).1;
      trip_add = (number_within 0 65536 10 trip_add (find (codes "trip-add")) e (omega arith) (omega arith)).1;
      wait_weight = (number_within 0 65536 1 wait_weight (find (codes "wait-weight")) f (omega arith) (omega arith)).1;
      trip_weight = (number_within 0 65536 1 trip_weight (find (codes "trip-weight")) g (omega arith) (omega arith)).1;
      divides = (number_within 1 65536 1 trip_den (find (codes "trip-den")) d (omega arith) (omega arith)).0;
      factor = leb-true trip_num (16 * trip_den) fair;
    }) value in_range none)

-- no further rule changes nothing
pub no_rules : (a : App) → a ≡ with_rules a []
no_rules a = ap (λ (rs : List Rule). record a { top = record a.top { rules = rs } }) (sym (append-nil a.top.rules))
