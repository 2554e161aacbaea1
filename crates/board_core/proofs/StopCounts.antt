use Rattle.std.proofs.Common.{◌≡◌, ℕ, suc, ◌+◌, ◌≤◌, ◌==◌, Bool, true, false, cond, List, [], ◌∷◌, drop, length, Some, sym, refl, ap, ◌∙◌, arith}
use Rattle.std.specs.Prelude.{slice_get, count_by}
use Rattle.std.specs.List.{insert}
use Rattle.std.proofs.lemmas.Bool.{eqb-true, ne_eqb, and_right, and_parts}
use Rattle.std.proofs.lemmas.List.Sums.{sum_by-cons, sum_by-insert, sum_by-take-drop}
use Rattle.ride_base.specs.declared.numbers.RequestNo.{RequestNo}
use Rattle.stop_schedule.specs.declared.stop.Insertion.{Insertion}
use Rattle.stop_schedule.specs.declared.stop.Stop.{Stop}
use Rattle.stop_schedule.specs.declared.stop.StopKind.{StopKind}
use Rattle.stop_schedule.specs.declared.stop.StopKind.TheVariants.{Pickup, Dropoff}
use Rattle.stop_schedule.specs.Keeping.{is_pickup, picks_up, drops_off}
use Rattle.stop_schedule.specs.Lists.{with_both}
use Rattle.board_core.proofs.Inserts.{with_both_is}

-- where none passes, none is counted
pub count_none : (test : Stop → Bool) (xs : List Stop) → ((k : ℕ) (s : Stop) → slice_get xs k ≡ Some s → test s ≡ false) → count_by test xs ≡ 0
count_none test [] all = refl
count_none test (x ∷ xs) all = sum_by-cons (λ (s : Stop). cond (test s) 1 0) x xs ∙ ap (λ (b : Bool). cond b 1 0 + count_by test xs) (all 0 x refl) ∙ (let e = count_none test xs (λ k s h. all (suc k) s h) in omega arith)

-- a part of a list has no more
pub count_drop : (test : Stop → Bool) (xs : List Stop) (k : ℕ) → count_by test (drop k xs) ≤ count_by test xs
count_drop test xs k = let e = sum_by-take-drop (λ (s : Stop). cond (test s) 1 0) xs k in omega arith

-- each new stop counts for itself
pub count_both : (test : Stop → Bool) (stops : List Stop) (at : Insertion) (p d : Stop) → at.i ≤ at.j → at.j ≤ length stops
    → count_by test (with_both stops at p d) ≡ count_by test stops + cond (test d) 1 0 + cond (test p) 1 0
count_both test stops at p d h l = ap (count_by test) (with_both_is stops at p d h l) ∙ sum_by-insert (λ (s : Stop). cond (test s) 1 0) (insert stops at.j d) at.i p
    ∙ ap (λ (n : ℕ). n + cond (test p) 1 0) (sum_by-insert (λ (s : Stop). cond (test s) 1 0) stops at.j d)

-- no stop of the list is of this number
abbrev pub IsNew : List Stop → RequestNo → Type 0
IsNew stops number = (k : ℕ) (s : Stop) → slice_get stops k ≡ Some s → s.no.0 ≡ number.0 → ⊥

-- a stop of another number is no dropoff of this one
drops_none : (s : Stop) (number : RequestNo) (kind : StopKind) → (s.no.0 == number.0) ≡ false → cond (is_pickup kind) false (s.no.0 == number.0) ≡ false
drops_none s number Pickup h = refl
drops_none s number Dropoff h = h

-- a number's dropoff has that number
pub drops_number : (s : Stop) (number : RequestNo) (kind : StopKind) → cond (is_pickup kind) false (s.no.0 == number.0) ≡ true → (s.no.0 == number.0) ≡ true
drops_number s number Pickup h = cc
drops_number s number Dropoff h = h

-- at most one, where one that is put in finds none there
at_most_one : (n : ℕ) (x y : Bool) → n ≤ 1 → (x ≡ true → n ≡ 0) → (y ≡ true → n ≡ 0) → (x ≡ true → y ≡ true → ⊥) → n + cond x 1 0 + cond y 1 0 ≤ 1
at_most_one n false false few hx hy apart = omega arith
at_most_one n true false few hx hy apart = let e = hx refl in omega arith
at_most_one n false true few hx hy apart = let e = hy refl in omega arith
at_most_one n true true few hx hy apart = absurd (apart refl refl)

-- a number has at most one pickup and one dropoff after a new number's stops were put in
pub once_up : (stops : List Stop) (at : Insertion) (p d : Stop) (number : RequestNo) → at.i ≤ at.j → at.j ≤ length stops → d.kind ≡ Dropoff → IsNew stops p.no
    → count_by (picks_up number) stops ≤ 1 → count_by (picks_up number) (with_both stops at p d) ≤ 1
once_up stops at p d number h l down new few = let e = count_both (picks_up number) stops at p d h l in
    let m = at_most_one (count_by (picks_up number) stops) (picks_up number d) (picks_up number p) few (λ x. absurd (not_up x)) none (λ x y. not_up x) in omega arith
  where
    not_up : picks_up number d ≡ true → ⊥
    not_up x = let a = (and_parts (is_pickup d.kind) (d.no.0 == number.0) x).0 in let b : is_pickup d.kind ≡ false = ap is_pickup down in cc

    none : picks_up number p ≡ true → count_by (picks_up number) stops ≡ 0
    none x = let q = eqb-true _ _ (and_parts (is_pickup p.kind) (p.no.0 == number.0) x).1 in count_none (picks_up number) stops (λ k s e. and_right _ _ (ne_eqb _ _ (λ (t : s.no.0 ≡ number.0). new k s e (t ∙ sym q))))

-- so has it one dropoff
pub once_down : (stops : List Stop) (at : Insertion) (p d : Stop) (number : RequestNo) → at.i ≤ at.j → at.j ≤ length stops → p.kind ≡ Pickup → IsNew stops d.no
    → count_by (drops_off number) stops ≤ 1 → count_by (drops_off number) (with_both stops at p d) ≤ 1
once_down stops at p d number h l up new few = let e = count_both (drops_off number) stops at p d h l in
    let m = at_most_one (count_by (drops_off number) stops) (drops_off number d) (drops_off number p) few none (λ x. absurd (not_down x)) (λ y x. not_down x) in omega arith
  where
    not_down : drops_off number p ≡ true → ⊥
    not_down x = let b : drops_off number p ≡ false = ap (λ (kind : StopKind). cond (is_pickup kind) false (p.no.0 == number.0)) up in cc

    none : drops_off number d ≡ true → count_by (drops_off number) stops ≡ 0
    none x = let q = eqb-true _ _ (drops_number d number d.kind x) in
        count_none (drops_off number) stops (λ k s e. drops_none s number s.kind (ne_eqb _ _ (λ (t : s.no.0 ≡ number.0). new k s e (t ∙ sym q))))
