use Rattle.std.proofs.Common.{◌≡◌, ℕ, zero, suc, ◌+◌, ◌<◌, ◌≤◌, ◌||◌, not, ◌⊎◌, inl, inr, List, [], ◌∷◌, ◌++◌, take, length, get_or, Bool, true, false, Option, Some, None, refl, sym, ap, ◌∙◌, subst, arith}
use Rattle.std.proofs.lemmas.Bool.{cases_lt, ne_eqb, eq-eqb, le-ltb, lt-ltb, cond-true, cond-false}
use Rattle.std.proofs.lemmas.List.{take_more}
use Rattle.std.specs.Prelude.{slice_get, cond, nat_lt}
use Rattle.stop_schedule.specs.declared.stop.Front.{Front}
use Rattle.stop_schedule.specs.Fleets.{Car, Cars, OfCar}
use Rattle.stop_schedule.specs.Fronts.{front_of}
use Rattle.insertion_cost.specs.declared.candidates.Candidate.{Candidate}
use Rattle.insertion_cost.specs.declared.candidates.Candidates.{Candidates}
use Rattle.insertion_cost.specs.declared.candidates.Floor.{Floor}
use Rattle.insertion_cost.specs.Candidates.{entry_of, has_moved, is_same_front, redone_at, redone_below, redone}
use Rattle.commit_check.specs.Settled.{changed_of, changed_at, changed_below, changed, moved_of, moved_at, moved_in}
use Rattle.commit_check.proofs.Known.{car_at}

sums : (a b c d : ℕ) → a ≡ b → c ≡ d → a + c ≡ b + d
sums a b c d p q = omega arith

-- the count of one vehicle, by whether its schedule changed and whether it was priced from the same front
bits : (a b : Bool) → cond (a || not b) 1 0 ≡ cond (a || false) 1 0 + cond a 0 (cond b 0 1)
bits true b = refl
bits false true = refl
bits false false = refl

abbrev one_if : Bool → ℕ
one_if b = cond b 1 0

or_false : (b : Bool) → one_if (b || false) ≡ one_if b
or_false true = refl
or_false false = refl

module _ (fleet : Cars) (base : ℕ) (floor : Floor) where
  abbrev with_entries : List Candidate → Candidates
  with_entries entries = record { base = base; entries = entries; floor = floor }

  abbrev anew : List Candidate → ℕ → ℕ
  anew entries place = redone_at (with_entries entries) fleet.clock place (slice_get fleet.cars place)

  -- where none is listed, these are the vehicles that changed
  none_listed : (n : ℕ) → redone_below (with_entries []) fleet n ≡ changed_below fleet base n
  none_listed zero = refl
  none_listed (suc n) = sums _ _ _ _ (none_listed n) (on (slice_get fleet.cars n)) where
    on : (car : Option Car) → redone_at (with_entries []) fleet.clock n car ≡ changed_of base car
    on None = refl
    on (Some car) = or_false (nat_lt base car.stamp)

  -- an entry changes nothing elsewhere
  elsewhere : (e : Candidate) (es : List Candidate) (place : ℕ) → (e.place ≡ place → ⊥) → anew (e ∷ es) place ≡ anew es place
  elsewhere e es place n = on (slice_get fleet.cars place) where
    on : (car : Option Car) → redone_at (with_entries (e ∷ es)) fleet.clock place car ≡ redone_at (with_entries es) fleet.clock place car
    on None = refl
    on (Some car) = ap (λ (x : Option Candidate). cond (nat_lt base car.stamp || has_moved (front_of car.plan fleet.clock) x) 1 0)
        (cond-false _ _ _ (ne_eqb e.place place n))

  -- in its own place it adds one where its vehicle didn't change and was priced from another front
  here : (e : Candidate) (es : List Candidate) → entry_of es e.place ≡ None
      → anew (e ∷ es) e.place ≡ anew es e.place + moved_at fleet base e
  here e es none = on (slice_get fleet.cars e.place) where
    on : (car : Option Car) → redone_at (with_entries (e ∷ es)) fleet.clock e.place car ≡ redone_at (with_entries es) fleet.clock e.place
        car + moved_of base fleet.clock e car
    on None = refl
    on (Some car) =
        ap (λ (x : Option Candidate). cond (nat_lt base car.stamp || has_moved (front_of car.plan fleet.clock) x) 1 0)
        (cond-true _ _ _ (eq-eqb e.place e.place refl))
        ∙ bits (nat_lt base car.stamp) (is_same_front e.front (front_of car.plan fleet.clock))
        ∙ ap (λ (x : Option Candidate). cond (nat_lt base car.stamp || has_moved (front_of car.plan fleet.clock) x) 1 0 + moved_of base
        fleet.clock e (Some car)) (sym none)

  below_same : (e : Candidate) (es : List Candidate) (n : ℕ) → n ≤ e.place
      → redone_below (with_entries (e ∷ es)) fleet n ≡ redone_below (with_entries es) fleet n
  below_same e es zero l = refl
  below_same e es (suc n) l = sums _ _ _ _ (below_same e es n (omega arith)) (elsewhere e es n (λ s. omega arith))

  last_more : (a b c d m : ℕ) → a ≡ b → c ≡ d + m → a + c ≡ b + d + m
  last_more a b c d m p q = omega arith

  first_more : (a b c d m : ℕ) → a ≡ b + m → c ≡ d → a + c ≡ b + d + m
  first_more a b c d m p q = omega arith

  below_more : (e : Candidate) (es : List Candidate) (n : ℕ) → e.place < n → entry_of es e.place ≡ None
      → redone_below (with_entries (e ∷ es)) fleet n ≡ redone_below (with_entries es) fleet n + moved_at fleet base e
  below_more e es zero l none = absurd (omega arith)
  below_more e es (suc n) l none = on (cases_lt e.place n) (λ b. below_more e es n b none) where
    on : (e.place < n) ⊎ (n ≤ e.place) → (e.place < n → redone_below (with_entries (e ∷ es)) fleet n ≡ redone_below (with_entries es) fleet
        n + moved_at fleet base e)
        → redone_below (with_entries (e ∷ es)) fleet (suc n) ≡ redone_below (with_entries es) fleet (suc n) + moved_at fleet base e
    on (inl b) before = first_more _ _ _ _ _ (before b) (elsewhere e es n (λ s. omega arith))
    on (inr b) before = let same : e.place ≡ n = omega arith in
        last_more _ _ _ _ _ (below_same e es n b) (subst (λ (k : ℕ). anew (e ∷ es) k ≡ anew es k + moved_at fleet base e) same
        (here e es none))

  apart : (e : Candidate) (es : List Candidate) → ((k : ℕ) (f : Candidate) → slice_get es k ≡ Some f → f.place ≡ e.place → ⊥)
      → entry_of es e.place ≡ None
  apart e [] n = refl
  apart e (f ∷ es) n = cond-false _ _ _ (ne_eqb f.place e.place (n 0 f refl)) ∙ apart e es (λ k x h. n (suc k) x h)

  no_more : (a b : ℕ) → a ≡ b → a ≡ b + 0
  no_more a b p = omega arith

  one_more : (a b c d m : ℕ) → a ≡ b + m → b ≡ c + d → a ≡ c + (m + d)
  one_more a b c d m p q = omega arith

  -- All that are priced anew are those whose schedules changed, and those that are listed with another front.
  counted : (n : ℕ) (es : List Candidate) → ((k : ℕ) (e : Candidate) → slice_get es k ≡ Some e → e.place < n)
      → ((k l : ℕ) (e f : Candidate) → slice_get es k ≡ Some e → slice_get es l ≡ Some f → e.place ≡ f.place → k ≡ l)
      → redone_below (with_entries es) fleet n ≡ changed_below fleet base n + moved_in fleet base es
  counted n [] within once = no_more _ _ (none_listed n)
  counted n (e ∷ es) within once = one_more _ _ _ _ _
      (below_more e es n (within 0 e refl) (apart e es (λ k f h s. let bad = once 0 (suc k) e f refl h (sym s) in absurd (omega arith))))
      (counted n es (λ k x h. within (suc k) x h) (λ k l x y h i s. (let q = once (suc k) (suc l) x y h i s in omega arith)))

pub all_redone : (fleet : Cars) (c : Candidates) → ((k : ℕ) (e : Candidate) → slice_get c.entries k ≡ Some e → e.place < length fleet.cars)
    → ((k l : ℕ) (e f : Candidate) → slice_get c.entries k ≡ Some e → slice_get c.entries l ≡ Some f → e.place ≡ f.place → k ≡ l)
    → redone fleet c ≡ changed fleet c.base + moved_in fleet c.base c.entries
all_redone fleet c within once = counted fleet c.base c.floor (length fleet.cars) c.entries within once

-- ---- so many up to a place

pub changed_more : (fleet : Cars) (base n : ℕ) → changed_below fleet base (n + 1) ≡ changed_below fleet base n + changed_at fleet base n
changed_more fleet base n = let e : n + 1 ≡ suc n = omega arith in ap (changed_below fleet base) e

same_least : (a b : ℕ) → a ≡ b → a ≤ b
same_least a b e = omega arith

more_least : (a b c : ℕ) → a ≤ b → a ≤ b + c
more_least a b c l = omega arith

pub changed_most : (fleet : Cars) (base n m : ℕ) → n ≤ m → changed_below fleet base n ≤ changed_below fleet base m
changed_most fleet base n zero l = let e : n ≡ zero = omega arith in same_least _ _ (ap (changed_below fleet base) e)
changed_most fleet base n (suc m) l = on (cases_lt n (suc m)) (λ b. changed_most fleet base n m b) where
  on : (n < suc m) ⊎ (suc m ≤ n) → (n ≤ m → changed_below fleet base n ≤ changed_below fleet base m)
      → changed_below fleet base n ≤ changed_below fleet base (suc m)
  on (inl b) before = more_least _ _ _ (before (omega arith))
  on (inr b) before = let e : n ≡ suc m = omega arith in same_least _ _ (ap (changed_below fleet base) e)

-- in the middle of the loop over the vehicles
pub changed_within : (fleet : Cars) (base n asks old new : ℕ) → n < length fleet.cars → asks ≤ old + changed_below fleet base n
    → new ≤ asks + changed_at fleet base n → new ≤ old + changed fleet base
changed_within fleet base n asks old new l p q = within _ _ _ _ _ _ _ p q (changed_more fleet base n)
    (changed_most fleet base (n + 1) (length fleet.cars) (omega arith)) where
      within : (asks old new a b c d : ℕ) → asks ≤ old + a → new ≤ asks + b → c ≡ a + b → c ≤ d → new ≤ old + d
      within asks old new a b c d p q e m = omega arith

-- and behind a round of it
pub changed_round : (fleet : Cars) (base n asks old new : ℕ) → asks ≤ old + changed_below fleet base n
    → new ≤ asks + changed_at fleet base n → new ≤ old + changed_below fleet base (n + 1)
changed_round fleet base n asks old new p q = round _ _ _ _ _ _ p q (changed_more fleet base n) where
  round : (asks old new a b c : ℕ) → asks ≤ old + a → new ≤ asks + b → c ≡ a + b → new ≤ old + c
  round asks old new a b c p q e = omega arith

-- in the end
pub changed_end : (fleet : Cars) (base n asks old : ℕ) → n ≤ length fleet.cars → asks ≤ old + changed_below fleet base n
    → asks ≤ old + changed fleet base
changed_end fleet base n asks old l p = most _ _ _ _ p (changed_most fleet base n (length fleet.cars) l) where
  most : (asks old a b : ℕ) → asks ≤ old + a → a ≤ b → asks ≤ old + b
  most asks old a b p m = omega arith

-- one vehicle alone
pub asked_changed : (fleet : Cars) (base place stamp asks new : ℕ) → place < length fleet.cars
    → OfCar fleet place (λ (car : Car). stamp ≡ car.stamp) → (stamp ≤ base → ⊥) → new ≤ asks + 1 → new ≤ asks + changed_at fleet base place
asked_changed fleet base place stamp asks new l is n p = go (car_at fleet place l) where
  one : (c : ℕ) → c ≡ 1 → new ≤ asks + c
  one c e = omega arith

  go : (car : Car) × (slice_get fleet.cars place ≡ Some car) → new ≤ asks + changed_at fleet base place
  go c = one (changed_at fleet base place) (ap (changed_of base) c.1
      ∙ cond-true _ _ _ (lt-ltb base c.0.stamp (more stamp c.0.stamp n (is c.0 c.1)))) where
        more : (stamp stamp' : ℕ) → (stamp ≤ base → ⊥) → stamp ≡ stamp' → base < stamp'
        more stamp stamp' n e = on (cases_lt base stamp) where
          on : (base < stamp) ⊎ (stamp ≤ base) → base < stamp'
          on (inl l) = omega arith
          on (inr l) = absurd (n l)

pub asked_moved : (fleet : Cars) (base stamp : ℕ) (e : Candidate) (front : Front) (asks new : ℕ) → e.place < length fleet.cars
    → OfCar fleet e.place (λ (car : Car). stamp ≡ car.stamp) → (base < stamp → ⊥)
    → is_same_front e.front front ≡ false → OfCar fleet e.place (λ (car : Car). front ≡ front_of car.plan fleet.clock) → new ≤ asks + 1
    → new ≤ asks + moved_at fleet base e
asked_moved fleet base stamp e front asks new l is n other now p = go (car_at fleet e.place l) where
  one : (c : ℕ) → c ≡ 1 → new ≤ asks + c
  one c e = omega arith

  go : (car : Car) × (slice_get fleet.cars e.place ≡ Some car) → new ≤ asks + moved_at fleet base e
  go c = one (moved_at fleet base e) (ap (moved_of base fleet.clock e) c.1
      ∙ cond-false _ _ _ (le-ltb base c.0.stamp (less stamp c.0.stamp n (is c.0 c.1))) ∙ cond-false _ _ _ today) where
        today : is_same_front e.front (front_of c.0.plan fleet.clock) ≡ false
        today = subst (λ (f : Front). is_same_front e.front f ≡ false) (now c.0 c.1) other

        less : (stamp stamp' : ℕ) → (base < stamp → ⊥) → stamp ≡ stamp' → stamp' ≤ base
        less stamp stamp' n e = on (cases_lt base stamp) where
          on : (base < stamp) ⊎ (stamp ≤ base) → stamp' ≤ base
          on (inl l) = absurd (n l)
          on (inr l) = omega arith

-- the entries
moved_push : (fleet : Cars) (base : ℕ) (es : List Candidate) (e : Candidate)
    → moved_in fleet base (es ++ e ∷ []) ≡ moved_in fleet base es + moved_at fleet base e
moved_push fleet base [] e = zeros (moved_at fleet base e) where
  zeros : (a : ℕ) → a + 0 ≡ 0 + a
  zeros a = omega arith
moved_push fleet base (x ∷ es) e = turn _ _ _ _ (moved_push fleet base es e) where
  turn : (a b c d : ℕ) → b ≡ c + d → a + b ≡ a + c + d
  turn a b c d p = omega arith

pub moved_more : (fleet : Cars) (base : ℕ) (es : List Candidate) (k : ℕ) (d : Candidate) → k < length es
    → moved_in fleet base (take (k + 1) es) ≡ moved_in fleet base (take k es) + moved_at fleet base (get_or es k d)
moved_more fleet base es k d l = ap (moved_in fleet base) (take_more es k d l) ∙ moved_push fleet base (take k es) (get_or es k d)

pub moved_most : (fleet : Cars) (base : ℕ) (es : List Candidate) (k : ℕ) → moved_in fleet base (take k es) ≤ moved_in fleet base es
moved_most fleet base [] zero = omega arith
moved_most fleet base [] (suc k) = omega arith
moved_most fleet base (e ∷ es) zero = none _ where
  none : (a : ℕ) → 0 ≤ a
  none a = omega arith
moved_most fleet base (e ∷ es) (suc k) = more _ _ _ (moved_most fleet base es k) where
  more : (m a b : ℕ) → a ≤ b → m + a ≤ m + b
  more m a b l = omega arith

-- and in the middle of the loop over them, behind a round of it, and in the end
pub moved_within : (fleet : Cars) (base : ℕ) (es : List Candidate) (k : ℕ) (d : Candidate) (asks old new more : ℕ) → k < length es
    → asks ≤ old + more + moved_in fleet base (take k es)
    → new ≤ asks + moved_at fleet base (get_or es k d) → new ≤ old + (more + moved_in fleet base es)
moved_within fleet base es k d asks old new more l p q = within _ _ _ p q (moved_more fleet base es k d l)
    (moved_most fleet base es (k + 1)) where
      within : (a b c : ℕ) → asks ≤ old + more + a → new ≤ asks + moved_at fleet base (get_or es k d)
          → b ≡ a + moved_at fleet base (get_or es k d) → b ≤ c → new ≤ old + (more + c)
      within a b c p q e m = omega arith

pub moved_round : (fleet : Cars) (base : ℕ) (es : List Candidate) (k : ℕ) (d : Candidate) (asks old new more : ℕ) → k < length es
    → asks ≤ old + more + moved_in fleet base (take k es)
    → new ≤ asks + moved_at fleet base (get_or es k d) → new ≤ old + more + moved_in fleet base (take (k + 1) es)
moved_round fleet base es k d asks old new more l p q = round _ _ p q (moved_more fleet base es k d l) where
  round : (a b : ℕ) → asks ≤ old + more + a → new ≤ asks + moved_at fleet base (get_or es k d)
      → b ≡ a + moved_at fleet base (get_or es k d) → new ≤ old + more + b
  round a b p q e = omega arith

pub moved_end : (fleet : Cars) (base : ℕ) (es : List Candidate) (k : ℕ) (asks old more : ℕ)
    → asks ≤ old + more + moved_in fleet base (take k es) → asks ≤ old + (more + moved_in fleet base es)
moved_end fleet base es k asks old more p = most _ _ p (moved_most fleet base es k) where
  most : (a b : ℕ) → asks ≤ old + more + a → a ≤ b → asks ≤ old + (more + b)
  most a b p m = omega arith

-- what was counted is at most what is priced anew
pub within_redone : (fleet : Cars) (c : Candidates) (entries : List Candidate) (base asks old : ℕ) → entries ≡ c.entries → base ≡ c.base
    → ((k : ℕ) (e : Candidate) → slice_get c.entries k ≡ Some e → e.place < length fleet.cars)
    → ((k l : ℕ) (e f : Candidate) → slice_get c.entries k ≡ Some e → slice_get c.entries l ≡ Some f → e.place ≡ f.place → k ≡ l)
    → asks ≤ old + (changed fleet base + moved_in fleet base entries) → asks ≤ old + redone fleet c
within_redone fleet c entries base asks old same at within once p = least _ _ p (all_redone fleet c within once ∙ sym (both same at)) where
  both : entries ≡ c.entries → base ≡ c.base → changed fleet base + moved_in fleet base entries ≡ changed fleet c.base + moved_in fleet
      c.base c.entries
  both p q = ap (λ (b : ℕ). changed fleet b + moved_in fleet b entries) q
      ∙ ap (λ (es : List Candidate). changed fleet c.base + moved_in fleet c.base es) p

  least : (a b : ℕ) → asks ≤ old + a → b ≡ a → asks ≤ old + b
  least a b p e = omega arith

pub changed_redone : (fleet : Cars) (c : Candidates) (base asks old : ℕ) → base ≡ c.base
    → ((k : ℕ) (e : Candidate) → slice_get c.entries k ≡ Some e → e.place < length fleet.cars)
    → ((k l : ℕ) (e f : Candidate) → slice_get c.entries k ≡ Some e → slice_get c.entries l ≡ Some f → e.place ≡ f.place → k ≡ l)
    → asks ≤ old + changed fleet base → asks ≤ old + redone fleet c
changed_redone fleet c base asks old at within once p = least _ _ _ (subst (λ (b : ℕ). asks ≤ old + changed fleet b) at p)
    (all_redone fleet c within once) where
      least : (a b c : ℕ) → asks ≤ old + a → b ≡ a + c → asks ≤ old + b
      least a b c p e = omega arith
