use Rattle.std.proofs.Common.{◌≡◌, ℕ, zero, suc, Bool, true, false, cond, not, ◌||◌, List, [], ◌∷◌, ◌++◌, Option, Some, None, is_some, sym, refl, ap, ◌∙◌, subst}
use mathlib.Core.Bool.{true≢false}
use Rattle.std.specs.Prelude.{slice_get}
use Rattle.std.proofs.lemmas.Bool.{eq-eqb, eqb-true, ne_eqb}
use Rattle.ride_base.specs.declared.numbers.RequestNo.{RequestNo}
use Rattle.road_graph.specs.Roads.{Roads}
use Rattle.stop_schedule.specs.declared.request.Request.{Request}
use Rattle.insertion_cost.specs.declared.decision.Decision.TheVariants.{Assigned as IsAssigned, Nobody}
use Rattle.board_core.specs.declared.entry.Advanced.TheVariants.{Moved, Back as Behind}
use Rattle.board_core.specs.declared.entry.Cancelled.TheVariants.{Removed, Refused as Declined}
use Rattle.board_core.specs.declared.entry.Entry.{Entry}
use Rattle.board_core.specs.declared.entry.Entry.TheVariants.{Submit, Claim, Back, Commit, Advance, Cancel, Shut}
use Rattle.board_core.specs.declared.entry.Reason.TheVariants.{Closed, Place, Riders, Moment, Repeated}
use Rattle.board_core.specs.declared.entry.Submitted.TheVariants.{Accepted, Refused}
use Rattle.board_core.specs.Boards.{Board, Waiting, is_number, is_unheld, waiting_in, waiting_of, answer_of, was_accepted, unheld_in, with_holder, without}
use Rattle.board_core.specs.NotedLaws.{HistoriesKeepNumbersApart}
use Rattle.board_core.specs.Steps.{Step, refusal}
use Rattle.board_core.specs.WaitingLaws.{HaveOwnNumbers}
use Rattle.board_core.proofs.Consistent.{passes}
use Rattle.board_core.proofs.Lookups.{found}

-- Requests that wait, by their numbers.

pub same_number : (a b : RequestNo) → is_number a b ≡ true → a ≡ b
same_number a b h = ap (λ (n : ℕ). let r : RequestNo = record { 0 = n } in r) (eqb-true a.0 b.0 h)

pub is_itself : (a : RequestNo) → is_number a a ≡ true
is_itself a = eq-eqb a.0 a.0 refl

-- a number that is the one isn't the other
pub apart_number : (a n m : RequestNo) → is_number a n ≡ true → (m ≡ n → ⊥) → is_number a m ≡ false
apart_number a n m h apart = ne_eqb a.0 m.0 (λ e. apart (ap (λ (k : ℕ). let r : RequestNo = record { 0 = k } in r) (sym e) ∙ same_number a n h))

pub appended : (xs : List Waiting) (y w : Waiting) (n : RequestNo) → waiting_in xs n ≡ Some w → waiting_in (xs ++ y ∷ []) n ≡ Some w
appended [] y w n h = cc
appended (x ∷ xs) y w n h = on (is_number x.request.no n) h (appended xs y w n)
  where
    on : (b : Bool) → cond b (Some x) (waiting_in xs n) ≡ Some w → (waiting_in xs n ≡ Some w → waiting_in (xs ++ y ∷ []) n ≡ Some w)
        → cond b (Some x) (waiting_in (xs ++ y ∷ []) n) ≡ Some w
    on true h rest = h
    on false h rest = rest h

-- another number's request keeps its holder
pub held_other : (xs : List Waiting) (n m : RequestNo) (holder : Option ℕ) → (m ≡ n → ⊥) → waiting_in (with_holder n holder xs) m ≡ waiting_in xs m
held_other [] n m holder apart = refl
held_other (x ∷ xs) n m holder apart = on (is_number x.request.no n) refl (held_other xs n m holder apart)
  where
    on : (b : Bool) → is_number x.request.no n ≡ b → waiting_in (with_holder n holder xs) m ≡ waiting_in xs m
        → cond (is_number (cond b (record x { holder = holder }) x).request.no m) (Some (cond b (record x { holder = holder }) x)) (waiting_in (with_holder n holder xs) m)
        ≡ cond (is_number x.request.no m) (Some x) (waiting_in xs m)
    on true e rest = rw (apart_number x.request.no n m e apart) rest
    on false e rest = ap (λ (o : Option Waiting). cond (is_number x.request.no m) (Some x) o) rest

-- that of the number itself has the new one
pub held_now : (xs : List Waiting) (n : RequestNo) (holder : Option ℕ) (w : Waiting) → waiting_in xs n ≡ Some w → waiting_in (with_holder n holder xs) n ≡ Some (record w { holder = holder })
held_now [] n holder w h = cc
held_now (x ∷ xs) n holder w h = on (is_number x.request.no n) refl h (held_now xs n holder w)
  where
    on : (b : Bool) → is_number x.request.no n ≡ b → cond b (Some x) (waiting_in xs n) ≡ Some w
        → (waiting_in xs n ≡ Some w → waiting_in (with_holder n holder xs) n ≡ Some (record w { holder = holder }))
        → cond (is_number (cond b (record x { holder = holder }) x).request.no n) (Some (cond b (record x { holder = holder }) x)) (waiting_in (with_holder n holder xs) n)
        ≡ Some (record w { holder = holder })
    on true e h rest = let q : x ≡ w = cc in rw e (ap (λ (v : Waiting). let u : Waiting = record v { holder = holder } in Some u) q)
    on false e h rest = rw e (rest h)

-- another number's request stays
pub left_other : (xs : List Waiting) (n m : RequestNo) → (m ≡ n → ⊥) → waiting_in (without n xs) m ≡ waiting_in xs m
left_other [] n m apart = refl
left_other (x ∷ xs) n m apart = on (is_number x.request.no n) refl (left_other xs n m apart)
  where
    on : (b : Bool) → is_number x.request.no n ≡ b → waiting_in (without n xs) m ≡ waiting_in xs m
        → waiting_in (cond (not b) (x ∷ without n xs) (without n xs)) m ≡ cond (is_number x.request.no m) (Some x) (waiting_in xs m)
    on true e rest = rw (apart_number x.request.no n m e apart) rest
    on false e rest = ap (λ (o : Option Waiting). cond (is_number x.request.no m) (Some x) o) rest

-- that of the number itself is gone
pub left_none : (xs : List Waiting) (n : RequestNo) → waiting_in (without n xs) n ≡ None
left_none [] n = refl
left_none (x ∷ xs) n = on (is_number x.request.no n) refl (left_none xs n)
  where
    on : (b : Bool) → is_number x.request.no n ≡ b → waiting_in (without n xs) n ≡ None → waiting_in (cond (not b) (x ∷ without n xs) (without n xs)) n ≡ None
    on true e rest = rest
    on false e rest = rw e rest

-- a number that doesn't wait
pub held_none : (xs : List Waiting) (n m : RequestNo) (holder : Option ℕ) → waiting_in xs m ≡ None → waiting_in (with_holder n holder xs) m ≡ None
held_none [] n m holder h = refl
held_none (x ∷ xs) n m holder h = on (is_number x.request.no n) (is_number x.request.no m) refl h (held_none xs n m holder)
  where
    on : (b c : Bool) → is_number x.request.no m ≡ c → cond c (Some x) (waiting_in xs m) ≡ None → (waiting_in xs m ≡ None → waiting_in (with_holder n holder xs) m ≡ None)
        → cond (is_number (cond b (record x { holder = holder }) x).request.no m) (Some (cond b (record x { holder = holder }) x)) (waiting_in (with_holder n holder xs) m) ≡ None
    on b true e h rest = cc
    on true false e h rest = rw e (rest h)
    on false false e h rest = rw e (rest h)

left_without : (xs : List Waiting) (n m : RequestNo) → waiting_in xs m ≡ None → waiting_in (without n xs) m ≡ None
left_without [] n m h = refl
left_without (x ∷ xs) n m h = on (is_number x.request.no n) (is_number x.request.no m) refl h (left_without xs n m)
  where
    on : (b c : Bool) → is_number x.request.no m ≡ c → cond c (Some x) (waiting_in xs m) ≡ None → (waiting_in xs m ≡ None → waiting_in (without n xs) m ≡ None)
        → waiting_in (cond (not b) (x ∷ without n xs) (without n xs)) m ≡ None
    on b true e h rest = cc
    on true false e h rest = rest h
    on false false e h rest = rw e (rest h)

not_appended : (xs : List Waiting) (y : Waiting) (m : RequestNo) → (y.request.no ≡ m → ⊥) → waiting_in xs m ≡ None → waiting_in (xs ++ y ∷ []) m ≡ None
not_appended [] y m apart h = rw (ne_eqb y.request.no.0 m.0 (λ e. apart (ap (λ (k : ℕ). let r : RequestNo = record { 0 = k } in r) e))) refl
not_appended (x ∷ xs) y m apart h = on (is_number x.request.no m) h (not_appended xs y m apart)
  where
    on : (c : Bool) → cond c (Some x) (waiting_in xs m) ≡ None → (waiting_in xs m ≡ None → waiting_in (xs ++ y ∷ []) m ≡ None)
        → cond c (Some x) (waiting_in (xs ++ y ∷ []) m) ≡ None
    on true h rest = cc
    on false h rest = rest h

-- ---- no two of one number

apart_appended : (xs : List Waiting) (y : Waiting) → waiting_in xs y.request.no ≡ None → HaveOwnNumbers xs → HaveOwnNumbers (xs ++ y ∷ [])
apart_appended [] y h own = (refl, tt)
apart_appended (x ∷ xs) y h own = on (is_number x.request.no y.request.no) refl h (λ h. apart_appended xs y h own.1)
  where
    on : (b : Bool) → is_number x.request.no y.request.no ≡ b → cond b (Some x) (waiting_in xs y.request.no) ≡ None
        → (waiting_in xs y.request.no ≡ None → HaveOwnNumbers (xs ++ y ∷ [])) → HaveOwnNumbers (x ∷ (xs ++ y ∷ []))
    on true e h rest = cc
    on false e h rest = (
      not_appended xs y x.request.no (λ same. absurd (true≢false (sym (subst (λ (n : RequestNo). is_number n y.request.no ≡ true) same (is_itself y.request.no)) ∙ e))) own.0,
      rest h,
    )

same_request : (number : RequestNo) (holder : Option ℕ) (w : Waiting) (b : Bool) → (cond b (record w { holder = holder }) w).request ≡ w.request
same_request number holder w true = refl
same_request number holder w false = refl

apart_held : (xs : List Waiting) (n : RequestNo) (holder : Option ℕ) → HaveOwnNumbers xs → HaveOwnNumbers (with_holder n holder xs)
apart_held [] n holder own = tt
apart_held (x ∷ xs) n holder own = (
  subst (λ (r : Request). waiting_in (with_holder n holder xs) r.no ≡ None) (sym (same_request n holder x (is_number x.request.no n))) (held_none xs n x.request.no holder own.0),
  apart_held xs n holder own.1,
)

apart_left : (xs : List Waiting) (n : RequestNo) → HaveOwnNumbers xs → HaveOwnNumbers (without n xs)
apart_left [] n own = tt
apart_left (x ∷ xs) n own = on (not (is_number x.request.no n)) (apart_left xs n own.1)
  where
    on : (b : Bool) → HaveOwnNumbers (without n xs) → HaveOwnNumbers (cond b (x ∷ without n xs) (without n xs))
    on true rest = (left_without xs n x.request.no own.0, rest)
    on false rest = rest

-- what is accepted doesn't wait yet
new_number : (b : Board) (r : Request) → refusal b r ≡ None → waiting_of b r.no ≡ None
new_number b r h =
    let e = (passes _ Closed _ h).1 in let f = (passes _ Place _ e).1 in let i = (passes _ Riders _ f).1 in let j = (passes _ Moment _ i).1 in
    none (waiting_of b r.no) (is_some (answer_of b r.no)) (passes (was_accepted b r.no) Repeated _ j).0
  where
    none : (o : Option Waiting) (a : Bool) → (is_some o || a) ≡ false → o ≡ None
    none None a h = refl
    none (Some w) a h = cc

pub step_apart : (g : Roads) (old : Board) (e : Entry) (new : Board) → Step g old e new → HaveOwnNumbers old.waiting → HaveOwnNumbers new.waiting
step_apart g old (Submit q Accepted) new step own = subst (λ (b : Board). HaveOwnNumbers b.waiting) (sym step.1) (apart_appended old.waiting (record { request = q; holder = None }) (new_number old q step.0) own)
step_apart g old (Submit q (Refused reason)) new step own = subst (λ (b : Board). HaveOwnNumbers b.waiting) (sym step.1) own
step_apart g old (Claim number desk) new step own = subst (λ (b : Board). HaveOwnNumbers b.waiting) (sym step.3) (apart_held old.waiting number (Some desk) own)
step_apart g old (Back number) new step own = subst (λ (b : Board). HaveOwnNumbers b.waiting) (sym step.3) (apart_held old.waiting number None own)
step_apart g old (Commit number (IsAssigned a)) new step own = subst (λ (b : Board). HaveOwnNumbers b.waiting) (sym step.leads_to) (apart_left old.waiting number own)
step_apart g old (Commit number Nobody) new step own = subst (λ (b : Board). HaveOwnNumbers b.waiting) (sym step.leads_to) (apart_left old.waiting number own)
step_apart g old (Advance now (Moved served)) new step own = subst (λ (b : Board). HaveOwnNumbers b.waiting) (sym step.2) own
step_apart g old (Advance now (Behind clock)) new step own = subst (λ (b : Board). HaveOwnNumbers b.waiting) (sym step.2) own
step_apart g old (Cancel number (Removed x)) new step own = subst (λ (b : Board). HaveOwnNumbers b.waiting) (sym step.leads_to) own
step_apart g old (Cancel number (Declined reason)) new step own = subst (λ (b : Board). HaveOwnNumbers b.waiting) (sym step.1) own
step_apart g old Shut new step own = subst (λ (b : Board). HaveOwnNumbers b.waiting) (sym step.1) own

pub histories_apart : HistoriesKeepNumbersApart
histories_apart g first [] last legal own = subst (λ (b : Board). HaveOwnNumbers b.waiting) (sym legal) own
histories_apart g first (e ∷ entries) last legal own = histories_apart g legal.0 entries last legal.2 (step_apart g first e legal.0 legal.1 own)

-- what stands in a list waits
waits_not : (xs : List Waiting) (w : Waiting) (k : ℕ) → slice_get xs k ≡ Some w → waiting_in xs w.request.no ≡ None → ⊥
waits_not [] w k at none = cc
waits_not (y ∷ ys) w k at none = by (is_number y.request.no w.request.no) refl none k at (λ k at none. waits_not ys w k at none)
  where
    by : (c : Bool) → is_number y.request.no w.request.no ≡ c → cond c (Some y) (waiting_in ys w.request.no) ≡ None → (k : ℕ) → slice_get (y ∷ ys) k ≡ Some w
        → ((k : ℕ) → slice_get ys k ≡ Some w → waiting_in ys w.request.no ≡ None → ⊥) → ⊥
    by true f none k at rest = cc
    by false f none zero at rest = let q : y ≡ w = cc in true≢false (sym (subst (λ (v : Waiting). is_number v.request.no w.request.no ≡ true) (sym q) (is_itself w.request.no)) ∙ f)
    by false f none (suc k) at rest = rest k at none

-- the oldest request that none holds isn't one that a desk holds
pub oldest_apart : (waiting : List Waiting) (w : Waiting) (r : Request) (desk : ℕ) → HaveOwnNumbers waiting → unheld_in waiting ≡ Some w
    → waiting_in waiting r.no ≡ Some (record { request = r; holder = Some desk }) → r.no ≡ w.request.no → ⊥
oldest_apart [] w r desk own oldest h same = cc
oldest_apart (x ∷ xs) w r desk own oldest h same = on (is_unheld x) (is_number x.request.no r.no) refl refl oldest h (λ oldest h. oldest_apart xs w r desk own.1 oldest h same)
  where
    held : Waiting
    held = record { request = r; holder = Some desk }

    on : (u c : Bool) → is_unheld x ≡ u → is_number x.request.no r.no ≡ c → cond u (Some x) (unheld_in xs) ≡ Some w → cond c (Some x) (waiting_in xs r.no) ≡ Some held
        → (unheld_in xs ≡ Some w → waiting_in xs r.no ≡ Some held → ⊥) → ⊥
    on true true e f oldest h rest = let q : x ≡ held = cc in true≢false (sym e ∙ ap is_unheld q)
    on true false e f oldest h rest = let q : x ≡ w = cc in true≢false (sym (subst (λ (n : RequestNo). is_number n r.no ≡ true) (same ∙ ap (λ (v : Waiting). v.request.no) (sym q)) (is_itself r.no)) ∙ f)
    on false true e f oldest h rest =
        let n : x.request.no ≡ w.request.no = same_number x.request.no r.no f ∙ same in
        let stood = found is_unheld xs w oldest in
        waits_not xs w stood.0 stood.1 (subst (λ (n : RequestNo). waiting_in xs n ≡ None) n own.0)
    on false false e f oldest h rest = rest oldest h
