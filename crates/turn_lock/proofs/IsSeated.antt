-- What a desk's seat is, before and after the steps of a turn.
use Rattle.std.proofs.Common.{◌≡◌, ◌≢◌, ⊎_elim, ℕ, ◌+◌, ◌-◌, ◌^◌, ◌<◌, ◌≤◌, List, [], ◌∷◌, ◌++◌, length, set, refl, sym, ap, ◌∙◌, subst, arith, true, false, Option, Some, None}
use Rattle.std.specs.Prelude.{IsSome, IfSome}
use Rattle.atomic_table.specs.Table.{Me, rest}
use Rattle.atomic_table.specs.Seated.{TableId}
use Rattle.turn_lock.specs.declared.view.Stage.TheVariants.{Free, Joined, Waiting, Entered}
use Rattle.turn_lock.specs.declared.view.View.{View}
use Rattle.turn_lock.specs.declared.view.SeatView.{SeatView}
use Rattle.turn_lock.specs.declared.view.SeatView.TheVariants.{Spent, Living}
use Rattle.turn_lock.specs.Noted.{entries_of, Begins, InFamily, Follows, IsLeft, longer}
use Rattle.turn_lock.specs.Desks.{LockState, DeskState, TurnState, IsJoinOf, own, fresh}
use Rattle.turn_lock.proofs.EntriesOf.{entries_of-append, entries_of-own, entries_of-more}
use Rattle.turn_lock.specs.Views.{is_taken, lock_of, seen_of, list_at, list_of, desk_state, IsFreeAt, IsResting, IsSeated, IsTurn, IsHeld, turn_state}
use Rattle.turn_lock.specs.Steps.{staged, Comes, counted_view, joined, joined_view, free_view, fresh_view, first_view, drawn_view, cut_left, cut_right}
use Rattle.turn_lock.specs.Rule.{IsJoined}

-- the slot in hand, or none
abbrev slot_of : {X : Type 0} → List (ℕ × Option X) → Option X
slot_of [] = None
slot_of (x ∷ xs) = x.1

-- the row of desks with the first one in its place
pub set_more : {A : Type 0} (xs : List A) (x y : A) → 0 < length xs → set (xs ++ y ∷ []) 0 x ≡ set xs 0 x ++ y ∷ []
set_more [] x y h = absurd (omega arith)
set_more (z ∷ xs) x y h = refl

pub none_taken : {X : Type 0} (slot : Option X) → is_taken slot ≡ true → slot ≡ None
none_taken None e = refl
none_taken (Some y) e = absurd (cc)

pub some_left : {X : Type 0} (slot : Option X) → is_taken slot ≡ false → IsSome slot
some_left None e = absurd (cc)
some_left (Some y) e = refl

module _ {E : Type 0} where
  follows : (first size : ℕ) (seen list : List (ℕ × E)) → 0 < size → Begins seen list → ((n : ℕ) → InFamily first size n → entries_of n list ≡ entries_of n seen) → Follows first size seen list
  follows first size seen list full b f = record { begins = b; own = f first (omega arith, omega arith); family = f }

module _ {E O : Type 0} where
  some_lock : (z : TableId) (v : View E O) (lock : LockState O) → ◌≡◌ {A = Option (LockState O)} (Some (record { table = z; desks = v.desks; origin = v.origin })) (Some lock) → ◌≡◌ {A = LockState O} (record { table = z; desks = v.desks; origin = v.origin }) lock
  some_lock z v lock e = cc

  at_free : {X : Type 0} (n f : ℕ) (z : TableId) (lock : LockState O) (p : SeatView E O) → IsFreeAt n f p → lock_of z (p ∷ []) ≡ Some lock → IsSeated {X = X} n f lock (seen_of (p ∷ [])) z (p, [])
  at_free n f z lock Spent h e = absurd h
  at_free n f z lock (Living v) h e = let l = some_lock z v lock e in record {
    view = v;
    table = ap (λ (k : LockState O). k.table) l;
    me_is = refl;
    stage = h.2;
    number = h.0;
    family = h.1;
    desks = ap (λ (k : LockState O). k.desks) l;
    origin = ap (λ (k : LockState O). k.origin) l;
    seen_is = refl;
  }

  -- the seat that a badge gives
  pub seated : {X : Type 0} (n f : ℕ) (z z' : TableId) (lock : LockState O) (ps : List (SeatView E O)) (me : Me X (SeatView E O)) → IsResting n f ps → lock_of z ps ≡ Some lock → z' ≡ z → ps ≡ me.0 ∷ [] → me.1 ≡ []
      → IsSeated n f lock (seen_of ps) z' me
  seated {X} n f z z' lock ps me rest_is lock_is same one held =
      let free : IsFreeAt n f me.0 = (subst (λ (qs : List (SeatView E O)). IsResting n f qs) one rest_is).1 in
      let e : lock_of z (me.0 ∷ []) ≡ Some lock = ap (lock_of z) (sym one) ∙ lock_is in
      let h : IsSeated {X = X} n f lock (seen_of (me.0 ∷ [])) z (me.0, []) = at_free n f z lock me.0 free e in
      subst (λ (k : List (SeatView E O) × TableId × List (ℕ × X)). IsSeated n f lock (seen_of k.0) k.1 (me.0, k.2)) (λ i. (sym one i, sym same i, sym held i)) h

  module _ {X : Type 0} (noted : X → List (ℕ × E)) (IsFrom : O → X → Type 0) where
    -- a turn with the value y, of a desk with these numbers that had seen a list
    pub record Taken (n f : ℕ) (lock : LockState O) (seen : List (ℕ × E)) (z : TableId) (y : X) (me : Me (Option X) (SeatView E O)) : Type 0 where
      pub turn : IsTurn n f (length (noted y)) me
      pub list : list_of me.0 ≡ noted y
      pub origin : IsFrom lock.origin y
      pub found : Follows n f seen (noted y)
      pub few : length (noted y) < 2 ^ 62
      pub held : IsHeld noted IsFrom n f (length (noted y)) me (Some y)
      pub state : desk_state n f z (me.0 ∷ []) ≡ record { number = n; family = f; lock = Some lock; seen = seen }

    pub came : (n f x : ℕ) (lock : LockState O) (seen : List (ℕ × E)) (z : TableId) (me me₁ me₂ : Me (Option X) (SeatView E O)) → (h : IsSeated n f lock seen z me) → me₁ ≡ (staged (Waiting x) me.0, [])
        → ((v : View E O) → me₁ ≡ (Living v, []) → Comes noted IsFrom v x [] me₂) → Comes noted IsFrom (record h.view { stage = Waiting x }) x [] me₂
    came n f x lock seen z me me₁ me₂ h drew then = then (record h.view { stage = Waiting x }) (drew ∙ ap (λ (m : Me (Option X) (SeatView E O)). (staged (Waiting x) m.0, [])) h.me_is)

    -- the slot in hand has the value
    pub some_value : (v : View E O) (x : ℕ) (slot : Option X) (me : Me (Option X) (SeatView E O)) → (h : Comes noted IsFrom v x [] me) → me.1 ≡ (0, slot) ∷ rest me.1 → slot ≡ Some h.1
    some_value v x slot me h is = let e : (0, slot) ∷ rest me.1 ≡ (0, Some h.1) ∷ [] = sym is ∙ ap (λ (m : Me (Option X) (SeatView E O)). m.1) h.2 in ap slot_of e

    pub taken : (n f x : ℕ) (lock : LockState O) (seen : List (ℕ × E)) (z z₂ : TableId) (slot : Option X) (y : X) (me me₂ me₃ : Me (Option X) (SeatView E O)) → (h : IsSeated n f lock seen z me)
        → Comes noted IsFrom (record h.view { stage = Waiting x }) x [] me₂ → z₂ ≡ z → me₂.1 ≡ (0, slot) ∷ rest me₂.1 → me₃ ≡ (me₂.0, (0, None) ∷ rest me₂.1) → slot ≡ Some y
        → Taken n f lock seen z₂ y me₃
    taken n f x lock seen z z₂ slot y me me₂ me₃ h c same slot_is put some_y =
        let w : View E O = record h.view { stage = Entered x c.0 } in
        let e : c.1 ≡ y = let p = some_value (record h.view { stage = Waiting x }) x slot me₂ c slot_is in cc in
        let is : me₃ ≡ (Living w, (0, None) ∷ []) = put ∙ ap (λ (m : Me (Option X) (SeatView E O)). (m.0, (0, None) ∷ rest m.1)) c.2 in
        let list_is : noted y ≡ c.0 = ap noted (sym e) ∙ c.3 in
        let turn : IsTurn n f (length (noted y)) me₃ = record { view = w; ticket = x; list = c.0; me_is = is; stage = refl; number = h.number; family = h.family; counted = ap length list_is; few = c.5; found = subst (λ (k : ℕ × ℕ). Follows k.0 k.1 h.view.seen c.0) (λ i. (h.number i, h.family i)) c.6 } in
        record {
          turn = turn;
          held = record { turn = turn; stands = (list_is, subst (λ (v : X). IsFrom h.view.origin v) e c.4) };
          list = ap (λ (m : Me (Option X) (SeatView E O)). list_of m.0) is ∙ sym list_is;
          origin = subst (λ (k : O × X). IsFrom k.0 k.1) (λ i. (h.origin i, e i)) c.4;
          found = subst (λ (k : ℕ × ℕ × List (ℕ × E) × List (ℕ × E)). Follows k.0 k.1 k.2 k.3) (λ i. (h.number i, h.family i, h.seen_is i, sym list_is i)) c.6;
          few = subst (λ (l : List (ℕ × E)). length l < 2 ^ 62) (sym list_is) c.5;
          state = ap (λ (m : Me (Option X) (SeatView E O)). desk_state n f z₂ (m.0 ∷ [])) is
              ∙ (λ i. record { number = n; family = f; lock = Some (record { table = (same ∙ h.table) i; desks = h.desks i; origin = h.origin i }); seen = h.seen_is i });
        }

    pub takes_turn : (n f x : ℕ) (lock : LockState O) (seen : List (ℕ × E)) (z z₂ : TableId) (slot : Option X) (y : X) (me me₁ me₂ me₃ : Me (Option X) (SeatView E O)) → (h : IsSeated n f lock seen z me) → me₁ ≡ (staged (Waiting x) me.0, [])
        → ((v : View E O) → me₁ ≡ (Living v, []) → Comes noted IsFrom v x [] me₂) → z₂ ≡ z → me₂.1 ≡ (0, slot) ∷ rest me₂.1 → me₃ ≡ (me₂.0, (0, None) ∷ rest me₂.1) → slot ≡ Some y
        → Taken n f lock seen z₂ y me₃
    takes_turn n f x lock seen z z₂ slot y me me₁ me₂ me₃ h drew then same slot_is put some_y =
        taken n f x lock seen z z₂ slot y me me₂ me₃ h (came n f x lock seen z me me₁ me₂ h drew then) same slot_is put some_y

module _ {E O : Type 0} where
  living_of : {X : Type 0} (n f entered : ℕ) (me : Me (Option X) (SeatView E O)) (t : IsTurn n f entered me) → me.0 ≡ Living t.view
  living_of {X} n f entered me t = ap (λ (m : Me (Option X) (SeatView E O)). m.0) t.me_is

  -- the list that contracts see of a turn
  pub turn_list : {X : Type 0} (n f entered : ℕ) (z : TableId) (me : Me (Option X) (SeatView E O)) {Y : Type 0} (slot : Option Y) (held : TurnState E O) (t : IsTurn n f entered me) → turn_state n f z me.0 slot ≡ held → t.list ≡ held.list
  turn_list n f entered z me slot held t is = ap list_at (sym t.stage) ∙ (ap list_of (sym (living_of n f entered me t)) ∙ ap (λ (h : TurnState E O). h.list) is)

  pub turn_left : {X : Type 0} (n f entered : ℕ) (z : TableId) (me : Me (Option X) (SeatView E O)) {Y : Type 0} (slot : Option Y) (held : TurnState E O) (after : List (ℕ × E)) (t : IsTurn n f entered me) → turn_state n f z me.0 slot ≡ held
      → IsLeft held.desk.number held.list after → IsLeft t.view.number t.list after
  turn_left n f entered z me slot held after t is left =
      let num : n ≡ held.desk.number = ap (λ (h : TurnState E O). h.desk.number) is in
      subst (λ (k : ℕ × List (ℕ × E)). IsLeft k.0 k.1 after) (λ i. ((sym num ∙ sym t.number) i, sym (turn_list n f entered z me slot held t is) i)) left

  -- which lock a turn is at
  pub turn_lock : {X : Type 0} (n f entered : ℕ) (z : TableId) (me : Me (Option X) (SeatView E O)) {Y : Type 0} (slot : Option Y) (held : TurnState E O) (lock : LockState O) (t : IsTurn n f entered me) → turn_state n f z me.0 slot ≡ held → held.desk.lock ≡ Some lock
      → ◌≡◌ {A = LockState O} (record { table = z; desks = t.view.desks; origin = t.view.origin }) lock
  turn_lock n f entered z me slot held lock t is at = some_lock z t.view lock
      (ap (λ (p : SeatView E O). lock_of z (p ∷ [])) (sym (living_of n f entered me t)) ∙ (ap (λ (h : TurnState E O). h.desk.lock) is ∙ at))

  -- what a turn does to the desk's own entries, and to those of its family
  pub record Adds (old : DeskState E O) (list after : List (ℕ × E)) : Type 0 where
    pub same : after ≡ list → entries_of old.number after ≡ own old
    pub more : (e : E) → after ≡ list ++ (old.number, e) ∷ [] → entries_of old.number after ≡ own old ++ e ∷ []
    pub others : (n : ℕ) → InFamily old.number old.family n → n ≢ old.number → entries_of n after ≡ entries_of n old.seen

  pub adds : (old : DeskState E O) (list after : List (ℕ × E)) → Follows old.number old.family old.seen list → IsLeft old.number list after → Adds old list after
  adds old list after found left = record {
    same = λ e. ap (entries_of old.number) e ∙ found.own;
    more = λ x e. ap (entries_of old.number) e ∙ (entries_of-append old.number list ((old.number, x) ∷ []) ∙ (λ i. found.own i ++ entries_of-own old.number x i));
    others = λ n within other. ⊎_elim
        (λ (e : after ≡ list). ap (entries_of n) e ∙ found.family n within)
        (λ (p : (x : E) × (after ≡ list ++ (old.number, x) ∷ [])). ap (entries_of n) p.1 ∙ (entries_of-more n old.number p.0 list (λ e. other (sym e)) ∙ found.family n within)) left;
  }

  -- the same of what contracts see of a turn
  pub turn_adds : {X : Type 0} (n f entered : ℕ) (z : TableId) (me : Me (Option X) (SeatView E O)) {Y : Type 0} (slot : Option Y) (held : TurnState E O) (after : List (ℕ × E)) (t : IsTurn n f entered me) → turn_state n f z me.0 slot ≡ held
      → IsLeft held.desk.number held.list after → Adds held.desk held.list after
  turn_adds n f entered z me slot held after t is left =
      let seen : t.view.seen ≡ held.desk.seen = ap (λ (p : SeatView E O). seen_of (p ∷ [])) (sym (living_of n f entered me t)) ∙ ap (λ (h : TurnState E O). h.desk.seen) is in
      adds held.desk held.list after (subst (λ (k : ℕ × ℕ × List (ℕ × E) × List (ℕ × E)). Follows k.0 k.1 k.2 k.3) (λ i. ((is i).desk.number, (is i).desk.family, seen i, turn_list n f entered z me slot held t is i)) t.found) left

  -- what the value stands for, and its origin as the lock has it
  pub stands_for : {X : Type 0} (noted : X → List (ℕ × E)) (IsFrom : O → X → Type 0) (n f entered : ℕ) (z : TableId) (me : Me (Option X) (SeatView E O)) (slot : Option X) (y : X) (held : TurnState E O) → IsHeld noted IsFrom n f entered me slot
      → turn_state n f z me.0 slot ≡ held → slot ≡ Some y → (noted y ≡ held.list) × IfSome held.desk.lock (λ (l : LockState O). IsFrom l.origin y)
  stands_for {X} noted IsFrom n f entered z me slot y held h is some_y =
      let t = h.turn in let s : (noted y ≡ t.list) × IsFrom t.view.origin y = subst (λ (x : Option X). IfSome x (λ (v : X). (noted v ≡ t.list) × IsFrom t.view.origin v)) some_y h.stands in
      let lock : lock_of z (Living t.view ∷ []) ≡ held.desk.lock = ap (λ (p : SeatView E O). lock_of z (p ∷ [])) (sym (living_of n f entered me t)) ∙ ap (λ (k : TurnState E O). k.desk.lock) is in (
        s.0 ∙ turn_list n f entered z me slot held t is,
        subst (λ (l : Option (LockState O)). IfSome l (λ (k : LockState O). IsFrom k.origin y)) lock s.1,
      )

  module _ {X : Type 0} (noted : X → List (ℕ × E)) where
    -- the seat after the count step and the plain write
    pub put_back : (n f entered : ℕ) (y : X) (slot : Option X) (me me₁ me₂ : Me (Option X) (SeatView E O)) (t : IsTurn n f entered me)
        → ((v : View E O) (x : ℕ) (list : List (ℕ × E)) (y' : X) → me.0 ≡ Living v → v.stage ≡ Entered x list → ◌≡◌ {A = Option X} (Some y) (Some y') → me₁ ≡ (Living (counted_view x (noted y') v), me.1))
        → me₂ ≡ (me₁.0, (0, Some y) ∷ rest me₁.1) → (me₁ ≡ (Living (counted_view t.ticket (noted y) t.view), (0, None) ∷ [])) × (me₂ ≡ (Living (counted_view t.ticket (noted y) t.view), (0, Some y) ∷ []))
    put_back n f entered y slot me me₁ me₂ t then put =
        let a : me₁ ≡ (Living (counted_view t.ticket (noted y) t.view), me.1) = then t.view t.ticket t.list y (living_of n f entered me t) t.stage refl in
        let b : me₁ ≡ (Living (counted_view t.ticket (noted y) t.view), (0, None) ∷ []) = a ∙ ap (λ (m : Me (Option X) (SeatView E O)). (Living (counted_view t.ticket (noted y) t.view), m.1)) t.me_is in
        (b, put ∙ ap (λ (m : Me (Option X) (SeatView E O)). (m.0, (0, Some y) ∷ rest m.1)) b)

    -- the slot in hand was empty
    pub slot_there : (p : SeatView E O) (me : Me (Option X) (SeatView E O)) {slot : Option X} → me ≡ (p, (0, None) ∷ []) → me.1 ≡ (0, slot) ∷ rest me.1 → slot ≡ None
    slot_there p me {slot} is at = let e : (0, slot) ∷ rest me.1 ≡ (0, None) ∷ [] = sym at ∙ ap (λ (m : Me (Option X) (SeatView E O)). m.1) is in ap slot_of e

    -- the desk after a turn
    pub left_desk : (n f entered : ℕ) (z z' : TableId) (y : X) (me me₃ : Me (Option X) (SeatView E O)) (views : List (SeatView E O)) {Y : Type 0} (slot : Option Y) (held : TurnState E O) (lock : LockState O) (t : IsTurn n f entered me) → turn_state n f z me.0 slot ≡ held → held.desk.lock ≡ Some lock
        → z' ≡ z → me₃ ≡ (staged Free (Living (counted_view t.ticket (noted y) t.view)), []) → views ≡ me₃.0 ∷ [] → IsResting n f views × (desk_state n f z' views ≡ record held.desk { seen = noted y })
    left_desk n f entered z z' y me me₃ views slot held lock t is at same free one =
        let w : View E O = record t.view { seen = noted y; stage = Free } in
        let e : views ≡ Living w ∷ [] = one ∙ ap (λ (m : Me (Option X) (SeatView E O)). m.0 ∷ []) free in
        let l = turn_lock n f entered z me slot held lock t is at in (
          subst (λ (ps : List (SeatView E O)). IsResting n f ps) (sym e) (refl, (t.number, t.family, refl)),
          ap (desk_state n f z') e ∙ (λ i. record {
            number = (is i).desk.number;
            family = (is i).desk.family;
            lock = (ap (λ (k : TableId). Some (record { table = k; desks = w.desks; origin = w.origin })) same ∙ (ap (λ (k : LockState O). Some k) l ∙ sym at)) i;
            seen = noted y;
          }),
        )

  -- a desk after another was folded into it
  pub record Folded (n f n' f' : ℕ) (lock : LockState O) (seen seen' : List (ℕ × E)) (z : TableId) (views : List (SeatView E O)) : Type 0 where
    pub low : f + f' ≤ 65536
    pub resting : IsResting n (f + f') views
    pub state : IsJoinOf (record { number = n; family = f; lock = Some lock; seen = seen }) (record { number = n'; family = f'; lock = Some lock; seen = seen' }) (desk_state n (f + f') z views)

  -- the two seats as one
  pub folds : {X : Type 0} (n f n' f' : ℕ) (lock : LockState O) (seen seen' : List (ℕ × E)) (z z' : TableId) (me me' me₁ : Me X (SeatView E O)) → (h : IsSeated n f lock seen z me) → (h' : IsSeated n' f' lock seen' z' me') → me₁ ≡ (joined me.0 me'.0, me.1)
      → me₁ ≡ (Living (joined_view h.view h'.view), [])
  folds {X} n f n' f' lock seen seen' z z' me me' me₁ h h' is =
      is ∙ (λ i. (joined ((h.me_is i).0) ((h'.me_is i).0), (h.me_is i).1))

  pub folded : {X : Type 0} (n f n' f' : ℕ) (lock : LockState O) (seen seen' : List (ℕ × E)) (z z' z₂ : TableId) (me me' me₁ me₂ : Me X (SeatView E O)) (views : List (SeatView E O)) → (h : IsSeated n f lock seen z me) → (h' : IsSeated n' f' lock seen' z' me') → n' ≡ n + f
      → me₁ ≡ (joined me.0 me'.0, me.1) → ((v : View E O) (xs : List (ℕ × E)) (k : ℕ) (ys : List (ℕ × E)) → me₁.0 ≡ Living v → v.stage ≡ Joined xs k ys
      → (me₂ ≡ (Living (free_view v), me₁.1)) × (v.number + v.family ≤ 65536) × IsJoined v.number v.family v.seen xs k ys) → z₂ ≡ z → views ≡ me₂.0 ∷ [] → Folded n f n' f' lock seen seen' z₂ views
  folded {X} n f n' f' lock seen seen' z z' z₂ me me' me₁ me₂ views h h' next is then same one =
      let v : View E O = h.view in let w : View E O = h'.view in let both : View E O = joined_view v w in
      let e = folds n f n' f' lock seen seen' z z' me me' me₁ h h' is in
      let t = then both v.seen v.family w.seen (ap (λ (m : Me X (SeatView E O)). m.0) e) refl in
      let there : views ≡ Living (free_view both) ∷ [] = one ∙ ap (λ (m : Me X (SeatView E O)). m.0 ∷ []) t.0 in
      let num = h.number in let fam = h.family in let num' = h'.number in let fam' = h'.family in
      let sum : v.family + w.family ≡ f + f' = λ i. fam i + fam' i in
      let list : longer v.seen w.seen ≡ longer seen seen' = λ i. longer (h.seen_is i) (h'.seen_is i) in
      let j = t.2 in let size : (v.family + w.family) - v.family ≡ w.family = omega arith in
      let start : v.number + v.family ≡ w.number = omega arith in
      record {
        low = let l = t.1 in omega arith;
        resting = subst (λ (ps : List (SeatView E O)). IsResting n (f + f') ps) (sym there) (refl, (num, sum, refl));
        state = subst (λ (ps : List (SeatView E O)). IsJoinOf (record { number = n; family = f; lock = Some lock; seen = seen }) (record { number = n'; family = f'; lock = Some lock; seen = seen' }) (desk_state n (f + f') z₂ ps)) (sym there) record {
          number = refl;
          family = refl;
          lock = λ i. Some (record { table = (same ∙ h.table) i; desks = h.desks i; origin = h.origin i });
          seen = list;
          ours = subst (λ (k : ℕ × ℕ × List (ℕ × E)). Follows k.0 k.1 k.2 (longer v.seen w.seen)) (λ i. (num i, fam i, h.seen_is i)) (follows v.number v.family v.seen (longer v.seen w.seen) j.0 j.2 j.4);
          theirs = subst (λ (k : ℕ × ℕ × List (ℕ × E)). Follows k.0 k.1 k.2 (longer v.seen w.seen)) (λ i. ((start ∙ num') i, (size ∙ fam') i, h'.seen_is i)) (follows (v.number + v.family) ((v.family + w.family) - v.family) w.seen (longer v.seen w.seen) (let k = j.1 in omega arith) j.3 j.5);
        };
      }

module _ {E O : Type 0} where
  -- the first seat after it drew a number
  pub drawn_first : {X : Type 0} (lock : LockState O) (d n : ℕ) (me me₁ : Me X (SeatView E O)) → me ≡ (Living (first_view lock d), []) → ((v : View E O) → me ≡ (Living v, []) → (me₁ ≡ (Living (drawn_view n v), [])) × (n ≡ v.drawn + 1))
      → (me₁ ≡ (Living (drawn_view (d + 1) (first_view lock d)), [])) × (n ≡ d + 1)
  drawn_first {X} lock d n me me₁ is then = let t = then (first_view lock d) is in (t.0 ∙ ap (λ (k : ℕ). (Living (drawn_view k (first_view lock d)), [])) t.1, t.1)

  -- the first seat and the new one, after they were split
  pub split_first : {X : Type 0} (lock : LockState O) (d : ℕ) (me₁ me₂ : Me X (SeatView E O)) → me₁ ≡ (Living (drawn_view (d + 1) (first_view lock d)), []) → me₂ ≡ (cut_left me₁.0, me₁.1) → me₂ ≡ (Living (first_view lock (d + 1)), [])
  split_first {X} lock d me₁ me₂ is cut = cut ∙ ap (λ (m : Me X (SeatView E O)). (cut_left m.0, m.1)) is

  pub split_next : {X Y : Type 0} (lock : LockState O) (d n : ℕ) (z : TableId) (me₁ : Me X (SeatView E O)) (next : Me Y (SeatView E O)) (views : List (SeatView E O)) → me₁ ≡ (Living (drawn_view (d + 1) (first_view lock d)), []) → next ≡ (cut_right me₁.0, [])
      → views ≡ next.0 ∷ [] → n ≡ d + 1 → z ≡ lock.table → IsResting n 1 views × (desk_state n 1 z views ≡ fresh lock (d + 1))
  split_next {X} {Y} lock d n z me₁ next views is cut one num table =
      let u : View E O = fresh_view (d + 1) (first_view lock d) in
      let e : views ≡ Living u ∷ [] = one ∙ (ap (λ (m : Me Y (SeatView E O)). m.0 ∷ []) cut ∙ ap (λ (m : Me X (SeatView E O)). cut_right m.0 ∷ []) is) in (
        subst (λ (ps : List (SeatView E O)). IsResting n 1 ps) (sym e) (refl, (sym num, refl, refl)),
        ap (desk_state n 1 z) e ∙ (λ i. record { number = num i; family = 1; lock = Some (record { table = table i; desks = lock.desks; origin = lock.origin }); seen = [] }),
      )

  pub first_desk : {X : Type 0} (lock : LockState O) (d : ℕ) (z : TableId) (me : Me X (SeatView E O)) (views : List (SeatView E O)) → me ≡ (Living (first_view lock d), []) → views ≡ me.0 ∷ [] → z ≡ lock.table
      → IsResting 0 1 views × (desk_state 0 1 z views ≡ fresh lock 0)
  first_desk {X} lock d z me views is one table =
      let e : views ≡ Living (first_view lock d) ∷ [] = one ∙ ap (λ (m : Me X (SeatView E O)). m.0 ∷ []) is in (
        subst (λ (ps : List (SeatView E O)). IsResting 0 1 ps) (sym e) (refl, (refl, refl, refl)),
        ap (desk_state 0 1 z) e ∙ (λ i. record { number = 0; family = 1; lock = Some (record { table = table i; desks = lock.desks; origin = lock.origin }); seen = [] }),
      )
