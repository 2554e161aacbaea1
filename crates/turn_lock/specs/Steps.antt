-- What each step tells the desk that makes it: of its place and the slots in its hand before and after.
use Rattle.std.specs.Prelude.{◌≡◌, ◌≢◌, ℕ, ◌+◌, ◌^◌, ◌<◌, ◌≤◌, List, [], ◌∷◌, length, Option, Some, None}
use Rattle.atomic_table.specs.Table.{Me, Step}
use Rattle.atomic_table.specs.declared.shared.Seat.{Seat}
use mathlib.Core.Option.{some}
use Rattle.turn_lock.specs.declared.view.Stage.{Stage}
use Rattle.turn_lock.specs.declared.view.Stage.TheVariants.{Free, Drawn, Joined, Waiting, Entered, Counted}
use Rattle.turn_lock.specs.declared.view.View.{View}
use Rattle.turn_lock.specs.declared.view.SeatView.{SeatView}
use Rattle.turn_lock.specs.declared.view.SeatView.TheVariants.{Spent, Living}
use Rattle.turn_lock.specs.Noted.{Follows, IsLeft, longer}
use Rattle.turn_lock.specs.Rule.{IsJoined}
use Rattle.turn_lock.specs.Desks.{DeskState, LockState, fresh}

module _ {E : Type 0} where
  -- the number in a stage that drew one
  abbrev pub number_drawn : Stage E → ℕ
  number_drawn (Drawn d) = d
  number_drawn _ = 0

module _ {E O : Type 0} where
  -- a living desk in this stage, with these slots in its hand
  abbrev pub IsIn : {X : Type 0} → Me X (SeatView E O) → List (ℕ × X) → Stage E → Type 0
  IsIn me held stage = (v : View E O) × (me ≡ (Living v, held)) × (v.stage ≡ stage)

  -- the same desk in another stage
  abbrev pub staged : Stage E → SeatView E O → SeatView E O
  staged stage Spent = Spent
  staged stage (Living v) = Living (record v { stage = stage })

  -- the desk has seen the list, and its count step is made
  abbrev pub counted_view : ℕ → List (ℕ × E) → View E O → View E O
  counted_view x list v = record v { seen = list; stage = Counted x }

  abbrev pub drawn_view : ℕ → View E O → View E O
  drawn_view d v = record v { drawn = v.drawn + 1; stage = Drawn d }

  abbrev pub free_view : View E O → View E O
  free_view v = record v { stage = Free }

  -- a new desk, which has seen nothing
  abbrev pub fresh_view : ℕ → View E O → View E O
  fresh_view d v = record { number = d; family = 1; drawn = 0; desks = v.desks; origin = v.origin; seen = []; stage = Free }

  abbrev pub cut_left : SeatView E O → SeatView E O
  cut_left Spent = Spent
  cut_left (Living v) = Living (free_view v)

  abbrev pub cut_right : SeatView E O → SeatView E O
  cut_right Spent = Spent
  cut_right (Living v) = Living (fresh_view (number_drawn v.stage) v)

  abbrev pub joined_view : View E O → View E O → View E O
  joined_view v w = record v { family = v.family + w.family; seen = longer v.seen w.seen; stage = Joined v.seen v.family w.seen }

  -- a number more can be drawn, and the desk is the first
  abbrev pub HasRoom : {X : Type 0} → Me X (SeatView E O) → Type 0
  HasRoom me = (v : View E O) → me.0 ≡ Living v → (v.number ≡ 0) × (v.drawn + 1 < v.desks)

  -- the next number is drawn
  abbrev pub DrawsNext : {X : Type 0} → Me X (SeatView E O) → ℕ → Me X (SeatView E O) → Type 0
  DrawsNext me number me' = (v : View E O) → me ≡ (Living v, []) → (me' ≡ (Living (drawn_view number v), [])) × (number ≡ v.drawn + 1)

  abbrev pub joined : SeatView E O → SeatView E O → SeatView E O
  joined (Living v) (Living w) = Living (joined_view v w)
  joined Spent q = Spent
  joined (Living v) Spent = Spent

  module _ {X : Type 0} where
    -- a ticket was drawn
    abbrev pub drew_ticket : Step (Option X) → Me (Option X) (SeatView E O) → ℕ → Me (Option X) (SeatView E O) → Type 0
    drew_ticket st me n me' = me' ≡ (staged (Waiting n) me.0, me.1)

    -- the number of a desk was drawn
    abbrev pub drew_number : Step (Option X) → Me (Option X) (SeatView E O) → ℕ → Me (Option X) (SeatView E O) → Type 0
    drew_number st me n me' = (v : View E O) → me.0 ≡ Living v → (me' ≡ (Living (drawn_view n v), me.1)) × (n ≡ v.drawn + 1)

    -- the next ticket is served
    abbrev pub served : Step (Option X) → Me (Option X) (SeatView E O) → ℕ → Me (Option X) (SeatView E O) → Type 0
    served st me n me' = me' ≡ (staged Free me.0, [])

    -- what was put together by a join is looked at
    abbrev pub looked : Step (Option X) → Me (Option X) (SeatView E O) → ℕ → Me (Option X) (SeatView E O) → Type 0
    looked st me n me' = (v : View E O) (xs : List (ℕ × E)) (k : ℕ) (ys : List (ℕ × E)) → me.0 ≡ Living v → v.stage ≡ Joined xs k ys
        → (me' ≡ (Living (free_view v), me.1)) × (v.number + v.family ≤ 65536) × IsJoined v.number v.family v.seen xs k ys

    module _ (noted : X → List (ℕ × E)) where
      -- A desk that found a list of `entered` entries, and took the value out: the list of the value has `count` entries, and is the one
      -- that was found, or that with one entry of the desk more.
      abbrev pub CanCount : Me (Option X) (SeatView E O) → (entered count : ℕ) → Option X → Type 0
      CanCount me entered count value = (v : View E O) × (x : ℕ) × (list : List (ℕ × E)) × (y : X) × (me ≡ (Living v, (0, None) ∷ []))
          × (v.stage ≡ Entered x list) × (value ≡ Some y) × (entered ≡ length list) × (count ≡ length (noted y)) × IsLeft v.number list (noted y)

      -- the desk has counted the list of the value
      abbrev pub HasCounted : Me (Option X) (SeatView E O) → Option X → Me (Option X) (SeatView E O) → Type 0
      HasCounted me value me' = (v : View E O) (x : ℕ) (list : List (ℕ × E)) (y : X) → me.0 ≡ Living v → v.stage ≡ Entered x list → value ≡ Some y
          → me' ≡ (Living (counted_view x (noted y) v), me.1)

    module _ (noted : X → List (ℕ × E)) (IsFrom : O → X → Type 0) where
      -- the turn has come: the list was found, and the slot with its value is in hand
      abbrev pub Comes : View E O → ℕ → List (ℕ × Option X) → Me (Option X) (SeatView E O) → Type 0
      Comes v x held me' = (list : List (ℕ × E)) × (y : X) × (me' ≡ (Living (record v { stage = Entered x list }), (0, Some y) ∷ held))
          × (noted y ≡ list) × IsFrom v.origin y × (length list < 2 ^ 62) × Follows v.number v.family v.seen list

      -- the same for whichever view has no slot in its hand
      abbrev pub ComesAt : Me (Option X) (SeatView E O) → ℕ → Me (Option X) (SeatView E O) → Type 0
      ComesAt me ticket me' = (v : View E O) → me ≡ (Living v, []) → Comes v ticket [] me'

      -- a desk that counted the list of the value, with the value in hand
      abbrev pub CanServe : Me (Option X) (SeatView E O) → Type 0
      CanServe me = (v : View E O) × (x : ℕ) × (y : X) × (me ≡ (Living v, (0, Some y) ∷ []))
          × (v.stage ≡ Counted x) × (noted y ≡ v.seen) × IsFrom v.origin y

      abbrev pub looked_for_turn : Step (Option X) → Me (Option X) (SeatView E O) → ℕ → Me (Option X) (SeatView E O) → Type 0
      looked_for_turn st me n me' = (v : View E O) (x : ℕ) → me.0 ≡ Living v → v.stage ≡ Waiting x
          → (n ≡ x → Comes v x me.1 me') × (n ≢ x → me' ≡ me)

      -- the list of the value that was said is counted
      abbrev pub counted : Step (Option X) → Me (Option X) (SeatView E O) → ℕ → Me (Option X) (SeatView E O) → Type 0
      counted st me n me' = (v : View E O) (x : ℕ) (list : List (ℕ × E)) (y : X) → me.0 ≡ Living v → v.stage ≡ Entered x list → st.said ≡ some (Some y)
          → me' ≡ (Living (counted_view x (noted y) v), me.1)

module _ {E O : Type 0} where
  -- the seat of the first desk of the lock, which drew so many numbers and has seen nothing
  abbrev pub first_view : LockState O → ℕ → View E O
  first_view lock drawn = record { number = 0; family = 1; drawn = drawn; desks = lock.desks; origin = lock.origin; seen = []; stage = Free }

  abbrev pub IsFirst : {X : Type 0} → LockState O → ℕ → Seat (Option X) (SeatView E O) → Type 0
  IsFirst lock drawn chair = (chair.table_id ≡ lock.table) × (chair.me ≡ (Living (first_view lock drawn), []))

  -- the lock of so many desks, round a value of that origin, and the seat of its first desk
  abbrev pub AreLaid : {X : Type 0} → (desks : ℕ) (origin : O) → LockState O → Seat (Option X) (SeatView E O) → Type 0
  AreLaid desks origin lock chair = (lock.desks ≡ desks) × (lock.origin ≡ origin) × IsFirst lock 0 chair

  -- the next desk is split off the first one
  abbrev pub SplitsNext : {X : Type 0} → LockState O → Seat (Option X) (SeatView E O) → Seat (Option X) (SeatView E O) → DeskState E O → Type 0
  SplitsNext lock chair chair' desk = (drawn : ℕ) → IsFirst lock drawn chair → IsFirst lock (drawn + 1) chair' × (desk ≡ fresh lock (drawn + 1))
