-- What a seat knows, and what contracts see of it.
use Rattle.std.specs.Prelude.{◌≡◌, ℕ, ◌^◌, ◌<◌, List, [], ◌∷◌, length, Bool, true, false, Option, Some, None, IfSome}
use Rattle.atomic_table.specs.Seated.{TableId}
use Rattle.atomic_table.specs.Table.{Me}
use Rattle.turn_lock.specs.declared.view.Stage.{Stage}
use Rattle.turn_lock.specs.declared.view.Stage.TheVariants.{Free, Drawn, Joined, Waiting, Entered, Counted}
use Rattle.turn_lock.specs.declared.view.View.{View}
use Rattle.turn_lock.specs.declared.view.SeatView.{SeatView}
use Rattle.turn_lock.specs.declared.view.SeatView.TheVariants.{Spent, Living}
use Rattle.turn_lock.specs.Noted.{Follows}
use Rattle.turn_lock.specs.Desks.{DeskState, LockState, TurnState}

-- whether the value was taken out of its place
abbrev pub is_taken : {X : Type 0} → Option X → Bool
is_taken None = true
is_taken (Some y) = false

module _ {E : Type 0} where
  -- the list that a turn found
  abbrev pub list_at : Stage E → List (ℕ × E)
  list_at Free = []
  list_at (Drawn d) = []
  list_at (Joined xs k ys) = []
  list_at (Waiting x) = []
  list_at (Entered x l) = l
  list_at (Counted x) = []

module _ {E O : Type 0} where
  abbrev pub lock_of : TableId → List (SeatView E O) → Option (LockState O)
  lock_of z (Living v ∷ _) = Some (record { table = z; desks = v.desks; origin = v.origin })
  lock_of z (Spent ∷ _) = None
  lock_of z [] = None

  abbrev pub seen_of : List (SeatView E O) → List (ℕ × E)
  seen_of (Living v ∷ _) = v.seen
  seen_of (Spent ∷ _) = []
  seen_of [] = []

  abbrev pub desk_state : ℕ → ℕ → TableId → List (SeatView E O) → DeskState E O
  desk_state n f z ps = record { number = n; family = f; lock = lock_of z ps; seen = seen_of ps }

  -- a desk with these numbers and no turn
  abbrev pub IsFreeAt : ℕ → ℕ → SeatView E O → Type 0
  IsFreeAt n f (Living v) = (v.number ≡ n) × (v.family ≡ f) × (v.stage ≡ Free)
  IsFreeAt n f Spent = ⊥

  -- the badge of a desk with these numbers: none while a turn has it
  abbrev pub IsResting : ℕ → ℕ → List (SeatView E O) → Type 0
  IsResting n f [] = Unit {0}
  IsResting n f (p ∷ ps) = (ps ≡ []) × IsFreeAt n f p

  -- the same of a desk of the lock
  abbrev pub IsRestingAt : LockState O → ℕ → ℕ → TableId → List (SeatView E O) → Type 0
  IsRestingAt lock n f z ps = IsResting n f ps × (lock_of z ps ≡ Some lock)

  abbrev pub list_of : SeatView E O → List (ℕ × E)
  list_of (Living v) = list_at v.stage
  list_of Spent = []

  abbrev pub turn_state : {X : Type 0} → ℕ → ℕ → TableId → SeatView E O → Option X → TurnState E O
  turn_state n f z p slot = record { desk = desk_state n f z (p ∷ []); list = list_of p; taken = is_taken slot }

  -- the seat of a desk with these numbers, which has no turn
  pub record IsSeated {X : Type 0} (n f : ℕ) (lock : LockState O) (seen : List (ℕ × E)) (z : TableId) (me : Me X (SeatView E O)) : Type 0 where
    pub view : View E O
    pub table : z ≡ lock.table
    pub me_is : me ≡ (Living view, [])
    pub stage : view.stage ≡ Free
    pub number : view.number ≡ n
    pub family : view.family ≡ f
    pub desks : view.desks ≡ lock.desks
    pub origin : view.origin ≡ lock.origin
    pub seen_is : view.seen ≡ seen

  -- a turn of a desk with these numbers: it has the slot, empty, in its hand, and its list has so many entries
  pub record IsTurn {X : Type 0} (n f entered : ℕ) (me : Me (Option X) (SeatView E O)) : Type 0 where
    pub view : View E O
    pub ticket : ℕ
    pub list : List (ℕ × E)
    pub me_is : me ≡ (Living view, (0, None) ∷ [])
    pub stage : view.stage ≡ Entered ticket list
    pub number : view.number ≡ n
    pub family : view.family ≡ f
    pub counted : entered ≡ length list
    pub few : length list < 2 ^ 62
    pub found : Follows n f view.seen list

  -- the same, with the value that stands for its list until it is taken
  pub record IsHeld {X : Type 0} (noted : X → List (ℕ × E)) (IsFrom : O → X → Type 0) (n f entered : ℕ) (me : Me (Option X) (SeatView E O)) (value : Option X) : Type 0 where
    pub turn : IsTurn n f entered me
    pub stands : IfSome value (λ y. (noted y ≡ turn.list) × IsFrom turn.view.origin y)
