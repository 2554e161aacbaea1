-- What contracts see of a lock, of a desk and of a turn.
use Rattle.std.specs.Prelude.{◌≡◌, ◌≢◌, ℕ, zero, suc, ◌+◌, All, List, [], ◌∷◌, ◌++◌, Option, Some, Bool, refl}
use Rattle.atomic_table.specs.Seated.{TableId}
use Rattle.turn_lock.specs.Noted.{entries_of, InFamily, Follows, longer}

-- the table has four words and one slot
abbrev pub IsSized : TableId → Type 0
IsSized z = (z.words ≡ 4) × (z.slots ≡ 1)

-- Which lock it is, how many desks it was made with, and the origin of its value
pub record LockState (O : Type 0) : Type 0 where
  pub table : TableId
  pub desks : ℕ
  pub origin : O

-- A desk: its number, how many desks are in its family, the lock that it is of, and what it has seen. During a turn it is of no lock
pub record DeskState (E O : Type 0) : Type 0 where
  pub number : ℕ
  pub family : ℕ
  pub lock : Option (LockState O)
  pub seen : List (ℕ × E)

-- A turn: its desk as it was, the list that it found, and whether its value was taken
pub record TurnState (E O : Type 0) : Type 0 where
  pub desk : DeskState E O
  pub list : List (ℕ × E)
  pub taken : Bool

module _ {E O : Type 0} where
  -- the entries that the desk noted, in order
  abbrev pub own : DeskState E O → List E
  own desk = entries_of desk.number desk.seen

  -- a new desk of the lock
  abbrev pub fresh : LockState O → ℕ → DeskState E O
  fresh lock n = record { number = n; family = 1; lock = Some lock; seen = [] }

  -- so many new desks, numbered from 0 on
  abbrev pub fresh_desks : LockState O → ℕ → List (DeskState E O)
  fresh_desks lock zero = []
  fresh_desks lock (suc n) = fresh_desks lock n ++ fresh lock n ∷ []

  -- the lock of so many desks, round a value of that origin, and the desks themselves
  abbrev pub AreMade : (desks : ℕ) (origin : O) → LockState O → List (DeskState E O) → Type 0
  AreMade desks origin lock row = (lock.desks ≡ desks) × (lock.origin ≡ origin) × (row ≡ fresh_desks lock desks)

  -- the value is of the lock's origin and stands for the list that the desk had seen, and each entry is one of the desk's family
  abbrev pub IsValueOf : {X : Type 0} → (noted : X → List (ℕ × E)) (IsFrom : O → X → Type 0) → LockState O → DeskState E O → X → Type 0
  IsValueOf noted IsFrom lock desk value =
      IsFrom lock.origin value × (noted value ≡ desk.seen) × All (λ e. InFamily desk.number desk.family e.0) desk.seen

  -- the lock and the desk come back, with the number of desks that were made and of those in the family, which differ
  abbrev pub IsUnjoined : LockState O → DeskState E O → LockState O → DeskState E O → (made family : ℕ) → Type 0
  IsUnjoined lock desk lock' desk' made family = (lock' ≡ lock) × (desk' ≡ desk) × (made ≡ lock.desks) × (family ≡ desk.family) × (made ≢ family)

  -- What a desk is after a turn in which the value was left with that list.

  -- where it is the list that the turn found, the desk's own entries are as before
  abbrev pub KeepsOwn : TurnState E O → List (ℕ × E) → DeskState E O → Type 0
  KeepsOwn turn after desk = after ≡ turn.list → own desk ≡ own turn.desk

  -- where it has one entry of the desk more, so have the desk's own entries
  abbrev pub GainsOwn : TurnState E O → List (ℕ × E) → DeskState E O → Type 0
  GainsOwn turn after desk = (e : E) → after ≡ turn.list ++ (turn.desk.number, e) ∷ [] → own desk ≡ own turn.desk ++ e ∷ []

  -- the entries of the other desks of its family are as before
  abbrev pub KeepsOthers : DeskState E O → DeskState E O → Type 0
  KeepsOthers old new = (n : ℕ) → InFamily old.number old.family n → n ≢ old.number → entries_of n new.seen ≡ entries_of n old.seen

  -- what a desk is after it was joined with another: it has seen the longer list, in which the entries of both families are those that each had seen
  pub record IsJoinOf (old other new : DeskState E O) : Type 0 where
    pub number : new.number ≡ old.number
    pub family : new.family ≡ old.family + other.family
    pub lock : new.lock ≡ old.lock
    pub seen : new.seen ≡ longer old.seen other.seen
    pub ours : Follows old.number old.family old.seen new.seen
    pub theirs : Follows other.number other.family other.seen new.seen

fresh_desks-two : {E O : Type 0} (lock : LockState O) → fresh_desks {E = E} lock 2 ≡ fresh lock 0 ∷ fresh lock 1 ∷ []
fresh_desks-two lock = refl
