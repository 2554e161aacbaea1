-- The rule of the table: what its words, its slot and all views say together.
-- In it list is what the value stands for, and t, n, c and m are the words ticket, serving, count and made.
use Rattle.std.specs.Prelude.{◌≡◌, ◌≢◌, ◌⊎◌, ℕ, ◌+◌, ◌-◌, ◌^◌, ◌<◌, ◌≤◌, List, [], ◌∷◌, length, All, Option, Some}
use mathlib.Core.Option.{some, none}
use mathlib.Core.Option as maybe
use lib.ListN.{get_elem?}
use Rattle.atomic_table.specs.Table.{State}
use Rattle.turn_lock.specs.declared.view.Stage.{Stage}
use Rattle.turn_lock.specs.declared.view.Stage.TheVariants.{Free, Drawn, Joined, Waiting, Entered, Counted}
use Rattle.turn_lock.specs.declared.view.View.{View}
use Rattle.turn_lock.specs.declared.view.SeatView.{SeatView}
use Rattle.turn_lock.specs.declared.view.SeatView.TheVariants.{Spent, Living}
use Rattle.turn_lock.specs.declared.view.Key.{Key}
use Rattle.turn_lock.specs.Noted.{entries_of, Begins, InFamily}

module _ {E : Type 0} where
  -- the stage has this ticket
  abbrev pub HasTicket : ℕ → Stage E → Type 0
  HasTicket x Free = ⊥
  HasTicket x (Drawn d) = ⊥
  HasTicket x (Joined xs k ys) = ⊥
  HasTicket x (Waiting y) = x ≡ y
  HasTicket x (Entered y l) = x ≡ y
  HasTicket x (Counted y) = x ≡ y

  -- the value is out with a desk in this stage
  abbrev pub HasValue : Stage E → Type 0
  HasValue Free = ⊥
  HasValue (Drawn d) = ⊥
  HasValue (Joined xs k ys) = ⊥
  HasValue (Waiting y) = ⊥
  HasValue (Entered y l) = Unit {0}
  HasValue (Counted y) = Unit {0}

  abbrev pub tickets_at : Stage E → ℕ
  tickets_at Free = 0
  tickets_at (Drawn d) = 0
  tickets_at (Joined xs k ys) = 0
  tickets_at (Waiting y) = 1
  tickets_at (Entered y l) = 1
  tickets_at (Counted y) = 1

  -- the list seen after a join, of what a family of k desks and then the rest of this one had seen
  abbrev pub IsJoined : ℕ → ℕ → List (ℕ × E) → List (ℕ × E) → ℕ → List (ℕ × E) → Type 0
  IsJoined number family seen xs k ys = (0 < k) × (k < family) × Begins xs seen × Begins ys seen
      × ((x : ℕ) → InFamily number k x → entries_of x seen ≡ entries_of x xs)
      × ((x : ℕ) → InFamily (number + k) (family - k) x → entries_of x seen ≡ entries_of x ys)

module _ {E O : Type 0} where
  abbrev pub tickets_of : SeatView E O → ℕ
  tickets_of Spent = 0
  tickets_of (Living v) = tickets_at v.stage

  -- how many views have a ticket
  abbrev pub tickets : List (SeatView E O) → ℕ
  tickets [] = 0
  tickets (p ∷ ps) = tickets_of p + tickets ps

  -- what a stage says of the list, the words and its view
  abbrev pub AtStage : List (ℕ × E) → ℕ → ℕ → ℕ → ℕ → View E O → Stage E → Type 0
  AtStage list t n c m v Free = Unit {0}
  AtStage list t n c m v (Drawn d) = (v.number ≡ 0) × (d + 1 ≡ m)
  AtStage list t n c m v (Joined xs k ys) = IsJoined v.number v.family v.seen xs k ys
  AtStage list t n c m v (Waiting x) = (n ≤ x) × (x < t)
  AtStage list t n c m v (Entered x l) = (x ≡ n) × (x < t) × (x < 2 ^ 62) × (l ≡ list) × (c ≤ n)
  AtStage list t n c m v (Counted x) = (x ≡ n) × (x < t) × (x < 2 ^ 62) × (v.seen ≡ list) × (c ≤ n + 1)

  pub record Fits (key : Key O) (list : List (ℕ × E)) (t n c m : ℕ) (v : View E O) : Type 0 where
    pub desks : v.desks ≡ key.desks
    pub origin : v.origin ≡ key.origin.origin
    pub some : 0 < v.family
    pub ends : v.number + v.family ≤ m
    pub begins : Begins v.seen list
    pub noted : (x : ℕ) → InFamily v.number v.family x → entries_of x list ≡ entries_of x v.seen
    pub drawn : v.number ≡ 0 → m ≡ v.drawn + 1
    pub stage : AtStage list t n c m v v.stage

  -- two families with no number in common
  abbrev pub AreDisjoint : View E O → View E O → Type 0
  AreDisjoint v w = (v.number + v.family ≤ w.number) ⊎ (w.number + w.family ≤ v.number)

  -- two desks have no number and no ticket in common
  abbrev pub AreApart : View E O → View E O → Type 0
  AreApart v w = AreDisjoint v w × ((x : ℕ) → HasTicket x v.stage → HasTicket x w.stage → ⊥)

  -- no desk has the number yet, and no entry
  abbrev pub IsUnused : List (ℕ × E) → List (SeatView E O) → ℕ → ℕ → Type 0
  IsUnused list views m d = (entries_of d list ≡ []) × (length views < m)
      × ((j : ℕ) (w : View E O) → get_elem? views j ≡ some (Living w) → InFamily w.number w.family d → ⊥)

  -- the value is out with some desk
  abbrev pub IsOut : {X : Type 0} → maybe.Option (Option X) → List (SeatView E O) → Type 0
  IsOut home views = (home ≡ none) × ((i : ℕ) × (v : View E O) × (get_elem? views i ≡ some (Living v)) × HasValue v.stage)

  module _ {X : Type 0} (noted : X → List (ℕ × E)) (IsFrom : O → X → Type 0) (key : Key O) where
    -- the value is at home, and no desk has it
    abbrev pub IsAtHome : List (ℕ × E) → ℕ → ℕ → maybe.Option (Option X) → List (SeatView E O) → Type 0
    IsAtHome list n c home views = (y : X) × (home ≡ some (Some y)) × (noted y ≡ list) × IsFrom key.origin.origin y × (c ≤ n)
        × ((i : ℕ) (v : View E O) → get_elem? views i ≡ some (Living v) → HasValue v.stage → ⊥)

    pub record KeepsRule (list : List (ℕ × E)) (t n c m : ℕ) (home : maybe.Option (Option X)) (views : List (SeatView E O)) : Type 0 where
      pub few : (length views ≤ m) × (m ≤ key.desks) × (key.desks ≤ 65536)
      pub turns : n ≤ 2 ^ 62
      pub count : c ≡ length list
      pub ticket : n + tickets views ≡ t
      pub numbers : All (λ e. e.0 < m) list
      pub each : (i : ℕ) (v : View E O) → get_elem? views i ≡ some (Living v) → Fits key list t n c m v
      pub apart : (i j : ℕ) (v w : View E O) → i ≢ j → get_elem? views i ≡ some (Living v) → get_elem? views j ≡ some (Living w) → AreApart v w
      pub drawn : (i : ℕ) (v : View E O) (d : ℕ) → get_elem? views i ≡ some (Living v) → v.stage ≡ Drawn d → IsUnused list views m d
      pub longest : (i : ℕ) × (v : View E O) × (get_elem? views i ≡ some (Living v)) × (v.seen ≡ list)
      pub value : IsAtHome list n c home views ⊎ IsOut home views

    pub record IsRuled (s : State (Option X) (SeatView E O)) : Type 0 where
      pub list : List (ℕ × E)
      pub t : ℕ
      pub n : ℕ
      pub c : ℕ
      pub m : ℕ
      pub home : maybe.Option (Option X)
      pub words : s.words ≡ t ∷ n ∷ c ∷ m ∷ []
      pub homes : s.homes ≡ home ∷ []
      pub kept : KeepsRule list t n c m home s.views

  -- the view of the first desk
  abbrev pub opening_view : Key O → View E O
  opening_view key = record { number = 0; family = 1; drawn = 0; desks = key.desks; origin = key.origin.origin; seen = []; stage = Free }
