use Rattle.std.specs.Prelude.{◌≡◌, ℕ, ◌*◌, ◌-◌, ◌^◌, ◌<◌, ◌≤◌, ◌==◌, ◌⊎◌, [], ◌∷◌, not, Bool, cond, List, length, drop, map, filter, filter_map, Option, Some, None, option_map, is_some, find, slice_index, slice_index_or, refl}
use Rattle.std.specs.BTreeMap.{is_at}
use Rattle.std.specs.List.Sorted.{IsStrictlySortedBy}
use Rattle.std.specs.Map.{keys_of, lookup}
use Rattle.std.specs.Ordering.{nat_cmp}
use Rattle.std.specs.declared.cmp.Ordering.{Ordering}
use Rattle.ride_base.specs.declared.numbers.RequestNo.{RequestNo}
use Rattle.stop_schedule.specs.declared.request.Request.{Request}
use Rattle.stop_schedule.specs.Samples.{ride}
use Rattle.board_core.specs.Arrivals.{HaveLeast, leaves_of}
pub use Rattle.board_core.specs.declared.waiting.Kept.{Kept}
pub use Rattle.board_core.specs.declared.waiting.Waiting.{Waiting}

abbrev pub is_number : RequestNo → RequestNo → Bool
is_number a b = a.0 == b.0

-- the request of a number, among those that wait
abbrev pub waiting_in : List Waiting → RequestNo → Option Waiting
waiting_in waiting number = find (λ (w : Waiting). is_number w.request.no number) waiting

-- a request that waits, and that no desk holds
abbrev pub as_waiting : Request → Waiting
as_waiting r = record { request = r; holder = None }

abbrev pub is_unheld : Waiting → Bool
is_unheld w = not (is_some w.holder)

-- the oldest one, in the order of acceptance, that has no holder
abbrev pub unheld_in : List Waiting → Option Waiting
unheld_in waiting = find is_unheld waiting

-- one that waits with another holder, if it is of this number
abbrev pub held_by : RequestNo → Option ℕ → Waiting → Waiting
held_by number holder w = cond (is_number w.request.no number) (record w { holder = holder }) w

-- the waiting requests with another holder of one number
abbrev pub with_holder : RequestNo → Option ℕ → List Waiting → List Waiting
with_holder number holder waiting = map (held_by number holder) waiting

-- the waiting requests without one number
abbrev pub without : RequestNo → List Waiting → List Waiting
without number waiting = filter (λ (w : Waiting). not (is_number w.request.no number)) waiting

-- How a queue keeps them: in slots, by key. The order lists the keys by arrival, and the numbers list them by the requests' numbers.
abbrev pub kept_at : List (Option Kept) → ℕ → Option Kept
kept_at slots key = slice_index_or slots key None

abbrev pub waiting_at : List (Option Kept) → ℕ × ℕ → Option Waiting
waiting_at slots e = option_map (λ (x : Kept). x.waiting) (kept_at slots e.1)

-- the waiting requests, in the order of their arrivals
abbrev pub in_order : List (ℕ × ℕ) → List (Option Kept) → List Waiting
in_order order slots = filter_map (waiting_at slots) order

abbrev pub by_number : RequestNo → RequestNo → Ordering
by_number a b = nat_cmp a.0 b.0

abbrev pub key_at : List (ℕ × ℕ) → ℕ → Option ℕ
key_at order arrival = lookup (is_at (nat_cmp arrival)) order

abbrev pub key_of : List (RequestNo × ℕ) → RequestNo → Option ℕ
key_of numbers number = lookup (is_at (by_number number)) numbers

-- the arrival of one that no desk holds, and otherwise the largest number
abbrev pub sign_of : Kept → ℕ
sign_of x = cond (is_some x.waiting.holder) (2 ^ 64 - 1) x.arrival

-- what a key of the order keeps: a request of that arrival, which is found by its number, with its sign
pub record Stands (slots : List (Option Kept)) (numbers : List (RequestNo × ℕ)) (signs : List ℕ) (next arrival key : ℕ) : Type 0 where
  pub kept : Kept
  pub stands : kept_at slots key ≡ Some kept
  pub arrived : kept.arrival ≡ arrival
  pub found : key_of numbers kept.waiting.request.no ≡ Some key
  pub within : key < length signs
  pub sign : slice_index signs key ≡ sign_of kept
  pub before : arrival < next

-- what a key of the numbers keeps: a request of that number, which is found by its arrival
pub record IsNumbered (slots : List (Option Kept)) (order : List (ℕ × ℕ)) (number : RequestNo) (key : ℕ) : Type 0 where
  pub kept : Kept
  pub stands : kept_at slots key ≡ Some kept
  pub same : kept.waiting.request.no ≡ number
  pub found : key_at order kept.arrival ≡ Some key

-- Arrivals rise and are below the next one, both lists tell of the same requests, and a sign tells of a request or of none.
pub record IsQueue (slots : List (Option Kept)) (order : List (ℕ × ℕ)) (numbers : List (RequestNo × ℕ)) (signs : List ℕ) (next : ℕ) : Type 0 where
  pub few : next ≤ 2 ^ 64 - 1
  pub rising : IsStrictlySortedBy nat_cmp (keys_of order)
  pub each : (arrival key : ℕ) → key_at order arrival ≡ Some key → Stands slots numbers signs next arrival key
  pub numbered : (number : RequestNo) (key : ℕ) → key_of numbers number ≡ Some key → IsNumbered slots order number key
  pub signed : (key : ℕ) → key < length signs → (slice_index signs key ≡ 2 ^ 64 - 1) ⊎ (key_at order (slice_index signs key) ≡ Some key)

-- the leaves of a tree, by key
abbrev pub signs_of : List ℕ → List ℕ
signs_of tree = drop (leaves_of tree) tree

-- a tree whose inner nodes have the least number of their children
pub record IsSignTree (tree : List ℕ) : Type 0 where
  pub even : length tree ≡ 2 * leaves_of tree
  pub least : HaveLeast (leaves_of tree) tree

-- the least of some numbers, or the largest number where there is none
pub record IsLeast (signs : List ℕ) (least : ℕ) : Type 0 where
  pub each : (key : ℕ) → key < length signs → least ≤ slice_index signs key
  pub one : (least ≡ 2 ^ 64 - 1) ⊎ ((key : ℕ) × (key < length signs) × (slice_index signs key ≡ least))

-- a tree in which the first leaves are those of another one, and the others are as they were
pub record HasLeavesOf (from old new : List ℕ) : Type 0 where
  pub first : (key : ℕ) → key < leaves_of from → slice_index (drop (leaves_of old) new) key ≡ slice_index (signs_of from) key
  pub rest : (key : ℕ) → leaves_of from ≤ key → slice_index (drop (leaves_of old) new) key ≡ slice_index (signs_of old) key

-- the same numbers, and perhaps some more, each the largest
pub record IsLonger (old new : List ℕ) : Type 0 where
  pub long : length old ≤ length new
  pub same : (key : ℕ) → key < length old → slice_index new key ≡ slice_index old key
  pub more : (key : ℕ) → length old ≤ key → key < length new → slice_index new key ≡ 2 ^ 64 - 1

-- a request that came later and took the slot in front of an older one
abbrev pub older_and_later : List (Option Kept)
older_and_later = Some (record { waiting = record { request = ride 6 2 4 0 1; holder = None }; arrival = 5 }) ∷ Some (record { waiting = record { request = ride 2 1 3 0 1; holder = Some 7 }; arrival = 3 }) ∷ None ∷ []

by_arrival : in_order ((3, 1) ∷ (5, 0) ∷ []) older_and_later ≡ record { request = ride 2 1 3 0 1; holder = Some 7 } ∷ record { request = ride 6 2 4 0 1; holder = None } ∷ []
by_arrival = refl

signs : map (option_map sign_of) older_and_later ≡ Some 5 ∷ Some (2 ^ 64 - 1) ∷ None ∷ []
signs = refl

keys : key_at ((3, 1) ∷ (5, 0) ∷ []) 3 ∷ key_at ((3, 1) ∷ (5, 0) ∷ []) 4 ∷ [] ≡ Some 1 ∷ None ∷ []
keys = refl
