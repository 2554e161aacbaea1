use Rattle.std.specs.Prelude.{◌≡◌, ℕ, ◌+◌, ◌-◌, ◌^◌, ◌==◌, ◌≤◌, ◌⊎◌, ltb, cond, List, [], ◌∷◌, Some, refl, slice_get, slice_index_or}
use Rattle.road_graph.specs.declared.road.NodeNo.{NodeNo}
use Rattle.plain_search.specs.declared.reached.Reached.{Reached}
use Rattle.plain_search.specs.declared.reached.Mark.{Mark}
use Rattle.plain_search.specs.declared.reached.Mark.TheVariants.{Unseen, Seen, Settled}

abbrev pub mark_of : List Mark → NodeNo → Mark
mark_of marks n = slice_index_or marks n.0 Unseen

-- the mark that a word tells: a place, 2^32 and a distance, or the largest word where it is unseen
abbrev pub mark_in : ℕ → Mark
mark_in word = cond (ltb word (2 ^ 32)) (Settled word)
    (cond (word == 2 ^ 64 - 1) Unseen (Seen (word - 2 ^ 32)))

-- the mark of a node that is settled, or waits at this distance or less
abbrev pub IsMarkedBy : Mark → ℕ → Type 0
IsMarkedBy mark x = ((k : ℕ) × (mark ≡ Settled k)) ⊎ ((y : ℕ) × (mark ≡ Seen y) × (y ≤ x))

-- the marks of settled nodes are the places in the list
pub record ArePlaces (listed : List Reached) (marks : List Mark) : Type 0 where
  pub stands : (n : NodeNo) (k : ℕ) → mark_of marks n ≡ Settled k → (r : Reached) × (slice_get listed k ≡ Some r) × (r.node ≡ n)
  pub marked : (k : ℕ) (r : Reached) → slice_get listed k ≡ Some r → mark_of marks r.node ≡ Settled k

beyond_marks : mark_of (Settled 0 ∷ []) (record { 0 = 1 }) ≡ Unseen
beyond_marks = refl

at_mark : mark_of (Unseen ∷ Settled 0 ∷ []) (record { 0 = 1 }) ≡ Settled 0
at_mark = refl

place_word : mark_in 7 ≡ Settled 7
place_word = refl

waiting_word : mark_in (2 ^ 32 + 7) ≡ Seen 7
waiting_word = refl

unseen_word : mark_in (2 ^ 64 - 1) ≡ Unseen
unseen_word = refl
