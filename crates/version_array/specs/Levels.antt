use Rattle.std.specs.Prelude.{◌≡◌, ℕ, ◌+◌, ◌*◌, ◌/◌, ◌%◌, ◌≤◌, min, List, [], ◌∷◌, length, take, slice_get, slice_set, refl}
use Rattle.std.specs.Option.{unwrap_or}
use Rattle.std.specs.List.{flat_map, AllByRecursion}
use Rattle.std.specs.Int.{div_ceil}

-- the items of chunks, one chunk after another
abbrev pub joined : {X : Type 0} → List (List X) → List X
joined chunks = flat_map (λ chunk. chunk) chunks

-- how many chunks of at most 128 items n items need
abbrev pub chunks_for : ℕ → ℕ
chunks_for n = div_ceil n 128

-- how wide these chunks are: 128, or as wide as a single one has to be
abbrev pub width_for : ℕ → ℕ
width_for n = min n 128

-- each chunk has this many items
abbrev pub AreWide : {X : Type 0} → ℕ → List (List X) → Type 0
AreWide width chunks = AllByRecursion (λ chunk. length chunk ≡ width) chunks

-- the values that three levels of chunks hold: the last chunks may have more places than the list
abbrev pub values_of : {X : Type 0} → ℕ → List (List (List X)) → List X
values_of len root = take len (joined (joined root))

-- three levels of chunks for a list of len places
pub record IsLaid {X : Type 0} (len : ℕ) (root : List (List (List X))) : Type 0 where
  pub most : len ≤ 2097152
  pub middles : length root ≡ chunks_for (chunks_for len)
  pub bottoms : AreWide (width_for (chunks_for len)) root
  pub items : AreWide (width_for len) (joined root)

-- where a place is: its chunk of chunks, its chunk in that, and its place in that
abbrev pub root_index : ℕ → ℕ
root_index place = place / 128 / 128

abbrev pub middle_index : ℕ → ℕ
middle_index place = place / 128 % 128

abbrev pub bottom_index : ℕ → ℕ
bottom_index place = place % 128

-- one of some chunks
abbrev pub chunk_at : {X : Type 0} → List (List X) → ℕ → List X
chunk_at chunks i = unwrap_or (slice_get chunks i) []

-- chunks with one item of one of them changed
abbrev pub set_in : {X : Type 0} → List (List X) → (i j : ℕ) → X → List (List X)
set_in chunks i j x = slice_set chunks i (slice_set (chunk_at chunks i) j x)

-- and with one item of a chunk of one of them
abbrev pub set_below : {X : Type 0} → List (List (List X)) → (i j k : ℕ) → X → List (List (List X))
set_below root i j k x = slice_set root i (set_in (chunk_at root i) j k x)

-- worked examples

second_of_first : set_in {X = ℕ} ((1 ∷ 2 ∷ []) ∷ (3 ∷ []) ∷ []) 0 1 7 ≡ (1 ∷ 7 ∷ []) ∷ (3 ∷ []) ∷ []
second_of_first = refl

the_first_five : values_of {X = ℕ} 5 (((1 ∷ 2 ∷ []) ∷ (3 ∷ 4 ∷ []) ∷ []) ∷ ((5 ∷ 6 ∷ []) ∷ []) ∷ []) ≡ 1 ∷ 2 ∷ 3 ∷ 4 ∷ 5 ∷ []
the_first_five = refl

one_chunk : (chunks_for 128 ≡ 1) × (width_for 3 ≡ 3)
one_chunk = (refl, refl)

one_place_more : (chunks_for 129 ≡ 2) × (width_for 129 ≡ 128)
one_place_more = (refl, refl)

the_longest_list : chunks_for (chunks_for 2097152) ≡ 128
the_longest_list = refl

a_place : (root_index 49539 ≡ 3) × (middle_index 49539 ≡ 3) × (bottom_index 49539 ≡ 3)
a_place = (refl, refl, refl)

the_place_again : 3 * 16384 + 3 * 128 + 3 ≡ 49539
the_place_again = refl
