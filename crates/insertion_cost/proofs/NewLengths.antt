use Rattle.std.proofs.Common.{◌≡◌, ℕ, ◌+◌, ◌-◌, ◌<◌, ◌≤◌, ◌↔◌, List, [], ◌∷◌, ◌++◌, length, map, take, get_or, slice_get, option_map, option_to_list, unwrap_or, Option, Some, None, IsSome, sum, ap, sym, ◌∙◌, refl, ⊎_elim, arith}
use Rattle.std.proofs.lemmas.Bool.{cases_lt, false≢true}
use Rattle.std.proofs.lemmas.Bool.Decides.{nat_tests}
use Rattle.std.proofs.lemmas.List.{length-map}
use Rattle.std.proofs.lemmas.List.Sums.{sum_by_more}
use Rattle.std.proofs.lemmas.Option.{slice_get-map, slice_get_within, get_or_from_slice_get, unwrap_or-slice_get}
use Rattle.road_graph.specs.Paths.{Path, length_of}
use Rattle.stop_schedule.specs.declared.stop.Insertion.{Insertion}
use Rattle.stop_schedule.proofs.ListLaws.{changed_count, leg_before, leg_between, leg_changed, leg_behind, leg_dropoff, leg_after}
use Rattle.insertion_cost.specs.Changes.{new_lengths}

-- where an element stands in another list too, the numbers there are the same
same_read : (xs ys : List ℕ) (k l : ℕ) → slice_get xs k ≡ slice_get ys l → get_or ys l 0 ≡ get_or xs k 0
same_read xs ys k l h = sym (unwrap_or-slice_get ys l 0) ∙ ap (λ (o : Option ℕ). unwrap_or o 0) (sym h) ∙ unwrap_or-slice_get xs k 0

-- the length of a leg is read off the list of all lengths
length_at : (legs : List Path) (k : ℕ) (leg : Path) → slice_get legs k ≡ Some leg → length_of leg ≡ get_or (map length_of legs) k 0
length_at legs k leg h =
    sym (get_or_from_slice_get (map length_of legs) k (length_of leg) 0 (slice_get-map length_of legs k ∙ ap (option_map length_of) h))

-- where no length is wanted, there is no place for it
pub no_place : (i j : ℕ) → (IsSome {T = ℕ} None ↔ (i < j)) → j ≤ i
no_place i j s = ⊎_elim (λ (l : i < j). absurd (false≢true (s.1 l))) (λ (g : j ≤ i). g) (cases_lt i j)

-- the lengths are as many as the legs that change
pub length-changed : (stops : ℕ) (at : Insertion) (a b : ℕ) (c d : Option ℕ) → at.i ≤ at.j → at.j ≤ stops → (IsSome c ↔ (at.i < at.j)) → (IsSome d ↔ (at.j < stops))
    → length (a ∷ b ∷ option_to_list c ++ option_to_list d) ≡ changed_count stops at
length-changed stops at a b None None o w s t = let joined = no_place at.i at.j s in let last = no_place at.j stops t in grind (arith, nat_tests)
length-changed stops at a b None (Some d) o w s t = let joined = no_place at.i at.j s in let more : at.j < stops = t.0 refl in grind (arith, nat_tests)
length-changed stops at a b (Some c) None o w s t = let apart : at.i < at.j = s.0 refl in let last = no_place at.j stops t in grind (arith, nat_tests)
length-changed stops at a b (Some c) (Some d) o w s t = let apart : at.i < at.j = s.0 refl in let more : at.j < stops = t.0 refl in grind (arith, nat_tests)

module _ (legs : List Path) (at : Insertion) (a b : ℕ) (order : at.i ≤ at.j) (within : at.j ≤ length legs) where
  within_lengths : at.j ≤ length (map length_of legs)
  within_lengths = rw (length-map legs length_of) within

  -- a leg before the pickup, in the list of all lengths
  pub new_before : (more : List ℕ) (k : ℕ) (leg : Path) → k < at.i → slice_get legs k ≡ Some leg → length_of leg ≡ get_or (new_lengths legs at (a ∷ b ∷ more)) k 0
  new_before more k leg l h =
      length_at legs k leg h ∙ same_read (new_lengths legs at (a ∷ b ∷ more)) (map length_of legs) k k (leg_before (map length_of legs) (a ∷ b ∷ more) at order within_lengths (omega arith) k l)

  -- a leg between the new stops
  pub new_between : (more : List ℕ) (k : ℕ) (leg : Path) → at.i + 1 < k → k ≤ at.j → slice_get legs (k - 1) ≡ Some leg → length_of leg ≡ get_or (new_lengths legs at (a ∷ b ∷ more)) k 0
  new_between more k leg l u h =
      length_at legs (k - 1) leg h ∙ same_read (new_lengths legs at (a ∷ b ∷ more)) (map length_of legs) k (k - 1) (leg_between (map length_of legs) (a ∷ b ∷ more) at order within_lengths (omega arith) (omega arith) k (k - 1) (omega arith) (omega arith) (omega arith))

  -- the leg into the dropoff
  pub new_into_dropoff : (c d : Option ℕ) (k x : ℕ) → at.i < at.j → k ≡ at.j + 1 → c ≡ Some x → x ≡ get_or (new_lengths legs at (a ∷ b ∷ option_to_list c ++ option_to_list d)) k 0
  new_into_dropoff c d k x l e h =
      rw h (same_read (new_lengths legs at (a ∷ b ∷ x ∷ option_to_list d)) (a ∷ b ∷ x ∷ option_to_list d) k 2 (leg_dropoff (map length_of legs) (a ∷ b ∷ x ∷ option_to_list d) at order within_lengths (omega arith) l k 2 (omega arith) (omega arith) (omega arith)))

  -- the leg out of the dropoff
  pub new_out_of_dropoff : (c d : Option ℕ) (k x : ℕ) → (IsSome c ↔ (at.i < at.j)) → k ≡ at.j + 2 → d ≡ Some x → x ≡ get_or (new_lengths legs at (a ∷ b ∷ option_to_list c ++ option_to_list d)) k 0
  new_out_of_dropoff None d k x s e h =
      let joined = no_place at.i at.j s in
      rw h (same_read (new_lengths legs at (a ∷ b ∷ x ∷ [])) (a ∷ b ∷ x ∷ []) k 2 (leg_changed (map length_of legs) (a ∷ b ∷ x ∷ []) at order within_lengths (omega arith) (omega arith) k 2 (omega arith) (omega arith)))
  new_out_of_dropoff (Some c) d k x s e h =
      rw h (same_read (new_lengths legs at (a ∷ b ∷ c ∷ x ∷ [])) (a ∷ b ∷ c ∷ x ∷ []) k 3 (leg_dropoff (map length_of legs) (a ∷ b ∷ c ∷ x ∷ []) at order within_lengths (omega arith) (s.0 refl) k 3 (omega arith) (omega arith) (omega arith)))

  -- a leg behind the dropoff
  pub new_after : (c d : Option ℕ) (k : ℕ) (leg : Path) → (IsSome c ↔ (at.i < at.j)) → (IsSome d ↔ (at.j < length legs)) → at.j + 2 < k → k < length legs + 2 → slice_get legs (k - 2) ≡ Some leg
      → length_of leg ≡ get_or (new_lengths legs at (a ∷ b ∷ option_to_list c ++ option_to_list d)) k 0
  new_after c None k leg s t l u h = let last = no_place at.j (length legs) t in absurd (omega arith)
  new_after None (Some d) k leg s t l u h =
      let joined = no_place at.i at.j s in
      length_at legs (k - 2) leg h ∙ same_read (new_lengths legs at (a ∷ b ∷ d ∷ [])) (map length_of legs) k (k - 2) (leg_behind (map length_of legs) (a ∷ b ∷ d ∷ []) at order within_lengths (omega arith) (omega arith) k (k - 2) (omega arith) (omega arith))
  new_after (Some c) (Some d) k leg s t l u h =
      length_at legs (k - 2) leg h ∙ same_read (new_lengths legs at (a ∷ b ∷ c ∷ d ∷ [])) (map length_of legs) k (k - 2) (leg_after (map length_of legs) (a ∷ b ∷ c ∷ d ∷ []) at order within_lengths (omega arith) (s.0 refl) k (k - 2) (omega arith) (omega arith))

-- the lengths of one leg more
pub driving_more : (legs : List Path) (k : ℕ) (leg : Path) (driving x : ℕ) → slice_get legs k ≡ Some leg → x ≡ length_of leg → driving ≡ sum (take k (map length_of legs)) → driving + x ≡ sum (take (k + 1) (map length_of legs))
driving_more legs k leg driving x h e d =
    let within = slice_get_within legs k leg h in
    let step = sum_by_more (λ (y : ℕ). y) (map length_of legs) k 0 (rw (length-map legs length_of) within) in
    let here = length_at legs k leg h in
    omega arith
