-- Lists of noted entries, each with the number of the desk that noted it.
use Rattle.std.specs.Prelude.{◌≡◌, ◌⊎◌, ℕ, ◌+◌, ◌<◌, ◌≤◌, ◌==◌, ltb, cond, List, [], ◌∷◌, ◌++◌, length, refl}

-- the number is one of a family of so many desks, from the first on
abbrev pub InFamily : ℕ → ℕ → ℕ → Type 0
InFamily first size n = (first ≤ n) × (n < first + size)

module _ {E : Type 0} where
  -- the entries that one desk noted, in order
  abbrev pub entries_of : ℕ → List (ℕ × E) → List E
  entries_of n [] = []
  entries_of n (x ∷ xs) = cond (x.0 == n) (x.1 ∷ entries_of n xs) (entries_of n xs)

  -- the list ys begins with xs
  abbrev pub Begins : List (ℕ × E) → List (ℕ × E) → Type 0
  Begins xs ys = (rest : List (ℕ × E)) × (ys ≡ xs ++ rest)

  abbrev pub longer : List (ℕ × E) → List (ℕ × E) → List (ℕ × E)
  longer xs ys = cond (ltb (length xs) (length ys)) ys xs

  -- the list begins with what was seen by a desk, whose family of so many desks is numbered from its own number on, and has no other entry of that family
  pub record Follows (first size : ℕ) (seen list : List (ℕ × E)) : Type 0 where
    pub begins : Begins seen list
    pub own : entries_of first list ≡ entries_of first seen
    pub family : (n : ℕ) → InFamily first size n → entries_of n list ≡ entries_of n seen

  -- the list as a turn found it, or with one entry of the desk more
  abbrev pub IsLeft : ℕ → List (ℕ × E) → List (ℕ × E) → Type 0
  IsLeft n list after = (after ≡ list) ⊎ ((e : E) × (after ≡ list ++ (n, e) ∷ []))

entries_of-two : let noted : List (ℕ × ℕ) = (7, 1) ∷ (8, 2) ∷ (7, 3) ∷ [] in entries_of 7 noted ≡ 1 ∷ 3 ∷ []
entries_of-two = refl

longer-second : let xs : List (ℕ × ℕ) = (0, 1) ∷ [] in let ys : List (ℕ × ℕ) = (0, 1) ∷ (1, 2) ∷ [] in longer xs ys ≡ ys
longer-second = refl

longer-tie : let xs : List (ℕ × ℕ) = (0, 1) ∷ [] in let ys : List (ℕ × ℕ) = (1, 1) ∷ [] in longer xs ys ≡ xs
longer-tie = refl
