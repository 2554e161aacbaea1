use Rattle.std.specs.Prelude.{◌≡◌, ℕ, zero, suc, ◌+◌, ◌*◌, ◌-◌, ◌/◌, ◌<◌, ◌≤◌, List, [], ◌∷◌, length, min, Option, Some, None, slice_index, refl}
use Prim.Native.Nat.{zero-le}
use native.Mathlib.Nat.{not-suc-le-zero, le_of_suc-le-suc}
use lib.Dec.{lit<, lit≤}

-- the least place from one on whose moment is at most now, or none
abbrev pub IsFirstBy : List ℕ → ℕ → ℕ → Option ℕ → Type 0
IsFirstBy moments place now None = (k : ℕ) → place ≤ k → k < length moments → now < slice_index moments k
IsFirstBy moments place now (Some found) = (place ≤ found) × (found < length moments) × (slice_index moments found ≤ now) × ((k : ℕ) → place ≤ k → k < found → now < slice_index moments k)

-- A tree of two children each, as a list: those of node k stand at 2 * k and 2 * k + 1, and 0 is no node. The leaves are the last half
-- of the nodes.
abbrev pub leaves_of : List ℕ → ℕ
leaves_of tree = length tree / 2

-- the moment of a node is the least of those of its children
abbrev pub HasLeast : List ℕ → ℕ → Type 0
HasLeast tree k = slice_index tree k ≡ min (slice_index tree (2 * k)) (slice_index tree (2 * k + 1))

-- that of each inner node, in a tree of so many leaves
abbrev pub HaveLeast : ℕ → List ℕ → Type 0
HaveLeast leaves tree = (k : ℕ) → 1 ≤ k → k < leaves → HasLeast tree k

-- the node so many levels above another one
abbrev pub above : ℕ → ℕ → ℕ
above zero leaf = leaf
above (suc height) leaf = above height leaf / 2

-- each inner node has the least moment of its children, and the last leaf has moment 0
pub record IsTree (leaves : ℕ) (tree : List ℕ) : Type 0 where
  pub many : length tree ≡ 2 * leaves
  pub some : 0 < leaves
  pub least : HaveLeast leaves tree
  pub last : slice_index tree (2 * leaves - 1) ≡ 0

-- a node so high above the leaves, not behind the last one, has a moment up to now
pub record IsDue (leaves : ℕ) (tree : List ℕ) (now node height : ℕ) : Type 0 where
  pub some : 1 ≤ node
  pub within : node ≤ above height (2 * leaves - 1)
  pub due : slice_index tree node ≤ now

-- of the leaves from one on, those before the ones below a node so high are later than now, and the others stand before none of them
pub record PassesNone (leaves : ℕ) (tree : List ℕ) (leaf now node height : ℕ) : Type 0 where
  pub passed : (k : ℕ) → leaf ≤ k → k < 2 * leaves → above height k < node → now < slice_index tree k
  pub later : (k : ℕ) → node ≤ above height k → leaf ≤ k

-- one later than now, one before it and one at that moment
abbrev pub three : List ℕ
three = 9 ∷ 4 ∷ 5 ∷ []

second : IsFirstBy three 0 5 (Some 1)
second = (zero-le, lit< tt, lit≤ tt, later)
  where
    later : (k : ℕ) → 0 ≤ k → k < 1 → 5 < slice_index three k
    later zero from below = lit< tt
    later (suc k) from below = absurd (not-suc-le-zero (le_of_suc-le-suc below))

at_once : IsFirstBy three 1 4 (Some 1)
at_once = (lit≤ tt, lit< tt, lit≤ tt, later)
  where
    later : (k : ℕ) → 1 ≤ k → k < 1 → 4 < slice_index three k
    later zero from below = absurd (not-suc-le-zero from)
    later (suc k) from below = absurd (not-suc-le-zero (le_of_suc-le-suc below))

too_soon : IsFirstBy three 0 3 None
too_soon zero from within = lit< tt
too_soon (suc zero) from within = lit< tt
too_soon (suc (suc zero)) from within = lit< tt
too_soon (suc (suc (suc k))) from within = absurd (not-suc-le-zero (le_of_suc-le-suc (le_of_suc-le-suc (le_of_suc-le-suc within))))

-- the tree over the three, whose inner nodes are 0, 4 and 0
abbrev pub over_three : List ℕ
over_three = 0 ∷ 0 ∷ 4 ∷ 0 ∷ 9 ∷ 4 ∷ 5 ∷ 0 ∷ []

four_leaves : leaves_of over_three ≡ 4
four_leaves = refl

root : HasLeast over_three 1
root = refl

left : HasLeast over_three 2
left = refl

right : HasLeast over_three 3
right = refl

-- 6 and 7 stand below 3
above_both : above 1 6 ∷ above 1 7 ∷ above 2 7 ∷ [] ≡ 3 ∷ 3 ∷ 1 ∷ []
above_both = refl
