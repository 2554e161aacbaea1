use Rattle.std.specs.Prelude.{ℕ, ℤ, pos, neg_ℤ, ◌==◌, ◌&&◌, Bool, false, cond, List, [], ◌∷◌, codes}
use Rattle.std.specs.Str.{bytes_eq}
use Rattle.ride_base.specs.Fields.{fields_of, is_number, value_of, begins_comment}

-- The forms of single lines. Numbers are digits, as many as one likes.

-- what a line of a graph says by itself
pub data GraphForm : Type 0 where
  -- a comment, or a line without fields
  Skipped : GraphForm
  -- `p sp N M`: so many nodes, and so many roads
  Problem : (nodes roads : ℕ) → GraphForm
  -- `a U V W`: a road, its ends and its weight
  Arc : (from to weight : ℕ) → GraphForm
  -- none of these
  Formless : GraphForm

abbrev pub problem_of : List (List ℕ) → GraphForm
problem_of (sp ∷ nodes ∷ roads ∷ []) = cond (bytes_eq sp (codes "sp") && (is_number nodes && is_number roads)) (Problem (value_of nodes) (value_of roads)) Formless
problem_of fields = Formless

abbrev pub arc_of : List (List ℕ) → GraphForm
arc_of (from ∷ to ∷ weight ∷ []) = cond (is_number from && (is_number to && is_number weight)) (Arc (value_of from) (value_of to) (value_of weight)) Formless
arc_of fields = Formless

abbrev pub graph_line_of : List (List ℕ) → GraphForm
graph_line_of [] = Skipped
graph_line_of (first ∷ fields) =
    cond (begins_comment first) Skipped
    (cond (bytes_eq first (codes "p")) (problem_of fields)
    (cond (bytes_eq first (codes "a")) (arc_of fields) Formless))

abbrev pub graph_line : List ℕ → GraphForm
graph_line line = graph_line_of (fields_of line)

-- what a line of places says by itself
pub data PlaceForm : Type 0 where
  -- a comment, or a line without fields
  Skipped : PlaceForm
  -- `p aux sp co N`: so many nodes
  Header : (nodes : ℕ) → PlaceForm
  -- `v ID X Y`: a node and where it lies
  Place : (node : ℕ) (x y : ℤ) → PlaceForm
  -- none of these
  Formless : PlaceForm

-- digits with a `-` before them, or without one
abbrev pub is_signed : List ℕ → Bool
is_signed [] = false
is_signed (b ∷ bs) = cond (b == 45) (is_number bs) (is_number (b ∷ bs))

abbrev pub signed_of : List ℕ → ℤ
signed_of [] = pos 0
signed_of (b ∷ bs) = cond (b == 45) (neg_ℤ (pos (value_of bs))) (pos (value_of (b ∷ bs)))

abbrev pub header_of : List (List ℕ) → PlaceForm
header_of (aux ∷ sp ∷ co ∷ nodes ∷ []) =
    cond (bytes_eq aux (codes "aux") && (bytes_eq sp (codes "sp") && (bytes_eq co (codes "co") && is_number nodes))) (Header (value_of nodes)) Formless
header_of fields = Formless

abbrev pub place_of : List (List ℕ) → PlaceForm
place_of (node ∷ x ∷ y ∷ []) = cond (is_number node && (is_signed x && is_signed y)) (Place (value_of node) (signed_of x) (signed_of y)) Formless
place_of fields = Formless

abbrev pub place_line_of : List (List ℕ) → PlaceForm
place_line_of [] = Skipped
place_line_of (first ∷ fields) =
    cond (begins_comment first) Skipped
    (cond (bytes_eq first (codes "p")) (header_of fields)
    (cond (bytes_eq first (codes "v")) (place_of fields) Formless))

abbrev pub place_line : List ℕ → PlaceForm
place_line line = place_line_of (fields_of line)
