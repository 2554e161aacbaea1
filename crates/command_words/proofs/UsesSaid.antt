use Rattle.std.proofs.Common.{◌≡◌, ◌∙◌, ◌<◌, ◌≤◌, ◌&&◌, ◌||◌, Bool, cond, true, false, not, refl, sym, ap, ap₂, List, [], ◌∷◌, ◌++◌, map, length, Option, Some, None, codes, subst, append-nil, append_assoc, arith}
use Rattle.std.specs.List.{list_all}
use Rattle.std.specs.Str.{bytes_eq}
use Rattle.std.proofs.lemmas.Slice.Eq.{bytes_eq-Decides}
use Rattle.std.proofs.lemmas.List.Folds.{list_any-append}
use Rattle.clap.specs.Walk.{Row, first_of, has_row}
use Rattle.command_words.specs.Commands.{Command, Said, Word, and_then, are_distinct, is_one_of, nothing, value_in, with_name, with_plain, with_value}
use Rattle.command_words.proofs.Uses.{Use, Name, Value, Flag, added, row_for, taken}
use Rattle.command_words.proofs.MatchesOf.{and_then-none, or_false, same_text}
use Rattle.command_words.proofs.Rules.{same_word}

-- What uses say: their rows as a list of values by id, and that list beside the names and options that are said.

abbrev pub split : List Use → Said
split [] = nothing
split (Name w ∷ us) = with_name w (split us)
split (Value o v ∷ us) = with_value o v (split us)
split (Flag o ∷ us) = with_plain o (split us)

-- whether there are enough names
abbrev pub has_room : List Use → List Word → Bool
has_room [] left = true
has_room (Name w ∷ us) [] = false
has_room (Name w ∷ us) (id ∷ left) = has_room us left
has_room (Value o v ∷ us) left = has_room us left
has_room (Flag o ∷ us) left = has_room us left

abbrev pub entries : List Use → List Word → List (Word × Word)
entries [] left = []
entries (Name w ∷ us) [] = entries us []
entries (Name w ∷ us) (id ∷ left) = (id, w) ∷ entries us left
entries (Value o v ∷ us) left = (o, v) ∷ entries us left
entries (Flag o ∷ us) left = (o, codes "true") ∷ entries us left

abbrev pub put : List (Word × Word) → List Row → Option (List Row)
put [] rows = Some rows
put (e ∷ es) rows = and_then (added e.0 e.1 rows) (put es)

pull : (room : Bool) (x : Option (List Row)) (f : List Row → Option (List Row)) → and_then x (λ rows. cond room (f rows) None) ≡ cond room (and_then x f) None
pull true x f = refl
pull false x f = and_then-none x

taken_put : (us : List Use) (left : List Word) (rows : List Row) → taken us left rows ≡ cond (has_room us left) (put (entries us left) rows) None
taken_put [] left rows = refl
taken_put (Name w ∷ us) [] rows = refl
taken_put (Name w ∷ us) (id ∷ left) rows = (λ j. and_then (added id w rows) (λ more. taken_put us left more j)) ∙ pull (has_room us left) (added id w rows) (put (entries us left))
taken_put (Value o v ∷ us) left rows = (λ j. and_then (added o v rows) (λ more. taken_put us left more j)) ∙ pull (has_room us left) (added o v rows) (put (entries us left))
taken_put (Flag o ∷ us) left rows =
    (λ j. and_then (added o (codes "true") rows) (λ more. taken_put us left more j)) ∙ pull (has_room us left) (added o (codes "true") rows) (put (entries us left))

-- ---- no id twice

abbrev pub keys : List (Word × Word) → List Word
keys = map (λ e. e.0)

abbrev pub rows_for : List (Word × Word) → List Row
rows_for = map (λ e. row_for e.0 e.1)

abbrev are_new : List Row → List (Word × Word) → Bool
are_new rows es = list_all (λ e. not (has_row e.0 rows)) es

same_true : (a b : Bool) → (a ≡ true → b ≡ true) → (b ≡ true → a ≡ true) → a ≡ b
same_true true true f g = refl
same_true false false f g = refl
same_true true false f g = sym (f refl)
same_true false true f g = g refl

pub turned_eq : (a b : Word) → bytes_eq a b ≡ bytes_eq b a
turned_eq a b = same_true _ _ (λ e. (bytes_eq-Decides b a).1 (sym ((bytes_eq-Decides a b).0 e))) (λ e. (bytes_eq-Decides a b).1 (sym ((bytes_eq-Decides b a).0 e)))

shuffle : (a b f m : Bool) → (not (a || (b || false)) && (f && not m)) ≡ ((not a && f) && not (b || m))
shuffle true b f m = refl
shuffle false true true m = refl
shuffle false true false m = refl
shuffle false false true m = refl
shuffle false false false m = refl

new_after : (rows : List Row) (e : Word × Word) (es : List (Word × Word)) → are_new (rows ++ row_for e.0 e.1 ∷ []) es ≡ (are_new rows es && not (is_one_of (keys es) e.0))
new_after rows e [] = refl
new_after rows e (x ∷ es) =
    ap₂ (λ a b. not a && b) (list_any-append (λ (r : Row). bytes_eq r.id x.0) rows (row_for e.0 e.1 ∷ [])) (new_after rows e es)
    ∙ ap (λ b. not (has_row x.0 rows || (b || false)) && (are_new rows es && not (is_one_of (keys es) e.0))) (turned_eq e.0 x.0)
    ∙ shuffle (has_row x.0 rows) (bytes_eq x.0 e.0) (are_new rows es) (is_one_of (keys es) e.0)

and_assoc : (a b c : Bool) → ((a && b) && c) ≡ (a && (b && c))
and_assoc true b c = refl
and_assoc false b c = refl

and_swap : (a b c : Bool) → (a && (b && c)) ≡ (b && (a && c))
and_swap true true c = refl
and_swap true false c = refl
and_swap false true c = refl
and_swap false false c = refl

put_is : (es : List (Word × Word)) (rows : List Row) → put es rows ≡ cond (are_new rows es && are_distinct (keys es)) (Some (rows ++ rows_for es)) None
put_is [] rows = ap Some (sym (append-nil rows))
put_is (e ∷ es) rows = go (has_row e.0 rows) (put_is es (rows ++ row_for e.0 e.1 ∷ []))
  where
    go : (t : Bool) → put es (rows ++ row_for e.0 e.1 ∷ []) ≡ cond (are_new (rows ++ row_for e.0 e.1 ∷ []) es && are_distinct (keys es)) (Some ((rows ++ row_for e.0 e.1 ∷ []) ++ rows_for es)) None
        → and_then (cond t None (Some (rows ++ row_for e.0 e.1 ∷ []))) (put es)
        ≡ cond ((not t && are_new rows es) && (not (is_one_of (keys es) e.0) && are_distinct (keys es))) (Some (rows ++ rows_for (e ∷ es))) None
    go true rest = refl
    go false rest = rest
        ∙ ap₂ (λ t (all : List Row). cond (t && are_distinct (keys es)) (Some all) None) (new_after rows e es) (append_assoc rows (row_for e.0 e.1 ∷ []) (rows_for es))
        ∙ ap (λ t. cond t (Some (rows ++ rows_for (e ∷ es))) None) (and_assoc (are_new rows es) (not (is_one_of (keys es) e.0)) (are_distinct (keys es)))

all_new : (es : List (Word × Word)) → are_new [] es ≡ true
all_new [] = refl
all_new (e ∷ es) = all_new es

pub taken_is : (us : List Use) (left : List Word) → taken us left [] ≡ cond (has_room us left) (cond (are_distinct (keys (entries us left))) (Some (rows_for (entries us left))) None) None
taken_is us left =
    taken_put us left []
    ∙ ap (λ x. cond (has_room us left) x None) (put_is (entries us left) [] ∙ ap (λ t. cond (t && are_distinct (keys (entries us left))) (Some (rows_for (entries us left))) None) (all_new (entries us left)))

-- ---- what is found by an id

pub first_entry : (q : Word) (es : List (Word × Word)) → first_of q (rows_for es) ≡ value_in es q
first_entry q [] = refl
first_entry q (e ∷ es) = go (bytes_eq e.0 q) refl (first_entry q es)
  where
    go : (t : Bool) → bytes_eq e.0 q ≡ t → first_of q (rows_for es) ≡ value_in es q → first_of q (rows_for (e ∷ es)) ≡ value_in (e ∷ es) q
    go true is rest = rw is refl
    go false is rest = rw is rest

-- the options of uses are those of the command
abbrev pub AreOf : Command → List Use → Type 0
AreOf k [] = Unit {0}
AreOf k (Name w ∷ us) = AreOf k us
AreOf k (Value o v ∷ us) = (is_one_of k.valued o ≡ true) × AreOf k us
AreOf k (Flag o ∷ us) = (is_one_of k.plain o ≡ true) × AreOf k us

pub differs : (xs : List Word) (o q : Word) → is_one_of xs o ≡ true → is_one_of xs q ≡ false → bytes_eq o q ≡ false
differs xs o q here there = go (bytes_eq o q) refl
  where
    go : (t : Bool) → bytes_eq o q ≡ t → t ≡ false
    go false e = refl
    go true e = sym (subst (λ x. is_one_of xs x ≡ true) (same_word o q e) here) ∙ there

-- the names differ from each other and from the options
abbrev pub AreNames : Command → List Word → Type 0
AreNames k [] = Unit {0}
AreNames k (id ∷ left) = (is_one_of left id ≡ false) × ((is_one_of k.valued id ≡ false) × ((is_one_of k.plain id ≡ false) × AreNames k left))

-- the names in their places
abbrev pub in_places : List Word → List Word → List (Option Word)
in_places [] names = []
in_places (id ∷ left) [] = None ∷ in_places left []
in_places (id ∷ left) (w ∷ names) = Some w ∷ in_places left names

module _ (k : Command) (separate : (o : Word) → is_one_of k.plain o ≡ true → is_one_of k.valued o ≡ false) where
  flag_value : (o q : Word) → is_one_of k.plain o ≡ true → is_one_of k.valued q ≡ true → bytes_eq o q ≡ false
  flag_value o q is_flag is_value = turned_eq o q ∙ differs k.valued q o is_value (separate o is_flag)

  value_flag : (o q : Word) → is_one_of k.valued o ≡ true → is_one_of k.plain q ≡ true → bytes_eq o q ≡ false
  value_flag o q is_value is_flag = differs k.valued o q is_value (separate q is_flag)

  pub value_entry : (us : List Use) (left : List Word) (q : Word) → AreOf k us → is_one_of k.valued q ≡ true → is_one_of left q ≡ false → value_in (entries us left) q ≡ value_in (split us).valued q
  value_entry [] left q of is none = refl
  value_entry (Name w ∷ us) [] q of is none = value_entry us [] q of is none
  value_entry (Name w ∷ us) (id ∷ left) q of is none =
      let parts = or_false _ _ none in
      let other : bytes_eq id q ≡ false = parts.0 in
      rw other (value_entry us left q of is parts.1)
  value_entry (Value o v ∷ us) left q of is none = ap (cond (bytes_eq o q) (Some v)) (value_entry us left q of.1 is none)
  value_entry (Flag o ∷ us) left q of is none =
      let other : bytes_eq o q ≡ false = flag_value o q of.0 is in
      rw other (value_entry us left q of.1 is none)

  pub flag_entry : (us : List Use) (left : List Word) (q : Word) → AreOf k us → is_one_of k.plain q ≡ true → is_one_of left q ≡ false
      → value_in (entries us left) q ≡ cond (is_one_of (split us).plain q) (Some (codes "true")) None
  flag_entry [] left q of is none = refl
  flag_entry (Name w ∷ us) [] q of is none = flag_entry us [] q of is none
  flag_entry (Name w ∷ us) (id ∷ left) q of is none =
      let parts = or_false _ _ none in
      let other : bytes_eq id q ≡ false = parts.0 in
      rw other (flag_entry us left q of is parts.1)
  flag_entry (Value o v ∷ us) left q of is none =
      let other : bytes_eq o q ≡ false = value_flag o q of.0 is in
      rw other (flag_entry us left q of.1 is none)
  flag_entry (Flag o ∷ us) left q of is none = go (bytes_eq o q) (flag_entry us left q of.1 is none)
    where
      go : (t : Bool) → value_in (entries us left) q ≡ cond (is_one_of (split us).plain q) (Some (codes "true")) None
          → cond t (Some (codes "true")) (value_in (entries us left) q) ≡ cond (t || is_one_of (split us).plain q) (Some (codes "true")) None
      go true rest = refl
      go false rest = rest

  -- ---- ids

  value_key : (us : List Use) (left : List Word) (q : Word) → AreOf k us → is_one_of k.valued q ≡ true → is_one_of left q ≡ false → is_one_of (keys (entries us left)) q ≡ is_one_of (keys (split us).valued) q
  value_key [] left q of is none = refl
  value_key (Name w ∷ us) [] q of is none = value_key us [] q of is none
  value_key (Name w ∷ us) (id ∷ left) q of is none =
      let parts = or_false _ _ none in
      let other : bytes_eq id q ≡ false = parts.0 in
      rw other (value_key us left q of is parts.1)
  value_key (Value o v ∷ us) left q of is none = ap (λ t. bytes_eq o q || t) (value_key us left q of.1 is none)
  value_key (Flag o ∷ us) left q of is none =
      let other : bytes_eq o q ≡ false = flag_value o q of.0 is in
      rw other (value_key us left q of.1 is none)

  flag_key : (us : List Use) (left : List Word) (q : Word) → AreOf k us → is_one_of k.plain q ≡ true → is_one_of left q ≡ false → is_one_of (keys (entries us left)) q ≡ is_one_of (split us).plain q
  flag_key [] left q of is none = refl
  flag_key (Name w ∷ us) [] q of is none = flag_key us [] q of is none
  flag_key (Name w ∷ us) (id ∷ left) q of is none =
      let parts = or_false _ _ none in
      let other : bytes_eq id q ≡ false = parts.0 in
      rw other (flag_key us left q of is parts.1)
  flag_key (Value o v ∷ us) left q of is none =
      let other : bytes_eq o q ≡ false = value_flag o q of.0 is in
      rw other (flag_key us left q of.1 is none)
  flag_key (Flag o ∷ us) left q of is none = ap (λ t. bytes_eq o q || t) (flag_key us left q of.1 is none)

  name_key : (us : List Use) (left : List Word) (q : Word) → AreOf k us → is_one_of k.valued q ≡ false → is_one_of k.plain q ≡ false → is_one_of left q ≡ false → is_one_of (keys (entries us left)) q ≡ false
  name_key [] left q of v p none = refl
  name_key (Name w ∷ us) [] q of v p none = name_key us [] q of v p none
  name_key (Name w ∷ us) (id ∷ left) q of v p none =
      let parts = or_false _ _ none in
      let other : bytes_eq id q ≡ false = parts.0 in
      rw other (name_key us left q of v p parts.1)
  name_key (Value o w ∷ us) left q of v p none =
      let other : bytes_eq o q ≡ false = differs k.valued o q of.0 v in
      rw other (name_key us left q of.1 v p none)
  name_key (Flag o ∷ us) left q of v p none =
      let other : bytes_eq o q ≡ false = differs k.plain o q of.0 p in
      rw other (name_key us left q of.1 v p none)

  pub distinct_keys : (us : List Use) (left : List Word) → AreOf k us → AreNames k left
      → ((q : Word) → is_one_of k.valued q ≡ true → is_one_of left q ≡ false) → ((q : Word) → is_one_of k.plain q ≡ true → is_one_of left q ≡ false)
      → are_distinct (keys (entries us left)) ≡ (are_distinct (keys (split us).valued) && are_distinct (split us).plain)
  distinct_keys [] left of names v p = refl
  distinct_keys (Name w ∷ us) [] of names v p = distinct_keys us [] of names v p
  distinct_keys (Name w ∷ us) (id ∷ left) of names v p =
      let absent : is_one_of (keys (entries us left)) id ≡ false = name_key us left id of names.1.0 names.1.1.0 names.0 in
      rw absent (distinct_keys us left of names.1.1.1 (λ q is. (or_false _ _ (v q is)).1) (λ q is. (or_false _ _ (p q is)).1))
  distinct_keys (Value o w ∷ us) left of names v p =
      ap₂ (λ a b. not a && b) (value_key us left o of.1 of.0 (v o of.0)) (distinct_keys us left of.1 names v p)
      ∙ sym (and_assoc (not (is_one_of (keys (split us).valued) o)) (are_distinct (keys (split us).valued)) (are_distinct (split us).plain))
  distinct_keys (Flag o ∷ us) left of names v p =
      ap₂ (λ a b. not a && b) (flag_key us left o of.1 of.0 (p o of.0)) (distinct_keys us left of.1 names v p)
      ∙ and_swap (not (is_one_of (split us).plain o)) (are_distinct (keys (split us).valued)) (are_distinct (split us).plain)

  -- ---- names

  none_in_places : (left : List Word) → map (value_in []) left ≡ in_places left []
  none_in_places [] = refl
  none_in_places (id ∷ left) = ap (λ xs. None ∷ xs) (none_in_places left)

  skipped : (o v : Word) (es : List (Word × Word)) (left : List Word) → is_one_of left o ≡ false → map (value_in ((o, v) ∷ es)) left ≡ map (value_in es) left
  skipped o v es [] none = refl
  skipped o v es (id ∷ left) none =
      let parts = or_false _ _ none in
      let other : bytes_eq o id ≡ false = turned_eq o id ∙ parts.0 in
      ap₂ (λ x (xs : List (Option Word)). x ∷ xs) (ap (λ t. cond t (Some v) (value_in es id)) other) (skipped o v es left parts.1)

  pub names_entry : (us : List Use) (left : List Word) → AreOf k us → AreNames k left
      → ((q : Word) → is_one_of k.valued q ≡ true → is_one_of left q ≡ false) → ((q : Word) → is_one_of k.plain q ≡ true → is_one_of left q ≡ false)
      → map (value_in (entries us left)) left ≡ in_places left (split us).names
  names_entry [] left of names v p = none_in_places left
  names_entry (Name w ∷ us) [] of names v p = refl
  names_entry (Name w ∷ us) (id ∷ left) of names v p =
      ap₂ (λ x (xs : List (Option Word)). x ∷ xs) (ap (λ t. cond t (Some w) (value_in (entries us left) id)) (same_text id))
      (skipped id w (entries us left) left names.0 ∙ names_entry us left of names.1.1.1 (λ q is. (or_false _ _ (v q is)).1) (λ q is. (or_false _ _ (p q is)).1))
  names_entry (Value o w ∷ us) left of names v p = skipped o w (entries us left) left (v o of.0) ∙ names_entry us left of.1 names v p
  names_entry (Flag o ∷ us) left of names v p = skipped o (codes "true") (entries us left) left (p o of.0) ∙ names_entry us left of.1 names v p

pub room_true : (us : List Use) (left : List Word) → has_room us left ≡ true → length (split us).names ≤ length left
room_true [] left e = omega arith
room_true (Name w ∷ us) [] e = cc
room_true (Name w ∷ us) (id ∷ left) e = let rest = room_true us left e in omega arith
room_true (Value o v ∷ us) left e = room_true us left e
room_true (Flag o ∷ us) left e = room_true us left e

pub room_false : (us : List Use) (left : List Word) → has_room us left ≡ false → length left < length (split us).names
room_false [] left e = cc
room_false (Name w ∷ us) [] e = omega arith
room_false (Name w ∷ us) (id ∷ left) e = let rest = room_false us left e in omega arith
room_false (Value o v ∷ us) left e = room_false us left e
room_false (Flag o ∷ us) left e = room_false us left e
