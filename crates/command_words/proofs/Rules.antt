use Rattle.std.proofs.Common.{◌≡◌, ◌∙◌, ◌&&◌, ℕ, ◌+◌, Bool, true, false, not, min, refl, ap, ap₂, List, [], ◌∷◌, ◌++◌, map, Some, None, subst}
use Rattle.std.specs.List.{fold, list_all, list_any}
use Rattle.std.specs.Str.{bytes_eq}
use Rattle.std.proofs.lemmas.Slice.Eq.{bytes_eq-Decides}
use Rattle.clap.specs.Lexer.{usize_max}
use Rattle.clap.specs.Walk.{Row, Rule, arg_by_id, arg_by_index, arg_by_long, arg_by_short, has_row, with_default}
use Rattle.clap.specs.Takes.{is_given}
use Rattle.clap.specs.Kinds.{or_else}
use Rattle.clap.specs.Faults.{default_fault, defaults_fault}
use Rattle.command_words.specs.Commands.{Command, Word, is_one_of}
use Rattle.command_words.proofs.Uses.{built_flag, built_name, built_value}
use Rattle.command_words.proofs.MatchesOf.{Fits}

-- The rules of a command as clap builds them, and what it finds among them.

abbrev pub named_from : ℕ → List Word → List Rule
named_from i [] = []
named_from i (id ∷ ids) = built_name i id ∷ named_from (min (i + 1) usize_max) ids

abbrev pub rules_for : (ids valued plain : List Word) → List Rule
rules_for ids valued plain = named_from 1 ids ++ (map built_value valued ++ map built_flag plain)

pub same_word : (a b : Word) → bytes_eq a b ≡ true → a ≡ b
same_word a b e = (bytes_eq-Decides a b).0 e

long_named : (o : Word) (i : ℕ) (ids : List Word) (rest : List Rule) → arg_by_long (named_from i ids ++ rest) o ≡ arg_by_long rest o
long_named o i [] rest = refl
long_named o i (id ∷ ids) rest = long_named o (min (i + 1) usize_max) ids rest

long_valued : (o : Word) (xs : List Word) (rest : List Rule) → is_one_of xs o ≡ true → arg_by_long (map built_value xs ++ rest) o ≡ Some (built_value o)
long_valued o [] rest h = cc
long_valued o (x ∷ xs) rest h = go (bytes_eq x o) refl (long_valued o xs rest)
  where
    go : (t : Bool) → bytes_eq x o ≡ t → (is_one_of xs o ≡ true → arg_by_long (map built_value xs ++ rest) o ≡ Some (built_value o)) → arg_by_long (map built_value (x ∷ xs) ++ rest) o ≡ Some (built_value o)
    go true e rest_is = rw e (ap (λ y. Some (built_value y)) (same_word x o e))
    go false e rest_is = rw e (rest_is (rw e at h))

long_past : (o : Word) (xs : List Word) (rest : List Rule) → is_one_of xs o ≡ false → arg_by_long (map built_value xs ++ rest) o ≡ arg_by_long rest o
long_past o [] rest h = refl
long_past o (x ∷ xs) rest h = go (bytes_eq x o) refl (long_past o xs rest)
  where
    go : (t : Bool) → bytes_eq x o ≡ t → (is_one_of xs o ≡ false → arg_by_long (map built_value xs ++ rest) o ≡ arg_by_long rest o) → arg_by_long (map built_value (x ∷ xs) ++ rest) o ≡ arg_by_long rest o
    go true e rest_is = let bad : true ≡ false = rw e at h in cc
    go false e rest_is = rw e (rest_is (rw e at h))

long_plain : (o : Word) (xs : List Word) → is_one_of xs o ≡ true → arg_by_long (map built_flag xs) o ≡ Some (built_flag o)
long_plain o [] h = cc
long_plain o (x ∷ xs) h = go (bytes_eq x o) refl (long_plain o xs)
  where
    go : (t : Bool) → bytes_eq x o ≡ t → (is_one_of xs o ≡ true → arg_by_long (map built_flag xs) o ≡ Some (built_flag o)) → arg_by_long (map built_flag (x ∷ xs)) o ≡ Some (built_flag o)
    go true e rest_is = rw e (ap (λ y. Some (built_flag y)) (same_word x o e))
    go false e rest_is = rw e (rest_is (rw e at h))

long_none : (o : Word) (xs : List Word) → is_one_of xs o ≡ false → arg_by_long (map built_flag xs) o ≡ None
long_none o [] h = refl
long_none o (x ∷ xs) h = go (bytes_eq x o) refl (long_none o xs)
  where
    go : (t : Bool) → bytes_eq x o ≡ t → (is_one_of xs o ≡ false → arg_by_long (map built_flag xs) o ≡ None) → arg_by_long (map built_flag (x ∷ xs)) o ≡ None
    go true e rest_is = let bad : true ≡ false = rw e at h in cc
    go false e rest_is = rw e (rest_is (rw e at h))

id_named : (o : Word) (i : ℕ) (ids : List Word) (rest : List Rule) → is_one_of ids o ≡ false → arg_by_id (named_from i ids ++ rest) o ≡ arg_by_id rest o
id_named o i [] rest h = refl
id_named o i (x ∷ ids) rest h = go (bytes_eq x o) refl (id_named o (min (i + 1) usize_max) ids rest)
  where
    go : (t : Bool) → bytes_eq x o ≡ t → (is_one_of ids o ≡ false → arg_by_id (named_from (min (i + 1) usize_max) ids ++ rest) o ≡ arg_by_id rest o) → arg_by_id (named_from i (x ∷ ids) ++ rest) o ≡ arg_by_id rest o
    go true e rest_is = let bad : true ≡ false = rw e at h in cc
    go false e rest_is = rw e (rest_is (rw e at h))

id_valued : (o : Word) (xs : List Word) (rest : List Rule) → is_one_of xs o ≡ true → arg_by_id (map built_value xs ++ rest) o ≡ Some (built_value o)
id_valued o [] rest h = cc
id_valued o (x ∷ xs) rest h = go (bytes_eq x o) refl (id_valued o xs rest)
  where
    go : (t : Bool) → bytes_eq x o ≡ t → (is_one_of xs o ≡ true → arg_by_id (map built_value xs ++ rest) o ≡ Some (built_value o)) → arg_by_id (map built_value (x ∷ xs) ++ rest) o ≡ Some (built_value o)
    go true e rest_is = rw e (ap (λ y. Some (built_value y)) (same_word x o e))
    go false e rest_is = rw e (rest_is (rw e at h))

short_named : (x i : ℕ) (ids : List Word) (rest : List Rule) → arg_by_short (named_from i ids ++ rest) x ≡ arg_by_short rest x
short_named x i [] rest = refl
short_named x i (id ∷ ids) rest = short_named x (min (i + 1) usize_max) ids rest

short_valued : (x : ℕ) (xs : List Word) (rest : List Rule) → arg_by_short (map built_value xs ++ rest) x ≡ arg_by_short rest x
short_valued x [] rest = refl
short_valued x (o ∷ xs) rest = short_valued x xs rest

short_plain : (x : ℕ) (xs : List Word) → arg_by_short (map built_flag xs) x ≡ None
short_plain x [] = refl
short_plain x (o ∷ xs) = short_plain x xs

-- past the names no argument has a place
index_valued : (i : ℕ) (xs : List Word) (rest : List Rule) → arg_by_index (map built_value xs ++ rest) i ≡ arg_by_index rest i
index_valued i [] rest = refl
index_valued i (o ∷ xs) rest = index_valued i xs rest

index_plain : (i : ℕ) (xs : List Word) → arg_by_index (map built_flag xs) i ≡ None
index_plain i [] = refl
index_plain i (o ∷ xs) = index_plain i xs

pub no_place : (i : ℕ) (valued plain : List Word) → arg_by_index (map built_value valued ++ map built_flag plain) i ≡ None
no_place i valued plain = index_valued i valued (map built_flag plain) ∙ index_plain i plain

-- ---- defaults

name_default : (i : ℕ) (id : Word) (rows : List Row) → (default_fault rows (built_name i id) ≡ []) × (with_default rows (built_name i id) ≡ rows)
name_default i id rows = go (has_row id rows) refl
  where
    go : (t : Bool) → has_row id rows ≡ t → (default_fault rows (built_name i id) ≡ []) × (with_default rows (built_name i id) ≡ rows)
    go true e = (rw e refl, rw e refl)
    go false e = (rw e refl, rw e refl)

value_default : (o : Word) (rows : List Row) → (default_fault rows (built_value o) ≡ []) × (with_default rows (built_value o) ≡ rows)
value_default o rows = go (has_row o rows) refl
  where
    go : (t : Bool) → has_row o rows ≡ t → (default_fault rows (built_value o) ≡ []) × (with_default rows (built_value o) ≡ rows)
    go true e = (rw e refl, rw e refl)
    go false e = (rw e refl, rw e refl)

flag_default : (o : Word) (rows : List Row) → default_fault rows (built_flag o) ≡ []
flag_default o rows = go (has_row o rows) refl
  where
    go : (t : Bool) → has_row o rows ≡ t → default_fault rows (built_flag o) ≡ []
    go true e = rw e refl
    go false e = rw e refl

defaults_named : (rows : List Row) (i : ℕ) (ids : List Word) (rest : List Rule) → defaults_fault rows (named_from i ids ++ rest) ≡ defaults_fault rows rest
unfolding defaults_fault
defaults_named rows i [] rest = refl
defaults_named rows i (id ∷ ids) rest =
    ap₂ (λ f r. or_else f (defaults_fault r (named_from (min (i + 1) usize_max) ids ++ rest))) ((name_default i id rows).0) ((name_default i id rows).1)
    ∙ defaults_named rows (min (i + 1) usize_max) ids rest

defaults_valued : (rows : List Row) (xs : List Word) (rest : List Rule) → defaults_fault rows (map built_value xs ++ rest) ≡ defaults_fault rows rest
unfolding defaults_fault
defaults_valued rows [] rest = refl
defaults_valued rows (o ∷ xs) rest =
    ap₂ (λ f r. or_else f (defaults_fault r (map built_value xs ++ rest))) ((value_default o rows).0) ((value_default o rows).1) ∙ defaults_valued rows xs rest

defaults_plain : (rows : List Row) (xs : List Word) → defaults_fault rows (map built_flag xs) ≡ []
unfolding defaults_fault
defaults_plain rows [] = refl
defaults_plain rows (o ∷ xs) = ap (λ f. or_else f (defaults_fault (with_default rows (built_flag o)) (map built_flag xs))) (flag_default o rows) ∙ defaults_plain (with_default rows (built_flag o)) xs

-- the rows of the flags that weren't given
abbrev pub with_flags : List Row → List Word → List Row
with_flags rows plain = fold with_default rows (map built_flag plain)

finish_named : (rows : List Row) (i : ℕ) (ids : List Word) (rest : List Rule) → fold with_default rows (named_from i ids ++ rest) ≡ fold with_default rows rest
finish_named rows i [] rest = refl
finish_named rows i (id ∷ ids) rest = ap (λ r. fold with_default r (named_from (min (i + 1) usize_max) ids ++ rest)) ((name_default i id rows).1) ∙ finish_named rows (min (i + 1) usize_max) ids rest

finish_valued : (rows : List Row) (xs : List Word) (rest : List Rule) → fold with_default rows (map built_value xs ++ rest) ≡ fold with_default rows rest
finish_valued rows [] rest = refl
finish_valued rows (o ∷ xs) rest = ap (λ r. fold with_default r (map built_value xs ++ rest)) ((value_default o rows).1) ∙ finish_valued rows xs rest

pub finish_is : (rows : List Row) (ids valued plain : List Word) → fold with_default rows (rules_for ids valued plain) ≡ with_flags rows plain
finish_is rows ids valued plain = finish_named rows 1 ids (map built_value valued ++ map built_flag plain) ∙ finish_valued rows valued (map built_flag plain)

-- ---- nothing is required

abbrev lacks : List Row → List Rule → Bool
lacks rows rules = list_any (λ a. a.required && not (is_given a.id rows)) rules

complete_named : (rows : List Row) (i : ℕ) (ids : List Word) (rest : List Rule) → lacks rows (named_from i ids ++ rest) ≡ lacks rows rest
complete_named rows i [] rest = refl
complete_named rows i (id ∷ ids) rest = complete_named rows (min (i + 1) usize_max) ids rest

complete_valued : (rows : List Row) (xs : List Word) (rest : List Rule) → lacks rows (map built_value xs ++ rest) ≡ lacks rows rest
complete_valued rows [] rest = refl
complete_valued rows (o ∷ xs) rest = complete_valued rows xs rest

complete_plain : (rows : List Row) (xs : List Word) → lacks rows (map built_flag xs) ≡ false
complete_plain rows [] = refl
complete_plain rows (o ∷ xs) = complete_plain rows xs

-- no option has the id of a name
abbrev pub are_apart : (ids xs : List Word) → Bool
are_apart ids xs = list_all (λ x. not (is_one_of ids x)) xs

pub apart : (ids xs : List Word) (o : Word) → are_apart ids xs ≡ true → is_one_of xs o ≡ true → is_one_of ids o ≡ false
apart ids [] o all h = cc
apart ids (x ∷ xs) o all h = go (bytes_eq x o) refl (is_one_of ids x) refl (apart ids xs o)
  where
    go : (t : Bool) → bytes_eq x o ≡ t → (s : Bool) → is_one_of ids x ≡ s → (are_apart ids xs ≡ true → is_one_of xs o ≡ true → is_one_of ids o ≡ false) → is_one_of ids o ≡ false
    go t e true f rest = let bad : false ≡ true = rw f at all in cc
    go true e false f rest = subst (λ y. is_one_of ids y ≡ false) (same_word x o e) f
    go false e false f rest = rest (rw f at all) (rw e at h)

pub fits_table : (k : Command) (ids : List Word) → are_apart ids k.valued ≡ true → Fits (rules_for ids k.valued k.plain) k
fits_table k ids separate = record {
  valued = λ o h. (
    long_named o 1 ids _ ∙ long_valued o k.valued (map built_flag k.plain) h,
    id_named o 1 ids _ (apart ids k.valued o separate h) ∙ id_valued o k.valued (map built_flag k.plain) h,
  );
  plain = λ o h g. long_named o 1 ids _ ∙ long_past o k.valued (map built_flag k.plain) h ∙ long_plain o k.plain g;
  other = λ o h g. long_named o 1 ids _ ∙ long_past o k.valued (map built_flag k.plain) h ∙ long_none o k.plain g;
  short = λ x. short_named x 1 ids _ ∙ short_valued x k.valued (map built_flag k.plain) ∙ short_plain x k.plain;
  defaults = λ rows. defaults_named rows 1 ids _ ∙ defaults_valued rows k.valued (map built_flag k.plain) ∙ defaults_plain rows k.plain;
  complete = λ rows. complete_named rows 1 ids _ ∙ complete_valued rows k.valued (map built_flag k.plain) ∙ complete_plain rows k.plain;
}
