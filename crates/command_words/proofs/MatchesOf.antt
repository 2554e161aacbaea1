use Rattle.std.proofs.Common.{◌≡◌, ◌∙◌, ◌==◌, ◌&&◌, ◌||◌, ℕ, ◌+◌, Bool, cond, true, false, not, suc, min, refl, sym, ap, ap₂, List, [], ◌∷◌, ◌++◌, map, length, take, Option, Some, None, option_map, is_some, codes, append-nil, arith, inl, inr, subst}
use Rattle.std.specs.List.{before_first, after_first, position_or_len, fold, list_any}
use Rattle.std.specs.Str.{IsUtf8, bytes_eq, chars}
use Rattle.std.proofs.lemmas.Str.{chars_past_char, encodes-chars}
use Rattle.std.proofs.lemmas.Slice.Eq.{bytes_eq-Decides}
use Rattle.std.proofs.lemmas.Bool.{cases_eq, ne_eqb}
use lib.Utf8.{encode, encodes}
use Rattle.clap.specs.Lexer.{usize_max, long_of, name_and_value, short_of}
use Rattle.clap.specs.Walk.{Held, Row, Rule, Step, Text, Waiting, Walk, after_flag, after_step, idle, long_met, next, option, option_word, takes_values, plain_word, positional, subcommand_met, word_met, value, arg_by_id, arg_by_index, arg_by_long, arg_by_short, at_row, finished, has_row, more_values, settled, used, walked, with_default, with_values, without}
use Rattle.clap.specs.Simple.{Shape, new_shape}
use Rattle.clap.specs.Takes.{is_given}
use Rattle.clap.specs.Kinds.{Kinds, or_else}
use Rattle.clap.specs.Faults.{bundle_fault, check_fault, defaults_fault, flags_fault, long_fault, option_fault, react_fault, settle_fault, step_fault, turn_fault, use_fault, walk_fault, word_fault}
use Rattle.clap.specs.declared.error.kind.ErrorKind.TheVariants.{InvalidValue, TooManyValues, UnknownArgument}
use Rattle.clap.specs.declared.error.kind.ErrorKind.{ErrorKind}
use Rattle.clap.specs.declared.builder.value_parser.Reading.TheVariants as reading
use Rattle.clap.specs.declared.parser.matches.ValueSource.TheVariants.{CommandLine}
use Rattle.command_words.specs.Commands.{Command, Meaning, Names, Word, Valued, Refused, Plain, Awaits, and_then, bare_option, joined_option, is_equals, is_one_of, meaning_of, option_meaning}
use Rattle.command_words.specs.Reading.{cut}
use Rattle.command_words.proofs.Uses.{Use, Name, Value, Flag, added, built_flag, built_name, built_value, is_dashed, row_for, taken, uses_by, uses_from}

pub cut-or_else : {X : Type 0} (a b : Kinds) (x : Option X) → cut (or_else a b) x ≡ cut a (cut b x)
cut-or_else [] b x = refl
cut-or_else (k ∷ ks) b x = refl

pub or_false : (a b : Bool) → (a || b) ≡ false → (a ≡ false) × (b ≡ false)
or_false true b e = cc
or_false false b e = (refl, e)

pub at_row_none : (id : Text) (change : Row → List Row) (missing rows : List Row) → has_row id rows ≡ false → at_row id change missing rows ≡ rows ++ missing
at_row_none id change missing [] e = refl
at_row_none id change missing (r ∷ rs) e =
    let parts = or_false _ _ e in
    let differs : bytes_eq r.id id ≡ false = parts.0 in
    rw differs (ap (λ xs. r ∷ xs) (at_row_none id change missing rs parts.1))

without_none : (id : Text) (rows : List Row) → has_row id rows ≡ false → without id rows ≡ rows
without_none id rows e = at_row_none id (λ _. []) [] rows e ∙ append-nil rows

-- one more row for an id that has none
one_more : (id v : Text) (rows : List Row) → has_row id rows ≡ false → with_values id reading.AsWritten CommandLine (v ∷ []) (without id rows) ≡ rows ++ row_for id v ∷ []
one_more id v rows e = ap (with_values id reading.AsWritten CommandLine (v ∷ [])) (without_none id rows e) ∙ at_row_none id (more_values CommandLine (v ∷ [])) (row_for id v ∷ []) rows e

use_name : (i : ℕ) (id v : Text) (rows : List Row) → cut (use_fault false (built_name i id) (v ∷ []) rows) (Some (used (built_name i id) (v ∷ []) rows)) ≡ added id v rows
use_name i id v rows = go (has_row id rows) refl
  where
    go : (b : Bool) → has_row id rows ≡ b → cut (use_fault false (built_name i id) (v ∷ []) rows) (Some (used (built_name i id) (v ∷ []) rows)) ≡ added id v rows
    go true e = rw e refl
    go false e = rw e (ap Some (one_more id v rows e))

use_value : (o v : Text) (rows : List Row) → cut (use_fault false (built_value o) (v ∷ []) rows) (Some (used (built_value o) (v ∷ []) rows)) ≡ added o v rows
use_value o v rows = go (has_row o rows) refl
  where
    go : (b : Bool) → has_row o rows ≡ b → cut (use_fault false (built_value o) (v ∷ []) rows) (Some (used (built_value o) (v ∷ []) rows)) ≡ added o v rows
    go true e = rw e refl
    go false e = rw e (ap Some (one_more o v rows e))

use_flag : (o : Text) (rows : List Row) → cut (use_fault false (built_flag o) [] rows) (Some (used (built_flag o) [] rows)) ≡ added o (codes "true") rows
use_flag o rows = go (has_row o rows) refl
  where
    go : (b : Bool) → has_row o rows ≡ b → cut (use_fault false (built_flag o) [] rows) (Some (used (built_flag o) [] rows)) ≡ added o (codes "true") rows
    go true e = rw e refl
    go false e = rw e (ap Some (one_more o (codes "true") rows e))

-- ---- between two words

pub record Fits (rules : List Rule) (k : Command) : Type 0 where
  pub valued : (o : Word) → is_one_of k.valued o ≡ true → (arg_by_long rules o ≡ Some (built_value o)) × (arg_by_id rules o ≡ Some (built_value o))
  pub plain : (o : Word) → is_one_of k.valued o ≡ false → is_one_of k.plain o ≡ true → arg_by_long rules o ≡ Some (built_flag o)
  pub other : (o : Word) → is_one_of k.valued o ≡ false → is_one_of k.plain o ≡ false → arg_by_long rules o ≡ None
  pub short : (x : ℕ) → arg_by_short rules x ≡ None
  pub defaults : (rows : List Row) → defaults_fault rows rules ≡ []
  pub complete : (rows : List Row) → list_any (λ a. a.required && not (is_given a.id rows)) rules ≡ false

-- the names that are left stand at the positions from i on
abbrev pub Places : List Rule → ℕ → List Word → Type 0
Places rules i [] = arg_by_index rules i ≡ None
Places rules i (id ∷ left) = (arg_by_index rules i ≡ Some (built_name i id)) × ((arg_by_id rules id ≡ Some (built_name i id)) × Places rules (min (i + 1) usize_max) left)

abbrev pub shape_for : Text → List Rule → Shape
shape_for name rules = record (new_shape name) { rules = rules; disable_help_flag = true; disable_help_subcommand = true; is_built = true }

-- the rows once what is pending is used
abbrev pub now : List Rule → Held → Option (List Row)
now rules h = cut (settle_fault rules false h) (Some (settled rules h).rows)

-- the rows once the flags have their defaults
abbrev pub finish : List Rule → List Row → List Row
finish rules rows = fold with_default rows rules

abbrev pub end : Text → List Rule → Held → Option (List Row)
end name rules h = cut (settle_fault rules false h) (cut (defaults_fault (settled rules h).rows rules) (cut (check_fault (shape_for name rules) (finished rules h) false) (Some (finished rules h))))

abbrev pub answer : Text → List Rule → Walk → List Word → Option (List Row)
answer name rules w words = cut (walk_fault (shape_for name rules) [] w words) (end name rules (fold (walked rules []) w words).held)

pub and_then-none : {X Y : Type 0} (x : Option X) → and_then {X = X} {Y = Y} x (λ y. None) ≡ None
and_then-none None = refl
and_then-none (Some x) = refl

and_then-Some : {X : Type 0} (x : Option X) → and_then x Some ≡ x
and_then-Some None = refl
and_then-Some (Some x) = refl

and_then-cut : {X Y : Type 0} (a : Kinds) (x : Option X) (f : X → Option Y) → and_then (cut a x) f ≡ cut a (and_then x f)
and_then-cut [] x f = refl
and_then-cut (k ∷ ks) x f = refl

and_then-and_then : {X Y Z : Type 0} (x : Option X) (f : X → Option Y) (g : Y → Option Z) → and_then (and_then x f) g ≡ and_then x (λ y. and_then (f y) g)
and_then-and_then None f g = refl
and_then-and_then (Some x) f g = refl

option_map-cut : {X Y : Type 0} (a : Kinds) (x : Option X) (f : X → Y) → option_map f (cut a x) ≡ cut a (option_map f x)
option_map-cut [] x f = refl
option_map-cut (k ∷ ks) x f = refl

abbrev pub walk_at : Held → Waiting → ℕ → Bool → Walk
walk_at h q i t = record { held = h; waiting = q; position = i; is_trailing = t; stopped = None }

-- what is held where no bundle of flags is read
abbrev pub held : List Row → Option (Text × List Text) → Held
held rows pending = record { rows = rows; pending = pending; skip = 0 }

pub and_false : (b : Bool) → (b && false) ≡ false
and_false true = refl
and_false false = refl

through : {X Y Z : Type 0} (a : Kinds) (x : X) (f : X → Option Y) (g : Y → Z) → cut a (option_map g (f x)) ≡ option_map g (and_then (cut a (Some x)) f)
through [] x f g = refl
through (k ∷ ks) x f g = refl

-- what a name leaves pending
abbrev pub named : List Rule → Word → Word → Held → Held
named rules id x h = record { rows = (settled rules h).rows; pending = Some (id, x ∷ []); skip = h.skip }

now_named : (rules : List Rule) (i : ℕ) (id x : Word) (h : Held) → arg_by_id rules id ≡ Some (built_name i id) → now rules (named rules id x h) ≡ added id x (settled rules h).rows
now_named rules i id x h e = rw e (use_name i id x (settled rules h).rows)

now_valued : (rules : List Rule) (o x : Word) (h : Held) → arg_by_id rules o ≡ Some (built_value o) → now rules (named rules o x h) ≡ added o x (settled rules h).rows
now_valued rules o x h e = rw e (use_value o x (settled rules h).rows)

-- the rows after uses, if there are some
abbrev pub rows_by : Option (List Use) → List Word → List Row → Option (List Row)
rows_by uses left rows = and_then uses (λ us. taken us left rows)

swap_value : (o v : Word) (uses : Option (List Use)) (left : List Word) (rows : List Row)
    → rows_by (option_map (λ us. Value o v ∷ us) uses) left rows ≡ and_then (added o v rows) (rows_by uses left)
swap_value o v None left rows = sym (and_then-none (added o v rows))
swap_value o v (Some us) left rows = refl

swap_flag : (o : Word) (uses : Option (List Use)) (left : List Word) (rows : List Row)
    → rows_by (option_map (λ us. Flag o ∷ us) uses) left rows ≡ and_then (added o (codes "true") rows) (rows_by uses left)
swap_flag o None left rows = sym (and_then-none (added o (codes "true") rows))
swap_flag o (Some us) left rows = refl

swap_name : (x : Word) (uses : Option (List Use)) (id : Word) (left : List Word) (rows : List Row)
    → rows_by (option_map (λ us. Name x ∷ us) uses) (id ∷ left) rows ≡ and_then (added id x rows) (rows_by uses left)
swap_name x None id left rows = sym (and_then-none (added id x rows))
swap_name x (Some us) id left rows = refl

swap_no_name : (x : Word) (uses : Option (List Use)) (rows : List Row) → rows_by (option_map (λ us. Name x ∷ us) uses) [] rows ≡ None
swap_no_name x None rows = refl
swap_no_name x (Some us) rows = refl

-- ---- words

pub same_text : (o : Word) → bytes_eq o o ≡ true
same_text o = (bytes_eq-Decides o o).1 refl

before_all : (p : ℕ → Bool) (xs : List ℕ) → list_any p xs ≡ false → before_first p xs ≡ xs
before_all p [] e = refl
before_all p (x ∷ xs) e =
    let parts = or_false _ _ e in
    let first : p x ≡ false = parts.0 in
    let one : 1 + position_or_len p xs ≡ suc (position_or_len p xs) = omega arith in
    rw first (ap (λ n. take n (x ∷ xs)) one ∙ ap (λ ys. x ∷ ys) (before_all p xs parts.1))

-- the text of a character ends in something after a first byte of ASCII
chars_some : (x : ℕ) (xs : List ℕ) → IsUtf8 (45 ∷ x ∷ xs) → (c : ℕ) × ((cs : List ℕ) × (chars (x ∷ xs) ≡ c ∷ cs))
unfolding encode
chars_some x xs u = go (chars (x ∷ xs)) refl
  where
    go : (l : List ℕ) → chars (x ∷ xs) ≡ l → (c : ℕ) × ((cs : List ℕ) × (chars (x ∷ xs) ≡ c ∷ cs))
    go [] e =
        let parts : chars (45 ∷ x ∷ xs) ≡ 45 ∷ chars (x ∷ xs) = chars_past_char (45 ∷ x ∷ xs) (x ∷ xs) 45 u refl in
        let one : chars (45 ∷ x ∷ xs) ≡ 45 ∷ [] = parts ∙ ap (λ l. 45 ∷ l) e in
        let back : 45 ∷ [] ≡ 45 ∷ x ∷ xs = ap encodes (sym one) ∙ encodes-chars (45 ∷ x ∷ xs) u in
        cc
    go (c ∷ cs) e = (c, (cs, e))

abbrev pub AreUtf8 : List Word → Type 0
AreUtf8 [] = Unit {0}
AreUtf8 (w ∷ ws) = IsUtf8 w × AreUtf8 ws

-- how a word reads that is neither `--` nor an option
pub record IsNoOption (x : Word) : Type 0 where
  pub ends : bytes_eq x (45 ∷ 45 ∷ []) ≡ false
  pub long : long_of x ≡ None
  pub short : short_of x ≡ None

-- and one that begins with a dash and no second one
pub record IsShort (x flags : Word) : Type 0 where
  pub ends : bytes_eq x (45 ∷ 45 ∷ []) ≡ false
  pub long : long_of x ≡ None
  pub short : short_of x ≡ Some flags

no_first_dash : (b : ℕ) (bs : List ℕ) → (b == 45) ≡ false → IsNoOption (b ∷ bs)
no_first_dash b bs e = record { ends = rw e refl; long = rw e refl; short = rw e refl }

no_second_dash : (c : ℕ) (cs : List ℕ) → (c == 45) ≡ false → IsShort (45 ∷ c ∷ cs) (c ∷ cs)
no_second_dash c cs e = record { ends = rw e refl; long = rw e refl; short = rw e refl }

no_subcommand : (q : Waiting) (x : Word) → subcommand_met [] q x ≡ None
no_subcommand idle x = refl
no_subcommand (option o) x = refl
no_subcommand positional x = refl

-- the rows that are wanted after uses
abbrev pub wanted : List Rule → Option (List Row) → Option (List Use) → List Word → Option (List Row)
wanted rules base uses left = option_map (finish rules) (and_then base (rows_by uses left))

-- what further words come to where nothing waits
abbrev pub After : Text → List Rule → List Word → Option (List Use) → Type 0
After name rules words uses = (rows : List Row) (pending : Option (Text × List Text)) (i : ℕ) (left : List Word) → Places rules i left
    → answer name rules (walk_at (held rows pending) idle i false) words ≡ wanted rules (now rules (held rows pending)) uses left

-- and where an option waits for its value
abbrev pub Awaiting : Text → List Rule → Command → List Word → (Word → Option (List Use)) → Type 0
Awaiting name rules k words uses = (rows : List Row) (o : Word) (i : ℕ) (left : List Word) → is_one_of k.valued o ≡ true → Places rules i left
    → answer name rules (walk_at (held rows (Some (o, []))) (option o) i false) words ≡ wanted rules (Some rows) (uses o) left

module _ (name : Text) (rules : List Rule) (k : Command) (fits : Fits rules k) where
  ends : (h : Held) → end name rules h ≡ option_map (finish rules) (now rules h)
  ends h =
      let given = fits.complete (finished rules h) in
      let defaults = fits.defaults (settled rules h).rows in
      rw (defaults, given) (sym (option_map-cut (settle_fault rules false h) (Some (settled rules h).rows) (finish rules)))

  answer-nil : (w : Walk) → answer name rules w [] ≡ end name rules w.held
  unfolding walk_fault
  answer-nil w = refl

  answer-word : (w : Walk) (x : Word) (xs : List Word) → answer name rules w (x ∷ xs) ≡ cut (turn_fault (shape_for name rules) [] w x) (answer name rules (walked rules [] w x) xs)
  unfolding walk_fault
  answer-word w x xs = cut-or_else (turn_fault (shape_for name rules) [] w x) (walk_fault (shape_for name rules) [] (walked rules [] w x) xs) _

  -- a word that goes to a positional
  placed : (x : Word) (xs : List Word) (t : Bool) (q : Waiting) (h : Held) (i : ℕ) → Option (List Row)
  placed x xs t q h i = cut (step_fault (shape_for name rules) i h value) (answer name rules (after_step rules x (walk_at h q i t) h value) xs)

  placed_none : (x : Word) (xs : List Word) (t : Bool) (q : Waiting) (h : Held) (i : ℕ) → arg_by_index rules i ≡ None → placed x xs t q h i ≡ None
  unfolding placed
  placed_none x xs t q h i e = rw e refl

  placed_some : (x : Word) (xs : List Word) (t : Bool) (q : Waiting) (h : Held) (i : ℕ) (id : Word) → arg_by_index rules i ≡ Some (built_name i id)
      → placed x xs t q h i ≡ cut (settle_fault rules false h) (answer name rules (walk_at (named rules id x h) idle (min (i + 1) usize_max) t) xs)
  unfolding placed
  placed_some x xs true q h i id e = rw (e, and_false) refl
  placed_some x xs false q h i id e = rw (e, and_false) refl

  pub trailing : (words : List Word) (h : Held) (q : Waiting) (i : ℕ) (left : List Word) → Places rules i left
      → answer name rules (walk_at h q i true) words ≡ option_map (finish rules) (and_then (now rules h) (taken (map Name words) left))
  unfolding placed walked
  trailing [] h q i left p = answer-nil (walk_at h q i true) ∙ ends h ∙ ap (option_map (finish rules)) (sym (and_then-Some (now rules h)))
  trailing (x ∷ xs) h q i [] p =
      answer-word (walk_at h q i true) x xs ∙ placed_none x xs true q h i p ∙ ap (option_map (finish rules)) (sym (and_then-none (now rules h)))
  trailing (x ∷ xs) h q i (id ∷ left) p =
      let rest = trailing xs (named rules id x h) idle (min (i + 1) usize_max) left p.1.1 in
      answer-word (walk_at h q i true) x xs ∙ placed_some x xs true q h i id p.0
      ∙ ap (cut (settle_fault rules false h)) (rest ∙ ap (λ o. option_map (finish rules) (and_then o (taken (map Name xs) left))) (now_named rules i id x h p.1.0))
      ∙ through (settle_fault rules false h) (settled rules h).rows (λ rows. and_then (added id x rows) (taken (map Name xs) left)) (finish rules)

  -- a word that goes to a name
  name_word : (x : Word) (xs : List Word) (uses : Option (List Use)) → After name rules xs uses → (rows : List Row) (pending : Option (Text × List Text)) (i : ℕ) (left : List Word) → Places rules i left
      → placed x xs false idle (held rows pending) i ≡ wanted rules (now rules (held rows pending)) (option_map (λ us. Name x ∷ us) uses) left
  name_word x xs uses after rows pending i [] p =
      placed_none x xs false idle (held rows pending) i p ∙ ap (option_map (finish rules)) (sym (and_then-none (now rules (held rows pending))))
      ∙ (λ j. option_map (finish rules) (and_then (now rules (held rows pending)) (λ rows. sym (swap_no_name x uses rows) j)))
  name_word x xs uses after rows pending i (id ∷ left) p =
      let h = held rows pending in
      let rest = after (settled rules h).rows (Some (id, x ∷ [])) (min (i + 1) usize_max) left p.1.1 in
      placed_some x xs false idle h i id p.0
      ∙ ap (cut (settle_fault rules false h)) (rest ∙ ap (λ o. option_map (finish rules) (and_then o (rows_by uses left))) (now_named rules i id x h p.1.0))
      ∙ through (settle_fault rules false h) (settled rules h).rows (λ rows. and_then (added id x rows) (rows_by uses left)) (finish rules)
      ∙ (λ j. option_map (finish rules) (and_then (now rules h) (λ rows. sym (swap_name x uses id left rows) j)))

  -- `--x` or `--x=v`, by what clap finds of x
  long_step : Word → Option Word → List Word → Held → ℕ → Option Rule → Option (List Row)
  long_step x v xs h i found =
      let met = long_met rules found v h in
      let step = after_flag rules idle x met.0 met.1 in
      cut (or_else (long_fault rules false found v h) (step_fault (shape_for name rules) i step.0 step.1)) (answer name rules (after_step rules x (walk_at h idle i false) step.0 step.1) xs)

  long_value : (x o y : Word) (xs : List Word) (uses : Option (List Use)) → After name rules xs uses → (rows : List Row) (pending : Option (Text × List Text)) (i : ℕ) (left : List Word) → Places rules i left
      → long_step x (Some y) xs (held rows pending) i (Some (built_value o)) ≡ wanted rules (now rules (held rows pending)) (option_map (λ us. Value o y ∷ us) uses) left
  unfolding long_step
  long_value x o y xs uses after rows pending i left p =
      let h = held rows pending in
      let before = settle_fault rules false h in
      let so_far = (settled rules h).rows in
      let fault = use_fault false (built_value o) (y ∷ []) so_far in
      let more = used (built_value o) (y ∷ []) so_far in
      let rest = answer name rules (walk_at (held more None) idle i false) xs in
      cut-or_else (or_else before fault) [] rest ∙ cut-or_else before fault rest ∙ ap (λ o. cut before (cut fault o)) (after more None i left p)
      ∙ ap (cut before) (through fault more (rows_by uses left) (finish rules) ∙ ap (λ o. option_map (finish rules) (and_then o (rows_by uses left))) (use_value o y so_far))
      ∙ through before so_far (λ rows. and_then (added o y rows) (rows_by uses left)) (finish rules)
      ∙ (λ j. option_map (finish rules) (and_then (now rules h) (λ rows. sym (swap_value o y uses left rows) j)))

  long_flag : (x o : Word) (xs : List Word) (uses : Option (List Use)) → After name rules xs uses → (rows : List Row) (pending : Option (Text × List Text)) (i : ℕ) (left : List Word) → Places rules i left
      → long_step x None xs (held rows pending) i (Some (built_flag o)) ≡ wanted rules (now rules (held rows pending)) (option_map (λ us. Flag o ∷ us) uses) left
  unfolding long_step
  long_flag x o xs uses after rows pending i left p =
      let h = held rows pending in
      let before = settle_fault rules false h in
      let so_far = (settled rules h).rows in
      let fault = use_fault false (built_flag o) [] so_far in
      let more = used (built_flag o) [] so_far in
      let rest = answer name rules (walk_at (held more None) idle i false) xs in
      cut-or_else (or_else before fault) [] rest ∙ cut-or_else before fault rest ∙ ap (λ o. cut before (cut fault o)) (after more None i left p)
      ∙ ap (cut before) (through fault more (rows_by uses left) (finish rules) ∙ ap (λ o. option_map (finish rules) (and_then o (rows_by uses left))) (use_flag o so_far))
      ∙ through before so_far (λ rows. and_then (added o (codes "true") rows) (rows_by uses left)) (finish rules)
      ∙ (λ j. option_map (finish rules) (and_then (now rules h) (λ rows. sym (swap_flag o uses left rows) j)))

  long_waits : (x o : Word) (xs : List Word) (uses : Word → Option (List Use)) → Awaiting name rules k xs uses → (rows : List Row) (pending : Option (Text × List Text)) (i : ℕ) (left : List Word)
      → is_one_of k.valued o ≡ true → Places rules i left
      → long_step x None xs (held rows pending) i (Some (built_value o)) ≡ wanted rules (now rules (held rows pending)) (uses o) left
  unfolding long_step
  long_waits x o xs uses after rows pending i left is p =
      let h = held rows pending in
      let before = settle_fault rules false h in
      let so_far = (settled rules h).rows in
      let rest = answer name rules (walk_at (held so_far (Some (o, []))) (option o) i false) xs in
      cut-or_else before [] rest ∙ ap (cut before) (after so_far o i left is p) ∙ through before so_far (rows_by (uses o) left) (finish rules)

  refuses : (base : Option (List Row)) (left : List Word) → None ≡ wanted rules base None left
  refuses base left = ap (option_map (finish rules)) (sym (and_then-none base))

  short_fails : (c : ℕ) (cs : List ℕ) (h : Held) → IsUtf8 (45 ∷ c ∷ cs) → flags_fault rules false (length (c ∷ cs)) (c ∷ cs) 0 h ≡ UnknownArgument ∷ []
  unfolding flags_fault
  short_fails c cs h u =
      let first = chars_some c cs u in
      let starts : chars (c ∷ cs) ≡ first.0 ∷ first.1.0 = first.1.1 in
      let none : arg_by_short rules first.0 ≡ None = fits.short first.0 in
      rw (starts, none) refl

  -- `--x=v`
  long_joined : (x o y : Word) (xs : List Word) → After name rules xs (uses_from k xs None) → (rows : List Row) (pending : Option (Text × List Text)) (i : ℕ) (left : List Word) → Places rules i left
      → long_step x (Some y) xs (held rows pending) i (arg_by_long rules o)
      ≡ wanted rules (now rules (held rows pending)) (uses_by (joined_option k o y) x xs (uses_from k xs None) (λ o. uses_from k xs (Some o))) left
  unfolding long_step
  long_joined x o y xs after rows pending i left p = go (is_one_of k.valued o) refl
    where
      other : (t : Bool) → is_one_of k.plain o ≡ t → is_one_of k.valued o ≡ false → long_step x (Some y) xs (held rows pending) i (arg_by_long rules o) ≡ wanted rules (now rules (held rows pending)) None left
      other true e f = let found : arg_by_long rules o ≡ Some (built_flag o) = fits.plain o f e in rw found (refuses (now rules (held rows pending)) left)
      other false e f = let found : arg_by_long rules o ≡ None = fits.other o f e in rw found (refuses (now rules (held rows pending)) left)

      go : (t : Bool) → is_one_of k.valued o ≡ t → long_step x (Some y) xs (held rows pending) i (arg_by_long rules o)
          ≡ wanted rules (now rules (held rows pending)) (uses_by (cond t (Valued o y) Refused) x xs (uses_from k xs None) (λ o. uses_from k xs (Some o))) left
      go true e = ap (long_step x (Some y) xs (held rows pending) i) ((fits.valued o e).0) ∙ long_value x o y xs _ after rows pending i left p
      go false e = other (is_one_of k.plain o) refl e

  -- `--x`
  long_bare : (x o : Word) (xs : List Word) → After name rules xs (uses_from k xs None) → Awaiting name rules k xs (λ o. uses_from k xs (Some o))
      → (rows : List Row) (pending : Option (Text × List Text)) (i : ℕ) (left : List Word) → Places rules i left
      → long_step x None xs (held rows pending) i (arg_by_long rules o)
      ≡ wanted rules (now rules (held rows pending)) (uses_by (bare_option k o) x xs (uses_from k xs None) (λ o. uses_from k xs (Some o))) left
  unfolding long_step
  long_bare x o xs after waits rows pending i left p = go (is_one_of k.valued o) refl
    where
      other : (t : Bool) → is_one_of k.plain o ≡ t → is_one_of k.valued o ≡ false → long_step x None xs (held rows pending) i (arg_by_long rules o)
          ≡ wanted rules (now rules (held rows pending)) (uses_by (cond t (Plain o) Refused) x xs (uses_from k xs None) (λ o. uses_from k xs (Some o))) left
      other true e f = ap (long_step x None xs (held rows pending) i) (fits.plain o f e) ∙ long_flag x o xs _ after rows pending i left p
      other false e f = let found : arg_by_long rules o ≡ None = fits.other o f e in rw found (refuses (now rules (held rows pending)) left)

      go : (t : Bool) → is_one_of k.valued o ≡ t → long_step x None xs (held rows pending) i (arg_by_long rules o)
          ≡ wanted rules (now rules (held rows pending)) (uses_by (cond t (Awaits o) (cond (is_one_of k.plain o) (Plain o) Refused)) x xs (uses_from k xs None) (λ o. uses_from k xs (Some o))) left
      go true e = ap (long_step x None xs (held rows pending) i) ((fits.valued o e).0) ∙ long_waits x o xs _ waits rows pending i left e p
      go false e = other (is_one_of k.plain o) refl e

  -- one word where nothing waits
  turned : Word → List Word → Walk → Option (List Row)
  turned x xs w = cut (turn_fault (shape_for name rules) [] w x) (answer name rules (walked rules [] w x) xs)

  -- what a word is wanted to come to
  wants : Word → List Word → Meaning → Option (List Row) → List Word → Option (List Row)
  wants x xs m base left = wanted rules base (uses_by m x xs (uses_from k xs None) (λ o. uses_from k xs (Some o))) left

  idle_long : (c : ℕ) (cs : List ℕ) (xs : List Word) → After name rules xs (uses_from k xs None) → Awaiting name rules k xs (λ o. uses_from k xs (Some o))
      → (rows : List Row) (pending : Option (Text × List Text)) (i : ℕ) (left : List Word) → Places rules i left
      → turned (45 ∷ 45 ∷ c ∷ cs) xs (walk_at (held rows pending) idle i false) ≡ wants (45 ∷ 45 ∷ c ∷ cs) xs (option_meaning k (c ∷ cs)) (now rules (held rows pending)) left
  unfolding walked turned wants long_step
  idle_long c cs xs after waits rows pending i left p = go (list_any is_equals (c ∷ cs)) refl
    where
      go : (t : Bool) → list_any is_equals (c ∷ cs) ≡ t
          → long_step (45 ∷ 45 ∷ c ∷ cs) (cond t (Some (after_first is_equals (c ∷ cs))) None) xs (held rows pending) i (arg_by_long rules (before_first is_equals (c ∷ cs)))
          ≡ wants (45 ∷ 45 ∷ c ∷ cs) xs (cond t (joined_option k (before_first is_equals (c ∷ cs)) (after_first is_equals (c ∷ cs))) (bare_option k (c ∷ cs))) (now rules (held rows pending)) left
      go true e = long_joined (45 ∷ 45 ∷ c ∷ cs) (before_first is_equals (c ∷ cs)) (after_first is_equals (c ∷ cs)) xs after rows pending i left p
      go false e =
          ap (λ o. long_step (45 ∷ 45 ∷ c ∷ cs) None xs (held rows pending) i (arg_by_long rules o)) (before_all is_equals (c ∷ cs) e)
          ∙ long_bare (45 ∷ 45 ∷ c ∷ cs) (c ∷ cs) xs after waits rows pending i left p

  -- one word, by its fault and what it was
  read : Waiting → Word → List Word → Held → ℕ → Kinds → Held × Step → Option (List Row)
  read q x xs h i fault met = cut (or_else fault (step_fault (shape_for name rules) i met.0 met.1)) (answer name rules (after_step rules x (walk_at h q i false) met.0 met.1) xs)

  turned_read : (q : Waiting) (x : Word) (xs : List Word) (h : Held) (i : ℕ)
      → turned x xs (walk_at h q i false) ≡ read q x xs h i (word_fault (shape_for name rules) [] false q x h) (word_met rules [] false q i x h)
  unfolding turned read walked
  turned_read q x xs h i = refl

  plain_read : (q : Waiting) (x : Word) (xs : List Word) (h : Held) (i : ℕ) → IsNoOption x → turned x xs (walk_at h q i false) ≡ read q x xs h i [] (plain_word rules q x h)
  plain_read q x xs h i is =
      let ends = is.ends in
      let long = is.long in
      let short = is.short in
      let none = no_subcommand q x in
      let fault : word_fault (shape_for name rules) [] false q x h ≡ [] = rw (none, ends, long, short) refl in
      let met : word_met rules [] false q i x h ≡ plain_word rules q x h = rw (none, ends, long, short) refl in
      turned_read q x xs h i ∙ ap₂ (read q x xs h i) fault met

  short_read : (q : Waiting) (x flags : Word) (xs : List Word) (h : Held) (i : ℕ) → IsShort x flags → bundle_fault rules false flags h ≡ UnknownArgument ∷ [] → turned x xs (walk_at h q i false) ≡ None
  unfolding read
  short_read q x flags xs h i is fails =
      let ends = is.ends in
      let long = is.long in
      let short = is.short in
      let none = no_subcommand q x in
      let fault : word_fault (shape_for name rules) [] false q x h ≡ bundle_fault rules false flags h = rw (none, ends, long, short) refl in
      turned_read q x xs h i ∙ ap (λ f. read q x xs h i f (word_met rules [] false q i x h)) (fault ∙ fails)

  -- what one word is wanted to come to where nothing waits
  Turns : Word → List Word → Type 0
  Turns x xs = (rows : List Row) (pending : Option (Text × List Text)) (i : ℕ) (left : List Word) → Places rules i left
      → turned x xs (walk_at (held rows pending) idle i false) ≡ wants x xs (meaning_of k x) (now rules (held rows pending)) left

  module _ (xs : List Word) (after : After name rules xs (uses_from k xs None)) (waits : Awaiting name rules k xs (λ o. uses_from k xs (Some o))) where
    -- a word that is a name
    name_turns : (x : Word) → IsNoOption x → meaning_of k x ≡ Names → Turns x xs
    unfolding wants Turns placed read
    name_turns x is means rows pending i left p =
        plain_read idle x xs (held rows pending) i is ∙ name_word x xs (uses_from k xs None) after rows pending i left p
        ∙ ap (λ m. wants x xs m (now rules (held rows pending)) left) (sym means)

    double_word : (bs : List ℕ) → Turns (45 ∷ 45 ∷ bs) xs
    unfolding walked turned wants Turns
    double_word [] rows pending i left p = trailing xs (held rows pending) idle i left p
    double_word (c ∷ cs) rows pending i left p = idle_long c cs xs after waits rows pending i left p

    short_word : (c : ℕ) (cs : List ℕ) → (c == 45) ≡ false → IsUtf8 (45 ∷ c ∷ cs) → Turns (45 ∷ c ∷ cs) xs
    unfolding wants Turns
    short_word c cs e u rows pending i left p =
        let refused : meaning_of k (45 ∷ c ∷ cs) ≡ Refused = rw e refl in
        short_read idle (45 ∷ c ∷ cs) (c ∷ cs) xs (held rows pending) i (no_second_dash c cs e) (short_fails c cs (held rows pending) u)
        ∙ refuses (now rules (held rows pending)) left ∙ ap (λ m. wants (45 ∷ c ∷ cs) xs m (now rules (held rows pending)) left) (sym refused)

    dash_word : (bs : List ℕ) → IsUtf8 (45 ∷ bs) → Turns (45 ∷ bs) xs
    dash_word [] u = name_turns (45 ∷ []) (record { ends = refl; long = refl; short = refl }) refl
    dash_word (c ∷ cs) u = elim (cases_eq c 45) [
      | inl e ↦ subst (λ d. Turns (45 ∷ d ∷ cs) xs) (sym e) (double_word cs)
      | inr e ↦ short_word c cs (ne_eqb c 45 e) u
    ]

    plain_name : (b : ℕ) (bs : List ℕ) → (b == 45) ≡ false → Turns (b ∷ bs) xs
    plain_name b bs e =
        let names : meaning_of k (b ∷ bs) ≡ Names = rw e refl in
        name_turns (b ∷ bs) (no_first_dash b bs e) names

    idle_word : (x : Word) → IsUtf8 x → Turns x xs
    idle_word [] u = name_turns [] (record { ends = refl; long = refl; short = refl }) refl
    idle_word (b ∷ bs) u = elim (cases_eq b 45) [
      | inl e ↦ subst (λ d. IsUtf8 (d ∷ bs) → Turns (d ∷ bs) xs) (sym e) (dash_word bs) u
      | inr e ↦ plain_name b bs (ne_eqb b 45 e)
    ]

  -- an option without its value fails as soon as it is used
  valueless : (rows : List Row) (o : Word) → is_one_of k.valued o ≡ true → settle_fault rules false (held rows (Some (o, []))) ≡ InvalidValue ∷ []
  valueless rows o is = let found : arg_by_id rules o ≡ Some (built_value o) = (fits.valued o is).1 in rw found refl

  long_fails : (found : Option Rule) (v : Option Text) (h : Held) (f : ErrorKind) (fs later : Kinds) (x : Option (List Row)) → settle_fault rules false h ≡ f ∷ fs
      → cut (or_else (long_fault rules false found v h) later) x ≡ None
  long_fails None v h f fs later x e = refl
  long_fails (Some a) v h f fs later x e = go (takes_values a) v
    where
      go : (t : Bool) (v : Option Text) → cut (or_else (cond t (option_fault rules false a v h) (cond (is_some v) (TooManyValues ∷ []) (react_fault rules false a [] h))) later) x ≡ None
      go true (Some v) = rw e refl
      go true None = rw e refl
      go false (Some v) = refl
      go false None = rw e refl

  -- one word where an option waits
  Fills : Word → List Word → Type 0
  Fills x xs = (rows : List Row) (o : Word) (i : ℕ) (left : List Word) → is_one_of k.valued o ≡ true → Places rules i left
      → turned x xs (walk_at (held rows (Some (o, []))) (option o) i false) ≡ wanted rules (Some rows) (uses_from k (x ∷ xs) (Some o)) left

  module _ (xs : List Word) (after : After name rules xs (uses_from k xs None)) where
    value_fills : (x : Word) → IsNoOption x → is_dashed x ≡ false → Fills x xs
    unfolding Fills read
    value_fills x is plain rows o i left valued p =
        let found : arg_by_id rules o ≡ Some (built_value o) = (fits.valued o valued).1 in
        let same = same_text o in
        let filled : option_word (arg_by_id rules o) o x (held rows (Some (o, []))) ≡ (held rows (Some (o, x ∷ [])), idle) = rw (found, same) refl in
        plain_read (option o) x xs (held rows (Some (o, []))) i is
        ∙ ap (λ m. read (option o) x xs (held rows (Some (o, []))) i [] (m.0, next m.1)) filled
        ∙ after rows (Some (o, x ∷ [])) i left p
        ∙ ap (λ b. wanted rules b (uses_from k xs None) left) (now_valued rules o x (held rows None) found)
        ∙ ap (option_map (finish rules)) (sym (swap_value o x (uses_from k xs None) left rows))
        ∙ ap (λ t. wanted rules (Some rows) (cond t None (option_map (λ us. Value o x ∷ us) (uses_from k xs None))) left) (sym plain)

    double_fails : (bs : List ℕ) → Fills (45 ∷ 45 ∷ bs) xs
    unfolding walked turned Fills
    double_fails [] rows o i left valued p =
        trailing xs (held rows (Some (o, []))) (option o) i left p
        ∙ ap (λ f. option_map (finish rules) (and_then (cut f (Some (settled rules (held rows (Some (o, [])))).rows)) (taken (map Name xs) left))) (valueless rows o valued)
    double_fails (c ∷ cs) rows o i left valued p =
        let h = held rows (Some (o, [])) in
        let word : Word = 45 ∷ 45 ∷ c ∷ cs in
        let parts = name_and_value (c ∷ cs) in
        let met = word_met rules [] false (option o) i word h in
        long_fails (arg_by_long rules parts.0) parts.1 h InvalidValue [] (step_fault (shape_for name rules) i met.0 met.1)
        (answer name rules (after_step rules word (walk_at h (option o) i false) met.0 met.1) xs) (valueless rows o valued)

    short_refused : (c : ℕ) (cs : List ℕ) → (c == 45) ≡ false → IsUtf8 (45 ∷ c ∷ cs) → Fills (45 ∷ c ∷ cs) xs
    unfolding Fills
    short_refused c cs e u rows o i left valued p =
        short_read (option o) (45 ∷ c ∷ cs) (c ∷ cs) xs (held rows (Some (o, []))) i (no_second_dash c cs e) (short_fails c cs (held rows (Some (o, []))) u)

    dash_fills : (bs : List ℕ) → IsUtf8 (45 ∷ bs) → Fills (45 ∷ bs) xs
    dash_fills [] u = value_fills (45 ∷ []) (record { ends = refl; long = refl; short = refl }) refl
    dash_fills (c ∷ cs) u = elim (cases_eq c 45) [
      | inl e ↦ subst (λ d. Fills (45 ∷ d ∷ cs) xs) (sym e) (double_fails cs)
      | inr e ↦ short_refused c cs (ne_eqb c 45 e) u
    ]

    not_dashed : (b : ℕ) (bs : List ℕ) → (b == 45) ≡ false → is_dashed (b ∷ bs) ≡ false
    not_dashed b [] e = refl
    not_dashed b (c ∷ cs) e = e

    option_fills : (x : Word) → IsUtf8 x → Fills x xs
    option_fills [] u = value_fills [] (record { ends = refl; long = refl; short = refl }) refl
    option_fills (b ∷ bs) u = elim (cases_eq b 45) [
      | inl e ↦ subst (λ d. IsUtf8 (d ∷ bs) → Fills (d ∷ bs) xs) (sym e) (dash_fills bs) u
      | inr e ↦ value_fills (b ∷ bs) (no_first_dash b bs (ne_eqb b 45 e)) (not_dashed b bs (ne_eqb b 45 e))
    ]

  -- what words come to, from any place
  pub words_come : (words : List Word) → AreUtf8 words → After name rules words (uses_from k words None) × Awaiting name rules k words (λ o. uses_from k words (Some o))
  unfolding turned wants Turns Fills
  words_come [] u = (
    λ rows pending i left p. answer-nil (walk_at (held rows pending) idle i false) ∙ ends (held rows pending) ∙ ap (option_map (finish rules)) (sym (and_then-Some (now rules (held rows pending)))),
    λ rows o i left valued p. answer-nil (walk_at (held rows (Some (o, []))) (option o) i false) ∙ ends (held rows (Some (o, [])))
        ∙ ap (λ f. option_map (finish rules) (cut f (Some (settled rules (held rows (Some (o, [])))).rows))) (valueless rows o valued),
  )
  words_come (x ∷ xs) u =
      let rest = words_come xs u.1 in (
        λ rows pending i left p. answer-word (walk_at (held rows pending) idle i false) x xs ∙ idle_word xs rest.0 rest.1 x u.0 rows pending i left p,
        λ rows o i left valued p. answer-word (walk_at (held rows (Some (o, []))) (option o) i false) x xs ∙ option_fills xs rest.0 x u.0 rows o i left valued p,
      )
