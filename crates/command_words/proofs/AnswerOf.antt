use Rattle.std.proofs.Common.{◌≡◌, ◌∙◌, ◌≤◌, ◌==◌, ◌&&◌, ◌||◌, Bool, cond, true, false, refl, sym, ap, ap₂, List, [], ◌∷◌, ◌++◌, map, drop, length, Option, Some, None, option_map, is_some, codes, subst, arith}
use Rattle.std.specs.List.{find}
use Rattle.std.specs.Str.{bytes_eq}
use Rattle.std.proofs.lemmas.Bool.{ne_eqb}
use Rattle.std.proofs.lemmas.List.Folds.{find-append}
use Rattle.clap.specs.Walk.{Row, Text, first_of, has_row, more_values, nothing_held, one_of, row_text, rows_after, with_default}
use Rattle.clap.specs.Simple.{App, built, names_of}
use Rattle.std.specs.Prelude.{String}
use Rattle.std.specs.String.{string_bytes}
use Rattle.std.proofs.lemmas.Str.{IsUtf8-string_bytes}
use Rattle.clap.specs.Values.{bool_text}
use Rattle.clap.specs.declared.parser.matches.ValueSource.TheVariants.{DefaultValue}
use Rattle.std.specs.Prelude.{option_and_then, slice_get}
use Rattle.std.specs.Option.{option_or}
use Rattle.clap.specs.Faults.{built_fault, check_fault, defaults_fault, settle_fault, walk_fault}
use Rattle.clap.specs.Walk.{finished, settled, walk, walk_from}
use Rattle.clap.proofs.FaultLemmas.{leaf_fault}
use Rattle.command_words.specs.Commands.{Command, Said, Word, and_then, are_distinct, is_one_of, is_whole, kept_where, value_in}
use Rattle.command_words.specs.Reading.{answer_of, cut}
use Rattle.command_words.proofs.Uses.{Use, built_flag, row_for, taken, uses_from}
use Rattle.command_words.proofs.MatchesOf.{AreUtf8, Places, and_false, at_row_none, cut-or_else, finish, or_false, same_text, shape_for, words_come}
use Rattle.command_words.proofs.Rules.{apart, are_apart, finish_is, fits_table, rules_for, with_flags}
use Rattle.command_words.proofs.UsesSaid.{AreNames, AreOf, distinct_keys, entries, first_entry, flag_entry, has_room, in_places, keys, names_entry, room_false, room_true, rows_for, split, taken_is, value_entry}
use Rattle.command_words.proofs.MeaningOf.{AreOfOption, said_so, uses_of_command}

-- What clap's answer says of the words of a command.

-- the table of a command: the ids of its names, which differ from its options
pub record IsTable (k : Command) (ids : List Word) : Type 0 where
  pub count : length ids ≡ k.names
  pub names : AreNames k ids
  pub valued : are_apart ids k.valued ≡ true
  pub plain : are_apart ids k.plain ≡ true
  pub options : are_apart k.valued k.plain ≡ true
  pub places : Places (rules_for ids k.valued k.plain) 1 ids

abbrev pub built_for : Text → Command → List Word → App
built_for name k ids = record { top = shape_for name (rules_for ids k.valued k.plain); subs = [] }

module _ (name : Text) (k : Command) (ids : List Word) (table : IsTable k ids) where
  level_is : (ws : List Word) → AreUtf8 ws
      → cut (built_fault (built_for name k ids) nothing_held ws) (Some (rows_after (rules_for ids k.valued k.plain) [] ws))
      ≡ option_map (finish (rules_for ids k.valued k.plain)) (and_then (uses_from k ws None) (λ us. taken us ids []))
  level_is ws u =
      let all = rules_for ids k.valued k.plain in
      let s = shape_for name all in
      let end = (walk all [] nothing_held ws).held in
      let x = Some (finished all end) in
      let fits = fits_table k ids table.valued in
      ap (λ f. cut f x) (leaf_fault (built_for name k ids) nothing_held ws refl)
      ∙ cut-or_else (walk_fault s [] (walk_from nothing_held) ws) _ x
      ∙ ap (cut (walk_fault s [] (walk_from nothing_held) ws)) (cut-or_else (settle_fault all false end) _ x
      ∙ ap (cut (settle_fault all false end)) (cut-or_else (defaults_fault (settled all end).rows all) (check_fault s (finished all end) false) x))
      ∙ (words_come name all k fits ws u).0 [] None 1 ids table.places

pub answer_is : (name : Text) (k : Command) (ids : List Word) (table : IsTable k ids) (app : App) → built app ≡ built_for name k ids → app.top.no_binary_name ≡ false → (texts : List Word) → AreUtf8 (drop 1 texts)
    → answer_of app texts ≡ option_map (λ rows. with_flags rows k.plain) (and_then (uses_from k (drop 1 texts) None) (λ us. taken us ids []))
answer_is name k ids table app is named texts u =
    (λ j. cut (built_fault (is j) nothing_held (cond (named j) texts (drop 1 texts))) (Some (rows_after (is j).top.rules (names_of (is j)) (cond (named j) texts (drop 1 texts)))))
    ∙ level_is name k ids table (drop 1 texts) u
    ∙ (λ j. option_map (λ rows. finish_is rows ids k.valued k.plain j) (and_then (uses_from k (drop 1 texts) None) (λ us. taken us ids [])))

-- ---- what rows show

pub record Shows (k : Command) (ids : List Word) (rows : List Row) (s : Said) : Type 0 where
  pub names : map (λ id. first_of id rows) ids ≡ in_places ids s.names
  pub room : length s.names ≤ length ids
  pub values : (o : Word) → is_one_of k.valued o ≡ true → first_of o rows ≡ value_in s.valued o

no_option : {X : Type 0} (x : Option X) → option_or x None ≡ x
no_option None = refl
no_option (Some x) = refl

-- the default of a flag leaves the other ids
other_default : (o q : Word) (rows : List Row) → bytes_eq o q ≡ false → first_of q (with_default rows (built_flag o)) ≡ first_of q rows
other_default o q rows other = go (has_row o rows) refl
  where
    go : (t : Bool) → has_row o rows ≡ t → first_of q (with_default rows (built_flag o)) ≡ first_of q rows
    go true e = rw e refl
    go false e =
        let row : Row = record (row_for o (codes "false")) { source = Some DefaultValue } in
        let missed : bytes_eq row.id q ≡ false = other in
        let more : with_default rows (built_flag o) ≡ rows ++ row ∷ [] = rw e (at_row_none o (more_values DefaultValue (codes "false" ∷ [])) (row ∷ []) rows e) in
        ap (first_of q) more
        ∙ ap (option_and_then (λ (r : Row). slice_get r.values 0)) (find-append (λ (r : Row). bytes_eq r.id q) rows (row ∷ [])
        ∙ ap (λ t. option_or (find (λ (r : Row). bytes_eq r.id q) rows) (cond t (Some row) None)) missed ∙ no_option (find (λ (r : Row). bytes_eq r.id q) rows))

other_flags : (plain : List Word) (q : Word) (rows : List Row) → is_one_of plain q ≡ false → first_of q (with_flags rows plain) ≡ first_of q rows
other_flags [] q rows none = refl
other_flags (o ∷ plain) q rows none =
    let parts = or_false _ _ none in
    other_flags plain q (with_default rows (built_flag o)) parts.1 ∙ other_default o q rows parts.0

-- no name is a flag
name_no_flag : (k : Command) (ids : List Word) → AreNames k ids → (rows : List Row) → map (λ id. first_of id (with_flags rows k.plain)) ids ≡ map (λ id. first_of id rows) ids
name_no_flag k [] names rows = refl
name_no_flag k (id ∷ ids) names rows = ap₂ (λ x (xs : List (Option Word)). x ∷ xs) (other_flags k.plain id rows names.1.1.0) (name_no_flag k ids names.1.1.1 rows)

map_first : (ids : List Word) (es : List (Word × Word)) → map (λ id. first_of id (rows_for es)) ids ≡ map (value_in es) ids
map_first [] es = refl
map_first (id ∷ ids) es = ap₂ (λ x (xs : List (Option Word)). x ∷ xs) (first_entry id es) (map_first ids es)

-- an option with a value is no flag
value_no_flag : (k : Command) → are_apart k.valued k.plain ≡ true → (o : Word) → is_one_of k.valued o ≡ true → is_one_of k.plain o ≡ false
value_no_flag k all o is = go (is_one_of k.plain o) refl
  where
    go : (t : Bool) → is_one_of k.plain o ≡ t → t ≡ false
    go false e = refl
    go true e = let bad : true ≡ false = sym is ∙ apart k.valued k.plain o all e in cc

rows_show : (k : Command) (ids : List Word) → IsTable k ids → (us : List Use) → AreOf k us → has_room us ids ≡ true → Shows k ids (with_flags (rows_for (entries us ids)) k.plain) (split us)
rows_show k ids table us of room =
    let separate = λ (o : Word) (is : is_one_of k.plain o ≡ true). apart k.valued k.plain o table.options is in
    let no_value = λ (q : Word) (is : is_one_of k.valued q ≡ true). apart ids k.valued q table.valued is in
    let no_flag = λ (q : Word) (is : is_one_of k.plain q ≡ true). apart ids k.plain q table.plain is in
    record {
      names = name_no_flag k ids table.names (rows_for (entries us ids)) ∙ map_first ids (entries us ids) ∙ names_entry k separate us ids of table.names no_value no_flag;
      room = room_true us ids room;
      values = λ o is. other_flags k.plain o (rows_for (entries us ids)) (value_no_flag k table.options o is) ∙ first_entry o (entries us ids)
          ∙ value_entry k separate us ids o of is (no_value o is);
    }

-- ---- what clap's answer comes to

abbrev pub used_by : Command → List Word → Option Said
used_by k words = said_so (uses_from k words None)

-- the flag of a command that has but one
abbrev pub ShowsFlag : Command → List Row → Said → Type 0
ShowsFlag k rows s = (o : Word) → k.plain ≡ o ∷ [] → one_of o rows ≡ Some (bool_text (is_one_of s.plain o))

abbrev pub Comes : Command → List Word → List Word → Option (List Row) → Type 0
Comes k ids words None = kept_where (is_whole k) (used_by k words) ≡ None
Comes k ids words (Some rows) = (s : Said) × (Shows k ids rows s × (ShowsFlag k rows s × (kept_where (is_whole k) (used_by k words) ≡ cond (length s.names == k.names) (Some s) None)))

one_entry : (q : Word) (es : List (Word × Word)) → one_of q (rows_for es) ≡ value_in es q
one_entry q [] = refl
one_entry q (e ∷ es) = go (bytes_eq e.0 q) refl (one_entry q es)
  where
    go : (t : Bool) → bytes_eq e.0 q ≡ t → one_of q (rows_for es) ≡ value_in es q → one_of q (rows_for (e ∷ es)) ≡ value_in (e ∷ es) q
    go true is rest = rw is refl
    go false is rest = rw is rest

has_entry : (q : Word) (es : List (Word × Word)) → has_row q (rows_for es) ≡ is_some (value_in es q)
has_entry q [] = refl
has_entry q (e ∷ es) = go (bytes_eq e.0 q) refl (has_entry q es)
  where
    go : (t : Bool) → bytes_eq e.0 q ≡ t → has_row q (rows_for es) ≡ is_some (value_in es q) → has_row q (rows_for (e ∷ es)) ≡ is_some (value_in (e ∷ es) q)
    go true is rest = rw is refl
    go false is rest = rw is rest

absent : (q : Word) (rows : List Row) → has_row q rows ≡ false → find (λ (r : Row). bytes_eq r.id q) rows ≡ None
absent q [] e = refl
absent q (r ∷ rows) e =
    let parts = or_false _ _ e in
    let other : bytes_eq r.id q ≡ false = parts.0 in
    rw other (absent q rows parts.1)

flag_text : (o : Word) (es : List (Word × Word)) (b : Bool) → value_in es o ≡ cond b (Some (codes "true")) None → one_of o (with_flags (rows_for es) (o ∷ [])) ≡ Some (bool_text b)
flag_text o es true e =
    let has : has_row o (rows_for es) ≡ true = has_entry o es ∙ ap is_some e in
    rw has (one_entry o es ∙ e)
flag_text o es false e =
    let rows = rows_for es in
    let has : has_row o rows ≡ false = has_entry o es ∙ ap is_some e in
    let row : Row = record (row_for o (codes "false")) { source = Some DefaultValue } in
    let more : with_default rows (built_flag o) ≡ rows ++ row ∷ [] = rw has (at_row_none o (more_values DefaultValue (codes "false" ∷ [])) (row ∷ []) rows has) in
    ap (one_of o) more
    ∙ ap (option_and_then row_text) (find-append (λ (r : Row). bytes_eq r.id o) rows (row ∷ [])
    ∙ ap₂ (λ x t. option_or x (cond t (Some row) None)) (absent o rows has) (same_text o))

in_list : (o : Word) → is_one_of (o ∷ []) o ≡ true
in_list o = ap (λ t. t || false) (same_text o)

flag_shows : (k : Command) (ids : List Word) → IsTable k ids → (us : List Use) → AreOf k us → ShowsFlag k (with_flags (rows_for (entries us ids)) k.plain) (split us)
flag_shows k ids table us of o only =
    let separate = λ (q : Word) (is : is_one_of k.plain q ≡ true). apart k.valued k.plain q table.options is in
    let is : is_one_of k.plain o ≡ true = ap (λ xs. is_one_of xs o) only ∙ in_list o in
    ap (λ xs. one_of o (with_flags (rows_for (entries us ids)) xs)) only
    ∙ flag_text o (entries us ids) (is_one_of (split us).plain o) (flag_entry k separate us ids o of is (apart ids k.plain o table.plain is))

too_many : (k : Command) (ids : List Word) (us : List Use) → length ids ≡ k.names → has_room us ids ≡ false → is_whole k (split us) ≡ false
too_many k ids us count none =
    let above = room_false us ids none in
    let differ : (length (split us).names == k.names) ≡ false = ne_eqb (length (split us).names) k.names (λ e. absurd (omega arith)) in
    rw differ refl

uses_come : (k : Command) (ids : List Word) → IsTable k ids → (words : List Word) (uses : Option (List Use)) → uses ≡ uses_from k words None → AreOfOption k uses
    → Comes k ids words (option_map (λ rows. with_flags rows k.plain) (and_then uses (λ us. taken us ids [])))
uses_come k ids table words None is of = ap (λ u. kept_where (is_whole k) (said_so u)) (sym is)
uses_come k ids table words (Some us) is of =
    subst (λ x. Comes k ids words (option_map (λ rows. with_flags rows k.plain) x)) (sym (taken_is us ids)) (go (has_room us ids) refl (are_distinct (keys (entries us ids))) refl)
  where
    used : kept_where (is_whole k) (used_by k words) ≡ cond (is_whole k (split us)) (Some (split us)) None
    used = ap (λ u. kept_where (is_whole k) (said_so u)) (sym is)

    distinct : are_distinct (keys (entries us ids)) ≡ (are_distinct (keys (split us).valued) && are_distinct (split us).plain)
    distinct = distinct_keys k (λ (o : Word) (h : is_one_of k.plain o ≡ true). apart k.valued k.plain o table.options h) us ids of table.names
        (λ q h. apart ids k.valued q table.valued h) (λ q h. apart ids k.plain q table.plain h)

    and_true : (b : Bool) → (b && true) ≡ b
    and_true true = refl
    and_true false = refl

    go : (t : Bool) → has_room us ids ≡ t → (d : Bool) → are_distinct (keys (entries us ids)) ≡ d
        → Comes k ids words (option_map (λ rows. with_flags rows k.plain) (cond t (cond d (Some (rows_for (entries us ids))) None) None))
    go false e d f = used ∙ ap (λ t. cond t (Some (split us)) None) (too_many k ids us table.count e)
    go true e false f = used ∙ ap (λ t. cond ((length (split us).names == k.names) && t) (Some (split us)) None) (sym distinct ∙ f)
        ∙ ap (λ t. cond t (Some (split us)) None) (and_false (length (split us).names == k.names))
    go true e true f = (
      split us,
      (
        rows_show k ids table us of e,
        (
          flag_shows k ids table us of,
          used ∙ ap (λ t. cond ((length (split us).names == k.names) && t) (Some (split us)) None) (sym distinct ∙ f)
              ∙ ap (λ t. cond t (Some (split us)) None) (and_true (length (split us).names == k.names)),
        ),
      ),
    )

pub comes : (name : Text) (k : Command) (ids : List Word) (table : IsTable k ids) (app : App) → built app ≡ built_for name k ids → app.top.no_binary_name ≡ false → (texts : List Word) → AreUtf8 (drop 1 texts)
    → (answer : Option (List Row)) → answer ≡ answer_of app texts → Comes k ids (drop 1 texts) answer
comes name k ids table app is named texts u answer e =
    subst (Comes k ids (drop 1 texts)) (sym (e ∙ answer_is name k ids table app is named texts u))
    (uses_come k ids table (drop 1 texts) (uses_from k (drop 1 texts) None) refl (uses_of_command k (drop 1 texts)).0)

-- ---- as a caller has it

pub are_texts : {Z : Type 0} (words : List (String Z)) → AreUtf8 (drop 1 (map string_bytes words))
are_texts [] = tt
are_texts {Z} (w ∷ words) = all words
  where
    all : (words : List (String Z)) → AreUtf8 (map string_bytes words)
    all [] = tt
    all (w ∷ words) = (IsUtf8-string_bytes w, all words)

pub comes_from : (k : Command) (ids : List Word) (table : IsTable k ids) (app given : App) → given ≡ app → built app ≡ built_for (codes "vaugrenis") k ids → app.top.no_binary_name ≡ false
    → {Z : Type 0} (words : List (String Z)) (answer : Option (List Row)) → answer ≡ answer_of given (map string_bytes words) → Comes k ids (drop 1 (map string_bytes words)) answer
comes_from k ids table app given same is named words answer e =
    comes (codes "vaugrenis") k ids table app is named (map string_bytes words) (are_texts words) answer (e ∙ ap (λ a. answer_of a (map string_bytes words)) same)

-- what follows from matches and from none follows from an answer
pub by_matches : {M P : Type 0} (o : Option M) (rows : M → List Row) (answer : Option (List Row)) → option_map rows o ≡ answer → ((m : M) → o ≡ Some m → Some (rows m) ≡ answer → P) → (o ≡ None → None ≡ answer → P) → P
by_matches None rows answer e some none = none refl e
by_matches (Some m) rows answer e some none = some m refl e
