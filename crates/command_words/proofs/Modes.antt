use Rattle.std.proofs.Common.{◌≡◌, ◌∙◌, ◌≤◌, ◌==◌, ◌||◌, ◌⊎◌, inl, inr, ℕ, Bool, cond, true, false, refl, sym, ap, ap₂, List, [], ◌∷◌, ◌++◌, map, length, Option, Some, None, option_map, codes, arith}
use Rattle.std.proofs.lemmas.Bool.{false≢true}
use Rattle.std.proofs.lemmas.List.Folds.{list_any-append}
use Rattle.std.specs.Prelude.{String, slice_get}
use Rattle.std.specs.String.{string_bytes}
use Rattle.std.specs.Str.{bytes_eq}
use Rattle.clap.specs.Walk.{Row, first_of, one_of}
use Rattle.clap.specs.Simple.{built}
use Rattle.clap.specs.Values.{bool_text}
use Rattle.stop_schedule.specs.Rates.{Rates}
use Rattle.ride_base.specs.Digits.{number_of}
use Rattle.command_words.specs.Commands.{rates_from, Audit, Form, Live, Run, RunOptions, Said, Walk, Word, and_then, audit_command, audit_form, begins_with_dash, form_of, HasNoMode, modes, gen_command, gen_form, is_one_of, largest_node, live_command, live_form, number_or, optional_within, parameters, run_command, run_form, run_options, value_in, walk_command, walk_form}
use Rattle.command_words.specs.Reading.{app_for, audit_by, audit_in, gen_by, gen_in, live_by, live_in, run_by, run_in, three_by, walk_by, walk_in}
use Rattle.command_words.proofs.Rules.{same_word}
use Rattle.command_words.proofs.UsesSaid.{in_places}
use Rattle.command_words.proofs.AnswerOf.{Comes, IsTable, built_for}
use Rattle.command_words.proofs.Dashes.{Minds, by_each, none_then, rates_dash, said_used, within_dash}

-- What clap's answer says of the words of each mode.

-- ---- three names

abbrev by_three : {X : Type 0} → List Word → (Word → Word → Word → Option X) → Option X
by_three (a ∷ b ∷ c ∷ []) f = f a b c
by_three names f = None

three_is : {X : Type 0} (find : Word → Option Word) (a b c : Word) (names : List Word) (f : Word → Word → Word → Option X)
    → find a ∷ find b ∷ find c ∷ [] ≡ in_places (a ∷ b ∷ c ∷ []) names → length names ≤ 3 → three_by find a b c f ≡ by_three names f
three_is find a b c [] f e room = let first : find a ≡ None = cc in rw first refl
three_is find a b c (x ∷ []) f e room =
    let second : find b ≡ None = cc in
    let first : find a ≡ Some x = cc in
    rw (first, second) refl
three_is find a b c (x ∷ y ∷ []) f e room =
    let third : find c ≡ None = cc in
    let second : find b ≡ Some y = cc in
    let first : find a ≡ Some x = cc in
    rw (first, second, third) refl
three_is find a b c (x ∷ y ∷ z ∷ []) f e room =
    let third : find c ≡ Some z = cc in
    let second : find b ≡ Some y = cc in
    let first : find a ≡ Some x = cc in
    rw (first, second, third) refl
three_is find a b c (x ∷ y ∷ z ∷ w ∷ names) f e room = absurd (omega arith)

cond_same : {X : Type 0} (t : Bool) (x : X) → cond t x x ≡ x
cond_same true x = refl
cond_same false x = refl

whole_three : {X : Type 0} (names : List Word) (f : Word → Word → Word → Option X) → cond (length names == 3) (by_three names f) None ≡ by_three names f
whole_three [] f = refl
whole_three (a ∷ []) f = refl
whole_three (a ∷ b ∷ []) f = refl
whole_three (a ∷ b ∷ c ∷ []) f = refl
whole_three (a ∷ b ∷ c ∷ d ∷ names) f = cond_same (length (a ∷ b ∷ c ∷ d ∷ names) == 3) None

at_cond : {X Y : Type 0} (t : Bool) (x : X) (f : X → Option Y) → and_then (cond t (Some x) None) f ≡ cond t (f x) None
at_cond true x f = refl
at_cond false x f = refl

-- a form that is made of three names
three_form : {X : Type 0} (find : Word → Option Word) (a b c : Word) (s : Said) (f : Word → Word → Word → Option X) (form : Said → Option X) → form s ≡ by_three s.names f
    → find a ∷ find b ∷ find c ∷ [] ≡ in_places (a ∷ b ∷ c ∷ []) s.names → length s.names ≤ 3 → three_by find a b c f ≡ and_then (cond (length s.names == 3) (Some s) None) form
three_form find a b c s f form is e room =
    three_is find a b c s.names f e room ∙ sym (whole_three s.names f) ∙ ap (λ x. cond (length s.names == 3) x None) (sym is) ∙ sym (at_cond (length s.names == 3) s form)

-- ---- parameters

rates_same : (f g : Word → Option Word) → ((o : Word) → is_one_of parameters o ≡ true → f o ≡ g o) → rates_from f ≡ rates_from g
rates_same f g h =
    let stop = h (codes "stop") refl in
    let wait = h (codes "wait") refl in
    let trip_num = h (codes "trip-num") refl in
    let trip_den = h (codes "trip-den") refl in
    let trip_add = h (codes "trip-add") refl in
    let wait_weight = h (codes "wait-weight") refl in
    let trip_weight = h (codes "trip-weight") refl in
    rw (stop, wait, trip_num, trip_den, trip_add, wait_weight, trip_weight) refl

-- a word of two lists is a word of one
in_either : (xs ys : List Word) (o : Word) → is_one_of (xs ++ ys) o ≡ true → (is_one_of xs o ≡ true) ⊎ (is_one_of ys o ≡ true)
in_either xs ys o e = go (is_one_of xs o) refl (sym (list_any-append (λ x. bytes_eq x o) xs ys) ∙ e)
  where
    go : (t : Bool) → is_one_of xs o ≡ t → (t || is_one_of ys o) ≡ true → (is_one_of xs o ≡ true) ⊎ (is_one_of ys o ≡ true)
    go true f h = inl f
    go false f h = inr h

in_one : (xs : List Word) (x o : Word) → is_one_of xs o ≡ true → is_one_of (xs ++ x ∷ []) o ≡ true
in_one xs x o e = list_any-append (λ y. bytes_eq y o) xs (x ∷ []) ∙ ap (λ t. t || is_one_of (x ∷ []) o) e

rates_none : (s : Said) (o v : Word) → is_one_of parameters o ≡ true → value_in s.valued o ≡ Some v → begins_with_dash v ≡ true → rates_from (value_in s.valued) ≡ None
rates_none s o v is e dash = rates_dash (value_in s.valued) o v is e dash

-- ---- run

abbrev pub run_ids : List Word
run_ids = codes "graph" ∷ codes "fleet" ∷ codes "stream" ∷ []

abbrev run_of : Said → Option Form
run_of s = run_form s.names (run_options s)

pub run_table : IsTable run_command run_ids
run_table = record { count = refl; names = (refl, (refl, (refl, (refl, (refl, (refl, (refl, (refl, (refl, tt))))))))); valued = refl; plain = refl; options = refl; places = (refl, (refl, (refl, (refl, (refl, (refl, refl)))))) }

pub run_built : built (app_for run_ids run_command.valued run_command.plain) ≡ built_for (codes "vaugrenis") run_command run_ids
run_built = refl

run_form_none : (names : List Word) → run_form names None ≡ None
run_form_none [] = refl
run_form_none (a ∷ []) = refl
run_form_none (a ∷ b ∷ []) = refl
run_form_none (a ∷ b ∷ c ∷ []) = refl
run_form_none (a ∷ b ∷ c ∷ d ∷ names) = refl

run_minds : Minds run_command run_of
run_minds s o v is e dash = ap (run_form s.names) (none (in_either parameters (codes "window" ∷ []) o is)) ∙ run_form_none s.names
  where
    none : (is_one_of parameters o ≡ true) ⊎ (is_one_of (codes "window" ∷ []) o ≡ true) → run_options s ≡ None
    none (inl rate) = ap (λ r. and_then r (λ rates. option_map (λ window. record { rates = rates; window = window; proof = is_one_of s.plain (codes "proof") }) (optional_within 1 4096 (value_in s.valued (codes "window"))))) (rates_none s o v rate e dash)
    none (inr window) = by_each (λ o. value_in s.valued o ≡ Some v → run_options s ≡ None) (codes "window" ∷ []) (
      λ e. none_then (rates_from (value_in s.valued)) _ (λ rates. ap (option_map (λ window. record { rates = rates; window = window; proof = is_one_of s.plain (codes "proof") }))
          (ap (optional_within 1 4096) e ∙ ap (option_map Some) (within_dash 1 4096 v dash))),
      tt,
    ) o window e

run_form_is : (names : List Word) (options : Option RunOptions) → run_form names options ≡ by_three names (λ g f s. option_map (Run g f s) options)
run_form_is [] options = refl
run_form_is (a ∷ []) options = refl
run_form_is (a ∷ b ∷ []) options = refl
run_form_is (a ∷ b ∷ c ∷ []) options = refl
run_form_is (a ∷ b ∷ c ∷ d ∷ names) options = refl

run_options_out : (rates : Option Rates) (window : Option (Option ℕ)) (proof : Bool) (g f s : Word)
    → option_map (Run g f s) (and_then rates (λ rates. option_map (λ window. record { rates = rates; window = window; proof = proof }) window))
    ≡ and_then rates (λ rates. option_map (λ window. Run g f s (record { rates = rates; window = window; proof = proof })) window)
run_options_out None window proof g f s = refl
run_options_out (Some rates) None proof g f s = refl
run_options_out (Some rates) (Some window) proof g f s = refl

pub run_none : (words : List Word) → Comes run_command run_ids words None → None ≡ run_in words
run_none words e = sym (said_used run_command run_of run_minds words ∙ ap (λ x. and_then x run_of) e)

pub run_some : (words : List Word) (rows : List Row) → Comes run_command run_ids words (Some rows)
    → (proof : Bool) × ((one_of (codes "proof") rows ≡ Some (bool_text proof)) × (run_by (λ o. first_of o rows) proof ≡ run_in words))
run_some words rows (s, (shows, (flag, is))) =
    let proof = is_one_of s.plain (codes "proof") in
    let find = λ (o : Word). first_of o rows in
    let rates = rates_same find (value_in s.valued) (λ o h. shows.values o (in_one parameters (codes "window") o h)) in
    let window = shows.values (codes "window") refl in
    let each = λ (g f t : Word). run_options_out (rates_from (value_in s.valued)) (optional_within 1 4096 (value_in s.valued (codes "window"))) proof g f t
    ∙ ap₂ (λ r w. and_then r (λ rates. option_map (λ window. Run g f t (record { rates = rates; window = window; proof = proof })) (optional_within 1 4096 w))) (sym rates) (sym window) in
    let form = run_form_is s.names (run_options s) ∙ (λ j. by_three s.names (λ g f t. each g f t j)) in (
      proof,
      (
        flag (codes "proof") refl,
        three_form find (codes "graph") (codes "fleet") (codes "stream") s _ run_of form shows.names shows.room
            ∙ ap (λ x. and_then x run_of) (sym is) ∙ sym (said_used run_command run_of run_minds words),
      ),
    )

-- ---- audit

abbrev pub audit_ids : List Word
audit_ids = codes "graph" ∷ codes "fleet" ∷ codes "journal" ∷ []

abbrev audit_of : Said → Option Form
audit_of s = audit_form s.names (rates_from (value_in s.valued))

pub audit_table : IsTable audit_command audit_ids
audit_table = record { count = refl; names = (refl, (refl, (refl, (refl, (refl, (refl, (refl, (refl, (refl, tt))))))))); valued = refl; plain = refl; options = refl; places = (refl, (refl, (refl, (refl, (refl, (refl, refl)))))) }

pub audit_built : built (app_for audit_ids audit_command.valued audit_command.plain) ≡ built_for (codes "vaugrenis") audit_command audit_ids
audit_built = refl

audit_form_is : (names : List Word) (rates : Option Rates) → audit_form names rates ≡ by_three names (λ g f j. option_map (Audit g f j) rates)
audit_form_is [] rates = refl
audit_form_is (a ∷ []) rates = refl
audit_form_is (a ∷ b ∷ []) rates = refl
audit_form_is (a ∷ b ∷ c ∷ []) rates = refl
audit_form_is (a ∷ b ∷ c ∷ d ∷ names) rates = refl

audit_form_none : (names : List Word) → audit_form names None ≡ None
audit_form_none [] = refl
audit_form_none (a ∷ []) = refl
audit_form_none (a ∷ b ∷ []) = refl
audit_form_none (a ∷ b ∷ c ∷ []) = refl
audit_form_none (a ∷ b ∷ c ∷ d ∷ names) = refl

audit_minds : Minds audit_command audit_of
audit_minds s o v is e dash = ap (audit_form s.names) (rates_none s o v is e dash) ∙ audit_form_none s.names

pub audit_none : (words : List Word) → Comes audit_command audit_ids words None → None ≡ audit_in words
audit_none words e = sym (said_used audit_command audit_of audit_minds words ∙ ap (λ x. and_then x audit_of) e)

pub audit_some : (words : List Word) (rows : List Row) → Comes audit_command audit_ids words (Some rows) → audit_by (λ o. first_of o rows) ≡ audit_in words
audit_some words rows (s, (shows, (flag, is))) =
    let find = λ (o : Word). first_of o rows in
    let rates = rates_same find (value_in s.valued) (λ o h. shows.values o h) in
    let form = audit_form_is s.names (rates_from (value_in s.valued)) ∙ (λ j. by_three s.names (λ g f t. option_map (Audit g f t) (sym rates j))) in
    three_form find (codes "graph") (codes "fleet") (codes "journal") s _ audit_of form shows.names shows.room
    ∙ ap (λ x. and_then x audit_of) (sym is) ∙ sym (said_used audit_command audit_of audit_minds words)

-- ---- walk

abbrev pub walk_ids : List Word
walk_ids = codes "graph" ∷ codes "from" ∷ codes "to" ∷ []

abbrev walk_of : Said → Option Form
walk_of s = walk_form s.names

pub walk_table : IsTable walk_command walk_ids
walk_table = record { count = refl; names = (refl, (refl, (refl, (refl, (refl, (refl, (refl, (refl, (refl, tt))))))))); valued = refl; plain = refl; options = refl; places = (refl, (refl, (refl, (refl, (refl, (refl, refl)))))) }

pub walk_built : built (app_for walk_ids walk_command.valued walk_command.plain) ≡ built_for (codes "vaugrenis") walk_command walk_ids
walk_built = refl

walk_form_is : (names : List Word) → walk_form names ≡ by_three names (λ g from to. and_then (number_of from largest_node) (λ from. option_map (Walk g from) (number_of to largest_node)))
walk_form_is [] = refl
walk_form_is (a ∷ []) = refl
walk_form_is (a ∷ b ∷ []) = refl
walk_form_is (a ∷ b ∷ c ∷ []) = refl
walk_form_is (a ∷ b ∷ c ∷ d ∷ names) = refl

walk_minds : Minds walk_command walk_of
walk_minds s o v is e dash = cc

pub walk_none : (words : List Word) → Comes walk_command walk_ids words None → None ≡ walk_in words
walk_none words e = sym (said_used walk_command walk_of walk_minds words ∙ ap (λ x. and_then x walk_of) e)

pub walk_some : (words : List Word) (rows : List Row) → Comes walk_command walk_ids words (Some rows) → walk_by (λ o. first_of o rows) ≡ walk_in words
walk_some words rows (s, (shows, (flag, is))) =
    let find = λ (o : Word). first_of o rows in
    three_form find (codes "graph") (codes "from") (codes "to") s _ walk_of (walk_form_is s.names) shows.names shows.room
    ∙ ap (λ x. and_then x walk_of) (sym is) ∙ sym (said_used walk_command walk_of walk_minds words)

-- ---- gen

abbrev pub gen_ids : List Word
gen_ids = codes "number" ∷ []

abbrev gen_of : Said → Option Form
gen_of s = gen_form s.names

pub gen_table : IsTable gen_command gen_ids
gen_table = record { count = refl; names = (refl, (refl, (refl, tt))); valued = refl; plain = refl; options = refl; places = (refl, (refl, refl)) }

pub gen_built : built (app_for gen_ids gen_command.valued gen_command.plain) ≡ built_for (codes "vaugrenis") gen_command gen_ids
gen_built = refl

gen_minds : Minds gen_command gen_of
gen_minds s o v is e dash = cc

pub gen_none : (words : List Word) → Comes gen_command gen_ids words None → None ≡ gen_in words
gen_none words e = sym (said_used gen_command gen_of gen_minds words ∙ ap (λ x. and_then x gen_of) e)

one_form : (find : Word → Option Word) (names : List Word) (s : Said) → find (codes "number") ∷ [] ≡ in_places (codes "number" ∷ []) names → length names ≤ 1
    → gen_by find ≡ cond (length names == 1) (gen_form names) None
one_form find [] s e room = let first : find (codes "number") ≡ None = cc in rw first refl
one_form find (x ∷ []) s e room = let first : find (codes "number") ≡ Some x = cc in rw first refl
one_form find (x ∷ y ∷ names) s e room = absurd (omega arith)

pub gen_some : (words : List Word) (rows : List Row) → Comes gen_command gen_ids words (Some rows) → gen_by (λ o. first_of o rows) ≡ gen_in words
gen_some words rows (s, (shows, (flag, is))) =
    one_form (λ o. first_of o rows) s.names s shows.names shows.room ∙ sym (at_cond (length s.names == 1) s gen_of)
    ∙ ap (λ x. and_then x gen_of) (sym is) ∙ sym (said_used gen_command gen_of gen_minds words)

-- ---- live

abbrev live_of : Said → Option Form
live_of s = live_form s.names (rates_from (value_in s.valued)) (number_or 1 64 2 (value_in s.valued (codes "workers")))

pub live_table : IsTable live_command run_ids
live_table = record { count = refl; names = (refl, (refl, (refl, (refl, (refl, (refl, (refl, (refl, (refl, tt))))))))); valued = refl; plain = refl; options = refl; places = (refl, (refl, (refl, (refl, (refl, (refl, refl)))))) }

pub live_built : built (app_for run_ids live_command.valued live_command.plain) ≡ built_for (codes "vaugrenis") live_command run_ids
live_built = refl

live_form_is : (names : List Word) (rates : Option Rates) (workers : Option ℕ) → live_form names rates workers ≡ by_three names (λ g f s. and_then rates (λ rates. option_map (Live g f s rates) workers))
live_form_is [] rates workers = refl
live_form_is (a ∷ []) rates workers = refl
live_form_is (a ∷ b ∷ []) rates workers = refl
live_form_is (a ∷ b ∷ c ∷ []) rates workers = refl
live_form_is (a ∷ b ∷ c ∷ d ∷ names) rates workers = refl

three_none : {X : Type 0} (names : List Word) (f : Word → Word → Word → Option X) → ((a b c : Word) → f a b c ≡ None) → by_three names f ≡ None
three_none [] f h = refl
three_none (a ∷ []) f h = refl
three_none (a ∷ b ∷ []) f h = refl
three_none (a ∷ b ∷ c ∷ []) f h = h a b c
three_none (a ∷ b ∷ c ∷ d ∷ names) f h = refl

live_minds : Minds live_command live_of
live_minds s o v is e dash = live_form_is s.names (rates_from (value_in s.valued)) workers ∙ three_none s.names _ (λ g f t. none (in_either parameters (codes "workers" ∷ []) o is) g f t)
  where
    workers : Option ℕ
    workers = number_or 1 64 2 (value_in s.valued (codes "workers"))

    none : (is_one_of parameters o ≡ true) ⊎ (is_one_of (codes "workers" ∷ []) o ≡ true) → (g f t : Word) → and_then (rates_from (value_in s.valued)) (λ rates. option_map (Live g f t rates) workers) ≡ None
    none (inl rate) g f t = ap (λ r. and_then r (λ rates. option_map (Live g f t rates) workers)) (rates_none s o v rate e dash)
    none (inr given) g f t = by_each (λ o. value_in s.valued o ≡ Some v → and_then (rates_from (value_in s.valued)) (λ rates. option_map (Live g f t rates) workers) ≡ None) (codes "workers" ∷ []) (
      λ e. none_then (rates_from (value_in s.valued)) _ (λ rates. ap (option_map (Live g f t rates)) (ap (number_or 1 64 2) e ∙ within_dash 1 64 v dash)),
      tt,
    ) o given e

pub live_none : (words : List Word) → Comes live_command run_ids words None → None ≡ live_in words
live_none words e = sym (said_used live_command live_of live_minds words ∙ ap (λ x. and_then x live_of) e)

pub live_some : (words : List Word) (rows : List Row) → Comes live_command run_ids words (Some rows) → live_by (λ o. first_of o rows) ≡ live_in words
live_some words rows (s, (shows, (flag, is))) =
    let find = λ (o : Word). first_of o rows in
    let rates = rates_same find (value_in s.valued) (λ o h. shows.values o (in_one parameters (codes "workers") o h)) in
    let workers = shows.values (codes "workers") refl in
    let form = live_form_is s.names (rates_from (value_in s.valued)) (number_or 1 64 2 (value_in s.valued (codes "workers")))
    ∙ (λ j. by_three s.names (λ g f t. and_then (sym rates j) (λ rates. option_map (Live g f t rates) (number_or 1 64 2 (sym workers j))))) in
    three_form find (codes "graph") (codes "fleet") (codes "stream") s _ live_of form shows.names shows.room
    ∙ ap (λ x. and_then x live_of) (sym is) ∙ sym (said_used live_command live_of live_minds words)

-- ---- no mode

unlike : (a b : Word) → (a ≡ b → ⊥) → bytes_eq a b ≡ false
unlike a b differ = go (bytes_eq a b) refl
  where
    go : (t : Bool) → bytes_eq a b ≡ t → t ≡ false
    go false e = refl
    go true e = absurd (differ (same_word a b e))

pub no_mode : {Z : Type 0} (words : List (String Z)) (mode : String Z) (text : Word) → Some mode ≡ slice_get words 0 → text ≡ string_bytes mode
    → (text ≡ codes "run" → ⊥) → (text ≡ codes "audit" → ⊥) → (text ≡ codes "walk" → ⊥) → (text ≡ codes "gen" → ⊥) → (text ≡ codes "live" → ⊥) → None ≡ form_of (map string_bytes words)
no_mode [] mode text first is a b c d e = refl
no_mode (w ∷ words) mode text first is a b c d e =
    let same : mode ≡ w = cc in
    let here : text ≡ string_bytes w = is ∙ ap string_bytes same in
    let run : bytes_eq (string_bytes w) (codes "run") ≡ false = unlike _ _ (λ h. a (here ∙ h)) in
    let audit : bytes_eq (string_bytes w) (codes "audit") ≡ false = unlike _ _ (λ h. b (here ∙ h)) in
    let walk : bytes_eq (string_bytes w) (codes "walk") ≡ false = unlike _ _ (λ h. c (here ∙ h)) in
    let gen : bytes_eq (string_bytes w) (codes "gen") ≡ false = unlike _ _ (λ h. d (here ∙ h)) in
    let live : bytes_eq (string_bytes w) (codes "live") ≡ false = unlike _ _ (λ h. e (here ∙ h)) in
    rw (run, audit, walk, gen, live) refl

-- a first word that begins a form
pub has_mode : {Z : Type 0} (words : List (String Z)) (mode : String Z) (text begins : Word) → Some mode ≡ slice_get words 0 → text ≡ string_bytes mode → text ≡ begins → is_one_of modes begins ≡ true
    → HasNoMode (map string_bytes words) → ⊥
has_mode [] mode text begins first is same known none = cc
has_mode (w ∷ words) mode text begins first is same known none =
    let here : mode ≡ w = cc in
    absurd (false≢true (sym none ∙ ap (is_one_of modes) (sym (ap string_bytes here) ∙ sym is ∙ same) ∙ known))
