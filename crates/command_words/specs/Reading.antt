use Rattle.std.specs.Prelude.{◌≡◌, Bool, List, [], ◌∷◌, ◌++◌, map, Option, Some, None, option_map, codes, true}
use Rattle.clap.specs.declared.parser.matches.Found.{Found}
use Rattle.clap.specs.Matches.{one_text}
use Rattle.clap.specs.Values.{bool_text}
use Rattle.clap.specs.Words.{App, Kinds, Row, Rule, fault_of, matches_of, new_app, new_rule}
use Rattle.clap.specs.declared.builder.action.ArgAction.TheVariants.{Set, SetTrue}
use Rattle.command_words.specs.Commands.{Form, Run, Audit, Walk, Gen, Live, Word, and_then, largest_node, number_or, optional_within, value_in, said, rates_from, run_options, run_command, audit_command, walk_command, gen_command, live_command, run_form, audit_form, walk_form, gen_form, live_form}
use Rattle.ride_base.specs.Digits.{number_of}

-- How clap is asked for a command, and what it answers.

-- a value, unless there is a fault
abbrev pub cut : {X : Type 0} → Kinds → Option X → Option X
cut [] x = x
cut (k ∷ ks) x = None

-- the rows of the matches, where clap takes the words
abbrev pub answer_of : App → List Word → Option (List Row)
answer_of app words = cut (fault_of app words) (Some (matches_of app words))

-- a name, by its place
abbrev pub name_rule : Word → Rule
name_rule id = record (new_rule id) { action = Some Set }

-- `--x V`
abbrev pub value_rule : Word → Rule
value_rule o = record (new_rule o) { long = Some o; action = Some Set }

-- `--x`
abbrev pub flag_rule : Word → Rule
flag_rule o = record (new_rule o) { long = Some o; action = Some SetTrue }

-- the app with further rules
abbrev pub with_rules : App → List Rule → App
with_rules app rules = record app { top = record app.top { rules = app.top.rules ++ rules } }

-- a command without help, before it has arguments
abbrev pub bare_app : App
bare_app = record { top = record (new_app (codes "vaugrenis")).top { disable_help_flag = true }; subs = [] }

-- the command of these names and options
abbrev pub app_for : (names valued plain : List Word) → App
app_for names valued plain = with_rules (with_rules (with_rules bare_app (map name_rule names)) (map value_rule valued)) (map flag_rule plain)

-- The forms, where a function gives the values of the names and the options.

abbrev pub three_by : {X : Type 0} → (Word → Option Word) → (first second third : Word) → (Word → Word → Word → Option X) → Option X
three_by find first second third f = and_then (find first) (λ a. and_then (find second) (λ b. and_then (find third) (f a b)))

abbrev pub run_by : (Word → Option Word) → Bool → Option Form
run_by find proof = three_by find (codes "graph") (codes "fleet") (codes "stream") (λ g f s.
    and_then (rates_from find) (λ rates.
    option_map (λ window. Run g f s (record { rates = rates; window = window; proof = proof })) (optional_within 1 4096 (find (codes "window")))))

abbrev pub audit_by : (Word → Option Word) → Option Form
audit_by find = three_by find (codes "graph") (codes "fleet") (codes "journal") (λ g f j. option_map (Audit g f j) (rates_from find))

abbrev pub walk_by : (Word → Option Word) → Option Form
walk_by find = three_by find (codes "graph") (codes "from") (codes "to") (λ g from to. and_then (number_of from largest_node) (λ from. option_map (Walk g from) (number_of to largest_node)))

abbrev pub gen_by : (Word → Option Word) → Option Form
gen_by find = and_then (find (codes "number")) (λ n. option_map Gen (number_of n 18446744073709551615))

abbrev pub live_by : (Word → Option Word) → Option Form
live_by find = three_by find (codes "graph") (codes "fleet") (codes "stream") (λ g f s.
    and_then (rates_from find) (λ rates. option_map (Live g f s rates) (number_or 1 64 2 (find (codes "workers")))))

-- The forms of the words after each mode.

abbrev pub run_in : List Word → Option Form
run_in words = and_then (said run_command words) (λ s. run_form s.names (run_options s))

abbrev pub audit_in : List Word → Option Form
audit_in words = and_then (said audit_command words) (λ s. audit_form s.names (rates_from (value_in s.valued)))

abbrev pub walk_in : List Word → Option Form
walk_in words = and_then (said walk_command words) (λ s. walk_form s.names)

abbrev pub gen_in : List Word → Option Form
gen_in words = and_then (said gen_command words) (λ s. gen_form s.names)

abbrev pub live_in : List Word → Option Form
live_in words = and_then (said live_command words) (λ s. live_form s.names (rates_from (value_in s.valued)) (number_or 1 64 2 (value_in s.valued (codes "workers"))))

-- a flag of a command, and whether it was given
abbrev pub HasFlag : Found → Word → Bool → Type 0
HasFlag found flag given = one_text found flag ≡ Some (bool_text given)
