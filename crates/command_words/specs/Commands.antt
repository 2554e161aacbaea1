use Rattle.std.specs.Prelude.{◌≡◌, ℕ, ◌*◌, ◌==◌, ◌&&◌, nat_le, not, Bool, true, false, cond, List, [], ◌∷◌, ◌++◌, map, length, Option, Some, None, option_map, codes}
use Rattle.std.specs.List.{list_any, before_first, after_first}
use Rattle.std.specs.Str.{bytes_eq}
use Rattle.ride_base.specs.Digits.{number_of}
use Rattle.ride_base.specs.Fields.{largest_32}
pub use Rattle.ride_base.specs.Options.{and_then}
use Rattle.stop_schedule.specs.Rates.{Rates, rates_of, usual}

-- What the words of a command line say.

abbrev pub Word : Type 0
Word = List ℕ

-- a simple command: how many names it takes, its options with a value, and its options without one
pub record Command : Type 0 where
  pub names : ℕ
  pub valued : List Word
  pub plain : List Word

-- the names, the options with their values, and the options without one, each in the order of the words
pub record Said : Type 0 where
  pub names : List Word
  pub valued : List (Word × Word)
  pub plain : List Word

abbrev pub nothing : Said
nothing = record { names = []; valued = []; plain = [] }

abbrev pub with_name : Word → Said → Said
with_name w s = record s { names = w ∷ s.names }

abbrev pub with_plain : Word → Said → Said
with_plain o s = record s { plain = o ∷ s.plain }

abbrev pub with_value : Word → Word → Said → Said
with_value o v s = record s { valued = (o, v) ∷ s.valued }

abbrev pub is_one_of : List Word → Word → Bool
is_one_of words w = list_any (λ x. bytes_eq x w) words

-- the dash and the sign between an option and its value
abbrev pub is_dash : ℕ → Bool
is_dash b = b == 45

abbrev pub is_equals : ℕ → Bool
is_equals b = b == 61

abbrev pub begins_with_dash : Word → Bool
begins_with_dash [] = false
begins_with_dash (b ∷ bs) = is_dash b

-- What a word says where no option waits for its value, and no `--` stood before it.
pub data Meaning : Type 0 where
  -- `--`: each word after it is a name
  Ends : Meaning
  -- a name
  Names : Meaning
  -- `--x`, an option without value
  Plain : Word → Meaning
  -- `--x=v`, an option with its value
  Valued : Word → Word → Meaning
  -- `--x`, an option whose value is the next word
  Awaits : Word → Meaning
  -- a word that begins with a dash and is no option of the command
  Refused : Meaning

-- `--x`
abbrev pub bare_option : Command → Word → Meaning
bare_option c o = cond (is_one_of c.valued o) (Awaits o) (cond (is_one_of c.plain o) (Plain o) Refused)

-- `--x=v`
abbrev pub joined_option : Command → Word → Word → Meaning
joined_option c o v = cond (is_one_of c.valued o) (Valued o v) Refused

abbrev pub option_meaning : Command → Word → Meaning
option_meaning c text = cond (list_any is_equals text) (joined_option c (before_first is_equals text) (after_first is_equals text)) (bare_option c text)

-- a word that begins with two dashes, without them
abbrev pub long_meaning : Command → Word → Meaning
long_meaning c [] = Ends
long_meaning c (b ∷ bs) = option_meaning c (b ∷ bs)

-- a word that begins with a dash, without it: a dash alone is a name, and there is no short option
abbrev pub dashed_meaning : Command → Word → Meaning
dashed_meaning c [] = Names
dashed_meaning c (b ∷ bs) = cond (is_dash b) (long_meaning c bs) Refused

abbrev pub meaning_of : Command → Word → Meaning
meaning_of c [] = Names
meaning_of c (b ∷ bs) = cond (is_dash b) (dashed_meaning c bs) Names

-- what a word of that meaning says before further words
abbrev pub said_by : Meaning → Word → List Word → Option Said → (Word → Option Said) → Option Said
said_by Ends w ws after waiting = Some (record nothing { names = ws })
said_by Names w ws after waiting = option_map (with_name w) after
said_by (Plain o) w ws after waiting = option_map (with_plain o) after
said_by (Valued o v) w ws after waiting = option_map (with_value o v) after
said_by (Awaits o) w ws after waiting = waiting o
said_by Refused w ws after waiting = None

-- What words say, where an option may wait for its value. A value that is the next word doesn't begin with a dash.
abbrev pub said_from : Command → Option Word → List Word → Option Said
said_from c None [] = Some nothing
said_from c (Some o) [] = None
said_from c None (w ∷ ws) = said_by (meaning_of c w) w ws (said_from c None ws) (λ o. said_from c (Some o) ws)
said_from c (Some o) (w ∷ ws) = cond (begins_with_dash w) None (option_map (with_value o w) (said_from c None ws))

abbrev pub are_distinct : List Word → Bool
are_distinct [] = true
are_distinct (w ∷ ws) = not (is_one_of ws w) && are_distinct ws

-- so many names, and no option twice
abbrev pub is_whole : Command → Said → Bool
is_whole c s = (length s.names == c.names) && (are_distinct (map (λ o. o.0) s.valued) && are_distinct s.plain)

abbrev pub kept_where : {X : Type 0} → (X → Bool) → Option X → Option X
kept_where test None = None
kept_where test (Some x) = cond (test x) (Some x) None

-- what the words after the mode say of a command
abbrev pub said : Command → List Word → Option Said
said c words = kept_where (is_whole c) (said_from c None words)

-- the value of an option
abbrev pub value_in : List (Word × Word) → Word → Option Word
value_in [] o = None
value_in (given ∷ more) o = cond (bytes_eq given.0 o) (Some given.1) (value_in more o)

-- a number within a range
abbrev pub within : (least most : ℕ) → Word → Option ℕ
within least most digits = kept_where (nat_le least) (number_of digits most)

-- the number that an option has, or another where it isn't given; none where its value is no number within the range
abbrev pub number_or : (least most usual : ℕ) → Option Word → Option ℕ
number_or least most other None = Some other
number_or least most other (Some digits) = within least most digits

-- a parameter up to 65,536, where a function gives the values of the options
abbrev pub parameter : (Word → Option Word) → Word → (least usual : ℕ) → Option ℕ
parameter find o least other = number_or least 65536 other (find o)

abbrev pub is_fair : Rates → Bool
is_fair r = nat_le r.trip_num (16 * r.trip_den)

-- the seven parameters, where each is in its range
abbrev pub rates_from : (Word → Option Word) → Option Rates
rates_from find =
    and_then (parameter find (codes "stop") 0 usual.stop) (λ stop.
    and_then (parameter find (codes "wait") 0 usual.wait) (λ wait.
    and_then (parameter find (codes "trip-num") 0 usual.trip_num) (λ trip_num.
    and_then (parameter find (codes "trip-den") 1 usual.trip_den) (λ trip_den.
    and_then (parameter find (codes "trip-add") 0 usual.trip_add) (λ trip_add.
    and_then (parameter find (codes "wait-weight") 0 usual.wait_weight) (λ wait_weight.
    and_then (parameter find (codes "trip-weight") 0 usual.trip_weight) (λ trip_weight.
    kept_where is_fair (Some (rates_of stop wait trip_num trip_den trip_add wait_weight trip_weight)))))))))

abbrev pub parameters : List Word
parameters = codes "stop" ∷ codes "wait" ∷ codes "trip-num" ∷ codes "trip-den" ∷ codes "trip-add" ∷ codes "wait-weight" ∷ codes "trip-weight" ∷ []

-- `run` with its options: the window where it is given, and whether proofs are asked for
pub record RunOptions : Type 0 where
  pub rates : Rates
  pub window : Option ℕ
  pub proof : Bool

-- the forms of a command line
pub data Form : Type 0 where
  Run : (graph fleet stream : Word) → RunOptions → Form
  Audit : (graph fleet journal : Word) → Rates → Form
  Walk : (graph : Word) (from to : ℕ) → Form
  Gen : ℕ → Form
  Live : (graph fleet stream : Word) → Rates → (workers : ℕ) → Form

abbrev pub run_command : Command
run_command = record { names = 3; valued = parameters ++ codes "window" ∷ []; plain = codes "proof" ∷ [] }

abbrev pub audit_command : Command
audit_command = record { names = 3; valued = parameters; plain = [] }

abbrev pub walk_command : Command
walk_command = record { names = 3; valued = []; plain = [] }

abbrev pub gen_command : Command
gen_command = record { names = 1; valued = []; plain = [] }

abbrev pub live_command : Command
live_command = record { names = 3; valued = parameters ++ codes "workers" ∷ []; plain = [] }

-- the number of an option that may be left out
abbrev pub optional_within : (least most : ℕ) → Option Word → Option (Option ℕ)
optional_within least most None = Some None
optional_within least most (Some digits) = option_map Some (within least most digits)

abbrev pub run_options : Said → Option RunOptions
run_options s =
    and_then (rates_from (value_in s.valued)) (λ rates.
    option_map (λ window. record { rates = rates; window = window; proof = is_one_of s.plain (codes "proof") }) (optional_within 1 4096 (value_in s.valued (codes "window"))))

abbrev pub run_form : List Word → Option RunOptions → Option Form
run_form (g ∷ f ∷ s ∷ []) options = option_map (Run g f s) options
run_form names options = None

abbrev pub audit_form : List Word → Option Rates → Option Form
audit_form (g ∷ f ∷ j ∷ []) rates = option_map (Audit g f j) rates
audit_form names rates = None

abbrev pub largest_node : ℕ
largest_node = largest_32

abbrev pub walk_form : List Word → Option Form
walk_form (g ∷ from ∷ to ∷ []) = and_then (number_of from largest_node) (λ from. option_map (Walk g from) (number_of to largest_node))
walk_form names = None

abbrev pub gen_form : List Word → Option Form
gen_form (n ∷ []) = option_map Gen (number_of n 18446744073709551615)
gen_form names = None

abbrev pub live_form : List Word → Option Rates → Option ℕ → Option Form
live_form (g ∷ f ∷ s ∷ []) rates workers = and_then rates (λ rates. option_map (Live g f s rates) workers)
live_form names rates workers = None

-- the words that begin a form
abbrev pub modes : List Word
modes = codes "run" ∷ codes "audit" ∷ codes "walk" ∷ codes "gen" ∷ codes "live" ∷ []

-- there is no word, or the first one begins no form
abbrev pub HasNoMode : List Word → Type 0
HasNoMode [] = Unit {0}
HasNoMode (mode ∷ words) = is_one_of modes mode ≡ false

-- the form after a mode
abbrev pub form_after : Word → List Word → Option Form
form_after mode words =
    cond (bytes_eq mode (codes "run")) (and_then (said run_command words) (λ s. run_form s.names (run_options s)))
    (cond (bytes_eq mode (codes "audit")) (and_then (said audit_command words) (λ s. audit_form s.names (rates_from (value_in s.valued))))
    (cond (bytes_eq mode (codes "walk")) (and_then (said walk_command words) (λ s. walk_form s.names))
    (cond (bytes_eq mode (codes "gen")) (and_then (said gen_command words) (λ s. gen_form s.names))
    (cond (bytes_eq mode (codes "live")) (and_then (said live_command words) (λ s. live_form s.names (rates_from (value_in s.valued)) (number_or 1 64 2 (value_in s.valued (codes "workers")))))
    None))))

-- the form of a command line, without the program's own name
abbrev pub form_of : List Word → Option Form
form_of [] = None
form_of (mode ∷ words) = form_after mode words
