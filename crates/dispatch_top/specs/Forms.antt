use Rattle.std.specs.Prelude.{◌≡◌, ◌&&◌, not, ◌++◌, Bool, true, false, List, [], ◌∷◌, map, Option, Some, None, is_none, option_map, cond, codes, refl}
use Rattle.command_words.specs.Commands.{Word, Form, Run, Audit, Walk, Gen, Live, RunOptions, form_of}

-- What the words of a command line ask of `run`, and the texts that are read for it.

-- a text that is read whole before anything is answered
pub data Stage : Type 0 where
  GraphText : Word → Stage
  FleetText : Word → Stage

abbrev pub name_of : Stage → Word
name_of (GraphText name) = name
name_of (FleetText name) = name

-- these texts of a form, in the order of reading
abbrev pub stages_of : Form → List Stage
stages_of (Run graph fleet stream options) = GraphText graph ∷ FleetText fleet ∷ []
stages_of (Audit graph fleet journal rates) = GraphText graph ∷ FleetText fleet ∷ []
stages_of (Walk graph from to) = GraphText graph ∷ []
stages_of (Gen number) = []
stages_of (Live graph fleet stream rates workers) = GraphText graph ∷ FleetText fleet ∷ []

-- the text that is read behind them line by line, where there is one
abbrev pub last_of : Form → List Word
last_of (Run graph fleet stream options) = stream ∷ []
last_of (Audit graph fleet journal rates) = journal ∷ []
last_of (Walk graph from to) = []
last_of (Gen number) = []
last_of (Live graph fleet stream rates workers) = stream ∷ []

-- the form's names, in the order of reading
abbrev pub names_of : Form → List Word
names_of form = map name_of (stages_of form) ++ last_of form

-- the form is one of `run`; `live` has a call of its own
abbrev pub is_of_run : Form → Bool
is_of_run (Live graph fleet stream rates workers) = false
is_of_run form = true

abbrev pub kept_where : (Form → Bool) → Option Form → Option Form
kept_where test None = None
kept_where test (Some form) = cond (test form) (Some form) None

-- the form that the words have, where it is one of `run`
abbrev pub run_asks : List Word → Option Form
run_asks words = kept_where is_of_run (form_of words)

-- one request after another, without proofs
abbrev pub is_plain : RunOptions → Bool
is_plain options = is_none options.window && not options.proof

-- the form is answered so far
abbrev pub is_answered : Form → Bool
is_answered (Run graph fleet stream options) = is_plain options
is_answered (Audit graph fleet journal rates) = false
is_answered (Walk graph from to) = true
is_answered (Gen number) = true
is_answered (Live graph fleet stream rates workers) = false

run_names : option_map names_of (run_asks (codes "run" ∷ codes "g" ∷ codes "f" ∷ codes "s" ∷ [])) ≡ Some (codes "g" ∷ codes "f" ∷ codes "s" ∷ [])
run_names = refl

walk_names : option_map names_of (run_asks (codes "walk" ∷ codes "g" ∷ codes "1" ∷ codes "2" ∷ [])) ≡ Some (codes "g" ∷ [])
walk_names = refl

plain_words : option_map is_answered (run_asks (codes "run" ∷ codes "g" ∷ codes "f" ∷ codes "s" ∷ [])) ≡ Some true
plain_words = refl

with_proof : option_map is_answered (run_asks (codes "run" ∷ codes "g" ∷ codes "f" ∷ codes "s" ∷ codes "--proof" ∷ [])) ≡ Some false
with_proof = refl

with_window : option_map is_answered (run_asks (codes "run" ∷ codes "g" ∷ codes "f" ∷ codes "s" ∷ codes "--window" ∷ codes "1" ∷ [])) ≡ Some false
with_window = refl

no_live : run_asks (codes "live" ∷ codes "g" ∷ codes "f" ∷ codes "s" ∷ []) ≡ None
no_live = refl
