use Rattle.std.specs.Prelude.{◌≡◌, ◌⊎◌, ℕ, Bool, true, false, List, length, Option, Some, None}
use Rattle.command_words.specs.Commands.{Form, Run, Audit, Walk, Gen, Live}
use Rattle.ride_base.specs.Calls.{Call, Says, Began}
use Rattle.dispatch_top.specs.declared.status.Status.{Status}
use Rattle.dispatch_top.specs.declared.status.Status.TheVariants.{Usage, NotYet, NoMemory}
use Rattle.dispatch_top.specs.Forms.{is_answered, names_of, stages_of}
use Rattle.dispatch_top.specs.GenMode.{EndsGen}
use Rattle.dispatch_top.specs.Reading.{Read, AreRead, EndsReading}
use Rattle.dispatch_top.specs.RunMode.{EndsRun}
use Rattle.dispatch_top.specs.WalkMode.{EndsWalk}

-- How `run` ends with each status, for every form of its words.

-- behind the texts that are read whole: one case a form
abbrev pub EndsMode : Form → Read → Status → Call → Type 0
EndsMode (Run graph fleet stream options) read status c = EndsRun options.rates stream read status c
EndsMode (Walk graph from to) read status c = EndsWalk from to read status c
EndsMode (Audit graph fleet journal rates) read status c = ⊥
EndsMode (Gen number) read status c = EndsGen number status c
EndsMode (Live graph fleet stream rates workers) read status c = ⊥

-- all names were begun; where memory was wanted, perhaps not the last one
abbrev pub HasBegun : List (List ℕ) → (stages : ℕ) → Status → Call → Type 0
HasBegun names stages NoMemory c = Began names stages c ⊎ Began names (length names) c
HasBegun names stages status c = Began names (length names) c

-- all texts that are read whole were read, and then the run ended so
pub record EndsBehind (form : Form) (status : Status) (c : Call) : Type 0 where
  pub read : Read
  pub are_read : AreRead (Says c.old.shelf) read (stages_of form)
  pub began : HasBegun (names_of form) (length (stages_of form)) status c
  pub ends : EndsMode form read status c

-- a form that is answered, or not yet
abbrev pub EndsForm : Bool → Form → Status → Call → Type 0
EndsForm true form status c = EndsReading (names_of form) (stages_of form) status c ⊎ EndsBehind form status c
EndsForm false form status c = (status ≡ NotYet) ⊎ (status ≡ NoMemory)

abbrev pub Ends : Option Form → Status → Call → Type 0
Ends None status c = (status ≡ Usage) ⊎ (status ≡ NoMemory)
Ends (Some form) status c = EndsForm (is_answered form) form status c

-- the words are no form that is answered
abbrev pub IsUnanswered : Option Form → Type 0
IsUnanswered None = Unit {0}
IsUnanswered (Some form) = is_answered form ≡ false
