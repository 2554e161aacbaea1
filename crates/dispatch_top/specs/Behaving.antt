use Rattle.std.specs.Prelude.{◌≡◌, ◌⊎◌, true, List, [], Option, Some, None}
use Rattle.command_words.specs.Commands.{Word, Form, Run, Audit, Walk, Gen, Live}
use Rattle.ride_base.specs.Calls.{Call, Tells, AreHeld, BeganFirst, Stays, ShelfFailed, SinkFailed}
use Rattle.ride_base.specs.Outside.{ShelfState}
use Rattle.dispatch_top.specs.declared.status.Status.{Status}
use Rattle.dispatch_top.specs.declared.status.Status.TheVariants.{Done, ReadFault, WriteFault, NoMemory}
use Rattle.dispatch_top.specs.Forms.{is_answered, names_of, stages_of}
use Rattle.dispatch_top.specs.Reading.{Read, AreRead}
use Rattle.dispatch_top.specs.Streams.{AtEnd, events_of}

-- Whom an answer is due, and what holds of a run whatever its status.

-- the text behind those that are read whole goes to its end
abbrev pub HasGoodLast : ShelfState → Form → Type 0
HasGoodLast shelf (Run graph fleet stream options) = Tells shelf stream (λ text. (events_of text).ends ≡ AtEnd)
HasGoodLast shelf (Audit graph fleet journal rates) = Unit {0}
HasGoodLast shelf (Walk graph from to) = Unit {0}
HasGoodLast shelf (Gen number) = Unit {0}
HasGoodLast shelf (Live graph fleet stream rates workers) = Unit {0}

-- the texts of a form are told and good
pub record AreGood (shelf : ShelfState) (form : Form) : Type 0 where
  pub read : Read
  pub are_read : AreRead (Tells shelf) read (stages_of form)
  pub last : HasGoodLast shelf form

-- where the texts of a form that is answered are good, and neither the shelf nor the sink failed, all is answered, or memory was wanted
abbrev pub IsComplete : Option Form → Status → Call → Type 0
IsComplete None status c = Unit {0}
IsComplete (Some form) status c = is_answered form ≡ true → AreGood c.old.shelf form → (ShelfFailed c → ⊥) → (SinkFailed c → ⊥) → (status ≡ Done) ⊎ (status ≡ NoMemory)

abbrev pub names_in : Option Form → List Word
names_in None = []
names_in (Some form) = names_of form

-- each fault comes only where its count rose
abbrev pub HasCause : Status → Call → Type 0
HasCause ReadFault c = ShelfFailed c
HasCause WriteFault c = SinkFailed c
HasCause status c = Unit {0}

-- a shelf that holds the form's names, and is sure, doesn't fail
pub record IsSilent (status : Status) (c : Call) : Type 0 where
  pub unread : status ≡ ReadFault → ⊥
  pub silent : c.new.shelf.faults ≡ c.old.shelf.faults

-- what holds of a run whatever its status
pub record Behaves (form : Option Form) (status : Status) (c : Call) : Type 0 where
  pub names : BeganFirst (names_in form) c
  pub cause : HasCause status c
  pub silent : c.old.shelf.sure ≡ true → AreHeld (names_in form) c.old.shelf → IsSilent status c
  pub stays : Stays c
