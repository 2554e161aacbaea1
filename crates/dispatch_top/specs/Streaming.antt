use Rattle.std.specs.Prelude.{◌≡◌, ◌⊎◌, ℕ, ◌+◌, true, false, List, [], Option, Some, None, Result, Ok, Err}
use Rattle.ride_base.specs.Calls.{Call, Says, Took, TookPrefix, TookNothing}
use Rattle.ride_base.specs.Outside.{ShelfState, Takes, TakesPrefix}
use Rattle.ride_base.specs.Prefixes.{HasGivenMore, HasReadGiven}
use Rattle.ride_base.specs.Reader.{Reader}
use Rattle.ride_base.specs.Reading.{Counts, TellsLine, unread}
use Rattle.ride_base.specs.declared.lines.Line.{Line}
use Rattle.ride_base.specs.declared.lines.LineFault.TheVariants.{Long, Large}
use Rattle.command_words.specs.Commands.{Word}
use Rattle.dispatch_top.specs.declared.status.Status.{Status}
use Rattle.dispatch_top.specs.declared.status.Status.TheVariants as status
use Rattle.dispatch_top.specs.declared.stops.OutputStop.{OutputStop}
use Rattle.dispatch_top.specs.declared.stops.OutputStop.TheVariants.{WriteFault, NoMemory}
use Rattle.dispatch_top.specs.declared.stops.StreamExit.{StreamExit}
use Rattle.dispatch_top.specs.declared.stops.StreamExit.TheVariants as exit
use Rattle.dispatch_top.specs.declared.stream.Next.{Next}
use Rattle.dispatch_top.specs.declared.stream.Next.TheVariants as next
use Rattle.dispatch_top.specs.Histories.{Account, Telling, EndsAt, EndsEarly, EndsUnread}
use Rattle.dispatch_top.specs.Streams.{AtEnd, AtBad}

-- How the answers to a stream end.

-- ---- the next line

-- A line has the number behind those that were given, and takes some of the bytes that may be given. Where a line end ends it, the
-- reader goes on.
pub record GivesLine (old : Reader) (shelf : ShelfState) (line : Line) (new : Reader) (shelf' : ShelfState) : Type 0 where
  pub tells : TellsLine old.room (unread old shelf.left) (Ok (Some line)) new.room (unread new shelf'.left)
  pub counts : Counts old (Ok (Some line)) new
  pub unstopped : new.stopped ≡ None
  pub goes_on : line.ended ≡ true → new.over ≡ false
  pub given : line.ended ≡ true → HasGivenMore old shelf line.bytes new shelf'

-- the next line is too long, or one byte too many
abbrev pub IsPastLimit : Reader → ShelfState → Reader → ShelfState → Type 0
IsPastLimit old shelf new shelf' =
    TellsLine old.room (unread old shelf.left) (Err Long) new.room (unread new shelf'.left) ⊎ TellsLine old.room (unread old shelf.left) (Err Large) new.room (unread new shelf'.left)

-- what is given of the text: a line, or why there is none
abbrev pub GivesNext : Reader → ShelfState → Next → Reader → ShelfState → Type 0
GivesNext old shelf (next.Line line) new shelf' = GivesLine old shelf line new shelf'
GivesNext old shelf (next.Exit exit.AtEnd) new shelf' = TellsLine old.room (unread old shelf.left) (Ok None) new.room (unread new shelf'.left)
GivesNext old shelf (next.Exit (exit.AtBad line)) new shelf' = (line ≡ old.given + 1) × IsPastLimit old shelf new shelf'
GivesNext old shelf (next.Exit exit.AtFault) new shelf' = HasReadGiven old shelf shelf'

-- ---- a text that is begun

-- How the answers to a text end of which so much was left: by a whole account of it up to its end, or by one of its first events.
abbrev pub Streamed : (Whole Early : Account) → Telling → Result StreamExit OutputStop → (left old new : Option (List ℕ)) → Type 0
Streamed Whole Early Says (Ok exit.AtEnd) left old new = EndsAt Whole AtEnd Says (Takes old new) × Says (λ text. left ≡ Some [])
Streamed Whole Early Says (Ok (exit.AtBad line)) left old new = EndsAt Whole (AtBad line) Says (Takes old new)
Streamed Whole Early Says (Ok exit.AtFault) left old new = EndsUnread Whole Says left (Takes old new)
Streamed Whole Early Says (Err WriteFault) left old new = EndsEarly Early Says (TakesPrefix old new)
Streamed Whole Early Says (Err NoMemory) left old new = EndsEarly Early Says (Takes old new)

-- ---- a stream by its name

-- the events of the lines that are ended among the bytes read were answered, and none where the stream wasn't begun
pub record AnswersRead (IsAccount : Account) (stream : Word) (c : Call) : Type 0 where
  pub begun : c.new.shelf.begun ≡ true → EndsUnread IsAccount (Says c.old.shelf stream) c.new.shelf.left (Took c)
  pub unbegun : c.new.shelf.begun ≡ false → TookNothing c

abbrev pub EndsStream : Account → (stream : Word) → Status → Call → Type 0
EndsStream IsAccount stream status.Done c = EndsAt IsAccount AtEnd (Says c.old.shelf stream) (Took c) × Says c.old.shelf stream (λ text. c.new.shelf.left ≡ Some [])
EndsStream IsAccount stream (status.StreamText line) c = EndsAt IsAccount (AtBad line) (Says c.old.shelf stream) (Took c)
EndsStream IsAccount stream status.ReadFault c = AnswersRead IsAccount stream c
EndsStream IsAccount stream status.WriteFault c = EndsEarly IsAccount (Says c.old.shelf stream) (TookPrefix c)
EndsStream IsAccount stream status.NoMemory c = TookNothing c ⊎ EndsEarly IsAccount (Says c.old.shelf stream) (Took c)
EndsStream IsAccount stream status.NotYet c = ⊥
EndsStream IsAccount stream status.Usage c = ⊥
EndsStream IsAccount stream (status.GraphText line) c = ⊥
EndsStream IsAccount stream (status.FleetText row) c = ⊥
