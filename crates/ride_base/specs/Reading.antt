use Rattle.std.specs.Prelude.{◌≡◌, ℕ, ◌+◌, ◌<◌, ◌≤◌, ◌++◌, not, Bool, true, false, List, [], ◌∷◌, length, IfOk, IfSome, Option, Some, None, Result, Ok, Err}
use Rattle.ride_base.specs.Pieces.{Whole, TooLong, TooLarge, IsRefused, pieces, after_line, is_ended}
use Rattle.ride_base.specs.Buffers.{with_read, IsAtEnd, IsWithinARead}
use Rattle.ride_base.specs.Prefixes.{HasGivenMore}
use Rattle.ride_base.specs.Outside.{ShelfState}
use Rattle.ride_base.specs.Reader.{Reader, Limit, Long as LineLimit, Large as TextLimit, most_line}
use Rattle.ride_base.specs.declared.buffer.ReadFault.{ReadFault}
use Rattle.ride_base.specs.declared.buffer.ReadFault.TheVariants.{Failed, NoMemory as ReadNoMemory}
use Rattle.ride_base.specs.declared.lines.Line.{Line}
use Rattle.ride_base.specs.declared.lines.LineFault.{LineFault}
use Rattle.ride_base.specs.declared.lines.LineFault.TheVariants.{Fault, Long, Large, NoMemory}

-- what has not been given: what was read before, and what is left
abbrev pub unread : Reader → Option (List ℕ) → Option (List ℕ)
unread reader left = with_read reader.pending left

-- What an answer says of the text that was not given before, where it is told, and what then is not given. `room` and `room'` are
-- the bytes that may be given before and after.
abbrev pub TellsLine : ℕ → Option (List ℕ) → Result (Option Line) LineFault → ℕ → Option (List ℕ) → Type 0
TellsLine room None answer room' after = after ≡ None
TellsLine room (Some text) (Ok None) room' after = (text ≡ []) × (after ≡ Some [])
TellsLine room (Some text) (Ok (Some line)) room' after =
    (pieces room text ≡ Whole line.bytes ∷ pieces room' (after_line text)) × (after ≡ Some (after_line text)) × (line.ended ≡ is_ended text)
TellsLine room (Some text) (Err Fault) room' after = after ≡ Some text
TellsLine room (Some text) (Err Long) room' after = (pieces room text ≡ TooLong ∷ []) × (after ≡ Some text)
TellsLine room (Some text) (Err Large) room' after = (pieces room text ≡ TooLarge ∷ []) × (after ≡ Some text)
TellsLine room (Some text) (Err NoMemory) room' after = after ≡ Some text

-- what a call answers that reads a line into one that is there
abbrev pub line_read : Result Bool LineFault → Line → Result (Option Line) LineFault
line_read (Ok true) line = Ok (Some line)
line_read (Ok false) line = Ok None
line_read (Err error) line = Err error

-- what was read and not given doesn't show that the next line, or the text, meets a limit
abbrev pub ShowsNoLimit : Reader → Type 0
ShowsNoLimit reader = IsRefused (pieces reader.room reader.pending) → ⊥

-- what is given is taken from the bytes that may still be given, where the text is told
abbrev pub Spends : ℕ → Option (List ℕ) → ℕ → Option (List ℕ) → Type 0
Spends room None room' after = Unit {0}
Spends room (Some text) room' None = ⊥
Spends room (Some text) room' (Some after) = room' + length text ≡ room + length after

-- what an answer says of the count of lines, and of the bytes that may still be given
abbrev pub Counts : Reader → Result (Option Line) LineFault → Reader → Type 0
Counts old (Ok None) new = (new.given ≡ old.given) × (new.room ≡ old.room)
Counts old (Ok (Some line)) new = (line.number ≡ old.given + 1) × (new.given ≡ old.given + 1) × (new.room < old.room)
Counts old (Err error) new = (new.given ≡ old.given) × (new.room ≡ old.room)

-- the limit at which a reader is stopped after an answer
abbrev pub limit_after : Result (Option Line) LineFault → Option Limit
limit_after (Ok line) = None
limit_after (Err Fault) = None
limit_after (Err Long) = Some LineLimit
limit_after (Err Large) = Some TextLimit
limit_after (Err NoMemory) = None

-- whether a reader gave all after an answer, where it had or hadn't before
abbrev pub over_after : Bool → Result (Option Line) LineFault → Bool
over_after before (Ok None) = true
over_after before (Ok (Some line)) = not line.ended
over_after before (Err error) = before

-- what a stopped reader answers
abbrev pub fault_of : Limit → LineFault
fault_of LineLimit = Long
fault_of TextLimit = Large

-- how a reader tells that no bytes were read
abbrev pub fault_of_read : ReadFault → LineFault
fault_of_read Failed = Fault
fault_of_read ReadNoMemory = NoMemory

-- What an answer says of the rest of a text that may have so many bytes, where it is told. After an error a prefix of it is lost, and
-- none of it past the limit where the shelf failed or memory was wanted. No line is too long.
abbrev pub TellsWhole : Option (List ℕ) → ℕ → Result (List ℕ) LineFault → Option (List ℕ) → Type 0
TellsWhole None limit answer after = after ≡ None
TellsWhole (Some text) limit (Ok bytes) after = (bytes ≡ text) × (after ≡ Some [])
TellsWhole (Some text) limit (Err Large) None = ⊥
TellsWhole (Some text) limit (Err Large) (Some after) = (limit < length text) × ((lost : List ℕ) × (text ≡ lost ++ after))
TellsWhole (Some text) limit (Err Long) after = ⊥
TellsWhole (Some text) limit (Err error) None = ⊥
TellsWhole (Some text) limit (Err error) (Some after) = (lost : List ℕ) × (length lost ≤ limit) × (text ≡ lost ++ after)

-- What the call for the next line promises. `old` and `shelf` are the reader and what is seen of the shelf before the call, `new` and
-- `shelf'` after it.

-- what its answer says of the text, where the reader was neither stopped nor over
abbrev pub TellsNext : Reader → ShelfState → Result (Option Line) LineFault → Reader → ShelfState → Type 0
TellsNext old shelf answer new shelf' =
    old.stopped ≡ None → old.over ≡ false → TellsLine old.room (unread old shelf.left) answer new.room (unread new shelf'.left)

abbrev pub SpendsNext : Reader → ShelfState → Reader → ShelfState → Type 0
SpendsNext old shelf new shelf' = Spends old.room (unread old shelf.left) new.room (unread new shelf'.left)

-- a reader that gave all gives no line, and nothing moves
abbrev pub StaysOver : {S X : Type 0} → (none : X) → Reader → S → Result X LineFault → Reader → S → Type 0
StaysOver none old shelf answer new shelf' = old.stopped ≡ None → old.over ≡ true → (answer ≡ Ok none) × (new ≡ old) × (shelf' ≡ shelf)

-- a stopped reader tells its limit again, and nothing moves
abbrev pub StaysStopped : {S X : Type 0} → Reader → S → Result X LineFault → Reader → S → Type 0
StaysStopped old shelf answer new shelf' = IfSome old.stopped (λ limit. (answer ≡ Err (fault_of limit)) × (new ≡ old) × (shelf' ≡ shelf))

-- where the answer is an ended line, the reader has given one line more
abbrev pub GivesOneMore : Reader → ShelfState → Result (Option Line) LineFault → Reader → ShelfState → Type 0
GivesOneMore old shelf answer new shelf' = IfOk answer (λ o. IfSome o (λ line. line.ended ≡ true → HasGivenMore old shelf line.bytes new shelf'))

-- what was read goes at most one read past the next line
abbrev pub IsNear : Reader → ShelfState → ShelfState → Type 0
IsNear old shelf shelf' = IsWithinARead (most_line old) old.pending shelf.left shelf'.left

-- The same of a call that reads nothing, whatever is left.
abbrev pub TellsStill : Reader → Result (Option Line) LineFault → Reader → Type 0
TellsStill old answer new = (left : Option (List ℕ)) → TellsLine old.room (unread old left) answer new.room (unread new left)

-- the same at the end of the text
abbrev pub TellsAtEnd : Reader → Result (Option Line) LineFault → Reader → Type 0
TellsAtEnd old answer new = (left : Option (List ℕ)) → IsAtEnd left → TellsLine old.room (unread old left) answer new.room (unread new left)

abbrev pub SpendsStill : Reader → Reader → Type 0
SpendsStill old new = (left : Option (List ℕ)) → Spends old.room (unread old left) new.room (unread new left)
