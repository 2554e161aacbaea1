use Rattle.std.specs.Prelude.{◌≡◌, ℕ, ◌-◌, ◌^◌, ◌==◌, min, Bool, true, false, ◌&&◌, ◌||◌, not, cond, List, [], ◌∷◌, ◌++◌, length, take, drop, Option, Some, None, Result, Ok, IsErr, is_some, IfSome, IsTrue, slice_get, codes, refl}
use Rattle.std.specs.List.{list_any}
use Rattle.std.specs.Str.{bytes_eq}
use Rattle.ride_base.specs.Outside.{Held, Absent, Text, ShelfState, SinkState, raised}
use Rattle.ride_base.specs.declared.outside.Failed.{Failed}
use Rattle.ride_base.specs.declared.memory.StoredText.{StoredText}
use Rattle.ride_base.specs.declared.memory.FailingCall.{FailingCall}
use Rattle.ride_base.specs.declared.memory.Progress.{Progress}

-- the text that is begun: its name, what is left of it, and the reads since it was begun
pub record Begun : Type 0 where
  pub name : List ℕ
  pub left : List ℕ
  pub reads : ℕ

-- A shelf over memory: the texts in the order in which they were put, the calls that fail, the names begun, the most bytes that
-- a read moves, the text that is begun, and the count of faults.
pub record Store : Type 0 where
  pub texts : List StoredText
  pub failing : List FailingCall
  pub names : List (List ℕ)
  pub most : ℕ
  pub begun : Option Begun
  pub faults : ℕ

-- what a place in the texts shows: the name of its text, and what is left of it
abbrev pub shown_in : Progress → Option StoredText → Option Begun
shown_in place None = None
shown_in place (Some text) = Some (record { name = text.name; left = drop place.at text.bytes; reads = place.reads })

abbrev pub shown : List StoredText → Option Progress → Option Begun
shown texts None = None
shown texts (Some place) = shown_in place (slice_get texts place.text)

-- the shelf with no text
abbrev pub empty_store : Store
empty_store = record { texts = []; failing = []; names = []; most = 2 ^ 64 - 1; begun = None; faults = 0 }

-- what a name holds after further texts were put
abbrev pub held_after : Held → List StoredText → List ℕ → Held
held_after held [] name = held
held_after held (text ∷ texts) name = held_after (cond (bytes_eq text.name name) (Text text.bytes) held) texts name

-- what a name holds: the last text that was put under it
abbrev pub held_in : List StoredText → List ℕ → Held
held_in texts name = held_after Absent texts name

-- the text at a place
abbrev pub text_of : Option StoredText → Held
text_of None = Absent
text_of (Some text) = Text text.bytes

abbrev pub name_of : Option StoredText → List ℕ
name_of None = []
name_of (Some text) = text.name

abbrev pub holds_at : List StoredText → Option ℕ → Held
holds_at texts None = Absent
holds_at texts (Some i) = text_of (slice_get texts i)

-- what is left of the text that is begun
abbrev pub left_of : Option Begun → Option (List ℕ)
left_of None = None
left_of (Some begun) = Some begun.left

abbrev pub left_in : Store → Option (List ℕ)
left_in store = left_of store.begun

-- no call is listed as failing
abbrev pub lists_none : List FailingCall → Bool
lists_none [] = true
lists_none (listed ∷ more) = false

-- what is seen of a shelf over memory
abbrev pub store_seen : Store → ShelfState
store_seen store = record {
  held = held_in store.texts;
  names = store.names;
  left = left_in store;
  begun = is_some store.begun;
  sure = lists_none store.failing;
  quiet = true;
  faults = store.faults;
}

-- the shelf with one text more
abbrev pub with_text : Store → (name bytes : List ℕ) → Store
with_text store name bytes = record store { texts = store.texts ++ (record { name = name; bytes = bytes }) ∷ [] }

-- the shelf with one failing call more
abbrev pub with_failing : Store → (name : List ℕ) → (call : ℕ) → Store
with_failing store name call = record store { failing = store.failing ++ (record { name = name; call = call }) ∷ [] }

abbrev pub is_text : Held → Bool
is_text (Text bytes) = true
is_text held = false

abbrev pub bytes_held : Held → List ℕ
bytes_held (Text bytes) = bytes
bytes_held held = []

-- whether that call of a name is listed as failing: 0 is its `begin`, and its reads are counted from 1
abbrev pub is_listed : List FailingCall → List ℕ → ℕ → Bool
is_listed [] name call = false
is_listed (listed ∷ more) name call = (listed.call == call && bytes_eq listed.name name) || is_listed more name call

-- whether `begin` of that name succeeds, where there is memory for the name
abbrev pub can_begin : Store → List ℕ → Bool
can_begin store name = not (is_listed store.failing name 0) && is_text (held_in store.texts name)

-- the shelf after that text was begun
abbrev pub after_begin : Store → List ℕ → Store
after_begin store name = record store {
  names = store.names ++ name ∷ [];
  begun = Some (record { name = name; left = bytes_held (held_in store.texts name); reads = 0 });
}

-- the shelf after it failed to begin that text
abbrev pub after_refusal : Store → List ℕ → Store
after_refusal store name = record store { names = store.names ++ name ∷ []; begun = None; faults = raised store.faults }

-- that text is begun
abbrev pub BeginsText : Store → List ℕ → Store → Type 0
BeginsText old name new = IsTrue (can_begin old name) × (new ≡ after_begin old name)

-- that text can't be begun
abbrev pub RefusesText : Store → List ℕ → Store → Type 0
RefusesText old name new = (can_begin old name ≡ false) × (new ≡ after_refusal old name)

-- whether the next read of that text fails
abbrev pub read_fails : Store → Begun → Bool
read_fails store begun = is_listed store.failing begun.name (raised begun.reads)

-- how many bytes the next read moves into a piece of that length
abbrev pub read_count : Store → Begun → ℕ → ℕ
read_count store begun room = min (min room store.most) (length begun.left)

-- the shelf after a read of the text begun that moved so many bytes
abbrev pub after_read : Store → Begun → ℕ → Store
after_read store begun count = record store { begun = Some (record begun { left = drop count begun.left; reads = raised begun.reads }) }

-- the shelf after a failed read of the text begun
abbrev pub after_failed_read : Store → Begun → Store
after_failed_read store begun = record store { begun = Some (record begun { reads = raised begun.reads }); faults = raised store.faults }

-- what a read of the text begun does: its answer, the shelf after it, and the piece
pub record Reads (old new : Store) (begun : Begun) (piece piece' : List ℕ) (answer : Result ℕ Failed) : Type 0 where
  pub failed : read_fails old begun ≡ true → IsErr answer × (new ≡ after_failed_read old begun) × (piece' ≡ piece)
  pub moved : read_fails old begun ≡ false → (answer ≡ Ok (read_count old begun (length piece))) × (new ≡ after_read old begun (read_count old begun (length piece)))
      × (piece' ≡ take (read_count old begun (length piece)) begun.left ++ drop (read_count old begun (length piece)) piece)

-- the same of the text that is begun
abbrev pub ReadsText : (old new : Store) → (piece piece' : List ℕ) → Result ℕ Failed → Type 0
ReadsText old new piece piece' answer = IfSome old.begun (λ begun. Reads old new begun piece piece' answer)

-- A sink over memory: what it took, how many bytes it takes in all, the puts that fail, counted from 1, the puts so far, and the
-- count of faults.
pub record Basin : Type 0 where
  pub taken : List ℕ
  pub room : ℕ
  pub failing : List ℕ
  pub puts : ℕ
  pub faults : ℕ

-- what is seen of a sink over memory
abbrev pub basin_seen : Basin → SinkState
basin_seen basin = record { taken = Some basin.taken; quiet = true; faults = basin.faults }

-- the sink that took nothing
abbrev pub empty_basin : ℕ → Basin
empty_basin room = record { taken = []; room = room; failing = []; puts = 0; faults = 0 }

-- the sink with one failing put more
abbrev pub with_failing_put : Basin → ℕ → Basin
with_failing_put basin call = record basin { failing = basin.failing ++ call ∷ [] }

-- whether the next put fails
abbrev pub put_fails : Basin → Bool
put_fails basin = list_any (λ call. call == raised basin.puts) basin.failing || (basin.room - length basin.taken == 0)

-- how many bytes of a piece of that length the next put takes
abbrev pub put_count : Basin → ℕ → ℕ
put_count basin size = min (basin.room - length basin.taken) size

-- the sink after a put that took those bytes
abbrev pub after_put : Basin → List ℕ → Basin
after_put basin bytes = record basin { taken = basin.taken ++ bytes; puts = raised basin.puts }

-- the sink after a put that failed
abbrev pub after_failed_put : Basin → Basin
after_failed_put basin = record basin { puts = raised basin.puts; faults = raised basin.faults }

-- what a put of a piece does
pub record Puts (old new : Basin) (piece : List ℕ) (answer : Result ℕ Failed) : Type 0 where
  pub failed : put_fails old ≡ true → IsErr answer × (new ≡ after_failed_put old)
  pub took : put_fails old ≡ false → (answer ≡ Ok (put_count old (length piece))) × (new ≡ after_put old (take (put_count old (length piece)) piece))

-- the later of two texts of a name counts
worked_later : held_in (record { name = codes "t"; bytes = 97 ∷ [] } ∷ record { name = codes "t"; bytes = 98 ∷ [] } ∷ []) (codes "t") ≡ Text (98 ∷ [])
worked_later = refl

worked_absent : held_in (record { name = codes "t"; bytes = 97 ∷ [] } ∷ []) (codes "u") ≡ Absent
worked_absent = refl

-- the second read of that text is listed, and the first isn't
worked_listed : read_fails (record empty_store { failing = record { name = codes "t"; call = 2 } ∷ [] }) (record { name = codes "t"; left = []; reads = 1 }) ≡ true
worked_listed = refl

worked_unlisted : read_fails (record empty_store { failing = record { name = codes "t"; call = 2 } ∷ [] }) (record { name = codes "t"; left = []; reads = 0 }) ≡ false
worked_unlisted = refl

-- a read moves what fits the piece, the most and the text
worked_count : read_count (record empty_store { most = 2 }) (record { name = codes "t"; left = 97 ∷ 98 ∷ 99 ∷ []; reads = 0 }) 5 ≡ 2
worked_count = refl

-- a sink of two bytes takes two of three, and then fails
worked_put : put_count (empty_basin 2) 3 ≡ 2
worked_put = refl

worked_full : put_fails (after_put (empty_basin 2) (97 ∷ 98 ∷ [])) ≡ true
worked_full = refl
