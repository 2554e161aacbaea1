use Rattle.std.specs.Prelude.{◌≡◌, ℕ, ◌+◌, Bool, true, false, List, [], ◌∷◌, length, Option, Some, None, IsSome}
use Rattle.std.specs.Borrow.{Bor}
use Rattle.csv.specs.Machine.{ends_at_end}
use Rattle.csv.specs.Reading.{Ready, default_config, is_flexible, records_from, reader_config, reader_state, reader_trim, source_of}
use Rattle.csv.specs.declared.error.ErrorKind.{ErrorKind}
use Rattle.csv.specs.declared.error.ErrorKind.TheVariants as kind
use Rattle.csv.specs.declared.parser.State.{State}
use Rattle.csv.specs.declared.reader.Reader.{Reader}
use Rattle.csv.specs.declared.reader.Trim.TheVariants.{None as Untrimmed}

-- What a reader of records of a slice has left.

abbrev pub SliceReader : Type 0
SliceReader = Reader (Bor (List ℕ))

-- the bytes that a reader has left, where it hasn't failed
abbrev pub unread : SliceReader → Option (List ℕ)
unread reader = source_of (λ (bytes : Bor (List ℕ)). Some bytes.now) reader

-- the records of these bytes from a state
abbrev pub records_in : State → Option (List ℕ) → List (List (List ℕ))
records_in state None = []
records_in state (Some bytes) = records_from default_config (length bytes + 1) state bytes

-- the records that a reader has left
abbrev pub records_left : SliceReader → List (List (List ℕ))
records_left reader = records_in (reader_state reader) (unread reader)

-- a reader reads as the crate does by default, but refuses no record for its length, and stands between two records
pub record IsReading (reader : SliceReader) : Type 0 where
  pub default : reader_config reader ≡ default_config
  pub flexible : is_flexible reader ≡ true
  pub untrimmed : reader_trim reader ≡ Untrimmed
  pub ready : Ready reader
  pub between : ends_at_end (reader_state reader) ≡ false
  pub known : IsSome (unread reader)

-- a read found these fields as the first of some records, and leaves the others; or there was none
abbrev pub Gives : List (List (List ℕ)) → Bool → List (List ℕ) → SliceReader → Type 0
Gives records true fields reader = IsReading reader × (records ≡ fields ∷ records_left reader)
Gives records false fields reader = records ≡ []

-- an error for want of memory, or of the reader underneath, which over a slice is the same to us
abbrev pub WantsMemory : ErrorKind → Type 0
WantsMemory (kind.Io e) = Unit {0}
WantsMemory kind.OutOfMemory = Unit {0}
WantsMemory (kind.UnequalLengths pos expected len) = ⊥
WantsMemory (kind.Utf8 pos err) = ⊥
WantsMemory (kind.Serialize why) = ⊥
WantsMemory (kind.Deserialize pos err) = ⊥
