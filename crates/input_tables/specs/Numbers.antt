use Rattle.std.specs.Prelude.{◌≡◌, ℕ, List, [], ◌∷◌, Option, Some, None, Result, Ok, Err}
use Rattle.ride_base.specs.Fields.{capped_of, fields_of}
use Rattle.input_tables.specs.declared.faults.StreamFault.{StreamFault}
use Rattle.input_tables.specs.declared.faults.StreamFault.TheVariants.{Form}
use Rattle.input_tables.specs.declared.lines.StreamLine.{StreamLine}
use Rattle.input_tables.specs.Streams.{ranged_ride}

-- The numbers of a line, as they are read one after another.

-- a number before others
abbrev pub before : Option ℕ → Option (List ℕ) → Option (List ℕ)
before None more = None
before (Some number) None = None
before (Some number) (Some numbers) = Some (number ∷ numbers)

-- the numbers that fields spell, each cut at the largest of 64 bits, where each field is a number
abbrev pub numbers_of : List (List ℕ) → Option (List ℕ)
numbers_of [] = Some []
numbers_of (field ∷ fields) = before (capped_of field) (numbers_of fields)

-- no number is left, or not each field is one
abbrev pub HasNoNumber : Option (List ℕ) → Type 0
HasNoNumber None = Unit {0}
HasNoNumber (Some []) = Unit {0}
HasNoNumber (Some (number ∷ numbers)) = ⊥

-- a number is left, or not each field is one
abbrev pub GoesOn : Option (List ℕ) → Type 0
GoesOn None = Unit {0}
GoesOn (Some []) = ⊥
GoesOn (Some (number ∷ numbers)) = Unit {0}

-- what these numbers behind an `r` say
abbrev pub ride_with : Option (List ℕ) → Result StreamLine StreamFault
ride_with (Some (number ∷ pickup ∷ dropoff ∷ moment ∷ riders ∷ spaces ∷ [])) = ranged_ride number pickup dropoff moment riders spaces
ride_with (Some (number ∷ pickup ∷ dropoff ∷ moment ∷ riders ∷ [])) = ranged_ride number pickup dropoff moment riders 0
ride_with numbers = Err Form

-- the one number that is left, or 0 where none is
abbrev pub last_number_of : Option (List ℕ) → Result ℕ StreamFault
last_number_of (Some []) = Ok 0
last_number_of (Some (number ∷ [])) = Ok number
last_number_of numbers = Err Form

-- the first of the fields is this number, cut at the largest of 64 bits, and these stand behind it
abbrev pub HasNumber : List ℕ → ℕ → List ℕ → Type 0
HasNumber fields number rest = numbers_of (fields_of fields) ≡ before (Some number) (numbers_of (fields_of rest))
