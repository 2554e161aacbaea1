use Rattle.std.specs.Prelude.{ℕ, ◌≤◌, ◌&&◌, nat_le, Bool, cond, List, [], ◌∷◌, Result, Ok, Err, codes}
use Rattle.std.specs.Str.{bytes_eq}
use Rattle.ride_base.specs.Fields.{fields_of, is_number, value_of, begins_comment}
pub use Rattle.ride_base.specs.Fields.{largest_32}
use Rattle.stop_schedule.specs.declared.request.Request.{Request}
use Rattle.stop_schedule.specs.Limits.{latest_moment}
use Rattle.input_tables.specs.declared.faults.StreamFault.{StreamFault}
use Rattle.input_tables.specs.declared.faults.StreamFault.TheVariants.{Form, Range}
use Rattle.input_tables.specs.declared.lines.StreamLine.{StreamLine}
use Rattle.input_tables.specs.declared.lines.StreamLine.TheVariants.{Ride, Move, Cancel, Nothing}

-- What a line of a request stream says.

-- the latest moment, and the largest number of a request
abbrev pub largest_moment : ℕ
largest_moment = latest_moment

abbrev pub are_in_range : (number pickup dropoff moment riders spaces : ℕ) → Bool
are_in_range number pickup dropoff moment riders spaces =
    nat_le number largest_moment && (nat_le pickup largest_32 && (nat_le dropoff largest_32 && (nat_le moment largest_moment
    && (nat_le riders largest_32 && nat_le spaces largest_32))))

abbrev pub request_of : (number pickup dropoff moment riders spaces : ℕ) → Request
request_of number pickup dropoff moment riders spaces = record {
  no = record { 0 = number };
  pickup = record { 0 = pickup };
  dropoff = record { 0 = dropoff };
  moment = moment;
  riders = riders;
  spaces = spaces;
}

abbrev pub ranged_ride : (number pickup dropoff moment riders spaces : ℕ) → Result StreamLine StreamFault
ranged_ride number pickup dropoff moment riders spaces =
    cond (are_in_range number pickup dropoff moment riders spaces) (Ok (Ride (request_of number pickup dropoff moment riders spaces))) (Err Range)

-- `r ID P D T Q S`, behind its first field
abbrev pub full_ride_of : (number pickup dropoff moment riders spaces : List ℕ) → Result StreamLine StreamFault
full_ride_of number pickup dropoff moment riders spaces =
    cond (is_number number && (is_number pickup && (is_number dropoff && (is_number moment && (is_number riders && is_number spaces)))))
    (ranged_ride (value_of number) (value_of pickup) (value_of dropoff) (value_of moment) (value_of riders) (value_of spaces)) (Err Form)

-- the same, or `r ID P D T Q`, which asks for no wheelchair space
abbrev pub ride_of : List (List ℕ) → Result StreamLine StreamFault
ride_of (number ∷ pickup ∷ dropoff ∷ moment ∷ riders ∷ spaces ∷ []) = full_ride_of number pickup dropoff moment riders spaces
ride_of (number ∷ pickup ∷ dropoff ∷ moment ∷ riders ∷ []) = full_ride_of number pickup dropoff moment riders (codes "0")
ride_of fields = Err Form

abbrev pub ranged_move : (moment : ℕ) → Result StreamLine StreamFault
ranged_move moment = cond (nat_le moment largest_moment) (Ok (Move moment)) (Err Range)

-- `t T`, behind its first field
abbrev pub move_of : List (List ℕ) → Result StreamLine StreamFault
move_of (moment ∷ []) = cond (is_number moment) (ranged_move (value_of moment)) (Err Form)
move_of fields = Err Form

abbrev pub ranged_cancel : (number : ℕ) → Result StreamLine StreamFault
ranged_cancel number = cond (nat_le number largest_moment) (Ok (Cancel (record { 0 = number }))) (Err Range)

-- `y ID`, behind its first field
abbrev pub cancel_of : List (List ℕ) → Result StreamLine StreamFault
cancel_of (number ∷ []) = cond (is_number number) (ranged_cancel (value_of number)) (Err Form)
cancel_of fields = Err Form

abbrev pub said_by : List (List ℕ) → Result StreamLine StreamFault
said_by [] = Ok Nothing
said_by (first ∷ fields) =
    cond (begins_comment first) (Ok Nothing)
    (cond (bytes_eq first (codes "r")) (ride_of fields)
    (cond (bytes_eq first (codes "t")) (move_of fields)
    (cond (bytes_eq first (codes "y")) (cancel_of fields) (Err Form))))

-- what a line says, or why it is none of a stream
abbrev pub stream_line_of : List ℕ → Result StreamLine StreamFault
stream_line_of line = said_by (fields_of line)

-- the numbers of a line that says something are in their ranges
abbrev pub IsInRange : StreamLine → Type 0
IsInRange (Ride request) = (request.no.0 ≤ largest_moment) × (request.moment ≤ largest_moment)
IsInRange (Move moment) = moment ≤ largest_moment
IsInRange (Cancel number) = number.0 ≤ largest_moment
IsInRange Nothing = Unit {0}
