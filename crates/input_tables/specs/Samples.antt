use Rattle.std.specs.Prelude.{◌≡◌, ℕ, List, [], ◌∷◌, ◌++◌, Ok, Err, codes, refl}
use Rattle.csv.specs.Machine.{next_record}
use Rattle.csv.specs.Reading.{records_from, strip_bom}
use Rattle.ride_base.specs.Pieces.{with_line_end as line}
use Rattle.input_tables.specs.declared.faults.StreamFault.TheVariants.{Form as LineForm, Range as LineRange}
use Rattle.input_tables.specs.declared.faults.FleetFault.TheVariants.{Header, Form, Range, Double}
use Rattle.input_tables.specs.declared.lines.StreamLine.TheVariants.{Ride, Move, Cancel, Nothing}
use Rattle.input_tables.specs.Fleets.{fleet_of, vehicle_of}
use Rattle.input_tables.specs.Streams.{stream_line_of, request_of}

ride : stream_line_of (codes " r  007 2 4 0" ++ 9 ∷ codes "1 ") ≡ Ok (Ride (request_of 7 2 4 0 1 0))
ride = refl

with_spaces : stream_line_of (codes "r 7 2 4 0 1 02") ≡ Ok (Ride (request_of 7 2 4 0 1 2))
with_spaces = refl

seven_fields : stream_line_of (codes "r 7 2 4 0 1 2 3") ≡ Err LineForm
seven_fields = refl

spaces_past_32_bits : stream_line_of (codes "r 7 2 4 0 1 4294967296") ≡ Err LineRange
spaces_past_32_bits = refl

cancelled : stream_line_of (codes "y 7") ≡ Ok (Cancel (record { 0 = 7 }))
cancelled = refl

cancelled_past_the_last_number : stream_line_of (codes "y 1099511627777") ≡ Err LineRange
cancelled_past_the_last_number = refl

move : stream_line_of (codes "t 5") ≡ Ok (Move 5)
move = refl

comment : stream_line_of (codes "  comment é") ≡ Ok Nothing
comment = refl

blank : stream_line_of (32 ∷ []) ≡ Ok Nothing
blank = refl

one_field_less : stream_line_of (codes "r 7 2 4 0") ≡ Err LineForm
one_field_less = refl

signed : stream_line_of (codes "t -5") ≡ Err LineForm
signed = refl

past_the_last_moment : stream_line_of (codes "t 1099511627777") ≡ Err LineRange
past_the_last_moment = refl

-- a form that is none is told before a range that is passed
form_first : stream_line_of (codes "r 1099511627777 2 4 0 x") ≡ Err LineForm
form_first = refl

one_vehicle : fleet_of 4 (line (codes "vehicle,start,seats,from,until") ++ line (codes "1,1,2,0,1000")) ≡ Ok (vehicle_of 1 1 2 0 1000 0 ∷ [])
unfolding strip_bom records_from next_record
one_vehicle = refl

-- rows in any order, blanks round fields, a quoted field, and no last line end
two_vehicles : fleet_of 4 (line (codes "vehicle, start ,seats,from,until") ++ line (codes "\"2\",1,2,0,1000") ++ codes " 1,4,16,7,7") ≡ Ok (vehicle_of 1 4 16 7 7 0 ∷ vehicle_of 2 1 2 0 1000 0 ∷ [])
unfolding strip_bom records_from next_record
two_vehicles = refl

no_record : fleet_of 4 [] ≡ Err Header
unfolding strip_bom records_from next_record
no_record = refl

other_header : fleet_of 4 (codes "id") ≡ Err Header
unfolding strip_bom records_from next_record
other_header = refl

twice : fleet_of 4 (line (codes "vehicle,start,seats,from,until") ++ line (codes "1,1,2,0,1000") ++ line (codes "1,4,2,0,1000")) ≡ Err (Double 2)
unfolding strip_bom records_from next_record
twice = refl

six_fields : fleet_of 4 (line (codes "vehicle,start,seats,from,until") ++ line (codes "0,1,2,0,1000,5")) ≡ Err (Form 1)
unfolding strip_bom records_from next_record
six_fields = refl

no_node_5 : fleet_of 4 (line (codes "vehicle,start,seats,from,until") ++ line (codes "1,5,2,0,1000")) ≡ Err (Range 1)
unfolding strip_bom records_from next_record
no_node_5 = refl

-- a byte order mark, a quoted name, a lone CR as the end of a record, and a byte behind a closing quote
marked : fleet_of 4 (0xEF ∷ 0xBB ∷ 0xBF ∷ codes "\"vehicle\",start,seats,from,until" ++ 13 ∷ codes "\"1\"2,1,2,0,1000") ≡ Ok (vehicle_of 12 1 2 0 1000 0 ∷ [])
unfolding strip_bom records_from next_record
marked = refl

-- empty lines are no rows, and a line of blanks is one
blank_row : fleet_of 4 (line (codes "vehicle,start,seats,from,until") ++ line [] ++ line (codes "1,1,2,0,1000") ++ line (32 ∷ 9 ∷ [])) ≡ Err (Form 2)
unfolding strip_bom records_from next_record
blank_row = refl

ends_before_it_begins : fleet_of 4 (line (codes "vehicle,start,seats,from,until") ++ codes "1,1,2,8,7") ≡ Err (Range 1)
unfolding strip_bom records_from next_record
ends_before_it_begins = refl

-- a table with wheelchair spaces, in which each row tells them
spacious : fleet_of 4 (line (codes "vehicle,start,seats,from,until, spaces") ++ line (codes "1,1,2,0,1000,16")) ≡ Ok (vehicle_of 1 1 2 0 1000 16 ∷ [])
unfolding strip_bom records_from next_record
spacious = refl

five_of_six : fleet_of 4 (line (codes "vehicle,start,seats,from,until,spaces") ++ line (codes "1,1,2,0,1000")) ≡ Err (Form 1)
unfolding strip_bom records_from next_record
five_of_six = refl

too_many_spaces : fleet_of 4 (line (codes "vehicle,start,seats,from,until,spaces") ++ line (codes "1,1,2,0,1000,17")) ≡ Err (Range 1)
unfolding strip_bom records_from next_record
too_many_spaces = refl

other_sixth : fleet_of 4 (line (codes "vehicle,start,seats,from,until,space")) ≡ Err Header
unfolding strip_bom records_from next_record
other_sixth = refl
