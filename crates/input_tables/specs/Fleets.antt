use Rattle.std.specs.Prelude.{ℕ, ◌+◌, ◌==◌, ◌&&◌, nat_le, nat_lt, Bool, true, false, cond, List, [], ◌∷◌, ◌++◌, map, reverse, length, Option, Some, None, Result, Ok, Err, codes}
use Rattle.std.specs.List.{list_any}
use Rattle.std.specs.Str.{bytes_eq}
use Rattle.csv.specs.Reading.{default_config, records, strip_bom}
use Rattle.ride_base.specs.Fields.{is_blank, is_number, value_of}
use Rattle.road_graph.specs.Roads.{is_node}
use Rattle.stop_schedule.specs.declared.vehicle.Vehicle.{Vehicle}
use Rattle.stop_schedule.specs.Limits.{most_riders, most_vehicles}
use Rattle.input_tables.specs.declared.faults.FleetFault.{FleetFault}
use Rattle.input_tables.specs.declared.faults.FleetFault.TheVariants.{Large, Header, Form, Range, Double}
use Rattle.input_tables.specs.Streams.{largest_32, largest_moment}

-- What a text says as a table of vehicles, or its first bad row and why it is bad. The text is parted into records of fields as
-- the crate `csv` does by default, a byte order mark at its start left out.

abbrev pub largest_fleet_text : ℕ
largest_fleet_text = 16777216

-- a field without the blanks before it
abbrev pub behind_blanks : List ℕ → List ℕ
behind_blanks [] = []
behind_blanks (b ∷ bs) = cond (is_blank b) (behind_blanks bs) (b ∷ bs)

-- a field without the blanks round it
abbrev pub without_blanks : List ℕ → List ℕ
without_blanks field = reverse (behind_blanks (reverse (behind_blanks field)))

-- What the header of a table tells: whether its rows have wheelchair spaces. It is `vehicle,start,seats,from,until`, or that with
-- `,spaces` behind it.
abbrev pub are_named : (number start seats from until : List ℕ) → Bool
are_named number start seats from until =
    bytes_eq number (codes "vehicle") && (bytes_eq start (codes "start") && (bytes_eq seats (codes "seats") && (bytes_eq from (codes "from") && bytes_eq until (codes "until"))))

abbrev pub header_of : List (List ℕ) → Option Bool
header_of (number ∷ start ∷ seats ∷ from ∷ until ∷ []) = cond (are_named number start seats from until) (Some false) None
header_of (number ∷ start ∷ seats ∷ from ∷ until ∷ spaces ∷ []) = cond (are_named number start seats from until && bytes_eq spaces (codes "spaces")) (Some true) None
header_of fields = None

abbrev pub vehicle_of : (number start seats from until spaces : ℕ) → Vehicle
vehicle_of number start seats from until spaces =
    record { no = record { 0 = number }; start = record { 0 = start }; seats = seats; from = from; until = until; spaces = spaces }

-- its number, start, seats and service are ones of a vehicle over so many nodes
abbrev pub is_in_range : (nodes : ℕ) → Vehicle → Bool
is_in_range nodes v =
    nat_le 1 v.no.0 && (nat_le v.no.0 largest_32 && (is_node nodes v.start && (nat_le 1 v.seats && (nat_le v.seats most_riders
    && (nat_le v.from largest_moment && (nat_le v.until largest_moment && (nat_le v.from v.until && nat_le v.spaces most_riders)))))))

-- the number stood in an earlier row
abbrev pub stood_before : List Vehicle → Vehicle → Bool
stood_before before v = list_any (λ (b : Vehicle). b.no.0 == v.no.0) before

-- the vehicle of a row behind those before it, or why it is none
abbrev pub checked : (nodes row : ℕ) → List Vehicle → Vehicle → Result Vehicle FleetFault
checked nodes row before v = cond (is_in_range nodes v && nat_le row most_vehicles) (cond (stood_before before v) (Err (Double row)) (Ok v)) (Err (Range row))

-- a row of as many fields as its header; without one for spaces it has none
abbrev pub row_fields : (spaces : Bool) → List (List ℕ) → List (List ℕ)
row_fields true fields = fields
row_fields false fields = fields ++ codes "0" ∷ []

abbrev pub vehicle_in : (nodes row : ℕ) → List Vehicle → List (List ℕ) → Result Vehicle FleetFault
vehicle_in nodes row before (number ∷ start ∷ seats ∷ from ∷ until ∷ spaces ∷ []) =
    cond (is_number number && (is_number start && (is_number seats && (is_number from && (is_number until && is_number spaces)))))
    (checked nodes row before (vehicle_of (value_of number) (value_of start) (value_of seats) (value_of from) (value_of until) (value_of spaces))) (Err (Form row))
vehicle_in nodes row before fields = Err (Form row)

abbrev pub onto_vehicles : Result Vehicle FleetFault → (Vehicle → Result (List Vehicle) FleetFault) → Result (List Vehicle) FleetFault
onto_vehicles (Ok v) more = more v
onto_vehicles (Err fault) more = Err fault

-- the vehicles before and those of further rows, from row number `row` on, in the order of the table
abbrev pub vehicles_in : (spaces : Bool) (nodes row : ℕ) → (before : List Vehicle) → List (List (List ℕ)) → Result (List Vehicle) FleetFault
vehicles_in spaces nodes row before [] = Ok before
vehicles_in spaces nodes row before (fields ∷ rows) =
    onto_vehicles (vehicle_in nodes row before (row_fields spaces (map without_blanks fields))) (λ v. vehicles_in spaces nodes (row + 1) (before ++ v ∷ []) rows)

-- the vehicle of a record behind those of earlier rows
abbrev pub vehicle_of_record : (spaces : Bool) (nodes row : ℕ) → List Vehicle → List (List ℕ) → Result Vehicle FleetFault
vehicle_of_record spaces nodes row before fields = vehicle_in nodes row before (row_fields spaces (map without_blanks fields))

-- the vehicles of all rows
abbrev pub rows_in : (spaces : Bool) (nodes : ℕ) → List (List (List ℕ)) → Result (List Vehicle) FleetFault
rows_in spaces nodes rows = vehicles_in spaces nodes 1 [] rows

-- a vehicle put in its place among vehicles of rising numbers
abbrev pub put_in : Vehicle → List Vehicle → List Vehicle
put_in v [] = v ∷ []
put_in v (w ∷ vs) = cond (nat_lt v.no.0 w.no.0) (v ∷ w ∷ vs) (w ∷ put_in v vs)

-- vehicles in rising order of number
abbrev pub by_number : List Vehicle → List Vehicle
by_number [] = []
by_number (v ∷ vs) = put_in v (by_number vs)

abbrev pub ordered : Result (List Vehicle) FleetFault → Result (List Vehicle) FleetFault
ordered (Ok vehicles) = Ok (by_number vehicles)
ordered (Err fault) = Err fault

-- the vehicles of rows behind a header, where it is one
abbrev pub rows_behind : (nodes : ℕ) → Option Bool → List (List (List ℕ)) → Result (List Vehicle) FleetFault
rows_behind nodes None rows = Err Header
rows_behind nodes (Some spaces) rows = ordered (rows_in spaces nodes rows)

abbrev pub fleet_in : (nodes : ℕ) → List (List (List ℕ)) → Result (List Vehicle) FleetFault
fleet_in nodes [] = Err Header
fleet_in nodes (header ∷ rows) = rows_behind nodes (header_of (map without_blanks header)) rows

-- the vehicles of the records of a text
abbrev pub fleet_in_text : (nodes : ℕ) → List ℕ → Result (List Vehicle) FleetFault
fleet_in_text nodes text = fleet_in nodes (records default_config (strip_bom text))

-- the vehicles of a text in rising order of number, over a graph of so many nodes, or why it is no table
abbrev pub fleet_of : (nodes : ℕ) → List ℕ → Result (List Vehicle) FleetFault
fleet_of nodes text = cond (nat_le (length text) largest_fleet_text) (fleet_in_text nodes text) (Err Large)
