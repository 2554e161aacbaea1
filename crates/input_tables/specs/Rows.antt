use Rattle.std.specs.Prelude.{◌≡◌, ℕ, ◌==◌, ◌&&◌, Bool, true, false, cond, List, [], length, map, Option, Some, None, Result, Ok, Err, codes}
use Rattle.std.specs.Str.{bytes_eq}
use Rattle.std.specs.BTreeMap.{BTreeMap}
use Rattle.csv.specs.Records.{field_at}
use Rattle.ride_base.specs.Fields.{capped_of}
use Rattle.ride_base.specs.declared.numbers.VehicleNo.{VehicleNo}
use Rattle.stop_schedule.specs.declared.vehicle.Vehicle.{Vehicle}
use Rattle.input_tables.specs.declared.cells.RowNumbers.{RowNumbers}
use Rattle.input_tables.specs.declared.faults.FleetFault.{FleetFault}
use Rattle.input_tables.specs.Fleets.{without_blanks, vehicle_of, is_in_range, by_number, fleet_in, ordered, vehicles_in}

-- How the fields of a row are read, and how the vehicles so far are kept.

-- whether a field, where there is one, is a name
abbrev pub is_named : Option (List ℕ) → List ℕ → Bool
is_named None name = false
is_named (Some field) name = bytes_eq (without_blanks field) name

-- the first five fields of a record are named as a header's
abbrev pub begins_header : List (List ℕ) → Bool
begins_header fields =
    is_named (field_at fields 0) (codes "vehicle") && (is_named (field_at fields 1) (codes "start") && (is_named (field_at fields 2) (codes "seats")
    && (is_named (field_at fields 3) (codes "from") && is_named (field_at fields 4) (codes "until"))))

-- what the record tells as a header, where it is one
abbrev pub headed_by : List (List ℕ) → Option Bool
headed_by fields =
    cond (begins_header fields)
    (cond (length fields == 5) (Some false) (cond ((length fields == 6) && is_named (field_at fields 5) (codes "spaces")) (Some true) None)) None

-- the first of the records is the header, and the others are rows
abbrev pub IsHeaded : List (List (List ℕ)) → (spaces : Bool) → List (List (List ℕ)) → Type 0
IsHeaded records spaces rows = (nodes : ℕ) → fleet_in nodes records ≡ ordered (vehicles_in spaces nodes 1 [] rows)

-- the number in a field, where there is one, cut at the largest of 64 bits
abbrev pub number_in : Option (List ℕ) → Option ℕ
number_in None = None
number_in (Some field) = capped_of (without_blanks field)

abbrev pub six_numbers : (number start seats from until spaces : Option ℕ) → Option RowNumbers
six_numbers (Some number) (Some start) (Some seats) (Some from) (Some until) (Some spaces) =
    Some (record { number = number; start = start; seats = seats; from = from; until = until; spaces = spaces })
six_numbers number start seats from until spaces = None

-- how many fields a row has, and how many wheelchair spaces it tells
abbrev pub field_count : (spaces : Bool) → ℕ
field_count spaces = cond spaces 6 5

abbrev pub spaces_in : (spaces : Bool) → List (List ℕ) → Option ℕ
spaces_in true fields = number_in (field_at fields 5)
spaces_in false fields = Some 0

-- the numbers of a row
abbrev pub row_of : (spaces : Bool) → List (List ℕ) → Option RowNumbers
row_of spaces fields =
    cond (length fields == field_count spaces)
    (six_numbers (number_in (field_at fields 0)) (number_in (field_at fields 1)) (number_in (field_at fields 2)) (number_in (field_at fields 3)) (number_in (field_at fields 4)) (spaces_in spaces fields)) None

-- the vehicle of a row's numbers
abbrev pub vehicle_by : RowNumbers → Vehicle
vehicle_by row = vehicle_of row.number row.start row.seats row.from row.until row.spaces

-- the vehicle of a row's numbers, where they are in their ranges
abbrev pub ranged_by : (nodes : ℕ) → RowNumbers → Option Vehicle
ranged_by nodes row = cond (is_in_range nodes (vehicle_by row)) (Some (vehicle_by row)) None

abbrev pub entry_of : Vehicle → VehicleNo × Vehicle
entry_of v = (v.no, v)

-- the map has exactly the vehicles of the rows so far, under their numbers
abbrev pub Keeps : BTreeMap VehicleNo Vehicle → List Vehicle → Type 0
Keeps kept before = kept.entries ≡ map entry_of (by_number before)

-- the entries of the vehicles that were read
abbrev pub kept_of : Result (List Vehicle) FleetFault → Result (List (VehicleNo × Vehicle)) FleetFault
kept_of (Ok vehicles) = Ok (map entry_of (by_number vehicles))
kept_of (Err fault) = Err fault
