use Rattle.std.proofs.Common.{◌≡◌, Some, true, false, refl, sym, rules, ◌∙◌, arith}
use Rattle.csv.specs.Records.{fields_of}
use Rattle.input_tables.specs.Fleets.{stood_before}
use Rattle.input_tables.specs.Rows.{row_of}
use Rattle.input_tables.proofs.Keeps.{stands}
use Rattle.input_tables.proofs.RowOf.{no_row, no_vehicle, late_row, double_row, good_row}
use Rattle.input_tables.proofs.fleets.vehicle_in.Goals as goal

pub returns-in_default-clause-vehicle : goal.returns-in_default-clause-vehicle
returns-in_default-clause-vehicle c = λ rows kept. no_row _ _ _ rows (fields_of c.args.fields.now) (omega (arith, c.ranges.nodes.fits)) (search rules)

pub returns-in_default-vehicle-clause-vehicle : goal.returns-in_default-vehicle-clause-vehicle
returns-in_default-vehicle-clause-vehicle c = λ rows kept.
    let read : row_of c.args.spaces (fields_of c.args.fields.now) ≡ Some c.in-Some.numbers = search rules in
    no_vehicle _ _ _ rows (fields_of c.args.fields.now) (omega (arith, c.ranges.nodes.fits)) c.in-Some.numbers read (search rules)

pub returns-then-row-clause-vehicle : goal.returns-then-row-clause-vehicle
returns-then-row-clause-vehicle c = λ rows kept.
    let read : row_of c.args.spaces (fields_of c.args.fields.now) ≡ Some c.in-Some.numbers = search rules in
    late_row _ _ _ rows (fields_of c.args.fields.now) (omega (arith, c.ranges.nodes.fits)) c.in-Some.numbers read c.in-Some-vehicle.vehicle (sym c.in-Some-vehicle.ensures) c.if-row.true

pub returns-then-contains_key-clause-vehicle : goal.returns-then-contains_key-clause-vehicle
returns-then-contains_key-clause-vehicle c = λ rows kept.
    let read : row_of c.args.spaces (fields_of c.args.fields.now) ≡ Some c.in-Some.numbers = search rules in
    let stood : stood_before rows c.in-Some-vehicle.vehicle ≡ true = sym (stands _ (λ x y. refl) c.in-Some-vehicle.vehicle rows) ∙ rw kept at (sym c.contains_key.ensures ∙ c.if-contains_key.true) in
    double_row _ _ _ rows (fields_of c.args.fields.now) (omega (arith, c.ranges.nodes.fits)) c.in-Some.numbers read c.in-Some-vehicle.vehicle (sym c.in-Some-vehicle.ensures) c.if-row.false stood

pub returns-clause-vehicle : goal.returns-clause-vehicle
returns-clause-vehicle c = λ rows kept.
    let read : row_of c.args.spaces (fields_of c.args.fields.now) ≡ Some c.in-Some.numbers = search rules in
    let new : stood_before rows c.in-Some-vehicle.vehicle ≡ false = sym (stands _ (λ x y. refl) c.in-Some-vehicle.vehicle rows) ∙ rw kept at (sym c.contains_key.ensures ∙ c.if-contains_key.false) in
    good_row _ _ _ rows (fields_of c.args.fields.now) (omega (arith, c.ranges.nodes.fits)) c.in-Some.numbers read c.in-Some-vehicle.vehicle (sym c.in-Some-vehicle.ensures) c.if-row.false new
