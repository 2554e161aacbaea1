use Rattle.std.proofs.Common.{◌≡◌, ℕ, List, ◌∷◌, rules, codes, sym, ap, ◌∙◌}
use Rattle.ride_base.specs.Fields.{fields_of}
use Rattle.input_tables.proofs.RideWith.{says_ride}
use Rattle.input_tables.proofs.lines.stream_line.Goals as goal

pub returns-then-eq-clause-says : goal.returns-then-eq-clause-says
returns-then-eq-clause-says c =
    let r : c.in-Some.first.now ≡ codes "r" = search rules in
    c.ride.ensures.says
    ∙ says_ride c.args.line.now.bytes (fields_of c.in-Some.rest.now) (ap fields_of (sym c.as_slice.ensures) ∙ c.in-Some.ensures.field ∙ ap (λ (first : List ℕ). first ∷ fields_of c.in-Some.rest.now) r)
