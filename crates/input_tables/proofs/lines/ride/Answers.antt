use Rattle.std.proofs.Common.{◌≡◌, Err, ap, ◌∙◌, rules}
use Rattle.input_tables.proofs.RideWith.{ride_by, a_last}
use Rattle.input_tables.proofs.lines.ride.Goals as goal

pub returns-in_err-spaces-clause-says : goal.returns-in_err-spaces-clause-says
returns-in_err-spaces-clause-says c =
    let refused : c.from_residual-in_err-spaces.result ≡ Err c.in_err-spaces.field-0.0 = search rules in
    refused ∙ ap (ride_by c.in_ok-no.no c.in_ok-pickup.pickup c.in_ok-dropoff.dropoff c.in_ok-moment.moment c.in_ok-riders.riders) c.in_err-spaces.ensures
    ∙ a_last _ _ _ _ _ _ _ _ _ _ _ c.in_ok-no.ensures.number c.in_ok-pickup.ensures.number c.in_ok-dropoff.ensures.number c.in_ok-moment.ensures.number c.in_ok-riders.ensures.number

pub returns-clause-says : goal.returns-clause-says
returns-clause-says c =
    c.request.ensures.says ∙ ap (ride_by c.in_ok-no.no c.in_ok-pickup.pickup c.in_ok-dropoff.dropoff c.in_ok-moment.moment c.in_ok-riders.riders) c.in_ok-spaces.ensures
    ∙ a_last _ _ _ _ _ _ _ _ _ _ _ c.in_ok-no.ensures.number c.in_ok-pickup.ensures.number c.in_ok-dropoff.ensures.number c.in_ok-moment.ensures.number c.in_ok-riders.ensures.number
