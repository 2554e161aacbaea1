use Rattle.board_core.proofs.Claims.{claims_held, claims_stay, holders_hold, noted_goes_on, noted_legal, noted_parts}
use Rattle.board_core.proofs.law.desks_hold_claims.Goals as goal

pub returns : goal.returns
returns c = record {
  legal = noted_legal;
  goes_on = noted_goes_on;
  parts = noted_parts;
  held = claims_held;
  stay = claims_stay;
  holders = holders_hold;
}
