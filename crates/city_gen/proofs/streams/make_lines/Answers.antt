use Rattle.std.proofs.Common.{◌∙◌, arith}
use Rattle.city_gen.proofs.LinesFrom.{made_all, made_more}
use Rattle.city_gen.proofs.streams.make_lines.Goals as goal

pub loop-place-preserved : goal.loop-place-preserved
loop-place-preserved c = record {
  lines = made_more _ _ _ _ _ _ _ _ _ _ _ c.loop-place-test.true (cc) c.below.ensures.state
      c.draw_ride.ensures.ride c.draw_ride.ensures.state c.in_ok-push.ensures.items c.in_ok-push-2.ensures.items c.loop-place.invariant.lines;
  early = omega arith;
}

pub returns : goal.returns
returns c = c.from_vec.ensures ∙ made_all _ _ _ _ _ c.loop-place-test.false c.loop-place.invariant.lines
