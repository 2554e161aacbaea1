use Rattle.std.proofs.Common.{◌∙◌, arith}
use Rattle.city_gen.proofs.RoadsAlong.{left_at_first, left_more, made_all, state_all}
use Rattle.city_gen.proofs.roads.make_roads.Goals as goal

pub loop-place-init : goal.loop-place-init
loop-place-init c = left_at_first _ _ c.in_ok-roads.ensures.items

pub loop-place-preserved : goal.loop-place-preserved
loop-place-preserved c =
    left_more _ _ _ _ _ _ _ _ _ _ _ (omega arith) c.in_ok-go_right.ensures.roads c.in_ok-go_right.ensures.state
    c.in_ok-go_down.ensures.roads c.in_ok-go_down.ensures.state c.loop-place.invariant

pub returns-clause-roads : goal.returns-clause-roads
returns-clause-roads c = c.from_vec.ensures ∙ made_all _ _ _ _ _ _ (omega arith) c.loop-place.invariant

pub returns-clause-state : goal.returns-clause-state
returns-clause-state c = state_all _ _ _ _ _ _ (omega arith) c.loop-place.invariant
