use Rattle.std.proofs.Common.{◌∙◌, arith}
use Rattle.insertion_cost.proofs.NewLengths.{new_before, new_between, new_into_dropoff, new_out_of_dropoff, new_after}
use Rattle.insertion_cost.proofs.listing.new_length.Goals as goal

pub returns-then-k-at-clause-value : goal.returns-then-k-at-clause-value
returns-then-k-at-clause-value c =
    c.length.ensures.length ∙ new_before c.args.schedule.now.legs c.args.at _ _ c.requires.insertion.0 (omega arith) _ c.args.k _ c.if-k-at.true c.leg.ensures.value

pub returns-then-k-at-4-clause-value : goal.returns-then-k-at-4-clause-value
returns-then-k-at-4-clause-value c =
    c.length-then-k-at-4.ensures.length ∙ new_between c.args.schedule.now.legs c.args.at _ _ c.requires.insertion.0 (omega arith) _ c.args.k _ (omega arith) c.if-k-at-4.true c.leg-then-k-at-4.ensures.value

pub returns-then-k-at-5-clause-value : goal.returns-then-k-at-5-clause-value
returns-then-k-at-5-clause-value c =
    new_into_dropoff c.args.schedule.now.legs c.args.at _ _ c.requires.insertion.0 (omega arith) _ _ c.args.k _ (omega arith) c.if-k-at-5.true c.unwrap.ensures

pub returns-then-k-at-6-clause-value : goal.returns-then-k-at-6-clause-value
returns-then-k-at-6-clause-value c =
    new_out_of_dropoff c.args.schedule.now.legs c.args.at _ _ c.requires.insertion.0 (omega arith) _ _ c.args.k _ c.requires.spans.between c.if-k-at-6.true c.unwrap-then-k-at-6.ensures

pub returns-else-k-at-6-clause-value : goal.returns-else-k-at-6-clause-value
returns-else-k-at-6-clause-value c =
    c.length-else-k-at-6.ensures.length ∙ new_after c.args.schedule.now.legs c.args.at _ _ c.requires.insertion.0 (omega arith) _ _ c.args.k _ c.requires.spans.between (rw c.requires.bounded.as_many_legs c.requires.spans.behind) (omega arith) (omega arith) c.leg-else-k-at-6.ensures.value
