use Rattle.std.proofs.Common.{refl, arith}
use Rattle.commit_check.specs.Settled.{changed}
use Rattle.commit_check.proofs.Known.{true_entry, listed_more}
use Rattle.commit_check.proofs.Redone.{moved_within, moved_round, moved_end, within_redone, changed_redone}
use Rattle.commit_check.proofs.settling.first_known.Goals as goal

pub returns-in_err-best-clause-few : goal.returns-in_err-best-clause-few
returns-in_err-best-clause-few g c = changed_redone (g.F.FleetView.fleet c.args.view.now) c.args.candidates.now c.args.candidates.now.base
    c.first_changed.new.steps.1 c.args.steps.now.1 refl
    c.requires.sound.within c.requires.sound.once c.first_changed.ensures.few

pub unchanged_offer-requires-clause-place : goal.unchanged_offer-requires-clause-place
unchanged_offer-requires-clause-place g c = (true_entry (g.P.Pricer.graph c.args.pricer.now) (g.F.FleetView.fleet c.args.view.now)
    c.args.request.now c.args.candidates.now c.requires.sound
    c.as_slice-entries.result.now c.loop-entry.entry-index _ c.as_slice-entries.ensures c.loop-entry-test.true).0

pub unchanged_offer-requires-clause-entry : goal.unchanged_offer-requires-clause-entry
unchanged_offer-requires-clause-entry g c = (true_entry (g.P.Pricer.graph c.args.pricer.now) (g.F.FleetView.fleet c.args.view.now)
    c.args.request.now c.args.candidates.now c.requires.sound
    c.as_slice-entries.result.now c.loop-entry.entry-index _ c.as_slice-entries.ensures c.loop-entry-test.true).1

pub returns-in_err-listed-clause-few : goal.returns-in_err-listed-clause-few
returns-in_err-listed-clause-few g c =
    let fleet = g.F.FleetView.fleet c.args.view.now in
    let base = c.args.candidates.now.base in
    within_redone fleet c.args.candidates.now c.as_slice-entries.result.now base c.unchanged_offer.new.steps.1 c.args.steps.now.1
    c.as_slice-entries.ensures refl c.requires.sound.within c.requires.sound.once
    (moved_within fleet base c.as_slice-entries.result.now c.loop-entry.entry-index _ c.loop-entry.steps.1 c.args.steps.now.1
    c.unchanged_offer.new.steps.1 (changed fleet base) c.loop-entry-test.true
    c.loop-entry.invariant.few c.unchanged_offer.ensures.few)

pub loop-entry-preserved : goal.loop-entry-preserved
loop-entry-preserved g c =
    let fleet = g.F.FleetView.fleet c.args.view.now in
    let base = c.args.candidates.now.base in
    record {
      first = listed_more (g.P.Pricer.graph c.args.pricer.now) fleet c.args.request.now base c.as_slice-entries.result.now
          c.loop-entry.entry-index _ c.loop-entry.best c.in_ok-listed.listed c.first_of_two-best.result
          c.loop-entry-test.true
          (true_entry (g.P.Pricer.graph c.args.pricer.now) fleet c.args.request.now c.args.candidates.now c.requires.sound
          c.as_slice-entries.result.now c.loop-entry.entry-index _ c.as_slice-entries.ensures c.loop-entry-test.true).0
          c.loop-entry.invariant.first c.in_ok-listed.ensures.first c.first_of_two-best.ensures;
      steps = (let a = c.loop-entry.invariant.steps in let b = c.unchanged_offer.ensures.steps in omega arith);
      few = moved_round fleet base c.as_slice-entries.result.now c.loop-entry.entry-index _ c.loop-entry.steps.1 c.args.steps.now.1
          c.unchanged_offer.new.steps.1 (changed fleet base) c.loop-entry-test.true
          c.loop-entry.invariant.few c.unchanged_offer.ensures.few;
      kept = (let a = c.loop-entry.invariant.kept in let b = c.unchanged_offer.ensures.kept in omega arith);
    }

pub returns-clause-few : goal.returns-clause-few
returns-clause-few g c =
    let fleet = g.F.FleetView.fleet c.args.view.now in
    let base = c.args.candidates.now.base in
    within_redone fleet c.args.candidates.now c.as_slice-entries.result.now base c.loop-entry.steps.1 c.args.steps.now.1
    c.as_slice-entries.ensures refl c.requires.sound.within c.requires.sound.once
    (moved_end fleet base c.as_slice-entries.result.now c.loop-entry.entry-index c.loop-entry.steps.1 c.args.steps.now.1
    (changed fleet base) c.loop-entry.invariant.few)
