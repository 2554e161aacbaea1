use Rattle.std.proofs.Common.{length, refl, arith, ◌∙◌}
use Rattle.std.proofs.lemmas.Option.{slice_get-get_or}
use Rattle.interleave_core.proofs.Plays.{acted_sound, event_for, sound_after, sound_at_first, sound_before, more_played, none_played, stays_legal, still_played, acted_many, acted_version, whole_played}
use Rattle.interleave_core.proofs.run.run_events.Goals as goal

pub loop-at-init : goal.loop-at-init
loop-at-init g c = record {
  played = none_played (g.P.Pricer.graph c.args.pricer.now) c.args.world.now c.args.events.now;
  sound = sound_at_first (g.P.Pricer.graph c.args.pricer.now) c.args.world.now;
  over = c.requires.over;
  many = refl;
  version = omega arith;
  steps = omega arith;
  asks = omega arith;
}

pub loop-at-preserved : goal.loop-at-preserved
loop-at-preserved g c =
    let G = g.P.Pricer.graph c.args.pricer.now in
    let acted = c.in_default.ensures.acted in
    record {
      played = more_played G c.args.world.now c.loop-at.world _ c.args.events.now c.loop-at.at _ (slice_get-get_or c.args.events.now c.loop-at.at _ c.loop-at-test.true) c.loop-at.invariant.played acted;
      sound = sound_after G c.args.world.now c.loop-at.world c.act.new.self c.loop-at.invariant.sound (acted_sound g.I.FleetIndex.fits G c.loop-at.world c.act.new.self _ c.candidates_stay_sound.ensures.entries c.loop-at.invariant.over acted);
      over = c.in_default.ensures.over;
      many = acted_many G c.loop-at.world _ _ acted ∙ c.loop-at.invariant.many;
      version = omega (arith, acted_version G c.loop-at.world _ _ c.versions_rise.ensures acted, c.loop-at.invariant.version);
      steps = omega (arith, c.in_default.ensures.steps, c.loop-at.invariant.steps);
      asks = omega (arith, c.in_default.ensures.asks, c.loop-at.invariant.asks);
    }

pub returns-in-Err-clause-stopped : goal.returns-in-Err-clause-stopped
returns-in-Err-clause-stopped g c =
    (c.loop-at-test.true, still_played (g.P.Pricer.graph c.args.pricer.now) c.args.world.now c.loop-at.world _ _ c.loop-at.invariant.played c.in-Err.ensures.err)

pub returns-in-Err-clause-legal : goal.returns-in-Err-clause-legal
returns-in-Err-clause-legal g c =
    let G = g.P.Pricer.graph c.args.pricer.now in
    stays_legal G c.args.world.now _ _ (still_played G c.args.world.now c.loop-at.world _ _ c.loop-at.invariant.played c.in-Err.ensures.err)

pub returns-in-Err-clause-sound : goal.returns-in-Err-clause-sound
returns-in-Err-clause-sound g c = sound_before (g.P.Pricer.graph c.args.pricer.now) c.args.world.now c.loop-at.world _ c.loop-at.invariant.sound c.in-Err.ensures.err

pub returns-clause-sound : goal.returns-clause-sound
returns-clause-sound g c = c.loop-at.invariant.sound

pub returns-clause-played : goal.returns-clause-played
returns-clause-played g c =
    whole_played (g.P.Pricer.graph c.args.pricer.now) c.args.world.now c.loop-at.world c.args.events.now c.loop-at.at c.loop-at-test.false c.loop-at.invariant.played

pub returns-clause-legal : goal.returns-clause-legal
returns-clause-legal g c = stays_legal (g.P.Pricer.graph c.args.pricer.now) c.args.world.now c.loop-at.world _ c.loop-at.invariant.played

pub act-requires-clause-event : goal.act-requires-clause-event
act-requires-clause-event g c = event_for c.args.events.now (length c.args.world.now.actors.items) (length c.loop-at.world.actors.items) c.requires.events c.loop-at.invariant.many c.loop-at.at c.loop-at-test.true _
