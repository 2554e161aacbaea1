use Rattle.clap.specs.Words.{first_value, found_of}
use Rattle.command_words.proofs.WithRules.{params_are}
use Rattle.command_words.proofs.words.params.Goals as goal

pub returns : goal.returns
returns c =
    params_are (first_value (found_of c.args.matches.now)) c.in_ok-stop.stop c.in_ok-wait.wait c.in_ok-trip_num.trip_num c.in_ok-trip_den.trip_den c.in_ok-trip_add.trip_add
    c.in_ok-wait_weight.wait_weight c.in_ok-trip_weight.trip_weight c.new.result c.in_ok-stop.ensures c.in_ok-wait.ensures c.in_ok-trip_num.ensures c.in_ok-trip_den.ensures
    c.in_ok-trip_add.ensures c.in_ok-wait_weight.ensures c.in_ok-trip_weight.ensures c.new.ensures.value c.new.ensures.in_range c.new.ensures.none
