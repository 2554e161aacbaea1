use Rattle.commit_cases.specs.Ready.{IsReady}
use Rattle.commit_cases.proofs.plays.play_list.Given as goal

abbrev pub invariant-playing : goal.invariant-playing
invariant-playing g l = IsReady l.graph 4 l.world
