use Rattle.std.proofs.Common.{map, ap, ◌∙◌}
use Rattle.fleet_board.specs.Journals.{JournalState, pair_of}
use Rattle.fleet_board.proofs.Gathered.{rest_of}
use Rattle.fleet_board.proofs.journal.Journal.since.Goals as goal

pub returns : goal.returns
returns c = rest_of c.deref.result.now c.args.self.now.noted c.args.index
    (ap (map pair_of) c.deref.ensures.value ∙ ap (λ (j : JournalState). j.noted) c.self.view_is)
