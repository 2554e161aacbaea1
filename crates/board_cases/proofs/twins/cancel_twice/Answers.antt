use Rattle.std.proofs.Common.{subst}
use Rattle.board_core.specs.declared.entry.Cancelled.{Cancelled}
use Rattle.board_core.specs.declared.entry.Entry.TheVariants.{Cancel}
use Rattle.board_core.specs.BoardViews.{board_of}
use Rattle.board_core.specs.Steps.{Step}
use Rattle.board_cases.proofs.Played.{may_remove}
use Rattle.board_cases.proofs.twins.cancel_twice.Goals as goal

pub apply_removal-requires-clause-possible : goal.apply_removal-requires-clause-possible
apply_removal-requires-clause-possible c = may_remove c.args.graph.now (board_of c.args.one.now) (board_of c.cancel.new.board) (board_of c.args.other.now) c.args.no c.in-Removed.removal c.in_ok-same.same
    c.removals_are_possible.ensures c.fleets_stay_good.ensures c.requires.played c.requires.alike c.in_ok-same.ensures
    (subst (λ (x : Cancelled). Step c.args.graph.now (board_of c.args.one.now) (Cancel c.args.no x) (board_of c.cancel.new.board)) c.in-Removed.is c.in_ok-removal.ensures.entry)
