use Rattle.std.proofs.Common.{List, ℕ, map, subst}
use Rattle.std.proofs.lemmas.Result.{IfOk-weaker}
use Rattle.board_core.specs.BoardViews.{board_of}
use Rattle.board_core.specs.FleetViews.{cars_of}
use Rattle.board_core.specs.declared.entry.Entry.{Entry}
use Rattle.board_core.specs.declared.fleet.Fleet.{Fleet}
use Rattle.fleet_board.specs.Journals.{pair_of}
use Rattle.fleet_board.specs.Named.{HoldNamed}
use Rattle.fleet_board.proofs.Gathered.{held_changed}
use Rattle.fleet_board.proofs.recorded.RecordedBoard.changed_since.Goals as goal

pub returns : goal.returns
returns g c = IfOk-weaker c.named_places.result _ _ (λ places h. held_changed g.I.FleetIndex.fits c.requires.record_.0 c.args.self.now
    c.args.version places.items c.boards_stay_good.ensures.opening c.versions_rise.ensures c.desks_hold_claims.ensures.legal
    c.desks_hold_claims.ensures.parts c.changed_vehicles_are_named.ensures c.requires.record_.1 c.requires.version
    (subst (λ (l : List (ℕ × Entry)). HoldNamed (board_of c.args.self.now.board).fleet l places.items) c.since-since.ensures
    (subst (λ (f : Fleet _). HoldNamed (cars_of f) (map pair_of c.since-since.result.now) places.items) c.fleet.ensures h))) c.named_places.ensures
