use Rattle.std.proofs.Common.{refl, ap, ◌∙◌, Err}
use Rattle.dispatch_top.specs.Stops.{stop_of_begin, stop_of_fleet}
use Rattle.dispatch_top.proofs.IsErr.{handed_on}
use Rattle.dispatch_top.proofs.Moves.{reads_begun}
use Rattle.dispatch_top.proofs.ReadTexts.{fleet_refused, read_fleet_fault, read_fleet_stop, reads_not_begun, fleet_unbegun}
use Rattle.dispatch_top.proofs.reading.read_fleet_of.Goals as goal

pub returns-in_err-read_fleet-clause-stops : goal.returns-in_err-read_fleet-clause-stops
returns-in_err-read_fleet-clause-stops g c =
    let e = handed_on c.from_residual-in_err-read_fleet.result (stop_of_fleet c.in_err-read_fleet.field-0.0) c.from_residual-in_err-read_fleet.ensures in
    rw e (fleet_refused c.args.name.now (g.S.Shelf.seen c.args.shelf.now) (g.S.Shelf.seen c.read_fleet.new.shelf) (g.S.Shelf.seen c.begin.new.self).left c.in_ok-begin.ensures.all (c.read_fleet.ensures.shelf.named ∙ c.in_ok-begin.ensures.named refl) c.args.nodes c.in_err-read_fleet.field-0.0 c.in_err-read_fleet.ensures.refused (λ f. c.in_err-read_fleet.ensures.unread (ap (λ x. Err x) f)))

pub returns-in_err-begin-clause-stops : goal.returns-in_err-begin-clause-stops
returns-in_err-begin-clause-stops g c =
    let e = handed_on c.from_residual.result (stop_of_begin c.in_err-begin.field-0.0) c.from_residual.ensures in
    rw e (fleet_unbegun c.args.name.now (g.S.Shelf.seen c.args.shelf.now) (g.S.Shelf.seen c.begin.new.self) c.args.nodes c.in_err-begin.field-0.0 (λ f. c.in_err-begin.ensures.failed (ap (λ x. Err x) f)) (λ f. c.in_err-begin.ensures.unbegun (ap (λ x. Err x) f)) (λ f. ap (λ s. (g.S.Shelf.seen s).names) (c.in_err-begin.ensures.unmade (ap (λ x. Err x) f))))

pub returns-in_err-begin-clause-shelf : goal.returns-in_err-begin-clause-shelf
returns-in_err-begin-clause-shelf g c =
    let e = handed_on c.from_residual.result (stop_of_begin c.in_err-begin.field-0.0) c.from_residual.ensures in
    rw e (reads_not_begun c.args.name.now (g.S.Shelf.seen c.args.shelf.now) (g.S.Shelf.seen c.begin.new.self) c.in_err-begin.field-0.0 (λ f. c.in_err-begin.ensures.failed (ap (λ x. Err x) f)) c.in_err-begin.ensures.holds c.in_err-begin.ensures.counted c.in_err-begin.ensures.sure c.in_err-begin.ensures.as_quiet
    (λ f. c.in_err-begin.ensures.rose (ap (λ x. Err x) f)) (λ s f. c.in_err-begin.ensures.surely s (ap (λ x. Err x) f)) (λ f. ap g.S.Shelf.seen (c.in_err-begin.ensures.unmade (ap (λ x. Err x) f))))

pub returns-in_err-read_fleet-clause-shelf : goal.returns-in_err-read_fleet-clause-shelf
returns-in_err-read_fleet-clause-shelf g c =
    let e = handed_on c.from_residual-in_err-read_fleet.result (stop_of_fleet c.in_err-read_fleet.field-0.0) c.from_residual-in_err-read_fleet.ensures in
    rw e (reads_begun c.args.name.now _ (g.S.Shelf.seen c.args.shelf.now) (g.S.Shelf.seen c.begin.new.self) (g.S.Shelf.seen c.read_fleet.new.shelf) (c.in_ok-begin.ensures.named refl) c.in_ok-begin.ensures.holds c.in_ok-begin.ensures.counted c.in_ok-begin.ensures.sure c.in_ok-begin.ensures.as_quiet
    (λ s. c.in_ok-begin.ensures.silent s refl) (λ q. c.in_ok-begin.ensures.quiet q refl)
    (record {
      read = c.in_err-read_fleet.ensures.shelf;
      cause = λ f. c.in_err-read_fleet.ensures.fault (ap (λ x. Err x) (read_fleet_fault c.in_err-read_fleet.field-0.0 f));
      surely = λ s f. c.in_err-read_fleet.ensures.surely s (ap (λ x. Err x) (read_fleet_fault c.in_err-read_fleet.field-0.0 f));
      quietly = λ q n. c.in_err-read_fleet.ensures.quiet q (λ f. n (read_fleet_stop c.in_err-read_fleet.field-0.0 f));
    }))

pub returns-clause-shelf : goal.returns-clause-shelf
returns-clause-shelf g c =
    reads_begun c.args.name.now _ (g.S.Shelf.seen c.args.shelf.now) (g.S.Shelf.seen c.begin.new.self) (g.S.Shelf.seen c.read_fleet.new.shelf) (c.in_ok-begin.ensures.named refl) c.in_ok-begin.ensures.holds c.in_ok-begin.ensures.counted c.in_ok-begin.ensures.sure c.in_ok-begin.ensures.as_quiet
    (λ s. c.in_ok-begin.ensures.silent s refl) (λ q. c.in_ok-begin.ensures.quiet q refl)
    (record { read = c.in_ok-read_fleet.ensures.shelf; cause = λ f. cc; surely = λ s f. cc; quietly = λ q n. c.in_ok-read_fleet.ensures.quiet q (λ f. cc) })
