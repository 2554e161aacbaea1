use Rattle.std.proofs.Common.{refl, ap, [], ◌∷◌, Err, ℕ, subst}
use Rattle.ride_base.specs.Calls.{call_of}
use Rattle.dispatch_top.specs.Texts.{StopsFleet}
use Rattle.dispatch_top.proofs.Moves.{reads_as, reads_fewer, reads_more}
use Rattle.dispatch_top.proofs.ReadTexts.{both_read, ends_at_fleet, ends_at_graph, fleet_failed, fleet_fails, graph_failed, graph_fails}
use Rattle.dispatch_top.proofs.reading.read_texts.Goals as goal

pub returns-in-Err-clause-stops : goal.returns-in-Err-clause-stops
returns-in-Err-clause-stops g c = λ more sink. ends_at_graph (call_of (g.S.Shelf.seen c.args.shelf.now) sink (g.S.Shelf.seen c.read_graph_of.new.shelf) sink) c.args.asked.now.graph.now _ _ c.in-Err.stop c.in-Err.ensures.stops refl

pub returns-in-Err-clause-shelf : goal.returns-in-Err-clause-shelf
returns-in-Err-clause-shelf g c =
    reads_fewer (c.args.asked.now.graph.now ∷ []) (c.args.asked.now.fleet.now ∷ []) _ (g.S.Shelf.seen c.args.shelf.now) (g.S.Shelf.seen c.read_graph_of.new.shelf)
    (reads_as (c.args.asked.now.graph.now ∷ []) _ _ (g.S.Shelf.seen c.args.shelf.now) (g.S.Shelf.seen c.read_graph_of.new.shelf) (λ f. ap (λ x. Err x) (graph_failed c.in-Err.stop f)) (λ f. graph_fails c.in-Err.stop f) c.in-Err.ensures.shelf)

pub returns-in-Err-read_fleet_of-clause-stops : goal.returns-in-Err-read_fleet_of-clause-stops
returns-in-Err-read_fleet_of-clause-stops g c = λ more sink.
    ends_at_fleet (call_of (g.S.Shelf.seen c.args.shelf.now) sink (g.S.Shelf.seen c.read_fleet_of.new.shelf) sink) c.args.asked.now.graph.now c.args.asked.now.fleet.now more [] c.in-Ok.graph (g.S.Shelf.seen c.read_graph_of.new.shelf) c.in-Ok.ensures.graph c.in-Ok.ensures.shelf.holds (c.in-Ok.ensures.named refl)
    c.in-Err-read_fleet_of.stop (subst (λ (n : ℕ). StopsFleet n c.args.asked.now.fleet.now (g.S.Shelf.seen c.read_graph_of.new.shelf) (g.S.Shelf.seen c.read_fleet_of.new.shelf) c.in-Err-read_fleet_of.stop) c.nodes.ensures.nodes c.in-Err-read_fleet_of.ensures.stops) refl

pub returns-in-Err-read_fleet_of-clause-shelf : goal.returns-in-Err-read_fleet_of-clause-shelf
returns-in-Err-read_fleet_of-clause-shelf g c =
    reads_more (c.args.asked.now.graph.now ∷ []) (c.args.asked.now.fleet.now ∷ []) _ _ (g.S.Shelf.seen c.args.shelf.now) (g.S.Shelf.seen c.read_graph_of.new.shelf) (g.S.Shelf.seen c.read_fleet_of.new.shelf) c.in-Ok.ensures.shelf (λ f. cc) (c.in-Ok.ensures.named refl)
    (reads_as (c.args.asked.now.fleet.now ∷ []) _ _ (g.S.Shelf.seen c.read_graph_of.new.shelf) (g.S.Shelf.seen c.read_fleet_of.new.shelf) (λ f. ap (λ x. Err x) (fleet_failed c.in-Err-read_fleet_of.stop f)) (λ f. fleet_fails c.in-Err-read_fleet_of.stop f) c.in-Err-read_fleet_of.ensures.shelf)

pub returns-in-Ok-read_fleet_of-clause-texts : goal.returns-in-Ok-read_fleet_of-clause-texts
returns-in-Ok-read_fleet_of-clause-texts g c =
    both_read c.args.asked.now.graph.now c.args.asked.now.fleet.now (g.S.Shelf.seen c.args.shelf.now) (g.S.Shelf.seen c.read_graph_of.new.shelf) (g.S.Shelf.seen c.read_fleet_of.new.shelf) c.in-Ok.graph c.nodes.result c.in-Ok-read_fleet_of.vehicles c.in-Ok.ensures.graph (c.in-Ok.ensures.named refl) c.in-Ok.ensures.shelf.holds c.nodes.ensures.nodes
    c.in-Ok-read_fleet_of.ensures.fleet (c.in-Ok-read_fleet_of.ensures.named refl)

pub returns-in-Ok-read_fleet_of-clause-shelf : goal.returns-in-Ok-read_fleet_of-clause-shelf
returns-in-Ok-read_fleet_of-clause-shelf g c =
    reads_more (c.args.asked.now.graph.now ∷ []) (c.args.asked.now.fleet.now ∷ []) _ _ (g.S.Shelf.seen c.args.shelf.now) (g.S.Shelf.seen c.read_graph_of.new.shelf) (g.S.Shelf.seen c.read_fleet_of.new.shelf) c.in-Ok.ensures.shelf (λ f. cc) (c.in-Ok.ensures.named refl)
    (reads_as (c.args.asked.now.fleet.now ∷ []) _ _ (g.S.Shelf.seen c.read_graph_of.new.shelf) (g.S.Shelf.seen c.read_fleet_of.new.shelf) (λ f. absurd f) (λ f. cc) c.in-Ok-read_fleet_of.ensures.shelf)
