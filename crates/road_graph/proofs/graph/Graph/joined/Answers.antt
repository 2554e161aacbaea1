use Rattle.std.proofs.Common.{sym, ap, ◌∙◌, ◌≡◌, length, arith, ℕ, List, ◌+◌}
use Rattle.road_graph.specs.declared.road.NodeNo.{NodeNo}
use Rattle.road_graph.specs.Roads.{outs}
use Rattle.road_graph.specs.Listing.{least_in}
use Rattle.road_graph.proofs.RoadEnds.{outs_none, least_none, least_out}
use Rattle.road_graph.proofs.graph.Graph.joined.Goals as goal

pub returns-then-not-has-clause-weight : goal.returns-then-not-has-clause-weight
returns-then-not-has-clause-weight g c = let out = c.if-not-has.ensures.node in least_none c.args.self.now c.args.from c.args.to c.has.ensures.kept (sym out)

pub returns-then-not-has-clause-steps : goal.returns-then-not-has-clause-steps
returns-then-not-has-clause-steps g c = let out = c.if-not-has.ensures.node in let none = outs_none c.args.self.now c.args.from c.has.ensures.kept (sym out) in
    let same : c.args.steps.now.0 ≡ c.args.steps.now.0 + length (outs c.args.self.now c.args.from) = omega (arith, ap length none) in
    ap (λ (n : ℕ). let counted : ℕ × ℕ = (n, c.args.steps.now.1) in counted) same

pub returns-clause-weight : goal.returns-clause-weight
returns-clause-weight g c =
    c.least_to.ensures.weight ∙ ap (λ (row : List (NodeNo × ℕ)). least_in row c.args.to) c.outs_of.ensures.outs ∙ least_out c.args.self.now c.args.from c.args.to
