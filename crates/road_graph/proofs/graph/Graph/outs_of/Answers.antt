use Rattle.std.proofs.Common.{subst, sym, ap, ◌∙◌}
use Rattle.road_graph.specs.declared.rows.Way.TheVariants.{Out}
use Rattle.road_graph.specs.Roads.{Roads, IsNode, outs}
use Rattle.road_graph.proofs.AreRows.{RowFits, row_inside, row_is}
use Rattle.road_graph.proofs.graph.Graph.outs_of.Goals as goal

node_here : (c : goal.After-self) → IsNode (record { nodes = c.self.inside.nodes; roads = c.self.inside.listed.roads }) c.args.node
node_here c = subst (λ (g : Roads). IsNode g c.args.node) (sym c.self.view_is) c.requires

fits_here : (c : goal.After-self) → RowFits c.self.inside.outs.bounds c.self.inside.outs.ends c.args.node.0
fits_here c = row_inside Out c.self.inside.nodes c.self.inside.listed.roads c.self.inside.outs.bounds c.self.inside.outs.ends c.args.node.0 c.self.invariant.outs_rowed (node_here c).0 (node_here c).1

pub at-requires-clause-rises : goal.at-requires-clause-rises
at-requires-clause-rises c = (fits_here c).rises

pub at-requires-clause-fits : goal.at-requires-clause-fits
at-requires-clause-fits c = (fits_here c).inside

pub returns-clause-outs : goal.returns-clause-outs
returns-clause-outs c =
    let node = subst (λ (g : Roads). IsNode g c.args.node) (sym c.self.view_is) c.requires in
    c.at.ensures ∙ row_is Out c.self.inside.nodes c.self.inside.listed.roads c.self.inside.outs.bounds c.self.inside.outs.ends c.args.node.0 c.self.invariant.outs_rowed node.0 node.1 ∙ ap (λ (g : Roads). outs g c.args.node) c.self.view_is
