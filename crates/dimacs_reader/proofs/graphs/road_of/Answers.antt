use Rattle.std.proofs.Common.{◌≡◌, ◌<◌, ◌∙◌, rules, arith}
use Rattle.dimacs_reader.specs.declared.forms.GraphLine.TheVariants.{Arc}
use Rattle.dimacs_reader.specs.Forms.{graph_line}
use Rattle.dimacs_reader.specs.Reading.{read_graph_line}
use Rattle.dimacs_reader.proofs.RoadLines.{arc_says}
use Rattle.dimacs_reader.proofs.graphs.road_of.Goals as goal

pub returns-in_err-road-in-Arc-clause-says : goal.returns-in_err-road-in-Arc-clause-says
returns-in_err-road-in-Arc-clause-says c = λ skipped another.
    let is : read_graph_line (graph_line c.args.line.now.bytes) ≡ Arc c.in-Arc.from c.in-Arc.to c.in-Arc.weight = search rules in
    let fewer : c.args.found < c.args.said.roads = omega (arith, c.requires.few, c.if-found-said.false) in
    arc_says _ _ _ _ _ _ _ _ c.road.result is fewer (search rules) c.road.ensures.says skipped another ∙ search rules

pub returns-in_ok-road-in-Arc-clause-says : goal.returns-in_ok-road-in-Arc-clause-says
returns-in_ok-road-in-Arc-clause-says c = λ skipped another.
    let is : read_graph_line (graph_line c.args.line.now.bytes) ≡ Arc c.in-Arc.from c.in-Arc.to c.in-Arc.weight = search rules in
    let fewer : c.args.found < c.args.said.roads = omega (arith, c.requires.few, c.if-found-said.false) in
    arc_says _ _ _ _ _ _ _ _ c.road.result is fewer (search rules) c.road.ensures.says skipped another ∙ search rules
