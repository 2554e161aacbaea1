use Rattle.std.proofs.Common.{List, subst, ap, length, arith}
use Rattle.upward_search.specs.declared.slope.Label.{Label}
use Rattle.upward_search.specs.Names.{AreNamed}
use Rattle.upward_search.proofs.IsBest.{best_of, best_few, least_low, walk_made, no_walk}
use Rattle.upward_search.proofs.levels.Levels.walk.Goals as goal

pub returns-in_default-clause-walk : goal.returns-in_default-clause-walk
returns-in_default-clause-walk g c =
    no_walk c.args.graph.now c.args.self.now c.requires.fits c.laws.ensures.ladder c.place-start.result c.place-end.result c.args.from c.args.to c.place-start.ensures.at c.place-end.ensures.at (rw c.in_default.is at c.in_ok-line.ensures.line)

pub named-requires : goal.named-requires
named-requires g c =
    rw c.as_slice.ensures.value (least_low c.args.self.now c.laws.ensures.ladder c.place-start.result c.place-end.result c.in-Some.line.roads.items c.in-Some.line.run (rw c.in-Some.is at c.in_ok-line.ensures.line) c.place-start.ensures.low)

pub made-requires : goal.made-requires
made-requires g c =
    let best = best_of c.args.graph.now c.args.self.now c.requires.fits c.laws.ensures.ladder c.laws.ensures.apart c.place-start.result c.place-end.result c.args.from c.args.to c.place-start.ensures.at c.place-end.ensures.at c.in-Some.line.roads.items c.in-Some.line.run
    (rw c.in-Some.is at c.in_ok-line.ensures.line) c.in_ok-nodes.nodes.items (subst (λ (rs : List Label). AreNamed c.args.self.now.nodes rs c.in_ok-nodes.nodes.items) c.as_slice.ensures.value c.in_ok-nodes.ensures) in
    let few = best_few c.args.graph.now c.args.self.now c.requires.fits c.args.from c.args.to c.in_ok-nodes.nodes.items best in
    let same = ap length c.as_slice-2.ensures.value in
    omega arith

pub returns-clause-walk : goal.returns-clause-walk
returns-clause-walk g c =
    let best = best_of c.args.graph.now c.args.self.now c.requires.fits c.laws.ensures.ladder c.laws.ensures.apart c.place-start.result c.place-end.result c.args.from c.args.to c.place-start.ensures.at c.place-end.ensures.at c.in-Some.line.roads.items c.in-Some.line.run
    (rw c.in-Some.is at c.in_ok-line.ensures.line) c.in_ok-nodes.nodes.items (subst (λ (rs : List Label). AreNamed c.args.self.now.nodes rs c.in_ok-nodes.nodes.items) c.as_slice.ensures.value c.in_ok-nodes.ensures) in
    walk_made c.args.graph.now c.args.from c.args.to c.as_slice-2.result.now (rw c.as_slice-2.ensures.value best) c.made.result c.made.ensures.walk
