use Rattle.std.proofs.Common.{arith, ap, ◌∙◌, subst, List, ◌++◌, ◌∷◌, []}
use Rattle.upward_search.specs.declared.unpacking.Part.{Part}
use Rattle.upward_search.specs.Parts.{parts_length}
use Rattle.upward_search.specs.Stacks.{IsOnWay}
use Rattle.upward_search.proofs.IsUnpacking.{weights}
use Rattle.upward_search.proofs.IsOnWay.{begin_way, way_over_middle, way_road, way_over}
use Rattle.upward_search.proofs.levels.Levels.unpacked.Goals as goal

pub unpacking-init : goal.unpacking-init
unpacking-init c = begin_way c.args.self.now c.args.from c.args.to c.in_ok-line.line.roads.items c.in_ok-line.line.run c.args.parts.items (c.in_ok-line.ensures c.args.self.now) c.requires

pub climb_part-requires-clause-place : goal.climb_part-requires-clause-place
climb_part-requires-clause-place c = (way_over_middle c.args.self.now c.laws.ensures.ladder c.args.from c.args.to (parts_length c.args.parts.items) c.unpacking.line.roads.items c.unpacking.line.run c.pop.new.self.items c.in-Some.part (subst (IsOnWay c.args.self.now c.args.from c.args.to (parts_length c.args.parts.items) c.unpacking.line.roads.items c.unpacking.line.run) c.in-Some.ensures.items c.unpacking.invariant) c.if-is_road.ensures).1

pub climb_part-requires-clause-there : goal.climb_part-requires-clause-there
climb_part-requires-clause-there c = let o = (way_over_middle c.args.self.now c.laws.ensures.ladder c.args.from c.args.to (parts_length c.args.parts.items) c.unpacking.line.roads.items c.unpacking.line.run c.pop.new.self.items c.in-Some.part (subst (IsOnWay c.args.self.now c.args.from c.args.to (parts_length c.args.parts.items) c.unpacking.line.roads.items c.unpacking.line.run) c.in-Some.ensures.items c.unpacking.invariant) c.if-is_road.ensures).0 in (o.climb, o.climbs, o.ends)

pub fall_part-requires-clause-there : goal.fall_part-requires-clause-there
fall_part-requires-clause-there c = let o = (way_over_middle c.args.self.now c.laws.ensures.ladder c.args.from c.args.to (parts_length c.args.parts.items) c.unpacking.line.roads.items c.unpacking.line.run c.pop.new.self.items c.in-Some.part (subst (IsOnWay c.args.self.now c.args.from c.args.to (parts_length c.args.parts.items) c.unpacking.line.roads.items c.unpacking.line.run) c.in-Some.ensures.items c.unpacking.invariant) c.if-is_road.ensures).0 in (o.fall, o.falls, o.starts)

pub unpacking-smaller-then-is_road : goal.unpacking-smaller-then-is_road
unpacking-smaller-then-is_road c = let m = (way_road c.args.self.now c.args.from c.args.to (parts_length c.args.parts.items) c.unpacking.line.roads.items c.go_on.new.self.roads.items c.unpacking.line.run c.go_on.new.self.run c.pop.new.self.items c.in-Some.part (subst (IsOnWay c.args.self.now c.args.from c.args.to (parts_length c.args.parts.items) c.unpacking.line.roads.items c.unpacking.line.run) c.in-Some.ensures.items c.unpacking.invariant) c.if-is_road.ensures (c.in_ok-go_on.ensures c.args.self.now)).1 in let e = ap weights c.in-Some.ensures.items in omega arith

pub unpacking-preserved-then-is_road : goal.unpacking-preserved-then-is_road
unpacking-preserved-then-is_road c = (way_road c.args.self.now c.args.from c.args.to (parts_length c.args.parts.items) c.unpacking.line.roads.items c.go_on.new.self.roads.items c.unpacking.line.run c.go_on.new.self.run c.pop.new.self.items c.in-Some.part (subst (IsOnWay c.args.self.now c.args.from c.args.to (parts_length c.args.parts.items) c.unpacking.line.roads.items c.unpacking.line.run) c.in-Some.ensures.items c.unpacking.invariant) c.if-is_road.ensures (c.in_ok-go_on.ensures c.args.self.now)).0

pub unpacking-smaller : goal.unpacking-smaller
unpacking-smaller c =
    let m = (way_over c.args.self.now c.laws.ensures.ladder c.args.from c.args.to (parts_length c.args.parts.items) c.unpacking.line.roads.items c.unpacking.line.run c.pop.new.self.items c.in-Some.part (subst (IsOnWay c.args.self.now c.args.from c.args.to (parts_length c.args.parts.items) c.unpacking.line.roads.items c.unpacking.line.run) c.in-Some.ensures.items c.unpacking.invariant) c.if-is_road.ensures c.climb_part.result c.fall_part.result c.climb_part.ensures.part c.fall_part.ensures.part).1 in
    let e = ap weights c.in-Some.ensures.items in
    let f = ap weights (c.in_ok-push-2.ensures.items ∙ ap (λ (xs : List Part). xs ++ c.fall_part.result ∷ []) c.in_ok-push.ensures.items) in
    omega arith

pub unpacking-preserved : goal.unpacking-preserved
unpacking-preserved c = rw (c.in_ok-push-2.ensures.items, c.in_ok-push.ensures.items) (way_over c.args.self.now c.laws.ensures.ladder c.args.from c.args.to (parts_length c.args.parts.items) c.unpacking.line.roads.items c.unpacking.line.run c.pop.new.self.items c.in-Some.part (subst (IsOnWay c.args.self.now c.args.from c.args.to (parts_length c.args.parts.items) c.unpacking.line.roads.items c.unpacking.line.run) c.in-Some.ensures.items c.unpacking.invariant) c.if-is_road.ensures c.climb_part.result c.fall_part.result c.climb_part.ensures.part c.fall_part.ensures.part).0
