use Rattle.std.proofs.Common.{◌≡◌, ◌∙◌, ap, sym, refl, arith, ◌∷◌, Some, List, get_or, subst, ℕ, ◌+◌}
use Rattle.road_graph.specs.declared.road.NodeNo.{NodeNo}
use Rattle.road_graph.specs.Roads.{least_weight}
use Rattle.road_graph.specs.Walks.{walk_length}
use Rattle.road_graph.specs.Reads.{read_along}
use Rattle.road_graph.proofs.AreOffsets.{OffsetOf, offset_next, whole_next, none_from, reads_next, reads_outside}
use Rattle.road_graph.proofs.walk.offsets_of.Goals as goal

pub loop-next-preserved : goal.loop-next-preserved
loop-next-preserved g c =
    let i = c.loop-next.next-index in
    let rest = c.in-Some.rest.now in
    let zero : NodeNo = record { 0 = 0 } in
    let weight : least_weight c.args.graph.now.roads c.loop-next.here (get_or rest i zero) ≡ Some c.from-length.result = sym c.in-Some-joined.ensures.weight ∙ ap Some (sym c.from-length.ensures) in
    let push = c.in_ok-push-2.ensures.ok in
    record {
      whole = whole_next c.args.graph.now rest i c.loop-next.here _ zero c.loop-next.length _ _ c.loop-next-test.true refl weight c.loop-next.invariant.whole;
      small = omega (arith, c.loop-next.invariant.small);
      steps = reads_next c.args.graph.now rest i c.loop-next.here _ zero c.loop-next.steps.0 c.joined.new.steps.0 _ _ c.loop-next-test.true refl weight (ap (λ s. s.0) c.joined.ensures.steps) c.loop-next.invariant.steps;
      asks = ap (λ s. s.1) c.joined.ensures.steps ∙ c.loop-next.invariant.asks;
      least = let old = c.loop-next.invariant.least in let new = ap (λ s. s.0) c.joined.ensures.steps in omega arith;
      offset = subst (λ (offsets : List ℕ). OffsetOf c.args.graph.now c.args.nodes.now rest (i + 1) (get_or rest i zero) (c.loop-next.length + c.from-length.result) offsets) (sym push)
          (offset_next c.args.graph.now c.has.ensures.kept c.args.nodes.now rest i c.loop-next.here (get_or rest i zero) zero c.loop-next.length c.from-length.result c.loop-next.offsets c.loop-next-test.true refl weight c.loop-next.invariant.offset);
    }

pub returns-then-not-has-clause-offsets : goal.returns-then-not-has-clause-offsets
returns-then-not-has-clause-offsets g c =
    let cases : c.args.nodes.now ≡ c.in-Some.first.now ∷ c.in-Some.rest.now = c.in-Some.ensures.cases.0 in
    let out = c.if-not-has.ensures.node in
    ap (λ (ns : List NodeNo). walk_length c.args.graph.now ns) cases ∙ none_from c.args.graph.now c.has.ensures.kept c.in-Some.first.now c.in-Some.rest.now (sym out)

pub returns-then-not-has-clause-steps : goal.returns-then-not-has-clause-steps
returns-then-not-has-clause-steps g c =
    let cases : c.args.nodes.now ≡ c.in-Some.first.now ∷ c.in-Some.rest.now = c.in-Some.ensures.cases.0 in
    let out = c.if-not-has.ensures.node in
    let none : read_along c.args.graph.now c.args.nodes.now ≡ 0 = ap (read_along c.args.graph.now) cases ∙ reads_outside c.args.graph.now c.has.ensures.kept c.in-Some.first.now c.in-Some.rest.now (sym out) in
    let same : c.args.steps.now.0 ≡ c.args.steps.now.0 + read_along c.args.graph.now c.args.nodes.now = omega arith in
    ap (λ (n : ℕ). let counted : ℕ × ℕ = (n, c.args.steps.now.1) in counted) same
