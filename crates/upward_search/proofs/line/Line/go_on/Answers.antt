use Rattle.std.proofs.Common.{arith, subst, List}
use Rattle.std.proofs.lemmas.Option.{slice_get_within}
use Rattle.upward_search.specs.declared.slope.Label.{Label}
use Rattle.upward_search.specs.Lines.{IsFrom, LacksFrom}
use Rattle.upward_search.proofs.IsLine.{pushed_far, pushed_near, cut_back}
use Rattle.upward_search.proofs.line.Line.go_on.Goals as goal

pub returns-then-road-gt0 : goal.returns-then-road-gt0
returns-then-road-gt0 c = λ h p q x l road.
    rw (c.in_ok-push.ensures.items, c.as_slice.ensures.value) (pushed_far h p c.args.self.now.roads.items c.args.self.now.run q x l c.args.road road c.if-road-gt0.true)

pub overflow_add-at : goal.overflow_add-at
overflow_add-at c = let f = c.in-Some.ensures.1 in let w = slice_get_within c.as_slice-2.result.now c.in-Some.at f.0 f.1 in let t = c.as_slice-2.type_inv in omega arith

pub returns-in-Some : goal.returns-in-Some
returns-in-Some c = λ h p q x l road.
    rw c.truncate.ensures.items (cut_back h p c.args.self.now.roads.items c.args.self.now.run q x l c.args.road road (let a = c.if-road-gt0.false in omega arith) c.in-Some.at (subst (λ (xs : List Label). IsFrom xs c.args.self.now.run c.args.road.place c.in-Some.at) c.as_slice-2.ensures.value c.in-Some.ensures))

pub returns : goal.returns
returns c = λ h p q x l road.
    rw c.in_ok-push-2.ensures.items (pushed_near h p c.args.self.now.roads.items c.args.self.now.run q x l c.args.road road (let a = c.if-road-gt0.false in omega arith) (subst (λ (xs : List Label). LacksFrom xs c.args.self.now.run c.args.road.place) c.as_slice-2.ensures.value c.in_default.ensures))
