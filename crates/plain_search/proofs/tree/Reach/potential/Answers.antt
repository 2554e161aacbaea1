use Rattle.std.proofs.Common.{sym, ap, ◌∙◌, subst, arith, rules, ◌+◌, List, None, ◌<◌, ◌≤◌, length}
use Rattle.std.specs.Option.{option_map}
use Rattle.plain_search.specs.declared.reached.Reached.{Reached}
use Rattle.plain_search.specs.Marking.{ArePlaces}
use Rattle.plain_search.specs.Reaching.{Listing}
use Rattle.plain_search.proofs.ArePairs.{place_within, more_pairs, same_pairs, all_pairs}
use Rattle.plain_search.proofs.IsPotential.{valid}
use Rattle.plain_search.proofs.tree.Reach.potential.Goals as goal
use Rattle.plain_search.proofs.tree.Reach.potential.Goals.{in-Some+in_ok-push, in_default}

pub offset_bounds-as_slice-place : goal.offset_bounds-as_slice-place
offset_bounds-as_slice-place c =
    let below : c.in-Some.place < length c.as_slice.result.now = place_within c.self.inside.listed c.as_slice.result.now c.self.inside.marks c.self.invariant.0 c.as_slice.ensures c.loop-number.number c.in-Some.place (sym c.at.ensures ∙ c.in-Some.ensures) in
    search rules

pub bounds-as_slice-place : goal.bounds-as_slice-place
bounds-as_slice-place c = place_within c.self.inside.listed c.as_slice.result.now c.self.inside.marks c.self.invariant.0 c.as_slice.ensures c.loop-number.number c.in-Some.place (sym c.at.ensures ∙ c.in-Some.ensures)

pub loop-number-preserved : goal.loop-number-preserved
loop-number-preserved c =
    let listed = ap (λ (l : Listing). l.listed) c.self.view_is in
    let places = subst (λ (rs : List Reached). ArePlaces rs c.self.inside.marks) listed c.self.invariant.0 in
    elim c.match-place_of.branch [
      | in-Some+in_ok-push w ↦ more_pairs c.args.self.now.listed w.as_slice.result.now c.self.inside.marks places (w.as_slice.ensures ∙ listed)
          c.loop-number.listed c.match-place_of.listed c.loop-number.number w.in-Some.place (record { node = record { 0 = 0 }; distance = 0; parent = None }) c.loop-number.invariant (sym c.at.ensures ∙ w.in-Some.ensures) (w.listed-is ∙ w.in_ok-push.ensures.ok)
      | in_default w ↦ same_pairs c.args.self.now.listed c.self.inside.marks places c.loop-number.listed c.match-place_of.listed c.loop-number.number c.loop-number.invariant (λ k e. w.in_default.ensures k (c.at.ensures ∙ e)) w.listed-is
    ]

pub returns-clause-values : goal.returns-clause-values
returns-clause-values c =
    let listed = ap (λ (l : Listing). l.listed) c.self.view_is in
    let places = subst (λ (rs : List Reached). ArePlaces rs c.self.inside.marks) listed c.self.invariant.0 in
    let end : length c.self.inside.marks ≤ c.loop-number.number = (let a = c.loop-number-test.false in let b = c.len-number-end.ensures in omega arith) in
    all_pairs c.args.self.now.listed c.self.inside.marks places c.loop-number.listed c.loop-number.number end c.loop-number.invariant

pub returns-clause-valid : goal.returns-clause-valid
returns-clause-valid c = λ g r. valid g c.args.self.now (record { listed = c.loop-number.listed; rest = c.first_beyond.result }) r (returns-clause-values c) (c.first_beyond.ensures ∙ ap (λ (l : Listing). option_map (λ x. x + 1) l.radius) c.self.view_is)
