use Rattle.std.proofs.Common.{ap, ◌∙◌, sym, subst, List, None}
use Rattle.plain_search.specs.declared.reached.Reached.{Reached}
use Rattle.plain_search.specs.Marking.{ArePlaces}
use Rattle.plain_search.specs.Reaching.{Listing}
use Rattle.plain_search.proofs.DistanceOf.{read_distance}
use Rattle.plain_search.proofs.tree.Reach.distance.Goals as goal

pub returns-clause-listed : goal.returns-clause-listed
returns-clause-listed c =
    let same = ap (λ (l : Listing). l.listed) c.self.view_is in
    let places = subst (λ (rs : List Reached). ArePlaces rs c.self.inside.marks) same c.self.invariant.0 in
    read_distance c.args.self.now.listed c.as_slice.result.now c.self.inside.marks places c.args.node c.in_ok-place.place c.in_ok-place.ensures (record { node = record { 0 = 0 }; distance = 0; parent = None }) (c.as_slice.ensures ∙ same)

pub returns-clause-exact : goal.returns-clause-exact
returns-clause-exact c = λ g r. r.reached.exact c.args.node _ (sym (returns-clause-listed c))
