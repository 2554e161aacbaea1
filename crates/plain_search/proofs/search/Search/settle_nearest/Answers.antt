use Rattle.std.proofs.Common.{arith, ap, ◌∙◌, ℕ}
use Rattle.std.proofs.lemmas.List.Sorted.{length_permutation}
use Rattle.plain_search.specs.Searching.{faced}
use Rattle.plain_search.proofs.IsSearch.{taken_fits, few_in_search, after_settling, last_settled, unsettled, settled_by}
use Rattle.plain_search.proofs.ListedRoads.{few_followed, all_followed, none_followed}
use Rattle.plain_search.proofs.SettledSearch.{passed_search, passed_offers}
use Rattle.plain_search.proofs.search.Search.settle_nearest.Goals as goal

pub is_settled-requires : goal.is_settled-requires
is_settled-requires g c = taken_fits (faced c.args.self.now.way c.args.graph.now) c.loop-nearest.self c.pop.new.self c.in-Some.nearest c.loop-nearest.invariant.search c.in-Some.ensures.none

pub settle-requires-clause-marks : goal.settle-requires-clause-marks
settle-requires-clause-marks g c = taken_fits (faced c.args.self.now.way c.args.graph.now) c.loop-nearest.self c.pop.new.self c.in-Some.nearest c.loop-nearest.invariant.search c.in-Some.ensures.none

pub settle-requires-clause-few : goal.settle-requires-clause-few
settle-requires-clause-few g c =
    let search = c.loop-nearest.invariant.search in
    let few = few_in_search (faced c.args.self.now.way c.args.graph.now) c.loop-nearest.self search in
    let nodes = search.graph.few_nodes in
    omega arith

pub offer_roads-requires-clause-search : goal.offer_roads-requires-clause-search
offer_roads-requires-clause-search g c =
    let l = c.loop-nearest.invariant in
    let e = c.in_ok-settle.ensures in
    let m = after_settling (faced c.args.self.now.way c.args.graph.now) c.loop-nearest.self c.settle.new.self c.pop.new.self c.in-Some.nearest l.search l.offered c.in-Some.ensures.none c.in-Some.ensures.nearest
    (unsettled c.loop-nearest.self.marks c.in-Some.nearest.node c.if-not-is_settled.ensures)
    (record { way = e.same.way; start = e.same.start; radius = e.same.radius }) e.reached e.marks e.waiting in
    rw (e.same.way ∙ l.same.way) m.search

pub offer_roads-requires-clause-last : goal.offer_roads-requires-clause-last
offer_roads-requires-clause-last g c = last_settled c.loop-nearest.self c.settle.new.self c.in-Some.nearest c.in_ok-settle.ensures.reached

pub offer_roads-requires-clause-offered : goal.offer_roads-requires-clause-offered
offer_roads-requires-clause-offered g c =
    let l = c.loop-nearest.invariant in
    let e = c.in_ok-settle.ensures in
    let m = after_settling (faced c.args.self.now.way c.args.graph.now) c.loop-nearest.self c.settle.new.self c.pop.new.self c.in-Some.nearest l.search l.offered c.in-Some.ensures.none c.in-Some.ensures.nearest
    (unsettled c.loop-nearest.self.marks c.in-Some.nearest.node c.if-not-is_settled.ensures)
    (record { way = e.same.way; start = e.same.start; radius = e.same.radius }) e.reached e.marks e.waiting in
    rw (e.same.way ∙ l.same.way) m.offered

pub loop-nearest-smaller : goal.loop-nearest-smaller
loop-nearest-smaller g c = let many = length_permutation c.loop-nearest.self.waiting _ c.in-Some.ensures.none in omega arith

pub loop-nearest-preserved : goal.loop-nearest-preserved
loop-nearest-preserved g c =
    let l = c.loop-nearest.invariant in
    let s = c.loop-nearest.self in
    let h = faced c.args.self.now.way c.args.graph.now in
    let is = settled_by s.marks c.in-Some.nearest.node c.if-not-is_settled.ensures in
    record {
      same = record { way = l.same.way; start = l.same.start; radius = l.same.radius };
      reached = l.reached;
      search = passed_search h s.start s.radius s.reached s.marks s.waiting c.pop.new.self l.search l.offered c.in-Some.nearest c.in-Some.ensures.none c.in-Some.ensures.nearest is;
      offered = passed_offers h s.start s.radius s.reached s.marks s.waiting c.pop.new.self l.search l.offered c.in-Some.nearest c.in-Some.ensures.none c.in-Some.ensures.nearest is;
      steps = l.steps;
    }

pub returns-in_err-settle-clause-most : goal.returns-in_err-settle-clause-most
returns-in_err-settle-clause-most g c =
    let l = c.loop-nearest.invariant in
    none_followed c.args.self.now.way c.args.graph.now (faced c.args.self.now.way c.args.graph.now) c.loop-nearest.self c.args.self.now.reached c.args.steps.now.0 c.loop-nearest.steps.0 l.reached l.search (ap (λ (p : ℕ × ℕ). p.0) l.steps)

pub returns-clause-most : goal.returns-clause-most
returns-clause-most g c =
    let l = c.loop-nearest.invariant in
    none_followed c.args.self.now.way c.args.graph.now (faced c.args.self.now.way c.args.graph.now) c.loop-nearest.self c.args.self.now.reached c.args.steps.now.0 c.loop-nearest.steps.0 l.reached l.search (ap (λ (p : ℕ × ℕ). p.0) l.steps)

pub returns-in_err-offer_roads-clause-most : goal.returns-in_err-offer_roads-clause-most
returns-in_err-offer_roads-clause-most x c =
    let l = c.loop-nearest.invariant in
    let e = c.in_ok-settle.ensures in
    let way = c.args.self.now.way in
    let g = c.args.graph.now in
    let m = after_settling (faced way g) c.loop-nearest.self c.settle.new.self c.pop.new.self c.in-Some.nearest l.search l.offered c.in-Some.ensures.none c.in-Some.ensures.nearest
    (unsettled c.loop-nearest.self.marks c.in-Some.nearest.node c.if-not-is_settled.ensures)
    (record { way = e.same.way; start = e.same.start; radius = e.same.radius }) e.reached e.marks e.waiting in
    let same = ap (λ (p : ℕ × ℕ). p.0) l.steps in
    let most = c.offer_roads.ensures.most in
    few_followed way c.settle.new.self.way g (faced way g) c.loop-nearest.self c.settle.new.self c.in-Some.nearest c.args.self.now.reached c.args.steps.now.0 c.offer_roads.new.steps.0 (e.same.way ∙ l.same.way) l.reached e.reached m.search (omega arith)

pub returns-then-not-is_settled-clause-most : goal.returns-then-not-is_settled-clause-most
returns-then-not-is_settled-clause-most x c =
    let l = c.loop-nearest.invariant in
    let e = c.in_ok-settle.ensures in
    let way = c.args.self.now.way in
    let g = c.args.graph.now in
    let m = after_settling (faced way g) c.loop-nearest.self c.settle.new.self c.pop.new.self c.in-Some.nearest l.search l.offered c.in-Some.ensures.none c.in-Some.ensures.nearest
    (unsettled c.loop-nearest.self.marks c.in-Some.nearest.node c.if-not-is_settled.ensures)
    (record { way = e.same.way; start = e.same.start; radius = e.same.radius }) e.reached e.marks e.waiting in
    let same = ap (λ (p : ℕ × ℕ). p.0) l.steps in
    let most = c.offer_roads.ensures.most in
    few_followed way c.settle.new.self.way g (faced way g) c.loop-nearest.self c.settle.new.self c.in-Some.nearest c.args.self.now.reached c.args.steps.now.0 c.offer_roads.new.steps.0 (e.same.way ∙ l.same.way) l.reached e.reached m.search (omega arith)

pub returns-then-not-is_settled-clause-steps : goal.returns-then-not-is_settled-clause-steps
returns-then-not-is_settled-clause-steps x c =
    let l = c.loop-nearest.invariant in
    let e = c.in_ok-settle.ensures in
    let way = c.args.self.now.way in
    let g = c.args.graph.now in
    let same = ap (λ (p : ℕ × ℕ). p.0) l.steps in
    let exact = c.in_ok-offer_roads.ensures.steps in
    all_followed way c.settle.new.self.way g c.loop-nearest.self c.settle.new.self c.offer_roads.new.self c.in-Some.nearest c.args.self.now.reached c.args.steps.now.0 c.offer_roads.new.steps.0 (e.same.way ∙ l.same.way) l.reached e.reached c.in_ok-offer_roads.ensures.reached (omega arith)
