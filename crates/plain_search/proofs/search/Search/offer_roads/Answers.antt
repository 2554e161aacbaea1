use Rattle.std.proofs.Common.{◌≡◌, ℕ, arith, sym, ap, ◌∙◌, subst, length, ◌-◌, List, Some}
use Rattle.std.specs.Prelude.{slice_get}
use Rattle.plain_search.specs.declared.reached.Reached.{Reached}
use Rattle.plain_search.specs.Searching.{faced, reached_by}
use Rattle.plain_search.proofs.Faced.{IsNode-faced, IsNode-from_faced}
use Rattle.plain_search.proofs.IsSearch.{listed_node, listed_short, after_offer, after_offers, same-then}
use Rattle.plain_search.proofs.search.Search.offer_roads.Goals as goal

pub road_count-index-end-requires : goal.road_count-index-end-requires
road_count-index-end-requires g c =
    let s = c.args.self.now in
    IsNode-from_faced s.way c.args.graph.now c.args.last.node (listed_node (faced s.way c.args.graph.now) s.start s.radius s.reached s.marks s.waiting c.requires.search _ _ c.requires.last)

pub road_at-weight-requires-clause-node : goal.road_at-weight-requires-clause-node
road_at-weight-requires-clause-node g c =
    let s = c.args.self.now in
    IsNode-from_faced s.way c.args.graph.now c.args.last.node (listed_node (faced s.way c.args.graph.now) s.start s.radius s.reached s.marks s.waiting c.requires.search _ _ c.requires.last)

pub overflow_add-last : goal.overflow_add-last
overflow_add-last g c =
    let s = c.args.self.now in
    let short = listed_short (faced s.way c.args.graph.now) s.start s.radius s.reached s.marks s.waiting c.requires.search _ _ c.requires.last in
    omega arith

pub offer-requires-clause-distance : goal.offer-requires-clause-distance
offer-requires-clause-distance g c =
    let s = c.args.self.now in
    let short = listed_short (faced s.way c.args.graph.now) s.start s.radius s.reached s.marks s.waiting c.requires.search _ _ c.requires.last in
    let light = c.road_at-weight.ensures.light in
    let is = c.from.ensures in
    omega arith

pub loop-index-preserved : goal.loop-index-preserved
loop-index-preserved g c =
    let l = c.loop-index.invariant in
    let way = c.args.self.now.way in
    let graph = c.args.graph.now in
    let stands = subst (λ (rs : List Reached). slice_get rs (length rs - 1) ≡ Some (reached_by c.args.last)) (sym l.reached) c.requires.last in
    let m = after_offer (faced way graph) c.loop-index.self c.offer.new.self c.loop-index.index c.args.last c.road_at-weight.result.0 c.road_at-weight.result.1 l.search l.offered stands c.road_at-weight.ensures.road
    (IsNode-faced way graph c.road_at-weight.result.0 c.road_at-weight.ensures.end) c.in_ok-offer.ensures.same c.in_ok-offer.ensures.reached (rw c.from.ensures at c.in_ok-offer.ensures.offers) in
    record {
      same = same-then c.in_ok-offer.ensures.same l.same;
      reached = c.in_ok-offer.ensures.reached ∙ l.reached;
      search = m.search;
      offered = m.offered;
      steps = (let e = ap (λ (p : ℕ × ℕ). p.0) c.road_at-weight.ensures.steps in let is = l.steps in omega arith);
      asks = ap (λ (p : ℕ × ℕ). p.1) c.road_at-weight.ensures.steps ∙ l.asks;
    }

pub returns-clause-offered : goal.returns-clause-offered
returns-clause-offered g c =
    let l = c.loop-index.invariant in
    let stands = subst (λ (rs : List Reached). slice_get rs (length rs - 1) ≡ Some (reached_by c.args.last)) (sym l.reached) c.requires.last in
    after_offers (faced c.args.self.now.way c.args.graph.now) c.loop-index.self c.loop-index.index c.args.last l.offered stands (let many = c.road_count-index-end.ensures in let out = c.loop-index-test.false in omega arith)
