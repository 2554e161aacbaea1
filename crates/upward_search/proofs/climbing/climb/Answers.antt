use Rattle.std.proofs.Common.{arith, ◌∙◌, refl, add-one}
use Rattle.upward_search.proofs.IsSearch.{begin_search, step_search, space_of_search, work-push, spent_so_far, spent_with, on_err}
use Rattle.upward_search.proofs.climbing.climb.Goals as goal

pub climbing-init : goal.climbing-init
climbing-init g c =
    rw c.new-space.ensures (record {
      search = begin_search c.args.slopes.now c.args.start _ c.push.new.self c.requires refl (rw c.new-waiting.ensures at c.in_ok-push.ensures);
      steps = omega arith;
      asks = refl;
    })

pub offer_arcs-requires-clause-place : goal.offer_arcs-requires-clause-place
offer_arcs-requires-clause-place g c = (c.climbing.invariant.search.found _ c.in-Some.ensures.was).place

pub offer_arcs-requires-clause-near : goal.offer_arcs-requires-clause-near
offer_arcs-requires-clause-near g c = (c.climbing.invariant.search.found _ c.in-Some.ensures.was).near

pub overflow_add-floor : goal.overflow_add-floor
overflow_add-floor g c = let p = (c.climbing.invariant.search.found _ c.in-Some.ensures.was).place in let few = c.in_ok-offer_arcs.ensures.upward.few in omega arith

pub climbing-smaller : goal.climbing-smaller
climbing-smaller g c = let p = (c.climbing.invariant.search.found _ c.in-Some.ensures.was).place in let h = c.in-Some.ensures.high in omega arith

pub climbing-preserved : goal.climbing-preserved
climbing-preserved g c =
    let l = c.climbing.invariant in
    let next = step_search c.args.slopes.now c.in_ok-offer_arcs.ensures.upward c.args.start c.climbing.floor c.climbing.space c.climbing.waiting c.next_from.new.self c.offer_arcs.new.waiting c.in-Some.label l.search c.in-Some.ensures c.in_ok-offer_arcs.ensures.offered in
    let more = work-push c.args.slopes.now c.climbing.space c.in-Some.label in
    rw c.in_ok-push-2.ensures.ok (record {
      search = rw add-one next;
      steps = (let a = c.in_ok-offer_arcs.ensures.steps in let b = l.steps in omega arith);
      asks = c.in_ok-offer_arcs.ensures.asks ∙ l.asks;
    })

pub returns-clause-space : goal.returns-clause-space
returns-clause-space g c = space_of_search c.args.slopes.now c.args.start c.climbing.floor c.climbing.space c.climbing.waiting c.climbing.invariant.search c.in_default.ensures

pub returns-in_err-push-2-clause-spent : goal.returns-in_err-push-2-clause-spent
returns-in_err-push-2-clause-spent g c =
    on_err c.from_residual-in_err-push-2.result _ (λ space is.
    let l = c.climbing.invariant in
    let so_far = spent_so_far c.args.slopes.now c.args.start c.climbing.floor c.climbing.space c.climbing.waiting space l.search is in
    let steps = l.steps in
    omega arith)

pub returns-in_err-offer_arcs-clause-spent : goal.returns-in_err-offer_arcs-clause-spent
returns-in_err-offer_arcs-clause-spent g c =
    on_err c.from_residual-in_err-offer_arcs.result _ (λ space is.
    let l = c.climbing.invariant in
    let so_far = spent_with c.args.slopes.now c.args.start c.climbing.floor c.climbing.space c.climbing.waiting c.next_from.new.self space c.in-Some.label l.search c.in-Some.ensures is in
    let steps = l.steps in
    let last = c.in_err-offer_arcs.ensures.steps in
    omega arith)
