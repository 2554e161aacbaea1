use Rattle.std.proofs.Common.{◌≡◌, ℕ, suc, ◌+◌, List, sym, ap, ◌∙◌, subst, arith}
use Rattle.std.specs.Prelude.{slice_set}
use Rattle.stop_schedule.specs.Fleets.{Car}
use Rattle.board_core.specs.BoardKept.{next_arrival}
use Rattle.board_core.proofs.MovedCars.{AreRenewedTo, renewed_none, renewed_many, renewed_more, renewed_all}
use Rattle.board_core.proofs.moves.renew.Goals as goal

pub renewing-init : goal.renewing-init
renewing-init c = renewed_none c.args.params.now c.args.now c.args.cars.now c.args.arrivals.now c.requires.moved

pub prove-unreachable-requires : goal.prove-unreachable-requires
prove-unreachable-requires c = let m = renewed_many c.args.params.now c.args.now c.args.cars.now c.renewing.from c.renewing.arrivals c.renewing.invariant in let f = c.in-Some.ensures.1 in
    let t = c.if-prove.true in let n = c.len.ensures.places in omega arith

pub get-requires : goal.get-requires
get-requires c = let m = renewed_many c.args.params.now c.args.now c.args.cars.now c.renewing.from c.renewing.arrivals c.renewing.invariant in let f = c.in-Some.ensures.1 in omega arith

pub overflow_add-from : goal.overflow_add-from
overflow_add-from c = let m = renewed_many c.args.params.now c.args.now c.args.cars.now c.renewing.from c.renewing.arrivals c.renewing.invariant in let f = c.in-Some.ensures.1 in
    let n = c.len.ensures.places in let o = c.len.ensures.most in omega arith

pub renewing-smaller : goal.renewing-smaller
renewing-smaller c = let m = renewed_many c.args.params.now c.args.now c.args.cars.now c.renewing.from c.renewing.arrivals c.renewing.invariant in let f = c.in-Some.ensures.1 in let l = c.in-Some.ensures.0 in omega arith

pub renewing-preserved : goal.renewing-preserved
renewing-preserved c = let n : suc c.in-Some.place ≡ c.in-Some.place + 1 = omega arith in
    let moment : c.next_arrival.result ≡ next_arrival c.args.params.now c.get.result.now.plan =
    c.next_arrival.ensures ∙ ap (λ (k : Car). next_arrival c.args.params.now k.plan) (c.behind-get.view_is ∙ c.car.ensures) in
    subst (λ (l : List ℕ). AreRenewedTo c.args.params.now c.args.now c.args.cars.now (c.in-Some.place + 1) l) (sym c.set.ensures)
    (subst (λ (k : ℕ). AreRenewedTo c.args.params.now c.args.now c.args.cars.now k (slice_set c.renewing.arrivals c.in-Some.place c.next_arrival.result)) n
    (renewed_more c.args.params.now c.args.now c.args.cars.now c.renewing.from c.in-Some.place c.renewing.arrivals c.get.result.now c.next_arrival.result c.renewing.invariant c.in-Some.ensures c.get.ensures moment))

pub returns : goal.returns
returns c = renewed_all c.args.params.now c.args.now c.args.cars.now c.renewing.from c.renewing.arrivals c.renewing.invariant c.in_default.ensures
