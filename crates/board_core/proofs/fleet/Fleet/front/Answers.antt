use Rattle.std.proofs.Common.{◌≡◌, true, sym, ap, subst, arith}
use Rattle.stop_schedule.specs.Fronts.{IsAhead}
use Rattle.stop_schedule.specs.Keeping.{keeps}
use Rattle.stop_schedule.specs.Plans.{Plan}
use Rattle.std.proofs.lemmas.Option.{slice_get_within}
use Rattle.board_core.proofs.FrontTimes.{first_in_service, first_length, front_by, front_from}
use Rattle.board_core.proofs.Inserts.{within}
use Rattle.board_core.proofs.fleet.Fleet.front.Goals as goal

pub front-front-requires : goal.front-front-requires
front-front-requires g c = let x = within c.args.self.now.cars c.args.place c.requires.place in
    record { ahead = subst (λ (p : Plan). IsAhead p c.args.self.now.clock) (sym (c.schedule-schedule.ensures x.0 x.1)) (c.requires.ahead x.0 x.1) }

pub prove-unreachable-requires : goal.prove-unreachable-requires
prove-unreachable-requires g c = let p = c.schedule-schedule.result.now in let l = front_by p c.args.self.now.clock c.leg.result.now c.leg.ensures.value c.length.ensures.path in
    let t = ap (λ f. f.time) c.front-front.ensures.value in let a = c.if-prove.true in let d = c.departure.ensures.value in let n = c.length.ensures.length in omega arith

pub returns-clause-time : goal.returns-clause-time
returns-clause-time g c = let x = within c.args.self.now.cars c.args.place c.requires.place in let p = c.schedule-schedule.result.now in
    let same = c.schedule-schedule.ensures x.0 x.1 in
    let l = front_by p c.args.self.now.clock c.leg.result.now c.leg.ensures.value c.length.ensures.path in
    let t = ap (λ f. f.time) c.front-front.ensures.value in
    let k = subst (λ (q : Plan). keeps c.args.self.now.params q ≡ true) (sym same) (c.requires.kept x.0 x.1) in
    let s = first_in_service c.args.self.now.params p k (let b = c.stops.ensures.bounded in let i = c.leg.ensures.value in let m = slice_get_within p.legs 0 _ i in let n = b.as_many_legs in omega arith) in
    let n = first_length p.legs c.leg.result.now c.leg.ensures.value in let u = c.stops.ensures.bounded.until in omega arith

pub returns-clause-late : goal.returns-clause-late
returns-clause-late g c = let x = within c.args.self.now.cars c.args.place c.requires.place in let p = c.schedule-schedule.result.now in
    let same = c.schedule-schedule.ensures x.0 x.1 in
    let a = subst (λ (q : Plan). IsAhead q c.args.self.now.clock) (sym same) (c.requires.ahead x.0 x.1) in
    let n = first_length p.legs c.leg.result.now c.leg.ensures.value in
    let b = a (let b = c.stops.ensures.bounded in let i = c.leg.ensures.value in let m = slice_get_within p.legs 0 _ i in let n = b.as_many_legs in omega arith) in
    let l = front_from p c.args.self.now.clock c.leg.result.now c.leg.ensures.value c.length.ensures.path (omega arith) in
    let t = ap (λ f. f.time) c.front-front.ensures.value in omega arith
