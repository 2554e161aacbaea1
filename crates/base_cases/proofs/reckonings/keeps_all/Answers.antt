use Rattle.std.proofs.Common.{◌≡◌, ◌<◌, length, ap, arith}
use Rattle.stop_schedule.proofs.TimeLaws.{read_at}
use Rattle.stop_schedule.proofs.ListLaws.{no_stop}
use Rattle.base_cases.proofs.Kept.{one_more, seated_at, in_time_at}
use Rattle.base_cases.proofs.reckonings.keeps_all.Goals as goal

pub loop-k-preserved : goal.loop-k-preserved
loop-k-preserved c =
    let p = c.args.list.now in
    let k = c.loop-k.k in
    let many = ap length c.stops-count.ensures.value in
    let within : k < length p.stops = (let more = c.loop-k-test.true in omega arith) in
    let there = read_at c.stops.result.now p.stops k no_stop c.stops.ensures.value within in
    record {
      within = omega arith;
      seated = one_more k _ c.loop-k.invariant.seated (seated_at p k (let e = c.aboard.ensures in let f = c.seats.ensures in let l = c.if-aboard-seats.false in omega arith) (let e = c.aboard_spaces.ensures in let f = c.spaces.ensures in let l = c.if-aboard_spaces-spaces.false in omega arith));
      in_time = one_more k _ c.loop-k.invariant.in_time (in_time_at c.args.params.now.stop p k c.arr.result c.dep.result _ there c.arr.ensures.value c.dep.ensures.value (let e = c.kept_time-time.ensures in let l = c.if-time-stop.false in omega arith));
    }
