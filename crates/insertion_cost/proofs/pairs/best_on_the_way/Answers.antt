use Rattle.std.proofs.Common.{◌≡◌, ◌+◌, Option, true, subst, refl, arith}
use Rattle.insertion_cost.specs.declared.offer.Offer.{Offer}
use Rattle.insertion_cost.specs.OfferOrder.{IsFirstOfTwo}
use Rattle.insertion_cost.proofs.IsTried.{one_tried, rest_none}
use Rattle.insertion_cost.proofs.PricedBy.{few_riders, nobody_more, room_there}
use Rattle.insertion_cost.proofs.pairs.best_on_the_way.Goals as goal

pub has_room-requires-clause-on_seats : goal.has_room-requires-clause-on_seats
has_room-requires-clause-on_seats c = (few_riders c.args.params.now c.args.schedule.now c.args.rows.now c.loop-j.j c.behind_stop.result c.requires.rows c.requires.few c.loop-j.invariant.within c.behind_stop.ensures).0

pub has_room-requires-clause-off_seats : goal.has_room-requires-clause-off_seats
has_room-requires-clause-off_seats c = (few_riders c.args.params.now c.args.schedule.now c.args.rows.now c.loop-j.j c.behind_stop.result c.requires.rows c.requires.few c.loop-j.invariant.within c.behind_stop.ensures).1

pub has_room-requires-clause-in_spaces : goal.has_room-requires-clause-in_spaces
has_room-requires-clause-in_spaces c = (few_riders c.args.params.now c.args.schedule.now c.args.rows.now c.loop-j.j c.behind_stop.result c.requires.rows c.requires.few c.loop-j.invariant.within c.behind_stop.ensures).2

pub has_room-requires-clause-off_spaces : goal.has_room-requires-clause-off_spaces
has_room-requires-clause-off_spaces c = (few_riders c.args.params.now c.args.schedule.now c.args.rows.now c.loop-j.j c.behind_stop.result c.requires.rows c.requires.few c.loop-j.invariant.within c.behind_stop.ensures).3

pub returns-then-not-has_room : goal.returns-then-not-has_room
returns-then-not-has_room c = λ g front car by l is t.
    nobody_more g c.args.params.now c.args.vehicle c.args.schedule.now car front c.args.request.now is c.args.direct c.args.ways.now c.args.rows.now c.args.i c.args.taken.now.departure c.loop-j.j c.loop-j.way c.behind_stop.result c.loop-j.best
    by.along c.requires.rows (c.loop-j.invariant.led front l) c.loop-j.invariant.within c.behind_stop.ensures (λ h. let room : c.has_room.result ≡ true = c.has_room.ensures.1 h in let not = c.if-not-has_room.true in cc) (c.loop-j.invariant.tried g front car by l is t)

pub returns-in-None : goal.returns-in-None
returns-in-None c = λ g front car by l is t.
    let room = (room_there c.args.params.now c.args.schedule.now c.args.request.now c.args.rows.now c.loop-j.j c.behind_stop.result c.requires.rows c.loop-j.invariant.within c.behind_stop.ensures).0 (c.has_room.ensures.0 c.if-not-has_room.false) in
    rest_none g c.args.params.now c.args.vehicle c.args.schedule.now car front c.args.request.now is c.args.i (c.loop-j.j + 1) c.first_of_two-best.result
    (c.in-None.ensures.leads front c.args.request.now c.args.direct c.args.taken.now.departure (c.loop-j.invariant.led front l) room g by.along)
    (one_tried g c.args.params.now c.args.vehicle c.args.schedule.now car front c.args.request.now is c.args.i c.loop-j.j c.loop-j.best c.first_of_two-best.result c.priced_at-priced.result (c.loop-j.invariant.tried g front car by l is t)
    (c.priced_at-priced.ensures g front by (c.loop-j.invariant.led front l) room c.requires.few) (subst (λ (o : Option Offer). IsFirstOfTwo c.loop-j.best o c.first_of_two-best.result) c.offer_by.ensures c.first_of_two-best.ensures))

pub loop-j-preserved : goal.loop-j-preserved
loop-j-preserved c =
    let room = (room_there c.args.params.now c.args.schedule.now c.args.request.now c.args.rows.now c.loop-j.j c.behind_stop.result c.requires.rows c.loop-j.invariant.within c.behind_stop.ensures).0 (c.has_room.ensures.0 c.if-not-has_room.false) in
    record {
      order = let o = c.loop-j.invariant.order in omega arith;
      within = let l = c.in-Some.ensures.within refl in omega arith;
      soon = c.in-Some.ensures.soon;
      led = λ front l. c.in-Some.ensures.leads front c.args.request.now c.args.direct c.args.taken.now.departure (c.loop-j.invariant.led front l) room;
      tried = λ g front car by l is t. one_tried g c.args.params.now c.args.vehicle c.args.schedule.now car front c.args.request.now is c.args.i c.loop-j.j c.loop-j.best c.first_of_two-best.result c.priced_at-priced.result (c.loop-j.invariant.tried g front car by l is t)
          (c.priced_at-priced.ensures g front by (c.loop-j.invariant.led front l) room c.requires.few) (subst (λ (o : Option Offer). IsFirstOfTwo c.loop-j.best o c.first_of_two-best.result) c.offer_by.ensures c.first_of_two-best.ensures);
    }

pub returns : goal.returns
returns c = absurd (let many = c.requires.ways.many in let w = c.loop-j.invariant.within in let last = c.loop-j-test.false in omega arith)
