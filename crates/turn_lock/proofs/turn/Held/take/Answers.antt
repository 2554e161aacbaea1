use Rattle.std.proofs.Common.{sym, ap, ◌∙◌, subst, Option}
use Rattle.turn_lock.specs.Views.{is_taken, IsHeld}
use Rattle.turn_lock.proofs.IsSeated.{some_left, stands_for}
use Rattle.turn_lock.proofs.turn.Held.take.Goals as goal

pub unwrap-requires : goal.unwrap-requires
unwrap-requires g c = rw c.take.ensures.value (some_left c.self.inside.value (ap (λ h. h.taken) c.self.view_is ∙ c.requires))

pub invariant_of-self : goal.invariant_of-self
invariant_of-self g c = let i = c.self.inside in
    subst (λ (slot : Option g.row.V.Denot). IsHeld g.V.Recorded.noted g.V.Recorded.IsFrom i.number i.family i.entered i.chair.me slot) (sym c.take.ensures.after) record { turn = c.self.invariant.turn; stands = tt }

pub returns : goal.returns
returns g c = let i = c.self.inside in
    let s = stands_for g.V.Recorded.noted g.V.Recorded.IsFrom i.number i.family i.entered i.chair.table_id i.chair.me i.value c.unwrap.result c.args.self.now c.self.invariant c.self.view_is (sym c.take.ensures.value ∙ c.unwrap.ensures) in
    record { turn = λ j. record { desk = (c.self.view_is j).desk; list = (c.self.view_is j).list; taken = is_taken (c.take.ensures.after j) }; list = s.0; origin = s.1 }
