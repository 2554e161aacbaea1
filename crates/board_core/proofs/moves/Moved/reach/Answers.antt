use Rattle.std.proofs.Common.{◌≡◌, ◌++◌, true, sym, ap, ◌∙◌, subst}
use Rattle.std.specs.Prelude.{slice_set}
use Rattle.std.proofs.lemmas.Option.{same_Some}
use Rattle.stop_schedule.specs.Fleets.{Car, IsChange, FitsChanged}
use Rattle.stop_schedule.specs.Keeping.{keeps}
use Rattle.stop_schedule.specs.Plans.{Plan}
use Rattle.stop_advance.specs.Advance.{advanced_in, served_by}
use Rattle.board_core.specs.Steps.{served_with}
use Rattle.board_core.proofs.moves.Moved.reach.Goals as goal

pub advanced-requires : goal.advanced-requires
advanced-requires g c = let old = c.get.result.now in let same : c.old.inside.schedule ≡ old.plan = ap (λ (k : Car). k.plan) (c.old.view_is ∙ c.car-old.ensures) in
    subst (λ (p : Plan). keeps c.args.params.now p ≡ true) (sym same) (c.requires.kept old c.get.ensures)

pub moved-requires : goal.moved-requires
moved-requires g c = let old = c.get.result.now in let F = g.I.FleetIndex.fits c.args.self.now.index in
    let same : c.old.inside.schedule ≡ old.plan = ap (λ (k : Car). k.plan) (c.old.view_is ∙ c.car-old.ensures) in
    let new : c.in_ok-schedule.schedule ≡ advanced_in c.args.params.now old.plan c.args.now = c.in_ok-schedule.ensures.schedule ∙ ap (λ (p : Plan). advanced_in c.args.params.now p c.args.now) same in
    subst (λ (p : Plan). IsChange F c.args.params.now c.args.place p c.in_ok-schedule.schedule) (sym same)
    (subst (λ (p : Plan). IsChange F c.args.params.now c.args.place old.plan p) (sym new) (c.requires.change old c.get.ensures))

pub returns-clause-ok : goal.returns-clause-ok
returns-clause-ok g c = λ car e.
    let F = g.I.FleetIndex.fits c.args.self.now.index in let G = g.I.FleetIndex.fits c.in_ok-index.index in
    let same : c.get.result.now ≡ car = same_Some _ _ (sym c.get.ensures ∙ e) in
    let plan : c.old.inside.schedule ≡ car.plan = ap (λ (k : Car). k.plan) (c.old.view_is ∙ c.car-old.ensures ∙ same) in
    let number : c.old.inside.no ≡ car.no = ap (λ (k : Car). k.no) (c.old.view_is ∙ c.car-old.ensures ∙ same) in
    let new : c.in_ok-schedule.schedule ≡ advanced_in c.args.params.now car.plan c.args.now = c.in_ok-schedule.ensures.schedule ∙ ap (λ (p : Plan). advanced_in c.args.params.now p c.args.now) plan in
    let told : c.as_slice.result.now ≡ served_by c.args.params.now car.plan c.args.now = c.as_slice.ensures ∙ c.in_ok-schedule.ensures.served ∙ ap (λ (p : Plan). served_by c.args.params.now p c.args.now) plan in
    record {
      cars_are = c.in_ok-set.ensures.changed ∙ ap (slice_set c.args.self.now.cars c.args.place) (c.in_ok-new.ensures ∙ made number new);
      told_are = c.in_ok-add_served.ensures ∙ ap (λ l. c.args.self.now.served ++ l) (ap (λ n. served_with n c.as_slice.result.now) number ∙ ap (served_with car.no) told);
      fits = subst (λ (p : Plan). FitsChanged F G c.args.params.now c.args.place p (advanced_in c.args.params.now car.plan c.args.now)) plan
          (subst (FitsChanged F G c.args.params.now c.args.place c.old.inside.schedule) new c.in_ok-index.ensures.fits);
    }
  where
    made : {n m : _} {p q : Plan} {s : _} → n ≡ m → p ≡ q → (let k : Car = record { no = n; plan = p; stamp = s } in k) ≡ record { no = m; plan = q; stamp = s }
    made a b = cc
