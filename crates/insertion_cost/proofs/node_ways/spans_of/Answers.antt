use Rattle.std.proofs.Common.{Option, ℕ, sym, subst, refl, ◌∙◌, arith}
use Rattle.insertion_cost.proofs.SpansOf.{IsOut, not_into, not_out, not_on, not_in, out_some, out_none, spans_together, spans_apart}
use Rattle.insertion_cost.proofs.node_ways.spans_of.Goals as goal
use Rattle.insertion_cost.proofs.node_ways.spans_of.Goals.{then-at-ways+in_ok-ways, else-at-ways}

pub returns-in_err-before_pickup-clause-exact : goal.returns-in_err-before_pickup-clause-exact
returns-in_err-before_pickup-clause-exact c =
    rw c.from_residual.ensures (λ g r front stops along. not_into g r front stops c.args.direct c.args.ways.now c.args.at along c.requires.order c.requires.within c.in_err-before_pickup.was)

pub returns-in_err-ways-clause-exact : goal.returns-in_err-ways-clause-exact
returns-in_err-ways-clause-exact c =
    rw c.from_residual-in_err-ways.ensures (λ g r front stops along. not_out g r front stops c.args.direct c.args.ways.now c.args.at along c.requires.order c.requires.within c.if-at-ways.true c.in_err-ways.was)

pub returns-then-at-clause-exact : goal.returns-then-at-clause-exact
returns-then-at-clause-exact c =
    λ g r front stops along. spans_together g r front stops c.args.direct c.args.ways.now c.args.at along c.requires.order c.requires.within c.in_ok-before_pickup.before_pickup c.if-at-ways.after_dropoff c.if-at.true c.in_ok-before_pickup.was
    (elim c.if-at-ways.branch [
      | then-at-ways+in_ok-ways w ↦ subst (λ (o : Option ℕ). IsOut g stops front r c.args.at o) (sym w.after_dropoff-is) (out_some g r front stops c.args.direct c.args.ways.now c.args.at along c.requires.order c.requires.within w.in_ok-ways.field-0 w.if-at-ways.true w.in_ok-ways.was)
      | else-at-ways w ↦ subst (λ (o : Option ℕ). IsOut g stops front r c.args.at o) (sym w.after_dropoff-is) (out_none g r front stops c.args.direct c.args.ways.now c.args.at along c.requires.order c.requires.within w.if-at-ways.false)
    ])

pub returns-in_err-after_pickup-clause-exact : goal.returns-in_err-after_pickup-clause-exact
returns-in_err-after_pickup-clause-exact c =
    rw c.from_residual-in_err-after_pickup.ensures (λ g r front stops along. not_on g r front stops c.args.direct c.args.ways.now c.args.at along c.requires.order c.requires.within c.if-at.false c.in_err-after_pickup.was)

pub returns-in_err-before_dropoff-clause-exact : goal.returns-in_err-before_dropoff-clause-exact
returns-in_err-before_dropoff-clause-exact c =
    rw c.from_residual-in_err-before_dropoff.ensures (λ g r front stops along. not_in g r front stops c.args.direct c.args.ways.now c.args.at along c.requires.order c.requires.within c.if-at.false c.in_err-before_dropoff.was)

pub returns-clause-exact : goal.returns-clause-exact
returns-clause-exact c =
    λ g r front stops along. spans_apart g r front stops c.args.direct c.args.ways.now c.args.at along c.requires.order c.requires.within c.in_ok-before_pickup.before_pickup c.in_ok-after_pickup.after_pickup c.in_ok-before_dropoff.before_dropoff c.if-at-ways.after_dropoff c.if-at.false c.in_ok-before_pickup.was c.in_ok-after_pickup.was c.in_ok-before_dropoff.was
    (elim c.if-at-ways.branch [
      | then-at-ways+in_ok-ways w ↦ subst (λ (o : Option ℕ). IsOut g stops front r c.args.at o) (sym w.after_dropoff-is) (out_some g r front stops c.args.direct c.args.ways.now c.args.at along c.requires.order c.requires.within w.in_ok-ways.field-0 w.if-at-ways.true w.in_ok-ways.was)
      | else-at-ways w ↦ subst (λ (o : Option ℕ). IsOut g stops front r c.args.at o) (sym w.after_dropoff-is) (out_none g r front stops c.args.direct c.args.ways.now c.args.at along c.requires.order c.requires.within w.if-at-ways.false)
    ])

pub returns-then-at-clause-read_off : goal.returns-then-at-clause-read_off
returns-then-at-clause-read_off c = record {
  into = c.in_ok-before_pickup.was;
  onto = λ l. absurd (let same = c.if-at.true in omega arith);
  directly = λ e. refl;
  back = λ l. absurd (let same = c.if-at.true in omega arith);
  out = λ l. elim c.if-at-ways.branch [
    | then-at-ways+in_ok-ways w ↦ w.in_ok-ways.was ∙ sym w.after_dropoff-is
    | else-at-ways w ↦ absurd (let not = w.if-at-ways.false in omega arith)
  ];
}

pub returns-clause-read_off : goal.returns-clause-read_off
returns-clause-read_off c = record {
  into = c.in_ok-before_pickup.was;
  onto = λ l. c.in_ok-after_pickup.was;
  directly = λ e. absurd (c.if-at.false e);
  back = λ l. c.in_ok-before_dropoff.was;
  out = λ l. elim c.if-at-ways.branch [
    | then-at-ways+in_ok-ways w ↦ w.in_ok-ways.was ∙ sym w.after_dropoff-is
    | else-at-ways w ↦ absurd (let not = w.if-at-ways.false in omega arith)
  ];
}
