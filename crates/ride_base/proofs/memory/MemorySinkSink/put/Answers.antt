use Rattle.std.proofs.Common.{◌≡◌, ℕ, ◌-◌, ◌++◌, take, length, ◌∙◌, sym, ap, rules, arith, refl, inl, inr}
use Rattle.std.specs.Prelude.{◌==◌}
use Rattle.std.specs.List.{list_any}
use Rattle.std.proofs.lemmas.Bool.{eq-eqb}
use Rattle.ride_base.specs.Outside.{raised}
use Rattle.ride_base.proofs.Stored.{put_failed, put_took, either, neither, not_zero}
use Rattle.ride_base.proofs.memory.MemorySinkSink.put.Goals.{then-contains-via-then-contains, then-contains-via-else-contains+then-left-eq0}
use Rattle.ride_base.proofs.memory.MemorySinkSink.put.Goals as goal

pub returns-then-contains-clause-exact : goal.returns-then-contains-clause-exact
returns-then-contains-clause-exact c =
    let listed : list_any (λ (call : ℕ). call == raised c.self.inside.puts) c.self.inside.failing ≡ c.contains.result =
    sym (c.contains.ensures.value ∙ ap (λ (n : ℕ). list_any (λ (call : ℕ). call == n) c.as_slice.result.now) c.saturating_add-self-inside.ensures ∙ ap (list_any (λ (call : ℕ). call == raised c.self.inside.puts)) c.as_slice.ensures) in
    rw (← c.self.view_is) (put_failed _ _ c.args.piece.now _
    (either _ _ (elim c.then-contains.branch [
      | then-contains-via-then-contains w ↦ inl (listed ∙ w.if-contains.true)
      | then-contains-via-else-contains+then-left-eq0 w ↦ inr (eq-eqb (c.self.inside.room - length c.self.inside.taken.items) 0 (let e = w.if-left-eq0.true in omega arith))
    ]))
    refl (search rules))

pub returns-clause-exact : goal.returns-clause-exact
returns-clause-exact c =
    let listed : list_any (λ (call : ℕ). call == raised c.self.inside.puts) c.self.inside.failing ≡ c.contains.result =
    sym (c.contains.ensures.value ∙ ap (λ (n : ℕ). list_any (λ (call : ℕ). call == n) c.as_slice.result.now) c.saturating_add-self-inside.ensures ∙ ap (list_any (λ (call : ℕ). call == raised c.self.inside.puts)) c.as_slice.ensures) in
    rw (← c.self.view_is) (put_took _ _ c.args.piece.now c.min-count.result (neither _ _ (listed ∙ c.if-contains.false) (let e = c.if-left-eq0.false in not_zero (c.self.inside.room - length c.self.inside.taken.items) (grind arith))) (search rules) (let taken : c.extend_from_slice.new.self.items ≡ c.self.inside.taken.items ++ take c.min-count.result c.args.piece.now = search rules in search rules))
