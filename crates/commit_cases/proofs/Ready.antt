use Rattle.std.proofs.Common.{◌≡◌, ℕ, ◌+◌, ◌<◌, ◌≤◌, ◌⊎◌, inl, inr, List, get_or, length, Some, sym, ap, ◌∙◌, subst, arith}
use Rattle.std.specs.Prelude.{slice_get}
use Rattle.std.proofs.lemmas.Bool.{cases_lt}
use Rattle.std.proofs.lemmas.Option.{slice_get_within, get_or_from_slice_get}
use Rattle.interleave_core.specs.declared.event.Event.{Event}
use Rattle.interleave_core.specs.Worlds.{IsEventFor}

-- one more event that may be played
pub more_for : (actors : ℕ) (events : List Event) (i : ℕ) (d : Event) → ((k : ℕ) (e : Event) → slice_get events k ≡ Some e → k < i → IsEventFor actors e) → IsEventFor actors (get_or events i d)
    → (k : ℕ) (e : Event) → slice_get events k ≡ Some e → k < i + 1 → IsEventFor actors e
more_for actors events i d before here k e at lt = elim (cases_lt k i) [
  | inl l ↦ before k e at l
  | inr r ↦ (let same : k ≡ i = omega (arith, lt, r) in
      subst (λ (x : Event). IsEventFor actors x) (get_or_from_slice_get events i e d (ap (λ (n : ℕ). slice_get events n) (sym same) ∙ at)) here)
]
