-- A lock whose one living desk has all numbers in its family.
use Rattle.std.proofs.Common.{◌≡◌, ℕ, ◌+◌, ◌≤◌, List, sym, ap, ◌∙◌, subst, ⊎_elim, arith, Option, Some}
use Rattle.std.specs.Prelude.{All}
use mathlib.Core.Option.{none, some, some-injective}
use mathlib.Core.Option as maybe
use mathlib.Core.Logic.{dite}
use native.Mathlib.Decide.{ℕ_discrete}
use lib.ListN.{get_elem?}
use Rattle.atomic_table.specs.Table.{Me, Final, Seen}
use Rattle.turn_lock.specs.declared.view.Stage.{Stage}
use Rattle.turn_lock.specs.declared.view.Stage.TheVariants.{Free}
use Rattle.turn_lock.specs.declared.view.View.{View}
use Rattle.turn_lock.specs.declared.view.SeatView.{SeatView}
use Rattle.turn_lock.specs.declared.view.SeatView.TheVariants.{Living}
use Rattle.turn_lock.specs.declared.view.Key.{Key}
use Rattle.atomic_table.specs.Seated.{TableId}
use Rattle.turn_lock.specs.Desks.{LockState}
use Rattle.turn_lock.specs.Views.{IsSeated}
use Rattle.turn_lock.specs.Noted.{InFamily}
use Rattle.turn_lock.specs.Rule.{HasValue, IsAtHome, IsOut, IsRuled}
use Rattle.turn_lock.proofs.SeatViews.{living_one}

module _ {E O X : Type 0} (noted : X → List (ℕ × E)) (IsFrom : O → X → Type 0) (key : Key O) where
  -- what the slot has at the end
  pub record Closes (v : View E O) (slot : Option X) : Type 0 where
    pub value : X
    pub slot_is : slot ≡ Some value
    pub origin : IsFrom key.origin.origin value
    pub list : noted value ≡ v.seen
    pub numbers : All (λ (e : ℕ × E). InFamily v.number v.family e.0) v.seen

  pub closes : (id : ℕ) (v : View E O) (ws : List ℕ) (xs : List (Option X)) (slot : Option X) → v.stage ≡ Free → v.family ≡ key.desks → Final (Seen (IsRuled noted IsFrom key) id (Living v)) ws xs
      → get_elem? xs 0 ≡ some slot → Closes v slot
  closes id v ws xs slot free whole last there =
      let r = last.1.0 in let at = last.1.1 in let k = r.kept in let f = k.each id v at in let few = k.few.1 in let ends = f.ends in
      let lone : (j : ℕ) (u : View E O) → get_elem? last.0.views j ≡ some (Living u) → u ≡ v = λ j u e. dite (ℕ_discrete j id)
      (λ is. living_one u v (some-injective (Living u) (Living v) (sym e ∙ (ap (get_elem? last.0.views) is ∙ at))))
      (λ other. let g = k.each j u e in let a = g.ends in let b = g.some in let c = f.some in absurd (⊎_elim (λ (h : v.number + v.family ≤ u.number). let z : ⊥ = omega arith in z) (λ (h : u.number + u.family ≤ v.number). let z : ⊥ = omega arith in z) (k.apart id j v u (λ q. other (sym q)) at e).0)) in
      let seen : v.seen ≡ r.list = ap (λ (u : View E O). u.seen) (sym (lone k.longest.0 k.longest.1 k.longest.2)) ∙ k.longest.3 in
      let home : IsAtHome noted IsFrom key r.list r.n r.c r.home last.0.views = ⊎_elim (λ (h : IsAtHome noted IsFrom key r.list r.n r.c r.home last.0.views). h)
      (λ (o : IsOut r.home last.0.views). absurd (subst (λ (s : Stage E). HasValue s) free (subst (λ (u : View E O). HasValue u.stage) (lone o.1.0 o.1.1 o.1.2) o.1.3))) k.value in
      let stays : get_elem? last.0.homes 0 ≡ some (some (Some home.0)) = ap (λ (hs : List (maybe.Option (Option X))). get_elem? hs 0) r.homes ∙ ap (λ (h : maybe.Option (Option X)). some h) home.1 in
      record {
        value = home.0;
        slot_is = some-injective slot (Some home.0) (sym there ∙ last.4 0 (Some home.0) stays);
        origin = home.3;
        list = home.2 ∙ sym seen;
        numbers = subst (λ (l : List (ℕ × E)). All (λ (e : ℕ × E). InFamily v.number v.family e.0) l) (sym seen) (λ i d h. let b = k.numbers i d h in (omega arith, omega arith));
      }

  -- the same of a desk's seat
  pub ended : (n f id : ℕ) (lock : LockState O) (seen : List (ℕ × E)) (z : TableId) (me : Me (Option X) (SeatView E O)) (ws : List ℕ) (xs : List (Option X)) (slot : Option X) → IsSeated n f lock seen z me → f ≡ key.desks
      → Final (Seen (IsRuled noted IsFrom key) id me.0) ws xs → get_elem? xs 0 ≡ some slot
      → (y : X) × (slot ≡ Some y) × IsFrom key.origin.origin y × (noted y ≡ seen) × All (λ (e : ℕ × E). InFamily n f e.0) seen
  ended n f id lock seen z me ws xs slot h whole last there =
      let here : me.0 ≡ Living h.view = ap (λ (m : Me (Option X) (SeatView E O)). m.0) h.me_is in
      let c = closes id h.view ws xs slot h.stage (h.family ∙ whole) (subst (λ (p : SeatView E O). Final (Seen (IsRuled noted IsFrom key) id p) ws xs) here last) there in
      (c.value, c.slot_is, c.origin, c.list ∙ h.seen_is, subst (λ (k : ℕ × ℕ × List (ℕ × E)). All (λ (e : ℕ × E). InFamily k.0 k.1 e.0) k.2) (λ i. (h.number i, h.family i, h.seen_is i)) c.numbers)
