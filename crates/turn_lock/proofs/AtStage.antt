-- What a stage says of its desk stays true where the words or the list change.
use Rattle.std.proofs.Common.{◌≡◌, ◌≢◌, ◌⊎◌, ℕ, ◌+◌, ◌<◌, ◌≤◌, List, set, sym, ap, ◌∙◌, subst, inl, inr, ⊎_elim, arith, Option}
use mathlib.Core.Option.{none, some, some-injective}
use mathlib.Core.Option as maybe
use mathlib.Core.Logic.{dite}
use native.Mathlib.Decide.{ℕ_discrete}
use lib.ListN.{get_elem?}
use Rattle.atomic_table.proofs.Lists.{set_else}
use Rattle.turn_lock.specs.declared.view.Stage.{Stage}
use Rattle.turn_lock.specs.declared.view.Stage.TheVariants.{Free, Drawn, Joined, Waiting, Entered, Counted}
use Rattle.turn_lock.specs.declared.view.View.{View}
use Rattle.turn_lock.specs.declared.view.SeatView.{SeatView}
use Rattle.turn_lock.specs.declared.view.SeatView.TheVariants.{Living}
use Rattle.turn_lock.specs.declared.view.Key.{Key}
use Rattle.turn_lock.specs.Rule.{HasTicket, HasValue, AtStage, IsAtHome, IsOut}
use Rattle.turn_lock.proofs.SeatViews.{living_one, each_set}

module _ {E O : Type 0} where
  -- a ticket that is held is being served, or will be
  pub ticket_within : (list : List (ℕ × E)) (t n c m x : ℕ) (v : View E O) (s : Stage E) → AtStage list t n c m v s → HasTicket x s → (n ≤ x) × (x < t)
  ticket_within list t n c m x v Free a h = absurd h
  ticket_within list t n c m x v (Drawn d) a h = absurd h
  ticket_within list t n c m x v (Joined xs k ys) a h = absurd h
  ticket_within list t n c m x v (Waiting y) a h = let a₀ = a.0 in let a₁ = a.1 in let e : x ≡ y = h in (omega arith, omega arith)
  ticket_within list t n c m x v (Entered y l) a h = let a₀ = a.0 in let a₁ = a.1 in let e : x ≡ y = h in (omega arith, omega arith)
  ticket_within list t n c m x v (Counted y) a h = let a₀ = a.0 in let a₁ = a.1 in let e : x ≡ y = h in (omega arith, omega arith)

  -- who has the value has the ticket that is served
  pub value_ticket : (list : List (ℕ × E)) (t n c m : ℕ) (v : View E O) (s : Stage E) → AtStage list t n c m v s → HasValue s → HasTicket n s
  value_ticket list t n c m v Free a h = absurd h
  value_ticket list t n c m v (Drawn d) a h = absurd h
  value_ticket list t n c m v (Joined xs k ys) a h = absurd h
  value_ticket list t n c m v (Waiting y) a h = absurd h
  value_ticket list t n c m v (Entered y l) a h = sym a.0
  value_ticket list t n c m v (Counted y) a h = sym a.0

  pub one_more_ticket : (list : List (ℕ × E)) (t n c m : ℕ) (v : View E O) (s : Stage E) → AtStage list t n c m v s → AtStage list (t + 1) n c m v s
  one_more_ticket list t n c m v Free a = tt
  one_more_ticket list t n c m v (Drawn d) a = a
  one_more_ticket list t n c m v (Joined xs k ys) a = a
  one_more_ticket list t n c m v (Waiting y) a = (a.0, omega arith)
  one_more_ticket list t n c m v (Entered y l) a = (a.0, omega arith, a.2, a.3, a.4)
  one_more_ticket list t n c m v (Counted y) a = (a.0, omega arith, a.2, a.3, a.4)

  -- one turn more, for a desk without the ticket that was served
  pub one_more_turn : (list : List (ℕ × E)) (t n c m : ℕ) (v : View E O) (s : Stage E) → AtStage list t n c m v s → (HasTicket n s → ⊥) → AtStage list t (n + 1) c m v s
  one_more_turn list t n c m v Free a apart = tt
  one_more_turn list t n c m v (Drawn d) a apart = a
  one_more_turn list t n c m v (Joined xs k ys) a apart = a
  one_more_turn list t n c m v (Waiting y) a apart = let a₀ = a.0 in let ne : n ≢ y = apart in (omega arith, a.1)
  one_more_turn list t n c m v (Entered y l) a apart = absurd (apart (sym a.0))
  one_more_turn list t n c m v (Counted y) a apart = absurd (apart (sym a.0))

  -- another list and count, for a desk without the ticket that is served
  pub other_list : (list list' : List (ℕ × E)) (t n c c' m : ℕ) (v : View E O) (s : Stage E) → AtStage list t n c m v s → (HasTicket n s → ⊥) → AtStage list' t n c' m v s
  other_list list list' t n c c' m v Free a apart = tt
  other_list list list' t n c c' m v (Drawn d) a apart = a
  other_list list list' t n c c' m v (Joined xs k ys) a apart = a
  other_list list list' t n c c' m v (Waiting y) a apart = a
  other_list list list' t n c c' m v (Entered y l) a apart = absurd (apart (sym a.0))
  other_list list list' t n c c' m v (Counted y) a apart = absurd (apart (sym a.0))

  -- one desk more, for a desk that isn't the first
  pub one_more_desk : (list : List (ℕ × E)) (t n c m : ℕ) (v : View E O) (s : Stage E) → AtStage list t n c m v s → v.number ≢ 0 → AtStage list t n c (m + 1) v s
  one_more_desk list t n c m v Free a apart = tt
  one_more_desk list t n c m v (Drawn d) a apart = absurd (apart a.0)
  one_more_desk list t n c m v (Joined xs k ys) a apart = a
  one_more_desk list t n c m v (Waiting y) a apart = a
  one_more_desk list t n c m v (Entered y l) a apart = a
  one_more_desk list t n c m v (Counted y) a apart = a

  module _ {X : Type 0} (noted : X → List (ℕ × E)) (IsFrom : O → X → Type 0) (key : Key O) where
    -- the value stays where it is, where the desk that moves has it neither before nor after
    pub value_stays : (list : List (ℕ × E)) (n c id : ℕ) (home : maybe.Option (Option X)) (views : List (SeatView E O)) (v w : View E O) → get_elem? views id ≡ some (Living v)
        → (HasValue v.stage → ⊥) → (HasValue w.stage → ⊥) → IsAtHome noted IsFrom key list n c home views ⊎ IsOut home views
        → IsAtHome noted IsFrom key list n c home (set views id (Living w)) ⊎ IsOut home (set views id (Living w))
    value_stays list n c id home views v w at before after h = ⊎_elim
        (λ (a : IsAtHome noted IsFrom key list n c home views). inl (a.0, a.1, a.2, a.3, a.4, each_set (λ j u. HasValue u.stage → ⊥) views id w after (λ j u other there. a.5 j u there)))
        (λ (o : IsOut home views). inr (
          o.0,
          dite (ℕ_discrete o.1.0 id)
              (λ is. absurd (before (subst (λ (u : View E O). HasValue u.stage) (living_one o.1.1 v (some-injective (Living o.1.1) (Living v) (sym o.1.2 ∙ (ap (get_elem? views) is ∙ at)))) o.1.3)))
              (λ other. (o.1.0, o.1.1, set_else views id o.1.0 (Living w) other ∙ o.1.2, o.1.3)),
        ))
        h
