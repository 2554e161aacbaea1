-- One desk moves on, and the others stay: what the rule needs of such a step.
use Rattle.std.proofs.Common.{◌≡◌, ◌≢◌, ◌⊎◌, ℕ, zero, suc, ◌+◌, ◌^◌, ◌<◌, ◌≤◌, List, [], ◌∷◌, length, set, sym, ap, ◌∙◌, subst, inl, inr, ⊎_elim, arith, length-set, Option}
use Rattle.std.specs.Prelude.{All}
use mathlib.Core.Logic.{dite}
use mathlib.Core.Option.{none, some, some-injective, some-ne-none}
use mathlib.Core.Option as maybe
use native.Mathlib.Decide.{ℕ_discrete}
use lib.ListN.{get_elem?}
use Rattle.atomic_table.proofs.Lists.{at_set, set_here, set_else}
use Rattle.turn_lock.specs.declared.view.Stage.{Stage}
use Rattle.turn_lock.specs.declared.view.Stage.TheVariants.{Free, Drawn, Joined, Waiting, Entered, Counted}
use Rattle.turn_lock.specs.declared.view.View.{View}
use Rattle.turn_lock.specs.declared.view.SeatView.{SeatView}
use Rattle.turn_lock.specs.declared.view.SeatView.TheVariants.{Spent, Living}
use Rattle.turn_lock.specs.declared.view.Key.{Key}
use Rattle.turn_lock.specs.Noted.{InFamily}
use Rattle.turn_lock.specs.Rule.{HasTicket, tickets_at, tickets_of, tickets, Fits, AreDisjoint, AreApart, IsUnused, IsAtHome, IsOut, KeepsRule}

pub at_below : {A : Type 0} (xs : List A) (i : ℕ) (a : A) → get_elem? xs i ≡ some a → i < length xs
at_below [] i a e = absurd (some-ne-none a (sym e))
at_below (x ∷ xs) zero a e = omega arith
at_below (x ∷ xs) (suc i) a e = let h = at_below xs i a e in omega arith

module _ {E : Type 0} where
  tickets_le_one : (s : Stage E) → tickets_at s ≤ 1
  tickets_le_one Free = omega arith
  tickets_le_one (Drawn d) = omega arith
  tickets_le_one (Joined xs k ys) = omega arith
  tickets_le_one (Waiting x) = omega arith
  tickets_le_one (Entered x l) = omega arith
  tickets_le_one (Counted x) = omega arith

module _ {E O : Type 0} where
  pub living_one : (v w : View E O) → Living v ≡ Living w → v ≡ w
  living_one v w e = cc

  place_le_one : (p : SeatView E O) → tickets_of p ≤ 1
  place_le_one Spent = omega arith
  place_le_one (Living v) = tickets_le_one v.stage

  -- no more tickets than views
  pub tickets_le : (ps : List (SeatView E O)) → tickets ps ≤ length ps
  tickets_le [] = omega arith
  tickets_le (p ∷ ps) = let h = tickets_le ps in let k = place_le_one p in omega arith

  -- the tickets after one view changed
  pub tickets-set : (ps : List (SeatView E O)) (i : ℕ) (p q : SeatView E O) → get_elem? ps i ≡ some p → tickets (set ps i q) + tickets_of p ≡ tickets ps + tickets_of q
  tickets-set [] i p q e = absurd (some-ne-none p (sym e))
  tickets-set (x ∷ xs) zero p q e = let h : tickets_of x ≡ tickets_of p = ap tickets_of (some-injective x p e) in omega arith
  tickets-set (x ∷ xs) (suc i) p q e = let h = tickets-set xs i p q e in omega arith

  -- what holds of the desk that moves and of all others holds of all
  pub each_set : (P : ℕ → View E O → Type 0) (ps : List (SeatView E O)) (id : ℕ) (w : View E O) → P id w
      → ((j : ℕ) (u : View E O) → j ≢ id → get_elem? ps j ≡ some (Living u) → P j u)
      → (j : ℕ) (u : View E O) → get_elem? (set ps id (Living w)) j ≡ some (Living u) → P j u
  each_set P ps id w mine others j u e = ⊎_elim
      (λ (h : (j ≡ id) × (Living w ≡ Living u)). subst (λ (z : ℕ × View E O). P z.0 z.1) (λ i. (sym h.0 i, living_one w u h.1 i)) mine)
      (λ (h : (j ≢ id) × (get_elem? ps j ≡ some (Living u))). others j u h.0 h.1)
      (at_set ps id j (Living w) (Living u) e)

  -- a family stays where its desk moves
  family_stays : (v w u : View E O) → w.number ≡ v.number → w.family ≡ v.family → AreDisjoint v u → AreDisjoint w u
  family_stays v w u num fam h = ⊎_elim (λ (l : v.number + v.family ≤ u.number). inl (omega arith)) (λ (l : u.number + u.family ≤ v.number). inr (omega arith)) h

  pub flip : (v w : View E O) → AreDisjoint v w → AreDisjoint w v
  flip v w h = ⊎_elim (λ (l : v.number + v.family ≤ w.number). inr l) (λ (l : w.number + w.family ≤ v.number). inl l) h

  pub flip_apart : (v w : View E O) → AreApart v w → AreApart w v
  flip_apart v w h = (flip v w h.0, λ x a b. h.1 x b a)

  -- where the desk that moves is apart from all others, any two are
  apart_set : (ps : List (SeatView E O)) (id : ℕ) (w : View E O) → ((j : ℕ) (u : View E O) → j ≢ id → get_elem? ps j ≡ some (Living u) → AreApart w u)
      → ((i j : ℕ) (x y : View E O) → i ≢ j → get_elem? ps i ≡ some (Living x) → get_elem? ps j ≡ some (Living y) → AreApart x y)
      → (i j : ℕ) (x y : View E O) → i ≢ j → get_elem? (set ps id (Living w)) i ≡ some (Living x) → get_elem? (set ps id (Living w)) j ≡ some (Living y) → AreApart x y
  apart_set ps id w mine all i j x y ne at there = ⊎_elim
      (λ (h : (i ≡ id) × (Living w ≡ Living x)). ⊎_elim
      (λ (k : (j ≡ id) × (Living w ≡ Living y)). absurd (ne (h.0 ∙ sym k.0)))
      (λ (k : (j ≢ id) × (get_elem? ps j ≡ some (Living y))). subst (λ (z : View E O). AreApart z y) (living_one w x h.1) (mine j y k.0 k.1))
      (at_set ps id j (Living w) (Living y) there))
      (λ (h : (i ≢ id) × (get_elem? ps i ≡ some (Living x))). ⊎_elim
      (λ (k : (j ≡ id) × (Living w ≡ Living y)). subst (λ (z : View E O). AreApart x z) (living_one w y k.1) (flip_apart w x (mine i x h.0 h.1)))
      (λ (k : (j ≢ id) × (get_elem? ps j ≡ some (Living y))). all i j x y ne h.1 k.1)
      (at_set ps id j (Living w) (Living y) there))
      (at_set ps id i (Living w) (Living x) at)

  unused_stays : (list : List (ℕ × E)) (ps : List (SeatView E O)) (m d id : ℕ) (v w : View E O) → get_elem? ps id ≡ some (Living v) → w.number ≡ v.number → w.family ≡ v.family
      → IsUnused list ps m d → IsUnused list (set ps id (Living w)) m d
  unused_stays list ps m d id v w at num fam un = (
    un.0,
    (let e = length-set ps id (Living w) in let h = un.1 in omega arith),
    each_set (λ j u. InFamily u.number u.family d → ⊥) ps id w (λ (h : InFamily w.number w.family d). un.2 id v at (omega arith, omega arith)) (λ j u other there. un.2 j u there),
  )

  longest_set : (list list' : List (ℕ × E)) (ps : List (SeatView E O)) (id : ℕ) (v w : View E O) → get_elem? ps id ≡ some (Living v)
      → ((i : ℕ) × (u : View E O) × (get_elem? ps i ≡ some (Living u)) × (u.seen ≡ list)) → (w.seen ≡ list') ⊎ ((list' ≡ list) × (w.seen ≡ v.seen))
      → (i : ℕ) × (u : View E O) × (get_elem? (set ps id (Living w)) i ≡ some (Living u)) × (u.seen ≡ list')
  longest_set list list' ps id v w at old new =
      let here = set_here ps id (Living w) (at_below ps id (Living v) at) in ⊎_elim
      (λ (e : w.seen ≡ list'). (id, w, here, e))
      (λ (h : (list' ≡ list) × (w.seen ≡ v.seen)). dite (ℕ_discrete old.0 id)
      (λ is. let same : old.1 ≡ v = living_one old.1 v (some-injective (Living old.1) (Living v) (sym old.2 ∙ (ap (get_elem? ps) is ∙ at))) in
      (id, w, here, h.1 ∙ (ap (λ (u : View E O). u.seen) (sym same) ∙ (old.3 ∙ sym h.0))))
      (λ other. (old.0, old.1, set_else ps id old.0 (Living w) other ∙ old.2, old.3 ∙ sym h.0)))
      new

  module _ {X : Type 0} (noted : X → List (ℕ × E)) (IsFrom : O → X → Type 0) (key : Key O) where
    abbrev K : List (ℕ × E) → ℕ → ℕ → ℕ → ℕ → maybe.Option (Option X) → List (SeatView E O) → Type 0
    K = KeepsRule noted IsFrom key

    -- what a step of the desk id, from v to w, has to show
    pub record Moves (list : List (ℕ × E)) (t n c m : ℕ) (home : maybe.Option (Option X)) (views : List (SeatView E O)) (id : ℕ) (v w : View E O)
        (list' : List (ℕ × E)) (t' n' c' m' : ℕ) (home' : maybe.Option (Option X)) : Type 0 where
      pub number : w.number ≡ v.number
      pub family : w.family ≡ v.family
      pub few : (length views ≤ m') × (m' ≤ key.desks)
      pub turns : n' ≤ 2 ^ 62
      pub count : c' ≡ length list'
      pub ticket : n' + (tickets views + tickets_at w.stage) ≡ t' + tickets_at v.stage
      pub numbers : All (λ e. e.0 < m') list'
      pub mine : Fits key list' t' n' c' m' w
      pub others : (j : ℕ) (u : View E O) → j ≢ id → get_elem? views j ≡ some (Living u) → Fits key list' t' n' c' m' u
      pub alone : (j : ℕ) (u : View E O) (x : ℕ) → j ≢ id → get_elem? views j ≡ some (Living u) → HasTicket x w.stage → HasTicket x u.stage → ⊥
      pub drawn : (d : ℕ) → w.stage ≡ Drawn d → IsUnused list' views m' d
      pub drawn_else : (j : ℕ) (u : View E O) (d : ℕ) → j ≢ id → get_elem? views j ≡ some (Living u) → u.stage ≡ Drawn d → IsUnused list' views m' d
      pub longest : (w.seen ≡ list') ⊎ ((list' ≡ list) × (w.seen ≡ v.seen))
      pub value : IsAtHome noted IsFrom key list' n' c' home' (set views id (Living w)) ⊎ IsOut home' (set views id (Living w))

    pub moves : (list list' : List (ℕ × E)) (t n c m t' n' c' m' id : ℕ) (home home' : maybe.Option (Option X)) (views : List (SeatView E O)) (v w : View E O)
        → K list t n c m home views → get_elem? views id ≡ some (Living v) → Moves list t n c m home views id v w list' t' n' c' m' home'
        → K list' t' n' c' m' home' (set views id (Living w))
    moves list list' t n c m t' n' c' m' id home home' views v w k at s = let vs : List (SeatView E O) = set views id (Living w) in record {
      few = (let e = length-set views id (Living w) in let h = s.few in omega arith, s.few.1, k.few.2);
      turns = s.turns;
      count = s.count;
      ticket = let e = tickets-set views id (Living v) (Living w) at in let h = s.ticket in omega arith;
      numbers = s.numbers;
      each = each_set (λ j u. Fits key list' t' n' c' m' u) views id w s.mine (λ j u other there. s.others j u other there);
      apart = apart_set views id w
          (λ j u other there. (family_stays v w u s.number s.family (k.apart id j v u (λ e. other (sym e)) at there).0, λ x a b. s.alone j u x other there a b)) k.apart;
      drawn = λ i u d there is. each_set (λ j y. y.stage ≡ Drawn d → IsUnused list' vs m' d) views id w
          (λ e. unused_stays list' views m' d id v w at s.number s.family (s.drawn d e))
          (λ j y other at' e. unused_stays list' views m' d id v w at s.number s.family (s.drawn_else j y d other at' e)) i u there is;
      longest = longest_set list list' views id v w at k.longest s.longest;
      value = s.value;
    }
