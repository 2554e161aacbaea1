use Rattle.std.proofs.Common.{◌≡◌, ℕ, List, [], ◌∷◌, Bool, true, false, cond, Some, refl, sym, ap, ◌∙◌}
use Rattle.std.specs.Prelude.{IsSome}
use Rattle.std.proofs.lemmas.Bool.{eq-eqb}
use Rattle.ride_base.specs.declared.numbers.RequestNo.{RequestNo}
use Rattle.road_graph.specs.Roads.{Roads}
use Rattle.stop_schedule.specs.declared.request.Request.{Request}
use Rattle.board_core.specs.declared.waiting.Waiting.{Waiting}
use Rattle.board_core.specs.Boards.{Board, is_number, is_unheld, unheld_in, waiting_in, waiting_of, with_holder}
use Rattle.board_core.specs.BoardViews.{IsClaimed, IsHeld}

-- What a desk claimed is held.

-- a request of this number waits among others, and a desk holds it
abbrev IsHeldIn : List Waiting → RequestNo → Type 0
IsHeldIn waiting number = (w : Waiting) × (waiting_in waiting number ≡ Some w) × IsSome w.holder

same_number : (a b : RequestNo) → a ≡ b → is_number a b ≡ true
same_number a b h = eq-eqb a.0 b.0 (ap (λ (n : RequestNo). n.0) h)

held_in : (waiting : List Waiting) (number : RequestNo) (desk : ℕ) (w : Waiting) → unheld_in waiting ≡ Some w → w.request.no ≡ number → IsHeldIn (with_holder number (Some desk) waiting) number
held_in [] number desk w h s = cc
held_in (x ∷ waiting) number desk w h s = on (is_number x.request.no number) refl (is_unheld x) h (λ e. held_in waiting number desk w e s)
  where
    given : Waiting
    given = record x { holder = Some desk }

    on : (b : Bool) → is_number x.request.no number ≡ b → (u : Bool) → cond u (Some x) (unheld_in waiting) ≡ Some w → (unheld_in waiting ≡ Some w → IsHeldIn (with_holder number (Some desk) waiting) number)
        → (y : Waiting) × (cond (is_number (cond b (record x { holder = Some desk }) x).request.no number) (Some (cond b (record x { holder = Some desk }) x)) (waiting_in (with_holder number (Some desk) waiting) number) ≡ Some y) × IsSome y.holder
    on true e u f rest = (given, ap (λ (t : Bool). cond t (Some given) (waiting_in (with_holder number (Some desk) waiting) number)) e, refl)
    on false e false f rest =
        let r = rest f in
        (r.0, ap (λ (t : Bool). cond t (Some x) (waiting_in (with_holder number (Some desk) waiting) number)) e ∙ r.1, r.2)
    on false e true f rest =
        let same : x ≡ w = cc in
        let t : is_number x.request.no number ≡ true = same_number x.request.no number (ap (λ (y : Waiting). y.request.no) same ∙ s) in
        let bad : true ≡ false = sym t ∙ e in cc

no_roads : Roads
no_roads = record { nodes = 0; roads = [] }

-- the request that a desk got is held
pub held : (old new : Board) (desk : ℕ) (r : Request) → IsClaimed old desk (Some r) new → IsHeld new r.no
held old new desk r h =
    let entry = h.3 no_roads in
    let there = held_in old.waiting r.no desk entry.0 entry.1 entry.2 in
    (there.0, ap (λ (b : Board). waiting_of b r.no) entry.3 ∙ there.1, there.2)
