use Rattle.std.specs.Prelude.{◌≡◌, ℕ, ◌==◌, Bool, true, false, List, [], ◌∷◌, map, Option, Some, None, is_some, refl}
use mathlib.Core.Path.{ap}
use mathlib.Core.Bool.{false≢true}
use Rattle.road_graph.specs.Roads.{Roads}
use Rattle.insertion_cost.specs.declared.decision.Decision.TheVariants.{Nobody}
use Rattle.insertion_cost.specs.Offers.{NoOffer}
use Rattle.board_core.specs.declared.entry.CancelReason.TheVariants as why
use Rattle.board_core.specs.declared.entry.Cancelled.TheVariants.{Refused as Declined}
use Rattle.board_core.specs.declared.entry.Submitted.TheVariants.{Accepted}
use Rattle.board_core.specs.declared.entry.Entry.{Entry}
use Rattle.board_core.specs.declared.entry.Entry.TheVariants.{Submit, Claim, Back, Commit, Cancel, Shut}
use Rattle.board_core.specs.Boards.{Board}
use Rattle.board_core.specs.NotedHistories.{IsNotedBy, LegalNoted, ends_claim, holds_claim}
use Rattle.board_core.specs.Samples.{idle, now, numbered, one, waits}

-- Desk 7 claims request 1 and gives it back, and desk 8 claims it and finds nobody. Desk 0 submits, asks for a cancellation and shuts.
abbrev by_two : List (ℕ × Entry)
by_two =
    (0, Submit one Accepted) ∷ (7, Claim one.no 7) ∷ (7, Back one.no) ∷ (8, Claim one.no 8)
    ∷ (0, Cancel one.no (Declined why.Waiting)) ∷ (8, Commit one.no Nobody) ∷ (0, Shut) ∷ []

abbrev held : ℕ → Option ℕ → Board
held version holder = now version 0 false (idle ∷ []) (waits one holder ∷ []) []

abbrev answered : ℕ → Bool → Board
answered version closed = now version 0 closed (idle ∷ []) [] ((one.no, Nobody) ∷ [])

day_of_two : (g : Roads) → NoOffer g (held 5 (Some 8)).fleet one
    → LegalNoted g (now 0 0 false (idle ∷ []) [] []) by_two (answered 7 true)
day_of_two g none = (
  held 1 None,
  tt,
  (refl, refl),
  (
    held 2 (Some 7),
    refl,
    (waits one None, refl, refl, refl),
    (
      held 3 None,
      refl,
      (waits one (Some 7), refl, refl, refl),
      (
        held 4 (Some 8),
        refl,
        (waits one None, refl, refl, refl),
        (
          held 5 (Some 8),
          tt,
          (refl, refl),
          (
            answered 6 false,
            refl,
            record { waits = waits one (Some 8); waiting = refl; none = none; leads_to = refl },
            (answered 7 true, tt, (refl, refl), refl),
          ),
        ),
      ),
    ),
  ),
)

-- desk 7 gave its claim back, and desk 8 holds its own until it answers
claims_of_two : map (λ (n : ℕ). holds_claim n one.no ((0, Submit one Accepted) ∷ (7, Claim one.no 7) ∷ (7, Back one.no) ∷ (8, Claim one.no 8) ∷ [])) (0 ∷ 7 ∷ 8 ∷ [])
    ≡ false ∷ false ∷ true ∷ []
claims_of_two = refl

answered_claim : holds_claim 8 one.no by_two ≡ false
answered_claim = refl

-- a claim of another number, or of another desk, tells nothing of it
other_claims : map (λ (n : ℕ). holds_claim 7 (numbered n) ((7, Claim (numbered 1) 7) ∷ (7, Back (numbered 2)) ∷ (8, Back (numbered 1)) ∷ [])) (1 ∷ 2 ∷ []) ≡ true ∷ false ∷ []
other_claims = refl

ends : map (λ (n : ℕ). ends_claim n one.no by_two) (0 ∷ 7 ∷ 8 ∷ []) ≡ false ∷ true ∷ true ∷ []
ends = refl

-- ---- what desks may not note

abbrev Unlawful : Roads → Board → ℕ → Entry → Type 0
Unlawful g b desk e = (last : Board) → LegalNoted g b ((desk, e) ∷ []) last → ⊥

-- an answer and a give back by another desk than the holder, a claim in another one's name, and an answer to a number that has one
unlawful_notes : (g : Roads)
    → Unlawful g (held 5 (Some 8)) 7 (Commit one.no Nobody) × Unlawful g (held 5 (Some 8)) 0 (Back one.no)
    × Unlawful g (held 1 None) 7 (Claim one.no 8) × Unlawful g (answered 6 false) 8 (Commit one.no Nobody)
unlawful_notes g = (
  λ last h. false≢true (ap (λ (n : ℕ). n == 7) h.1),
  λ last h. false≢true (ap (λ (n : ℕ). n == 0) h.1),
  λ last h. false≢true (ap (λ (n : ℕ). n == 7) h.1),
  λ last h. false≢true (ap is_some h.2.waiting),
)

-- any desk may cancel what another one holds, and may answer what none holds
any_desk : (g : Roads) → IsNotedBy (held 5 (Some 8)) 3 (Cancel one.no (Declined why.Waiting)) × IsNotedBy (held 1 None) 3 (Commit one.no Nobody)
any_desk g = (tt, tt)
