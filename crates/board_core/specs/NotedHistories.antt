use Rattle.std.specs.Prelude.{◌≡◌, ℕ, ◌==◌, ◌&&◌, Bool, true, false, cond, List, [], ◌∷◌, map, Option, Some, None, IfSome}
use Rattle.std.specs.List.{list_any}
use Rattle.std.specs.Option.{unwrap_or}
use Rattle.ride_base.specs.declared.numbers.RequestNo.{RequestNo}
use Rattle.road_graph.specs.Roads.{Roads}
use Rattle.board_core.specs.declared.entry.Entry.{Entry}
use Rattle.board_core.specs.declared.entry.Entry.TheVariants.{Submit, Claim, Back, Commit, Advance, Cancel, Shut}
use Rattle.board_core.specs.Boards.{Board, Waiting, is_number, waiting_of}
use Rattle.board_core.specs.Steps.{Step}

-- Histories whose entries stand each with the number of the desk that noted it.

abbrev pub holder_in : Option Waiting → Option ℕ
holder_in None = None
holder_in (Some w) = w.holder

-- the desk that holds the request of a number, if the number waits and a desk does
abbrev pub holder_of : Board → RequestNo → Option ℕ
holder_of b number = holder_in (waiting_of b number)

-- no other desk holds the request of a number
abbrev pub NoOtherHolds : Board → (desk : ℕ) → RequestNo → Type 0
NoOtherHolds b desk number = IfSome (holder_of b number) (λ (holder : ℕ). holder ≡ desk)

-- A desk may note the entry: a claim names the desk itself, and where a desk holds a request, that desk alone gives it back or answers it.
abbrev pub IsNotedBy : Board → (desk : ℕ) → Entry → Type 0
IsNotedBy b desk (Submit r submitted) = Unit {0}
IsNotedBy b desk (Claim number holder) = holder ≡ desk
IsNotedBy b desk (Back number) = NoOtherHolds b desk number
IsNotedBy b desk (Commit number decision) = NoOtherHolds b desk number
IsNotedBy b desk (Advance now advanced) = Unit {0}
IsNotedBy b desk (Cancel number cancelled) = Unit {0}
IsNotedBy b desk Shut = Unit {0}

-- The entries are lawful one after another from the first board on, and each is noted by a desk that may note it.
abbrev pub LegalNoted : Roads → Board → List (ℕ × Entry) → Board → Type 0
LegalNoted g first [] last = last ≡ first
LegalNoted g first (e ∷ noted) last =
    (next : Board) × IsNotedBy first e.0 e.1 × Step g first e.1 next × LegalNoted g next noted last

-- the entries without their desks
abbrev pub entries_in : List (ℕ × Entry) → List Entry
entries_in noted = map (λ (e : ℕ × Entry). e.1) noted

-- ---- who holds a claim

-- what an entry says of its desk's claim of a number: it makes it, ends it, or says nothing
abbrev pub claim_told : RequestNo → Entry → Option Bool
claim_told number (Submit r submitted) = None
claim_told number (Claim n desk) = cond (is_number n number) (Some true) None
claim_told number (Back n) = cond (is_number n number) (Some false) None
claim_told number (Commit n decision) = cond (is_number n number) (Some false) None
claim_told number (Advance now advanced) = None
claim_told number (Cancel n cancelled) = None
claim_told number Shut = None

-- whether a desk holds the claim after an entry, where this says whether it held it before
abbrev pub holds_next : Bool → (desk : ℕ) → RequestNo → ℕ × Entry → Bool
holds_next held desk number e = cond (e.0 == desk) (unwrap_or (claim_told number e.1) held) held

abbrev pub holds_after : Bool → (desk : ℕ) → RequestNo → List (ℕ × Entry) → Bool
holds_after held desk number [] = held
holds_after held desk number (e ∷ noted) =
    holds_after (holds_next held desk number e) desk number noted

-- A desk holds the claim of a number: the last of its own Claim, Back and Commit entries on that number is a Claim.
abbrev pub holds_claim : (desk : ℕ) → RequestNo → List (ℕ × Entry) → Bool
holds_claim desk number noted = holds_after false desk number noted

-- whether an entry ends its desk's claim of a number
abbrev pub is_end_of : RequestNo → Entry → Bool
is_end_of number (Submit r submitted) = false
is_end_of number (Claim n desk) = false
is_end_of number (Back n) = is_number n number
is_end_of number (Commit n decision) = is_number n number
is_end_of number (Advance now advanced) = false
is_end_of number (Cancel n cancelled) = false
is_end_of number Shut = false

-- whether one of a desk's own entries ends its claim of a number
abbrev pub ends_claim : (desk : ℕ) → RequestNo → List (ℕ × Entry) → Bool
ends_claim desk number noted =
    list_any (λ (e : ℕ × Entry). (e.0 == desk) && is_end_of number e.1) noted
