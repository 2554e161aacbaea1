use Rattle.std.specs.Prelude.{◌≡◌, ℕ, ◌+◌, ◌*◌, ◌<◌, ◌≤◌, ◌^◌, List, [], ◌∷◌, ◌++◌, codes, refl}
use Rattle.std.specs.Fmt.{decimal}
use Rattle.insertion_cost.specs.declared.decision.Decision.{Decision}
use Rattle.insertion_cost.specs.declared.decision.Decision.TheVariants.{Assigned, Nobody}
use Rattle.board_core.specs.declared.entry.Advanced.TheVariants.{Moved, Back as Behind}
use Rattle.board_core.specs.declared.entry.CancelReason.TheVariants.{Unknown}
use Rattle.board_core.specs.declared.entry.Cancelled.TheVariants.{Refused as Declined}
use Rattle.board_core.specs.declared.entry.Reason.TheVariants.{Repeated}
use Rattle.board_core.specs.declared.entry.Submitted.TheVariants.{Accepted, Refused}
use Rattle.board_core.specs.declared.entry.Entry.{Entry}
use Rattle.board_core.specs.declared.entry.Entry.TheVariants.{Submit, Claim, Back, Commit, Advance, Cancel, Shut}
use Rattle.board_core.specs.Samples.{one, two, taken, given, turning}
use Rattle.dispatch_top.specs.declared.sums.Sums.{Sums}

-- What is counted of a history: its requests, their answers, and what those cost.

abbrev pub no_sums : Sums
no_sums = record { requests = 0; assigned = 0; nobody = 0; cost = 0 }

-- with one more request, whether it was accepted or refused
abbrev pub with_request : Sums → Sums
with_request sums = record sums { requests = sums.requests + 1 }

-- with one more answer
abbrev pub with_answer : Decision → Sums → Sums
with_answer (Assigned a) sums = record sums { assigned = sums.assigned + 1; cost = sums.cost + a.offer.cost }
with_answer Nobody sums = record sums { nobody = sums.nobody + 1 }

-- with one more entry
abbrev pub counted : Entry → Sums → Sums
counted (Submit r submitted) sums = with_request sums
counted (Claim number desk) sums = sums
counted (Back number) sums = sums
counted (Commit number decision) sums = with_answer decision sums
counted (Advance now advanced) sums = sums
counted (Cancel number cancelled) sums = sums
counted Shut sums = sums

-- with all entries of a history, in their order
abbrev pub counted_on : Sums → List Entry → Sums
counted_on sums [] = sums
counted_on sums (e ∷ entries) = counted_on (counted e sums) entries

abbrev pub sums_of : List Entry → Sums
sums_of history = counted_on no_sums history

-- a name and a number on a line
abbrev pub sum_line : (name : List ℕ) → ℕ → List ℕ
sum_line name n = name ++ 32 ∷ decimal n ++ 10 ∷ []

abbrev pub sums_text : Sums → List ℕ
sums_text s = sum_line (codes "requests") s.requests ++ sum_line (codes "assigned") s.assigned ++ sum_line (codes "nobody") s.nobody ++ sum_line (codes "cost") s.cost

-- they are no more than those of n entries can be
pub record AreFew (n : ℕ) (sums : Sums) : Type 0 where
  pub requests : sums.requests ≤ n
  pub assigned : sums.assigned ≤ n
  pub nobody : sums.nobody ≤ n
  pub cost : sums.cost ≤ n * 2 ^ 64

-- one more can be counted
abbrev pub HasRoom : Sums → Type 0
HasRoom sums = (n : ℕ) × (n < 2 ^ 63) × AreFew n sums

-- One request was answered, one got nobody, and one was refused: each counts as a request.
one_of_each : sums_of (Advance 40 (Moved []) ∷ Submit one Accepted ∷ Commit one.no (Assigned taken) ∷ Submit two Accepted ∷ Commit two.no Nobody ∷ Submit two (Refused Repeated) ∷ [])
    ≡ record { requests = 3; assigned = 1; nobody = 1; cost = 36 }
one_of_each = refl

-- the costs of both offers are added up
two_offers : sums_of (Submit one Accepted ∷ Commit one.no (Assigned given) ∷ Submit two Accepted ∷ Commit two.no (Assigned turning) ∷ []) ≡ record { requests = 2; assigned = 2; nobody = 0; cost = 95 }
two_offers = refl

-- moves of the clock and cancellations count nothing
nothing_counts : sums_of (Advance 5 (Behind 7) ∷ Cancel one.no (Declined Unknown) ∷ []) ≡ no_sums
nothing_counts = refl

no_history : sums_of [] ≡ record { requests = 0; assigned = 0; nobody = 0; cost = 0 }
no_history = refl
