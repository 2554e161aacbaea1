use Rattle.std.proofs.Common.{◌≡◌, ℕ, ◌+◌, ◌*◌, ◌<◌, ◌≤◌, List, drop, length, ap, ◌∙◌, arith, get_or, Some}
use Rattle.std.specs.Prelude.{sum_by, slice_get}
use Rattle.std.proofs.lemmas.List.{drop_more}
use Rattle.std.proofs.lemmas.List.Sums.{sum_by-cons}
use Rattle.std.proofs.lemmas.Option.{slice_get-get_or}
use Rattle.stop_schedule.specs.Bounds.{AreSmallStops}
use Rattle.stop_schedule.specs.Times.{taking}
use Rattle.stop_schedule.specs.declared.stop.SeatKind.{SeatKind}
use Rattle.stop_schedule.specs.declared.stop.SeatKind.TheVariants.{Seat, Space}
use Rattle.stop_schedule.specs.declared.stop.Stop.{Stop}
use Rattle.stop_schedule.specs.declared.stop.StopKind.{StopKind}
use Rattle.stop_schedule.specs.declared.stop.StopKind.TheVariants.{Pickup}

-- what is read past the end of a list
abbrev pub no_stop : Stop
no_stop = record { node = record { 0 = 0 }; kind = Pickup; no = record { 0 = 0 }; riders = 0; ready = 0; limit = 0; spaces = 0 }

-- what a function of a stop and its kind gives at a stop
abbrev pub at_kind : (Stop → StopKind → ℕ) → Stop → ℕ
at_kind f s = f s s.kind

-- one stop moves from those to come to those that were counted
pub counts_one : (f : Stop → StopKind → ℕ) (kind : StopKind) (stops : List Stop) (k n new total : ℕ) → k < length stops → (get_or stops k no_stop).kind ≡ kind → new ≡ n + f (get_or stops k no_stop) kind → n + sum_by (at_kind f) (drop k stops) ≡ total → new + sum_by (at_kind f) (drop (k + 1) stops) ≡ total
counts_one f kind stops k n new total lt is e h =
    let same : at_kind f (get_or stops k no_stop) ≡ f (get_or stops k no_stop) kind = ap (f (get_or stops k no_stop)) is in
    let s : sum_by (at_kind f) (drop k stops) ≡ at_kind f (get_or stops k no_stop) + sum_by (at_kind f) (drop (k + 1) stops) = ap (sum_by (at_kind f)) (drop_more stops k no_stop lt) ∙ sum_by-cons (at_kind f) (get_or stops k no_stop) (drop (k + 1) stops) in
    omega arith

-- one stop more brings at most 16 riders more, where each has so few
pub few_more : (seat : SeatKind) (stops : List Stop) (k n new : ℕ) → k < length stops → ((l : ℕ) (s : Stop) → slice_get stops l ≡ Some s → taking seat s ≤ 16) → new ≡ n + taking seat (get_or stops k no_stop) → n ≤ 16 * k → new ≤ 16 * (k + 1)
few_more seat stops k n new lt small e le =
    let few : taking seat (get_or stops k no_stop) ≤ 16 = small k (get_or stops k no_stop) (slice_get-get_or stops k no_stop lt) in
    omega arith

-- no small stop has more, of either kind
pub few_taking : (seat : SeatKind) (stops : List Stop) → AreSmallStops stops → (l : ℕ) (s : Stop) → slice_get stops l ≡ Some s → taking seat s ≤ 16
few_taking Seat stops small l s e = (small l s e).riders
few_taking Space stops small l s e = (small l s e).spaces
