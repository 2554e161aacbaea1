use Rattle.std.specs.Prelude.{ℕ, ◌==◌, ◌&&◌, nat_lt, cond, List, [], ◌∷◌, Option, Some, None, codes}
use Rattle.std.specs.Str.{bytes_eq}
use Rattle.ride_base.specs.declared.numbers.RequestNo.{RequestNo}
use Rattle.ride_base.specs.declared.numbers.VehicleNo.{VehicleNo}
use Rattle.road_graph.specs.declared.road.NodeNo.{NodeNo}
use Rattle.stop_schedule.specs.declared.stop.Insertion.{Insertion}
use Rattle.stop_schedule.specs.declared.stop.StopKind.{StopKind}
use Rattle.stop_schedule.specs.declared.stop.StopKind.TheVariants.{Pickup, Dropoff}
use Rattle.stop_advance.specs.declared.served.Served.{Served}
use Rattle.board_core.specs.declared.entry.Reason.{Reason}
use Rattle.board_core.specs.declared.entry.Reason.TheVariants.{Closed, Place, Riders, Moment, Repeated}
use Rattle.board_core.specs.declared.entry.CancelReason.{CancelReason}
use Rattle.board_core.specs.declared.entry.CancelReason.TheVariants as why
use Rattle.board_core.specs.declared.entry.Submitted.TheVariants.{Accepted}
use Rattle.journal_text.specs.declared.heads.RemovalHead.{RemovalHead}
use Rattle.journal_text.specs.declared.heads.Head.{Head}
use Rattle.journal_text.specs.declared.heads.Head.TheVariants.{Ride, Claim, Back, Offer, Nobody, Clock, Asked, Shut}
use Rattle.journal_text.specs.Forms.{largest_number, latest_clock, largest_32, largest_position}
use Rattle.journal_text.specs.LineParts.{and_then, behind_space_of, number_ahead}

-- What the lines of a journal say that no node stands on, by their parts one after another.

-- a value where nothing stands behind it
abbrev pub at_end : {X : Type 0} → X → List ℕ → Option X
at_end x [] = Some x
at_end x (b ∷ bs) = None

-- the number of a request, and nothing behind it
abbrev pub request_at_end : List ℕ → Option RequestNo
request_at_end bytes = and_then (number_ahead bytes largest_number) (λ (no : ℕ × List ℕ). at_end (record { 0 = no.0 }) no.1)

-- the wheelchair spaces at the end of a request: none where nothing is left, and else a number that isn't 0
abbrev pub spaces_at_end : List ℕ → Option ℕ
spaces_at_end [] = Some 0
spaces_at_end (b ∷ bs) = and_then (number_ahead (b ∷ bs) largest_32) (λ (spaces : ℕ × List ℕ). cond (spaces.0 == 0) None (at_end spaces.0 spaces.1))

-- ` ID P D T Q`, and ` S` where it isn't 0
abbrev pub ride_in : List ℕ → Option Head
ride_in bytes =
    and_then (number_ahead bytes largest_number) (λ (no : ℕ × List ℕ). and_then (number_ahead no.1 largest_32) (λ (pickup : ℕ × List ℕ).
    and_then (number_ahead pickup.1 largest_32) (λ (dropoff : ℕ × List ℕ). and_then (number_ahead dropoff.1 largest_number) (λ (moment : ℕ × List ℕ).
    and_then (number_ahead moment.1 largest_32) (λ (riders : ℕ × List ℕ). and_then (spaces_at_end riders.1) (λ (spaces : ℕ).
    Some (Ride (record { no = record { 0 = no.0 }; pickup = record { 0 = pickup.0 }; dropoff = record { 0 = dropoff.0 }; moment = moment.0; riders = riders.0; spaces = spaces }) Accepted)))))))

-- ` ID DESK`
abbrev pub claim_in : List ℕ → Option Head
claim_in bytes = and_then (number_ahead bytes largest_number) (λ (no : ℕ × List ℕ). and_then (number_ahead no.1 largest_number) (λ (desk : ℕ × List ℕ). at_end (Claim (record { 0 = no.0 }) desk.0) desk.1))

-- ` I J` in front, in their order
abbrev pub place_ahead : List ℕ → Option (Insertion × List ℕ)
place_ahead bytes =
    and_then (number_ahead bytes largest_position) (λ (i : ℕ × List ℕ). and_then (number_ahead i.1 largest_position) (λ (j : ℕ × List ℕ).
    cond (nat_lt j.0 i.0) None (Some (record { i = i.0; j = j.0 }, j.1))))

-- ` COST DEP ARR`
abbrev pub prices_at_end : List ℕ → Option (ℕ × ℕ × ℕ)
prices_at_end bytes =
    and_then (number_ahead bytes largest_number) (λ (cost : ℕ × List ℕ). and_then (number_ahead cost.1 largest_number) (λ (leave : ℕ × List ℕ).
    and_then (number_ahead leave.1 largest_number) (λ (arrive : ℕ × List ℕ). at_end (cost.0, leave.0, arrive.0) arrive.1)))

-- ` ID VEHICLE I J COST DEP ARR`
abbrev pub offer_in : List ℕ → Option Head
offer_in bytes =
    and_then (number_ahead bytes largest_number) (λ (no : ℕ × List ℕ). and_then (number_ahead no.1 largest_32) (λ (vehicle : ℕ × List ℕ).
    and_then (place_ahead vehicle.1) (λ (place : Insertion × List ℕ). and_then (prices_at_end place.1) (λ (prices : ℕ × ℕ × ℕ).
    Some (Offer (record { 0 = no.0 }) (record { no = record { 0 = vehicle.0 }; at = place.0; cost = prices.0; leave = prices.1; arrive = prices.2 }))))))

-- ` T`
abbrev pub clock_in : List ℕ → Option Head
clock_in bytes = and_then (number_ahead bytes latest_clock) (λ (now : ℕ × List ℕ). at_end (Clock now.0) now.1)

-- a head that names a request alone
abbrev pub with_request : (RequestNo → Head) → Option RequestNo → Option Head
with_request head None = None
with_request head (Some asked) = Some (head asked)

-- the first line of a group, by its letter
abbrev pub lettered_head : (letter : ℕ) → List ℕ → Option Head
lettered_head letter rest =
    cond (letter == 114) (ride_in rest) (cond (letter == 107) (claim_in rest) (cond (letter == 98) (with_request Back (request_at_end rest))
    (cond (letter == 97) (offer_in rest) (cond (letter == 110) (with_request Nobody (request_at_end rest)) (cond (letter == 116) (clock_in rest)
    (cond (letter == 121) (with_request Asked (request_at_end rest)) (cond (letter == 122) (at_end Shut rest) None)))))))

abbrev pub head_in : List ℕ → Option Head
head_in [] = None
head_in (letter ∷ rest) = lettered_head letter rest

-- what stands behind a word at the front
abbrev pub behind_word : (word bytes : List ℕ) → Option (List ℕ)
behind_word [] bytes = Some bytes
behind_word (w ∷ word) [] = None
behind_word (w ∷ word) (b ∷ bytes) = cond (w == b) (behind_word word bytes) None

-- ` back CLOCK`
abbrev pub behind_in : List ℕ → Option ℕ
behind_in bytes = and_then (behind_word (codes " back") bytes) (λ (rest : List ℕ). and_then (number_ahead rest latest_clock) (λ (clock : ℕ × List ℕ). at_end clock.0 clock.1))

abbrev pub reason_in : List ℕ → Option Reason
reason_in word =
    cond (bytes_eq word (codes "closed")) (Some Closed) (cond (bytes_eq word (codes "place")) (Some Place) (cond (bytes_eq word (codes "riders")) (Some Riders)
    (cond (bytes_eq word (codes "moment")) (Some Moment) (cond (bytes_eq word (codes "repeated")) (Some Repeated) None))))

abbrev pub cancel_reason_in : List ℕ → Option CancelReason
cancel_reason_in word =
    cond (bytes_eq word (codes "unknown")) (Some why.Unknown) (cond (bytes_eq word (codes "waiting")) (Some why.Waiting) (cond (bytes_eq word (codes "nobody")) (Some why.Nobody)
    (cond (bytes_eq word (codes "cancelled")) (Some why.Cancelled) (cond (bytes_eq word (codes "served")) (Some why.Served) None))))

-- what stands behind the number of that request
abbrev pub behind_request : List ℕ → (asked : RequestNo) → Option (List ℕ)
behind_request bytes asked = and_then (number_ahead bytes largest_number) (λ (found : ℕ × List ℕ). cond (found.0 == asked.0) (Some found.1) None)

-- the word behind the number of that request
abbrev pub word_for : List ℕ → (asked : RequestNo) → Option (List ℕ)
word_for bytes asked = and_then (behind_request bytes asked) behind_space_of

-- ` ID REASON`, of the request of that number
abbrev pub refusal_in : List ℕ → (asked : RequestNo) → Option Reason
refusal_in bytes asked = and_then (word_for bytes asked) reason_in

-- the same of a cancellation
abbrev pub cancel_refusal_in : List ℕ → (asked : RequestNo) → Option CancelReason
cancel_refusal_in bytes asked = and_then (word_for bytes asked) cancel_reason_in

-- ` A B`, counted from 1 and in their order
abbrev pub positions_at_end : List ℕ → Option (ℕ × ℕ)
positions_at_end bytes =
    and_then (number_ahead bytes largest_position) (λ (pickup : ℕ × List ℕ). and_then (number_ahead pickup.1 largest_position) (λ (dropoff : ℕ × List ℕ).
    cond (nat_lt 0 pickup.0 && nat_lt pickup.0 dropoff.0) (at_end (pickup.0, dropoff.0) dropoff.1) None))

-- ` ID VEHICLE A B`, of the request of that number
abbrev pub removal_in : List ℕ → (asked : RequestNo) → Option RemovalHead
removal_in bytes asked =
    and_then (behind_request bytes asked) (λ (rest : List ℕ). and_then (number_ahead rest largest_32) (λ (vehicle : ℕ × List ℕ).
    and_then (positions_at_end vehicle.1) (λ (positions : ℕ × ℕ). Some (record { no = record { 0 = vehicle.0 }; pickup = positions.0; dropoff = positions.1 }))))

abbrev pub kind_in : ℕ → Option StopKind
kind_in letter = cond (letter == 112) (Some Pickup) (cond (letter == 100) (Some Dropoff) None)

-- the kind of a stop, and what stands behind it
abbrev pub kind_in_front : List ℕ → Option (StopKind × List ℕ)
kind_in_front [] = None
kind_in_front (letter ∷ rest) = and_then (kind_in letter) (λ (kind : StopKind). Some (kind, rest))

abbrev pub kind_ahead : List ℕ → Option (StopKind × List ℕ)
kind_ahead bytes = and_then (behind_space_of bytes) kind_in_front

-- ` NODE ARR DEP`
abbrev pub stay_at_end : List ℕ → Option (NodeNo × ℕ × ℕ)
stay_at_end bytes =
    and_then (number_ahead bytes largest_32) (λ (node : ℕ × List ℕ). and_then (number_ahead node.1 largest_number) (λ (arr : ℕ × List ℕ).
    and_then (number_ahead arr.1 largest_number) (λ (dep : ℕ × List ℕ). at_end (record { 0 = node.0 }, arr.0, dep.0) dep.1)))

-- ` VEHICLE ID KIND NODE ARR DEP`
abbrev pub served_in : List ℕ → Option (VehicleNo × Served)
served_in bytes =
    and_then (number_ahead bytes largest_32) (λ (vehicle : ℕ × List ℕ). and_then (number_ahead vehicle.1 largest_number) (λ (no : ℕ × List ℕ).
    and_then (kind_ahead no.1) (λ (kind : StopKind × List ℕ). and_then (stay_at_end kind.1) (λ (stay : NodeNo × ℕ × ℕ).
    Some (record { 0 = vehicle.0 }, record { kind = kind.0; no = record { 0 = no.0 }; node = stay.0; arr = stay.1; dep = stay.2 })))))
