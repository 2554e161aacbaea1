use Rattle.std.specs.Prelude.{ℕ, zero, suc, ◌+◌, ◌-◌, ◌==◌, cond, List, [], ◌∷◌, ◌++◌, flat_map, codes}
use Rattle.std.specs.Fmt.{decimal}
use Rattle.ride_base.specs.declared.numbers.VehicleNo.{VehicleNo}
use Rattle.road_graph.specs.declared.road.NodeNo.{NodeNo}
use Rattle.stop_schedule.specs.declared.request.Request.{Request}
use Rattle.stop_schedule.specs.declared.stop.StopKind.{StopKind}
use Rattle.stop_schedule.specs.declared.stop.StopKind.TheVariants.{Pickup, Dropoff}
use Rattle.stop_advance.specs.declared.served.Served.{Served}
use Rattle.board_core.specs.declared.entry.Reason.{Reason}
use Rattle.board_core.specs.declared.entry.Reason.TheVariants.{Closed, Place, Riders, Moment, Repeated}
use Rattle.board_core.specs.declared.entry.CancelReason.{CancelReason}
use Rattle.board_core.specs.declared.entry.CancelReason.TheVariants as why
use Rattle.board_core.specs.declared.entry.Submitted.{Submitted}
use Rattle.board_core.specs.declared.entry.Submitted.TheVariants.{Accepted, Refused}
use Rattle.board_core.specs.declared.entry.Advanced.{Advanced}
use Rattle.board_core.specs.declared.entry.Advanced.TheVariants.{Moved, Back as Behind}
use Rattle.board_core.specs.declared.entry.Entry.{Entry}
use Rattle.journal_text.specs.declared.text.TextOffer.{TextOffer}
use Rattle.journal_text.specs.declared.text.TextDecision.TheVariants as answer
use Rattle.journal_text.specs.declared.text.TextRemoval.{TextRemoval}
use Rattle.journal_text.specs.declared.text.TextCancelled.{TextCancelled}
use Rattle.journal_text.specs.declared.text.TextCancelled.TheVariants.{Removed, Refused as Declined}
use Rattle.journal_text.specs.declared.text.TextEntry.{TextEntry}
use Rattle.journal_text.specs.declared.text.TextEntry.TheVariants as text
use Rattle.journal_text.specs.TextEntries.{text_entry}

-- numbers, each after a space
abbrev pub spaced : List ℕ → List ℕ
spaced [] = []
spaced (n ∷ ns) = 32 ∷ decimal n ++ spaced ns

-- a line of a letter and numbers after it
abbrev pub numbers_line : ℕ → List ℕ → List ℕ
numbers_line letter ns = letter ∷ spaced ns ++ 10 ∷ []

-- how many nodes stand on one line of a walk
abbrev pub nodes_on_line : ℕ
nodes_on_line = 64

-- The nodes of a walk where `left` more go on this line: when it is full and nodes are left, it ends, and a line `h` goes on.
abbrev pub nodes_after : (leg left : ℕ) → List NodeNo → List ℕ
nodes_after leg left [] = 10 ∷ []
nodes_after leg zero (n ∷ nodes) = 10 ∷ 104 ∷ spaced (leg ∷ n.0 ∷ []) ++ nodes_after leg 63 nodes
nodes_after leg (suc left) (n ∷ nodes) = spaced (n.0 ∷ []) ++ nodes_after leg left nodes

-- The walk of a leg: a line `g` with the leg and its first nodes, at most 64, and lines `h` with the next ones.
abbrev pub walk_lines : ℕ → List NodeNo → List ℕ
walk_lines leg nodes = 103 ∷ spaced (leg ∷ []) ++ nodes_after leg nodes_on_line nodes

-- The numbers of the changed legs in the new list, for i and j - i: into the pickup, out of it, into the dropoff where j is above i,
-- and out of it. The last counts only where a stop follows; then there is a walk for it.
abbrev pub changed_legs : ℕ → ℕ → List ℕ
changed_legs i zero = i ∷ (i + 1) ∷ (i + 2) ∷ []
changed_legs i (suc between) = i ∷ (i + 1) ∷ (i + between + 2) ∷ (i + between + 3) ∷ []

-- The numbers of the joined legs in the new list, for the positions of the pickup and the dropoff that are taken out. The last counts
-- only where a stop follows; then there is a walk for it.
abbrev pub joined_legs : (a b : ℕ) → List ℕ
joined_legs a b = cond (b == a + 1) ((a - 1) ∷ []) ((a - 1) ∷ (b - 2) ∷ [])

-- each walk with its leg
abbrev pub walks_lines : List ℕ → List (List NodeNo) → List ℕ
walks_lines [] walks = []
walks_lines (leg ∷ legs) [] = []
walks_lines (leg ∷ legs) (nodes ∷ walks) = walk_lines leg nodes ++ walks_lines legs walks

abbrev pub reason_text : Reason → List ℕ
reason_text Closed = codes "closed"
reason_text Place = codes "place"
reason_text Riders = codes "riders"
reason_text Moment = codes "moment"
reason_text Repeated = codes "repeated"

abbrev pub cancel_reason_text : CancelReason → List ℕ
cancel_reason_text why.Unknown = codes "unknown"
cancel_reason_text why.Waiting = codes "waiting"
cancel_reason_text why.Nobody = codes "nobody"
cancel_reason_text why.Cancelled = codes "cancelled"
cancel_reason_text why.Served = codes "served"

abbrev pub kind_text : StopKind → List ℕ
kind_text Pickup = codes "p"
kind_text Dropoff = codes "d"

-- r ID P D T Q, and S where wheelchair spaces are asked for
abbrev pub ride_line : Request → List ℕ
ride_line r = numbers_line 114 (r.no.0 ∷ r.pickup.0 ∷ r.dropoff.0 ∷ r.moment ∷ r.riders ∷ cond (r.spaces == 0) [] (r.spaces ∷ []))

-- s VEHICLE ID KIND NODE ARR DEP
abbrev pub served_line : VehicleNo × Served → List ℕ
served_line s = 115 ∷ spaced (s.0.0 ∷ s.1.no.0 ∷ []) ++ 32 ∷ kind_text s.1.kind ++ spaced (s.1.node.0 ∷ s.1.arr ∷ s.1.dep ∷ []) ++ 10 ∷ []

-- x ID REASON, under what was refused
abbrev pub refusal_line : ℕ → List ℕ → List ℕ
refusal_line number reason = 120 ∷ spaced (number ∷ []) ++ 32 ∷ reason ++ 10 ∷ []

abbrev pub submitted_lines : ℕ → Submitted → List ℕ
submitted_lines number Accepted = []
submitted_lines number (Refused reason) = refusal_line number (reason_text reason)

-- a ID VEHICLE I J COST DEP ARR, and the walks
abbrev pub offer_lines : ℕ → TextOffer → List ℕ
offer_lines number o = numbers_line 97 (number ∷ o.no.0 ∷ o.at.i ∷ o.at.j ∷ o.cost ∷ o.leave ∷ o.arrive ∷ []) ++ walks_lines (changed_legs o.at.i (o.at.j - o.at.i)) o.walks

-- o ID VEHICLE A B, and the joined walks
abbrev pub removal_lines : ℕ → TextRemoval → List ℕ
removal_lines number x = numbers_line 111 (number ∷ x.no.0 ∷ x.pickup ∷ x.dropoff ∷ []) ++ walks_lines (joined_legs x.pickup x.dropoff) x.walks

abbrev pub cancelled_lines : ℕ → TextCancelled → List ℕ
cancelled_lines number (Removed x) = removal_lines number x
cancelled_lines number (Declined reason) = refusal_line number (cancel_reason_text reason)

abbrev pub moved_lines : Advanced → List ℕ
moved_lines (Moved served) = flat_map served_line served
moved_lines (Behind clock) = codes "x back" ++ spaced (clock ∷ []) ++ 10 ∷ []

-- the lines of an entry in its text form
abbrev pub entry_lines : TextEntry → List ℕ
entry_lines (text.Submit r submitted) = ride_line r ++ submitted_lines r.no.0 submitted
entry_lines (text.Claim number desk) = numbers_line 107 (number.0 ∷ desk ∷ [])
entry_lines (text.Back number) = numbers_line 98 (number.0 ∷ [])
entry_lines (text.Commit number (answer.Assigned o)) = offer_lines number.0 o
entry_lines (text.Commit number answer.Nobody) = numbers_line 110 (number.0 ∷ [])
entry_lines (text.Advance now advanced) = numbers_line 116 (now ∷ []) ++ moved_lines advanced
entry_lines (text.Cancel number cancelled) = numbers_line 121 (number.0 ∷ []) ++ cancelled_lines number.0 cancelled
entry_lines text.Shut = codes "z" ++ 10 ∷ []

-- the lines of an entry
abbrev pub group : Entry → List ℕ
group e = entry_lines (text_entry e)

-- the lines of a history
abbrev pub journal_of : List Entry → List ℕ
journal_of entries = flat_map group entries
