use Rattle.std.specs.Prelude.{◌≡◌, ℕ, ◌+◌, ◌≤◌, ◌==◌, ◌&&◌, nat_lt, nat_le, Bool, true, false, List, [], ◌∷◌, ◌++◌, length, flat_map, Option, Some, None}
use Rattle.std.specs.List.{list_all}
use Rattle.road_graph.specs.declared.road.NodeNo.{NodeNo}
use Rattle.plain_search.specs.declared.potential.Potential.{Potential}
use Rattle.ride_base.specs.declared.numbers.VehicleNo.{VehicleNo}
use Rattle.stop_advance.specs.declared.served.Served.{Served}
use Rattle.board_core.specs.declared.entry.Advanced.TheVariants.{Moved, Back as Held}
use Rattle.journal_text.specs.declared.certificate.Certificate.{Certificate}
use Rattle.journal_text.specs.declared.text.TextOffer.{TextOffer}
use Rattle.journal_text.specs.declared.text.TextRemoval.{TextRemoval}
use Rattle.journal_text.specs.declared.text.TextDecision.TheVariants as answer
use Rattle.journal_text.specs.declared.text.TextCancelled.TheVariants as cancelled
use Rattle.journal_text.specs.declared.text.TextEntry.{TextEntry}
use Rattle.journal_text.specs.declared.text.TextEntry.TheVariants as text
use Rattle.journal_text.specs.declared.groups.Group.{Group}
use Rattle.journal_text.specs.declared.heads.OfferHead.{OfferHead}
use Rattle.journal_text.specs.declared.heads.RemovalHead.{RemovalHead}
use Rattle.journal_text.specs.declared.heads.Head.{Head}
use Rattle.journal_text.specs.declared.heads.Head.TheVariants.{Ride, Claim, Back, Offer, Nobody, Clock, Behind, Asked, Declined, Removal, Shut}
use Rattle.journal_text.specs.declared.draft.Direct.{Direct}
use Rattle.journal_text.specs.declared.draft.Direct.TheVariants.{Ahead, Absent, Walk}
use Rattle.journal_text.specs.declared.draft.Draft.{Draft}
use Rattle.journal_text.specs.Groups.{numbers_line, ride_line, served_line, refusal_line, cancel_reason_text, moved_lines, submitted_lines, walk_lines}
use Rattle.journal_text.specs.Certificates.{direct_lines, numbered_lines}
use Rattle.journal_text.specs.Forms.{latest_clock, largest_position, is_number, is_32, is_ride_text, is_served_text, is_walk_text, is_potential_text}
use Rattle.journal_text.specs.Drafts.{most_walks_of, has_walks, is_empty, is_clock, changed_leg_of, joined_leg_of}

-- The lines that came to a group as far as it was read, and what holds of each such group.

abbrev pub is_offer_head : OfferHead → Bool
is_offer_head o = is_32 o.no.0 && (nat_le o.at.i o.at.j && (nat_le o.at.j largest_position && (is_number o.cost && (is_number o.leave && is_number o.arrive))))

abbrev pub is_removal_head : RemovalHead → Bool
is_removal_head x = is_32 x.no.0 && (nat_le 1 x.pickup && (nat_lt x.pickup x.dropoff && nat_le x.dropoff largest_position))

-- the numbers of a head are within their limits
abbrev pub is_head : Head → Bool
is_head (Ride r submitted) = is_ride_text r
is_head (Claim asked desk) = is_number asked.0 && is_number desk
is_head (Back asked) = is_number asked.0
is_head (Offer asked o) = is_number asked.0 && is_offer_head o
is_head (Nobody asked) = is_number asked.0
is_head (Clock now) = nat_le now latest_clock
is_head (Behind now clock) = nat_le now latest_clock && nat_le clock latest_clock
is_head (Asked asked) = is_number asked.0
is_head (Declined asked reason) = is_number asked.0
is_head (Removal asked x) = is_number asked.0 && is_removal_head x
is_head Shut = true

-- the lines that came to a head
abbrev pub head_text : Head → List ℕ
head_text (Ride r submitted) = ride_line r ++ submitted_lines r.no.0 submitted
head_text (Claim asked desk) = numbers_line 107 (asked.0 ∷ desk ∷ [])
head_text (Back asked) = numbers_line 98 (asked.0 ∷ [])
head_text (Offer asked o) = numbers_line 97 (asked.0 ∷ o.no.0 ∷ o.at.i ∷ o.at.j ∷ o.cost ∷ o.leave ∷ o.arrive ∷ [])
head_text (Nobody asked) = numbers_line 110 (asked.0 ∷ [])
head_text (Clock now) = numbers_line 116 (now ∷ [])
head_text (Behind now clock) = numbers_line 116 (now ∷ []) ++ moved_lines (Held clock)
head_text (Asked asked) = numbers_line 121 (asked.0 ∷ [])
head_text (Declined asked reason) = numbers_line 121 (asked.0 ∷ []) ++ refusal_line asked.0 (cancel_reason_text reason)
head_text (Removal asked x) = numbers_line 121 (asked.0 ∷ []) ++ numbers_line 111 (asked.0 ∷ x.no.0 ∷ x.pickup ∷ x.dropoff ∷ [])
head_text Shut = 122 ∷ 10 ∷ []

-- the leg of the walk of that index
abbrev pub leg_at : Head → (index : ℕ) → ℕ
leg_at (Offer asked o) index = changed_leg_of o.at index
leg_at (Removal asked x) index = joined_leg_of x index
leg_at head index = 0

-- walks from that index on, each with its leg
abbrev pub walks_from : Head → (index : ℕ) → List (List NodeNo) → List ℕ
walks_from head index [] = []
walks_from head index (nodes ∷ walks) = walk_lines (leg_at head index) nodes ++ walks_from head (index + 1) walks

-- the number of the first potential
abbrev pub first_number : Head → ℕ
first_number (Removal asked x) = 5
first_number head = 1

abbrev pub direct_text : Direct → List ℕ
direct_text Ahead = []
direct_text Absent = direct_lines None
direct_text (Walk nodes) = direct_lines (Some nodes)

-- the lines that were read
abbrev pub draft_text : Draft → List ℕ
draft_text d = head_text d.head ++ flat_map served_line d.served ++ walks_from d.head 0 d.walks ++ numbered_lines (first_number d.head) d.potentials ++ direct_text d.direct

-- an answer, which may have a certificate
abbrev pub is_commit : Head → Bool
is_commit (Offer asked o) = true
is_commit (Nobody asked) = true
is_commit head = false

-- how many potentials there may be, where there are so many walks
abbrev pub most_potentials_of : Head → (walks : ℕ) → ℕ
most_potentials_of (Offer asked o) walks = 4
most_potentials_of (Nobody asked) walks = 4
most_potentials_of (Removal asked x) walks = walks
most_potentials_of head walks = 0

-- a direct walk stands behind four potentials of an answer
abbrev pub is_direct_draft : Head → List Potential → Direct → Bool
is_direct_draft head potentials Ahead = true
is_direct_draft head potentials Absent = is_commit head && length potentials == 4
is_direct_draft head potentials (Walk nodes) = (is_commit head && length potentials == 4) && is_walk_text nodes

-- what holds of a group as far as it was read
pub record IsDraft (d : Draft) : Type 0 where
  pub valid : is_head d.head ≡ true
  pub stops : list_all is_served_text d.served ≡ true
  pub still : is_clock d.head ≡ false → d.served ≡ []
  pub few_walks : length d.walks ≤ most_walks_of d.head
  pub are_walks : list_all is_walk_text d.walks ≡ true
  pub few : length d.potentials ≤ most_potentials_of d.head (length d.walks)
  pub are_potentials : list_all is_potential_text d.potentials ≡ true
  pub begun : is_empty d.potentials ≡ false → has_walks d ≡ true
  pub is_direct : is_direct_draft d.head d.potentials d.direct ≡ true

-- The group of the lines that were read, where they are whole.

abbrev pub offer_of : OfferHead → List (List NodeNo) → TextOffer
offer_of o walks = record { no = o.no; at = o.at; cost = o.cost; leave = o.leave; arrive = o.arrive; walks = walks }

abbrev pub removal_of : RemovalHead → List (List NodeNo) → TextRemoval
removal_of x walks = record { no = x.no; pickup = x.pickup; dropoff = x.dropoff; walks = walks }

abbrev pub entry_of : Head → List (VehicleNo × Served) → List (List NodeNo) → TextEntry
entry_of (Ride r submitted) served walks = text.Submit r submitted
entry_of (Claim asked desk) served walks = text.Claim asked desk
entry_of (Back asked) served walks = text.Back asked
entry_of (Offer asked o) served walks = text.Commit asked (answer.Assigned (offer_of o walks))
entry_of (Nobody asked) served walks = text.Commit asked answer.Nobody
entry_of (Clock now) served walks = text.Advance now (Moved served)
entry_of (Behind now clock) served walks = text.Advance now (Held clock)
entry_of (Asked asked) served walks = text.Shut
entry_of (Declined asked reason) served walks = text.Cancel asked (cancelled.Refused reason)
entry_of (Removal asked x) served walks = text.Cancel asked (cancelled.Removed (removal_of x walks))
entry_of Shut served walks = text.Shut

abbrev pub certificate_of : List Potential → Option (List NodeNo) → Option Certificate
certificate_of (a ∷ b ∷ c ∷ d ∷ []) direct = Some (record { to_pickup = a; from_pickup = b; to_dropoff = c; from_dropoff = d; direct = direct })
certificate_of [] direct = None
certificate_of (a ∷ []) direct = None
certificate_of (a ∷ b ∷ []) direct = None
certificate_of (a ∷ b ∷ c ∷ []) direct = None
certificate_of (a ∷ b ∷ c ∷ d ∷ e ∷ more) direct = None

abbrev pub proof_of : Direct → List Potential → Option Certificate
proof_of Ahead potentials = None
proof_of Absent potentials = certificate_of potentials None
proof_of (Walk nodes) potentials = certificate_of potentials (Some nodes)

abbrev pub joins_of : Direct → List Potential → List Potential
joins_of Ahead potentials = potentials
joins_of Absent potentials = []
joins_of (Walk nodes) potentials = []

abbrev pub group_of : Draft → Group
group_of d = record { line = d.line; entry = entry_of d.head d.served d.walks; proof = proof_of d.direct d.potentials; joins = joins_of d.direct d.potentials }
