use Rattle.std.specs.Prelude.{ℕ, ◌+◌, ◌^◌, ◌-◌, ◌&&◌, nat_le, nat_lt, Bool, true, false, List, [], ◌∷◌, length, Option, Some, None, is_none}
use Rattle.std.specs.List.{list_all}
use Rattle.road_graph.specs.declared.road.NodeNo.{NodeNo}
pub use Rattle.ride_base.specs.Fields.{largest_32}
pub use Rattle.road_graph.specs.Limits.{most_nodes}
pub use Rattle.stop_schedule.specs.Limits.{latest_moment as latest_clock, most_stops as largest_position}
use Rattle.plain_search.specs.declared.potential.Potential.{Potential}
use Rattle.ride_base.specs.declared.numbers.VehicleNo.{VehicleNo}
use Rattle.stop_schedule.specs.declared.request.Request.{Request}
use Rattle.stop_advance.specs.declared.served.Served.{Served}
use Rattle.board_core.specs.declared.entry.Advanced.{Advanced}
use Rattle.board_core.specs.declared.entry.Advanced.TheVariants.{Moved, Back as Behind}
use Rattle.journal_text.specs.declared.certificate.Certificate.{Certificate}
use Rattle.journal_text.specs.declared.text.TextOffer.{TextOffer}
use Rattle.journal_text.specs.declared.text.TextRemoval.{TextRemoval}
use Rattle.journal_text.specs.declared.text.TextDecision.TheVariants as answer
use Rattle.journal_text.specs.declared.text.TextCancelled.TheVariants.{Removed, Refused as Declined}
use Rattle.journal_text.specs.declared.text.TextEntry.{TextEntry}
use Rattle.journal_text.specs.declared.text.TextEntry.TheVariants as text
use Rattle.journal_text.specs.declared.groups.Group.{Group}
use Rattle.journal_text.specs.Printable.{most_changed, most_joined}

-- The groups that a journal may have: those that can be printed, with numbers and walks within these limits.

-- the largest number of a request or a desk, cost, and time of an entry but of a move of the clock
abbrev pub largest_number : ℕ
largest_number = 2 ^ 62

-- the largest value of a potential
abbrev pub largest_value : ℕ
largest_value = 2 ^ 53 - 1

abbrev pub is_number : ℕ → Bool
is_number n = nat_le n largest_number

abbrev pub is_32 : ℕ → Bool
is_32 n = nat_le n largest_32

-- one node at least, and no more than a walk may have
abbrev pub is_walk_text : List NodeNo → Bool
is_walk_text nodes = nat_le 1 (length nodes) && (nat_le (length nodes) most_nodes && list_all (λ (n : NodeNo). is_32 n.0) nodes)

-- so many walks where the last one of at most so many may be left out
abbrev pub are_so_many : (most : ℕ) → List (List NodeNo) → Bool
are_so_many most walks = nat_le most (length walks + 1) && nat_le (length walks) most

abbrev pub is_ride_text : Request → Bool
is_ride_text r = is_number r.no.0 && (is_32 r.pickup.0 && (is_32 r.dropoff.0 && (is_number r.moment && (is_32 r.riders && is_32 r.spaces))))

abbrev pub is_offer_text : TextOffer → Bool
is_offer_text o =
    is_32 o.no.0 && (nat_le o.at.i o.at.j && (nat_le o.at.j largest_position && (is_number o.cost && (is_number o.leave && (is_number o.arrive
    && (are_so_many (most_changed o.at) o.walks && list_all is_walk_text o.walks))))))

abbrev pub is_served_text : VehicleNo × Served → Bool
is_served_text s = is_32 s.0.0 && (is_number s.1.no.0 && (is_32 s.1.node.0 && (is_number s.1.arr && is_number s.1.dep)))

abbrev pub is_moved_text : Advanced → Bool
is_moved_text (Moved served) = list_all is_served_text served
is_moved_text (Behind clock) = nat_le clock latest_clock

abbrev pub is_removal_text : TextRemoval → Bool
is_removal_text x =
    is_32 x.no.0 && (nat_le 1 x.pickup && (nat_lt x.pickup x.dropoff && (nat_le x.dropoff largest_position
    && (are_so_many (most_joined x.pickup x.dropoff) x.walks && list_all is_walk_text x.walks))))

-- the nodes of the pairs rise from above this one
abbrev pub rise_above : ℕ → List (NodeNo × ℕ) → Bool
rise_above n [] = true
rise_above n (pair ∷ pairs) = nat_lt n pair.0.0 && rise_above pair.0.0 pairs

abbrev pub do_rise : List (NodeNo × ℕ) → Bool
do_rise [] = true
do_rise (pair ∷ pairs) = rise_above pair.0.0 pairs

abbrev pub is_rest_text : Option ℕ → Bool
is_rest_text None = true
is_rest_text (Some rest) = nat_le rest largest_value

abbrev pub is_potential_text : Potential → Bool
is_potential_text p = is_rest_text p.rest && (do_rise p.listed && list_all (λ (pair : NodeNo × ℕ). is_32 pair.0.0 && nat_le pair.1 largest_value) p.listed)

abbrev pub is_direct_text : Option (List NodeNo) → Bool
is_direct_text None = true
is_direct_text (Some nodes) = is_walk_text nodes

abbrev pub is_certificate_text : Certificate → Bool
is_certificate_text c =
    is_potential_text c.to_pickup && (is_potential_text c.from_pickup && (is_potential_text c.to_dropoff && (is_potential_text c.from_dropoff
    && is_direct_text c.direct)))

-- a certificate where there may be one
abbrev pub is_proof_text : Option Certificate → Bool
is_proof_text None = true
is_proof_text (Some c) = is_certificate_text c

abbrev pub is_empty : {X : Type 0} → List X → Bool
is_empty [] = true
is_empty (x ∷ xs) = false

-- A commit may have a certificate, and a removal as many potentials as joined walks or fewer. No other entry has either.
abbrev pub is_entry_text : TextEntry → Option Certificate → List Potential → Bool
is_entry_text (text.Submit r submitted) proof joins = is_ride_text r && (is_none proof && is_empty joins)
is_entry_text (text.Claim number desk) proof joins = is_number number.0 && (is_number desk && (is_none proof && is_empty joins))
is_entry_text (text.Back number) proof joins = is_number number.0 && (is_none proof && is_empty joins)
is_entry_text (text.Commit number (answer.Assigned o)) proof joins = is_number number.0 && (is_offer_text o && (is_proof_text proof && is_empty joins))
is_entry_text (text.Commit number answer.Nobody) proof joins = is_number number.0 && (is_proof_text proof && is_empty joins)
is_entry_text (text.Advance now advanced) proof joins = nat_le now latest_clock && (is_moved_text advanced && (is_none proof && is_empty joins))
is_entry_text (text.Cancel number (Removed x)) proof joins =
    is_number number.0 && (is_removal_text x && (is_none proof && (nat_le (length joins) (length x.walks) && list_all is_potential_text joins)))
is_entry_text (text.Cancel number (Declined reason)) proof joins = is_number number.0 && (is_none proof && is_empty joins)
is_entry_text text.Shut proof joins = is_none proof && is_empty joins

-- a group that a journal may have
abbrev pub is_in_form : Group → Bool
is_in_form g = is_entry_text g.entry g.proof g.joins

-- The limits of numbers and walks alone, without the order of positions and how many walks there are.
abbrev pub are_within : TextEntry → Bool
are_within (text.Submit r submitted) = is_ride_text r
are_within (text.Claim number desk) = is_number number.0 && is_number desk
are_within (text.Back number) = is_number number.0
are_within (text.Commit number (answer.Assigned o)) =
    is_number number.0 && (is_32 o.no.0 && (nat_le o.at.j largest_position && (is_number o.cost && (is_number o.leave && (is_number o.arrive && list_all is_walk_text o.walks)))))
are_within (text.Commit number answer.Nobody) = is_number number.0
are_within (text.Advance now advanced) = nat_le now latest_clock && is_moved_text advanced
are_within (text.Cancel number (Removed x)) = is_number number.0 && (is_32 x.no.0 && (nat_le x.dropoff largest_position && list_all is_walk_text x.walks))
are_within (text.Cancel number (Declined reason)) = is_number number.0
are_within text.Shut = true
