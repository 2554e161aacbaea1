use Rattle.std.proofs.Common.{◌≡◌, ℕ, ◌+◌, ◌≤◌, true, ◌&&◌, List, length, None, [], refl, arith}
use Rattle.std.proofs.lemmas.Bool.Decides.{nat_tests}
use Rattle.std.proofs.lemmas.List.{length-map}
use Rattle.std.specs.Prelude.{nat_le, nat_lt}
use Rattle.std.specs.List.{list_all}
use Rattle.road_graph.specs.Paths.{Path}
use Rattle.insertion_cost.specs.declared.decision.Assigned.{Assigned}
use Rattle.insertion_cost.specs.declared.decision.Decision.TheVariants.{Assigned as IsAssigned, Nobody}
use Rattle.stop_removal.specs.declared.removal.Removal.{Removal}
use Rattle.board_core.specs.declared.entry.Advanced.TheVariants.{Moved, Back as Held}
use Rattle.board_core.specs.declared.entry.Cancelled.TheVariants.{Removed, Refused as Declined}
use Rattle.board_core.specs.declared.entry.Entry.{Entry}
use Rattle.board_core.specs.declared.entry.Entry.TheVariants.{Submit, Claim, Back, Commit, Advance, Cancel, Shut}
use Rattle.journal_text.specs.TextEntries.{nodes_of, text_offer, text_removal, text_entry}
use Rattle.journal_text.specs.Printable.{most_changed, most_joined, IsPrintable, IsPrintableOffer, IsPrintableRemoval}
use Rattle.journal_text.specs.Forms.{is_number, is_32, largest_position, latest_clock, is_walk_text, is_offer_text, is_removal_text, is_in_form, are_within}
use Rattle.journal_text.proofs.Spelling.{both, both_hold, le_holds}

-- What can be printed is in form where its numbers and walks are within the limits.

so_many : (most : ℕ) (walks : List Path) → most ≤ length walks + 1 → length walks ≤ most → (nat_le most (length (nodes_of walks) + 1) && nat_le (length (nodes_of walks)) most) ≡ true
so_many most walks enough few =
    let size : length (nodes_of walks) ≡ length walks = length-map walks (λ (w : Path). w.nodes) in
    both_hold _ _ (le_holds most (length (nodes_of walks) + 1) (omega (arith, size, enough))) (le_holds (length (nodes_of walks)) most (omega (arith, size, few)))

offer_in_form : (a : Assigned) → IsPrintableOffer a
    → (is_32 a.offer.no.0 && (nat_le a.offer.at.j largest_position && (is_number a.offer.cost && (is_number a.offer.leave && (is_number a.offer.arrive && list_all is_walk_text (nodes_of a.walks)))))) ≡ true
    → is_offer_text (text_offer a) ≡ true
offer_in_form a p e =
    let b = both (is_32 a.offer.no.0) _ e in
    let c = both (nat_le a.offer.at.j largest_position) _ b.1 in
    let d = both (is_number a.offer.cost) _ c.1 in
    let f = both (is_number a.offer.leave) _ d.1 in
    let g = both (is_number a.offer.arrive) _ f.1 in
    both_hold _ _ b.0 (both_hold _ _ (le_holds a.offer.at.i a.offer.at.j p.order) (both_hold _ _ c.0 (both_hold _ _ d.0 (both_hold _ _ f.0 (both_hold _ _ g.0
    (both_hold _ _ (so_many (most_changed a.offer.at) a.walks p.enough p.few) g.1))))))

removal_in_form : (x : Removal) → IsPrintableRemoval x → (is_32 x.no.0 && (nat_le x.dropoff largest_position && list_all is_walk_text (nodes_of x.walks))) ≡ true → is_removal_text (text_removal x) ≡ true
removal_in_form x p e =
    let b = both (is_32 x.no.0) _ e in
    let c = both (nat_le x.dropoff largest_position) _ b.1 in
    let order : nat_lt x.pickup x.dropoff ≡ true = let h = p.order in grind (arith, nat_tests) in
    both_hold _ _ b.0 (both_hold _ _ (le_holds 1 x.pickup p.from_first) (both_hold _ _ order (both_hold _ _ c.0 (both_hold _ _ (so_many (most_joined x.pickup x.dropoff) x.walks p.enough p.few) c.1))))

pub printed_in_form : (line : ℕ) (e : Entry) → IsPrintable e → are_within (text_entry e) ≡ true → is_in_form (record { line = line; entry = text_entry e; proof = None; joins = [] }) ≡ true
printed_in_form line (Submit r submitted) p e = both_hold _ _ e refl
printed_in_form line (Claim number desk) p e = let a = both (is_number number.0) (is_number desk) e in both_hold _ _ a.0 (both_hold _ _ a.1 refl)
printed_in_form line (Back number) p e = both_hold _ _ e refl
printed_in_form line (Commit number (IsAssigned a)) p e = let b = both (is_number number.0) _ e in both_hold _ _ b.0 (both_hold _ _ (offer_in_form a p b.1) refl)
printed_in_form line (Commit number Nobody) p e = both_hold _ _ e refl
printed_in_form line (Advance now (Moved served)) p e = let a = both (nat_le now latest_clock) _ e in both_hold _ _ a.0 (both_hold _ _ a.1 refl)
printed_in_form line (Advance now (Held clock)) p e = let a = both (nat_le now latest_clock) _ e in both_hold _ _ a.0 (both_hold _ _ a.1 refl)
printed_in_form line (Cancel number (Removed x)) p e = let b = both (is_number number.0) _ e in both_hold _ _ b.0 (both_hold _ _ (removal_in_form x p b.1) (both_hold true _ refl (both_hold _ true (le_holds 0 (length (nodes_of x.walks)) (omega arith)) refl)))
printed_in_form line (Cancel number (Declined reason)) p e = both_hold _ _ e refl
printed_in_form line Shut p e = refl
