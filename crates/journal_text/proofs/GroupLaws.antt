use Rattle.std.proofs.Common.{◌≡◌, ℕ, zero, suc, ◌+◌, ◌-◌, ◌%◌, ◌≤◌, ◌==◌, Bool, true, false, ◌&&◌, ◌||◌, cond, List, [], ◌∷◌, ◌++◌, length, flat_map, Option, Some, None, refl, sym, ap, ap₂, ◌∙◌, subst, append_assoc, append-nil, arith, eq-eqb}
use Rattle.std.proofs.lemmas.Bool.Decides.{nat_tests}
use Rattle.std.specs.Prelude.{is_none, nat_le, nat_lt}
use Rattle.std.specs.List.{list_all}
use Rattle.road_graph.specs.declared.road.NodeNo.{NodeNo}
use Rattle.plain_search.specs.declared.potential.Potential.{Potential}
use Rattle.ride_base.specs.declared.numbers.RequestNo.{RequestNo}
use Rattle.ride_base.specs.declared.numbers.VehicleNo.{VehicleNo}
use Rattle.stop_advance.specs.declared.served.Served.{Served}
use Rattle.board_core.specs.declared.entry.Submitted.TheVariants.{Accepted, Refused}
use Rattle.board_core.specs.declared.entry.Advanced.TheVariants.{Moved, Back as Held}
use Rattle.journal_text.specs.declared.certificate.Certificate.{Certificate}
use Rattle.journal_text.specs.declared.text.TextOffer.{TextOffer}
use Rattle.journal_text.specs.declared.text.TextRemoval.{TextRemoval}
use Rattle.journal_text.specs.declared.text.TextDecision.TheVariants as answer
use Rattle.journal_text.specs.declared.text.TextCancelled.TheVariants as cancelled
use Rattle.journal_text.specs.declared.text.TextEntry.{TextEntry}
use Rattle.journal_text.specs.declared.text.TextEntry.TheVariants as text
use Rattle.journal_text.specs.declared.groups.Group.{Group}
use Rattle.journal_text.specs.declared.heads.OfferHead.{OfferHead}
use Rattle.journal_text.specs.declared.heads.RemovalHead.{RemovalHead}
use Rattle.journal_text.specs.declared.heads.Head.{Head}
use Rattle.journal_text.specs.declared.heads.Head.TheVariants.{Ride, Claim, Back, Offer, Nobody, Clock, Behind, Asked, Declined, Removal, Shut}
use Rattle.journal_text.specs.declared.draft.Direct.{Direct}
use Rattle.journal_text.specs.declared.draft.Direct.TheVariants.{Ahead, Absent, Walk}
use Rattle.journal_text.specs.declared.draft.Draft.{Draft}
use Rattle.journal_text.specs.Groups.{walk_lines, walks_lines, changed_legs, joined_legs, served_line, numbers_line}
use Rattle.journal_text.specs.Certificates.{certificate_lines, potential_lines, numbered_lines, direct_lines}
use Rattle.journal_text.specs.TextGroups.{group_text, goes_on_with, joins_go_on, is_full_walk, last_walk}
use Rattle.journal_text.specs.Printable.{most_changed, most_joined}
use Rattle.journal_text.specs.Forms.{is_number, is_32, largest_position, latest_clock, are_so_many, is_ride_text, is_offer_text, is_served_text, is_removal_text, is_walk_text, is_potential_text, is_direct_text, is_certificate_text, is_proof_text, is_empty, is_entry_text, is_in_form}
use Rattle.journal_text.specs.Drafts.{most_walks_of, has_proof_or_none, is_whole_with, is_whole_draft, is_clock, last_listed, new_draft, goes_on_in}
use Rattle.journal_text.specs.DraftTexts.{is_offer_head, is_removal_head, is_head, head_text, leg_at, walks_from, draft_text, is_commit, most_potentials_of, is_direct_draft, IsDraft, offer_of, removal_of, entry_of, proof_of, joins_of, group_of}
use Rattle.journal_text.proofs.Spelling.{both, both_hold, le_holds, le_from}
use Rattle.journal_text.proofs.DraftSteps.{no_length, not_direct, none_listed, bare_text, bare_is_draft}
use Rattle.journal_text.proofs.DraftReads.{direct_of}

-- A group that was read whole is the group of its lines, and each group in form is read so.

-- Walks with the legs of a list, and with legs by index.

legs_list : Head → (index count : ℕ) → List ℕ
legs_list head index zero = []
legs_list head index (suc count) = leg_at head index ∷ legs_list head (index + 1) count

walks_same : (head : Head) (index count : ℕ) (walks : List (List NodeNo)) → length walks ≤ count → walks_lines (legs_list head index count) walks ≡ walks_from head index walks
unfolding legs_list
walks_same head index zero [] h = refl
walks_same head index (suc count) [] h = refl
walks_same head index zero (w ∷ ws) h = absurd (omega arith)
walks_same head index (suc count) (w ∷ ws) h = ap (λ l. walk_lines (leg_at head index) w ++ l) (walks_same head (index + 1) count ws (omega arith))

changed_same : (asked : RequestNo) (o : OfferHead) → o.at.i ≤ o.at.j → changed_legs o.at.i (o.at.j - o.at.i) ≡ legs_list (Offer asked o) 0 (most_walks_of (Offer asked o))
unfolding legs_list
changed_same asked o order = by (o.at.j - o.at.i) (omega (arith, order))
  where
    legs_are : (t : Bool) → (o.at.i == o.at.j) ≡ t → legs_list (Offer asked o) 0 (cond (o.at.i == o.at.j) 3 4) ≡ o.at.i ∷ (o.at.i + 1) ∷ cond t (o.at.i + 2) (o.at.j + 1) ∷ cond t [] ((o.at.j + 2) ∷ [])
    legs_are true e = ap (λ u. legs_list (Offer asked o) 0 (cond u 3 4)) e ∙ ap (λ u. o.at.i ∷ (o.at.i + 1) ∷ cond u (o.at.i + 2) (o.at.j + 1) ∷ []) e
    legs_are false e = ap (λ u. legs_list (Offer asked o) 0 (cond u 3 4)) e ∙ ap (λ u. o.at.i ∷ (o.at.i + 1) ∷ cond u (o.at.i + 2) (o.at.j + 1) ∷ (o.at.j + 2) ∷ []) e

    by : (between : ℕ) → o.at.j ≡ o.at.i + between → changed_legs o.at.i between ≡ legs_list (Offer asked o) 0 (most_walks_of (Offer asked o))
    by zero e =
        let same : (o.at.i == o.at.j) ≡ true = eq-eqb o.at.i o.at.j (omega (arith, e)) in
        sym (legs_are true same)
    by (suc between) e =
        let other : (o.at.i == o.at.j) ≡ false = grind (arith, nat_tests, e) in
        ap₂ (λ x y. o.at.i ∷ (o.at.i + 1) ∷ x ∷ y ∷ []) (omega (arith, e)) (omega (arith, e)) ∙ sym (legs_are false other)

joined_same : (asked : RequestNo) (x : RemovalHead) → joined_legs x.pickup x.dropoff ≡ legs_list (Removal asked x) 0 (most_walks_of (Removal asked x))
unfolding legs_list
joined_same asked x = by (x.dropoff == x.pickup + 1)
  where
    by : (t : Bool) → cond t ((x.pickup - 1) ∷ []) ((x.pickup - 1) ∷ (x.dropoff - 2) ∷ []) ≡ legs_list (Removal asked x) 0 (cond t 1 2)
    by true = refl
    by false = refl

changed_walks : (asked : RequestNo) (o : OfferHead) (walks : List (List NodeNo)) → o.at.i ≤ o.at.j → length walks ≤ most_walks_of (Offer asked o) → walks_lines (changed_legs o.at.i (o.at.j - o.at.i)) walks ≡ walks_from (Offer asked o) 0 walks
changed_walks asked o walks order few = ap (λ legs. walks_lines legs walks) (changed_same asked o order) ∙ walks_same (Offer asked o) 0 (most_walks_of (Offer asked o)) walks few

joined_walks : (asked : RequestNo) (x : RemovalHead) (walks : List (List NodeNo)) → length walks ≤ most_walks_of (Removal asked x) → walks_lines (joined_legs x.pickup x.dropoff) walks ≡ walks_from (Removal asked x) 0 walks
joined_walks asked x walks few = ap (λ legs. walks_lines legs walks) (joined_same asked x) ∙ walks_same (Removal asked x) 0 (most_walks_of (Removal asked x)) walks few

-- What is true of a group that was read whole.
pub record IsWhole (d : Draft) : Type 0 where
  pub form : is_in_form (group_of d) ≡ true
  pub text : group_text (group_of d) ≡ draft_text d
  pub goes : (letter : ℕ) → goes_on_with (group_of d) letter ≡ goes_on_in d letter

-- an entry of which only heads are read
bare_whole : (d : Draft) (head : Head) → d ≡ new_draft d.line head → is_in_form (group_of (new_draft d.line head)) ≡ true → group_text (group_of (new_draft d.line head)) ≡ head_text head ++ [] ++ []
    → ((letter : ℕ) → goes_on_with (group_of (new_draft d.line head)) letter ≡ goes_on_in (new_draft d.line head) letter) → IsWhole d
bare_whole d head same form printed goes = subst IsWhole (sym same) (record {
  form = form;
  text = printed ∙ append-nil (head_text head ++ []) ∙ append-nil (head_text head) ∙ sym (bare_text d.line head);
  goes = goes;
})

or_after : (a b c : Bool) → (a || b) ≡ (b || ((true && a) || (c && false)))
or_after true true true = refl
or_after true true false = refl
or_after true false true = refl
or_after true false false = refl
or_after false true true = refl
or_after false true false = refl
or_after false false true = refl
or_after false false false = refl

or_alone : (a b c : Bool) → (false || (a || b)) ≡ (a || ((false && c) || b))
or_alone true b c = refl
or_alone false true true = refl
or_alone false true false = refl
or_alone false false true = refl
or_alone false false false = refl

moved_none : (a b : Bool) → (a || b) ≡ (b || (a && true))
moved_none true true = refl
moved_none true false = refl
moved_none false true = refl
moved_none false false = refl

moved_some : (a b : Bool) → b ≡ (b || (a && false))
moved_some true true = refl
moved_some true false = refl
moved_some false true = refl
moved_some false false = refl

clock_goes : (line now : ℕ) (served : List (VehicleNo × Served)) (letter : ℕ)
    → goes_on_with (group_of (record (new_draft line (Clock now)) { served = served })) letter ≡ goes_on_in (record (new_draft line (Clock now)) { served = served }) letter
clock_goes line now [] letter = moved_none (letter == 120) (letter == 115)
clock_goes line now (s ∷ served) letter = moved_some (letter == 120) (letter == 115)

joins_goes : (p : Potential) (ps : List Potential) (letter : ℕ) → joins_go_on (p ∷ ps) letter ≡ ((letter == 117) || (letter == 119 && (length (last_listed (p ∷ ps)) % 32 == 0)))
joins_goes p [] letter = refl
joins_goes p (next ∷ ps) letter = joins_goes next ps letter

-- a certificate behind an entry's lines
certified : (x a b c d w : List ℕ) → x ++ (a ++ b ++ c ++ d ++ w) ++ [] ≡ x ++ (a ++ (b ++ (c ++ (d ++ [])))) ++ w
certified x a b c d w =
    append-nil (x ++ (a ++ b ++ c ++ d ++ w))
    ∙ ap (λ l. x ++ l) (append_assoc (a ++ b ++ c) d w ∙ append_assoc (a ++ b) c (d ++ w) ∙ append_assoc a b (c ++ (d ++ w)))
    ∙ ap (λ l. x ++ (a ++ (b ++ (c ++ (l ++ w))))) (sym (append-nil d))
    ∙ ap (λ l. x ++ (a ++ (b ++ l))) (sym (append_assoc c (d ++ []) w))
    ∙ ap (λ l. x ++ (a ++ l)) (sym (append_assoc b (c ++ (d ++ [])) w))
    ∙ ap (λ l. x ++ l) (sym (append_assoc a (b ++ (c ++ (d ++ []))) w))
    ∙ sym (append_assoc x (a ++ (b ++ (c ++ (d ++ [])))) w)

record HasFour (ps : List Potential) : Type 0 where
  first : Potential
  second : Potential
  third : Potential
  fourth : Potential
  are : ps ≡ first ∷ second ∷ third ∷ fourth ∷ []

four_of : (ps : List Potential) → (length ps == 4) ≡ true → HasFour ps
four_of [] e = absurd cc
four_of (a ∷ []) e = absurd cc
four_of (a ∷ b ∷ []) e = absurd cc
four_of (a ∷ b ∷ c ∷ []) e = absurd cc
four_of (a ∷ b ∷ c ∷ d ∷ []) e = record { first = a; second = b; third = c; fourth = d; are = refl }
four_of (a ∷ b ∷ c ∷ d ∷ f ∷ more) e = let n : length (a ∷ b ∷ c ∷ d ∷ f ∷ more) ≡ 4 = grind (arith, nat_tests, e) in absurd (omega (arith, n))

certificate_text : (a b c d : Potential) (direct : Option (List NodeNo)) → list_all is_potential_text (a ∷ b ∷ c ∷ d ∷ []) ≡ true → is_direct_text direct ≡ true
    → is_certificate_text (record { to_pickup = a; from_pickup = b; to_dropoff = c; from_dropoff = d; direct = direct }) ≡ true
certificate_text a b c d direct e f =
    let p = both (is_potential_text a) _ e in
    let q = both (is_potential_text b) _ p.1 in
    let r = both (is_potential_text c) _ q.1 in
    let s = both (is_potential_text d) true r.1 in
    both_hold _ _ p.0 (both_hold _ _ q.0 (both_hold _ _ r.0 (both_hold _ _ s.0 f)))

offer_text : (asked : RequestNo) (o : OfferHead) (walks : List (List NodeNo)) → is_offer_head o ≡ true → nat_le (most_walks_of (Offer asked o)) (length walks + 1) ≡ true → length walks ≤ most_walks_of (Offer asked o)
    → list_all is_walk_text walks ≡ true → is_offer_text (offer_of o walks) ≡ true
offer_text asked o walks e enough few valid =
    let b = both (is_32 o.no.0) _ e in
    let c = both (nat_le o.at.i o.at.j) _ b.1 in
    let d = both (nat_le o.at.j largest_position) _ c.1 in
    let f = both (is_number o.cost) _ d.1 in
    let g = both (is_number o.leave) (is_number o.arrive) f.1 in
    both_hold _ _ b.0 (both_hold _ _ c.0 (both_hold _ _ d.0 (both_hold _ _ f.0 (both_hold _ _ g.0 (both_hold _ _ g.1
    (both_hold _ _ (both_hold _ _ enough (le_holds (length walks) (most_walks_of (Offer asked o)) few)) valid))))))

removal_text : (asked : RequestNo) (x : RemovalHead) (walks : List (List NodeNo)) → is_removal_head x ≡ true → nat_le (most_walks_of (Removal asked x)) (length walks + 1) ≡ true → length walks ≤ most_walks_of (Removal asked x)
    → list_all is_walk_text walks ≡ true → is_removal_text (removal_of x walks) ≡ true
removal_text asked x walks e enough few valid =
    let b = both (is_32 x.no.0) _ e in
    let c = both (nat_le 1 x.pickup) _ b.1 in
    let d = both (nat_lt x.pickup x.dropoff) (nat_le x.dropoff largest_position) c.1 in
    both_hold _ _ b.0 (both_hold _ _ c.0 (both_hold _ _ d.0 (both_hold _ _ d.1
    (both_hold _ _ (both_hold _ _ enough (le_holds (length walks) (most_walks_of (Removal asked x)) few)) valid))))

ends_twice : (h w : List ℕ) → h ++ w ++ [] ++ [] ≡ h ++ [] ++ w ++ [] ++ []
ends_twice h w = ap (λ l. l ++ w ++ [] ++ []) (sym (append-nil h))

-- An answer with its walks, by what was read of a certificate.
offer_whole : (line : ℕ) (asked : RequestNo) (o : OfferHead) (walks : List (List NodeNo)) (ps : List Potential) (direct : Direct)
    → is_number asked.0 ≡ true → is_offer_head o ≡ true → nat_le (most_walks_of (Offer asked o)) (length walks + 1) ≡ true → length walks ≤ most_walks_of (Offer asked o) → list_all is_walk_text walks ≡ true
    → list_all is_potential_text ps ≡ true → is_direct_draft (Offer asked o) ps direct ≡ true → has_proof_or_none direct ps ≡ true
    → IsWhole (record { line = line; head = Offer asked o; served = []; walks = walks; potentials = ps; direct = direct })
offer_whole line asked o walks ps Ahead number e enough few valid listed direct whole =
    let none : ps ≡ [] = none_listed ps whole in
    let order = le_from o.at.i o.at.j (both (nat_le o.at.i o.at.j) _ (both (is_32 o.no.0) _ e).1).0 in
    let h : List ℕ = head_text (Offer asked o) in
    subst (λ (l : List Potential). IsWhole (record { line = line; head = Offer asked o; served = []; walks = walks; potentials = l; direct = Ahead })) (sym none) (record {
      form = both_hold _ _ number (both_hold _ _ (offer_text asked o walks e enough few valid) refl);
      text = ap (λ l. h ++ l ++ [] ++ []) (changed_walks asked o walks order few) ∙ ends_twice h (walks_from (Offer asked o) 0 walks);
      goes = λ letter. or_after ((letter == 103) || (letter == 104 && is_full_walk (last_walk walks))) (letter == 117) (letter == 102);
    })
offer_whole line asked o walks ps Absent number e enough few valid listed direct whole =
    let four = four_of ps direct in
    let order = le_from o.at.i o.at.j (both (nat_le o.at.i o.at.j) _ (both (is_32 o.no.0) _ e).1).0 in
    let h : List ℕ = head_text (Offer asked o) in
    let all : List Potential = four.first ∷ four.second ∷ four.third ∷ four.fourth ∷ [] in
    subst (λ (l : List Potential). IsWhole (record { line = line; head = Offer asked o; served = []; walks = walks; potentials = l; direct = Absent })) (sym four.are) (record {
      form = both_hold _ _ number (both_hold _ _ (offer_text asked o walks e enough few valid)
          (both_hold _ _ (certificate_text four.first four.second four.third four.fourth None (sym (ap (list_all is_potential_text) four.are) ∙ listed) refl) refl));
      text = ap (λ l. h ++ l ++ certificate_lines (record { to_pickup = four.first; from_pickup = four.second; to_dropoff = four.third; from_dropoff = four.fourth; direct = None }) ++ []) (changed_walks asked o walks order few)
          ∙ certified (h ++ walks_from (Offer asked o) 0 walks) (potential_lines 1 four.first) (potential_lines 2 four.second) (potential_lines 3 four.third) (potential_lines 4 four.fourth) (direct_lines None)
          ∙ ap (λ l. l ++ walks_from (Offer asked o) 0 walks ++ numbered_lines 1 all ++ direct_lines None) (sym (append-nil h));
      goes = λ letter. or_alone (letter == 117) (letter == 102 && false) ((letter == 103) || (letter == 104 && is_full_walk (last_walk walks)));
    })
offer_whole line asked o walks ps (Walk nodes) number e enough few valid listed direct whole =
    let d = both (length ps == 4) (is_walk_text nodes) direct in
    let four = four_of ps d.0 in
    let order = le_from o.at.i o.at.j (both (nat_le o.at.i o.at.j) _ (both (is_32 o.no.0) _ e).1).0 in
    let h : List ℕ = head_text (Offer asked o) in
    let all : List Potential = four.first ∷ four.second ∷ four.third ∷ four.fourth ∷ [] in
    subst (λ (l : List Potential). IsWhole (record { line = line; head = Offer asked o; served = []; walks = walks; potentials = l; direct = Walk nodes })) (sym four.are) (record {
      form = both_hold _ _ number (both_hold _ _ (offer_text asked o walks e enough few valid)
          (both_hold _ _ (certificate_text four.first four.second four.third four.fourth (Some nodes) (sym (ap (list_all is_potential_text) four.are) ∙ listed) d.1) refl));
      text = ap (λ l. h ++ l ++ certificate_lines (record { to_pickup = four.first; from_pickup = four.second; to_dropoff = four.third; from_dropoff = four.fourth; direct = Some nodes }) ++ []) (changed_walks asked o walks order few)
          ∙ certified (h ++ walks_from (Offer asked o) 0 walks) (potential_lines 1 four.first) (potential_lines 2 four.second) (potential_lines 3 four.third) (potential_lines 4 four.fourth) (direct_lines (Some nodes))
          ∙ ap (λ l. l ++ walks_from (Offer asked o) 0 walks ++ numbered_lines 1 all ++ direct_lines (Some nodes)) (sym (append-nil h));
      goes = λ letter. or_alone (letter == 117) (letter == 102 && is_full_walk nodes) ((letter == 103) || (letter == 104 && is_full_walk (last_walk walks)));
    })

or_nobody : (a b : Bool) → (false || (a || b)) ≡ (a || b)
or_nobody true b = refl
or_nobody false true = refl
or_nobody false false = refl

nobody_none : (a b : Bool) → (false || a) ≡ (a || (b && false))
nobody_none true true = refl
nobody_none true false = refl
nobody_none false true = refl
nobody_none false false = refl

nobody_whole : (line : ℕ) (asked : RequestNo) (ps : List Potential) (direct : Direct) → is_number asked.0 ≡ true → list_all is_potential_text ps ≡ true → is_direct_draft (Nobody asked) ps direct ≡ true → has_proof_or_none direct ps ≡ true
    → IsWhole (record { line = line; head = Nobody asked; served = []; walks = []; potentials = ps; direct = direct })
nobody_whole line asked ps Ahead number listed direct whole =
    let none : ps ≡ [] = none_listed ps whole in
    let h : List ℕ = head_text (Nobody asked) in
    subst (λ (l : List Potential). IsWhole (record { line = line; head = Nobody asked; served = []; walks = []; potentials = l; direct = Ahead })) (sym none) (record {
      form = both_hold _ _ number refl;
      text = ap (λ l. l ++ [] ++ []) (sym (append-nil h)) ∙ ap (λ l. l ++ [] ++ [] ++ []) (sym (append-nil h));
      goes = λ letter. nobody_none (letter == 117) (letter == 102);
    })
nobody_whole line asked ps Absent number listed direct whole =
    let four = four_of ps direct in
    let h : List ℕ = head_text (Nobody asked) in
    let all : List Potential = four.first ∷ four.second ∷ four.third ∷ four.fourth ∷ [] in
    subst (λ (l : List Potential). IsWhole (record { line = line; head = Nobody asked; served = []; walks = []; potentials = l; direct = Absent })) (sym four.are) (record {
      form = both_hold _ _ number (both_hold _ _ (certificate_text four.first four.second four.third four.fourth None (sym (ap (list_all is_potential_text) four.are) ∙ listed) refl) refl);
      text = certified h (potential_lines 1 four.first) (potential_lines 2 four.second) (potential_lines 3 four.third) (potential_lines 4 four.fourth) (direct_lines None)
          ∙ ap (λ l. l ++ numbered_lines 1 all ++ direct_lines None) (sym (append-nil h) ∙ sym (append-nil (h ++ [])));
      goes = λ letter. or_nobody (letter == 117) (letter == 102 && false);
    })
nobody_whole line asked ps (Walk nodes) number listed direct whole =
    let d = both (length ps == 4) (is_walk_text nodes) direct in
    let four = four_of ps d.0 in
    let h : List ℕ = head_text (Nobody asked) in
    let all : List Potential = four.first ∷ four.second ∷ four.third ∷ four.fourth ∷ [] in
    subst (λ (l : List Potential). IsWhole (record { line = line; head = Nobody asked; served = []; walks = []; potentials = l; direct = Walk nodes })) (sym four.are) (record {
      form = both_hold _ _ number (both_hold _ _ (certificate_text four.first four.second four.third four.fourth (Some nodes) (sym (ap (list_all is_potential_text) four.are) ∙ listed) d.1) refl);
      text = certified h (potential_lines 1 four.first) (potential_lines 2 four.second) (potential_lines 3 four.third) (potential_lines 4 four.fourth) (direct_lines (Some nodes))
          ∙ ap (λ l. l ++ numbered_lines 1 all ++ direct_lines (Some nodes)) (sym (append-nil h) ∙ sym (append-nil (h ++ [])));
      goes = λ letter. or_nobody (letter == 117) (letter == 102 && is_full_walk nodes);
    })

removal_goes : (line : ℕ) (asked : RequestNo) (x : RemovalHead) (walks : List (List NodeNo)) (ps : List Potential) (letter : ℕ)
    → goes_on_with (group_of (record { line = line; head = Removal asked x; served = []; walks = walks; potentials = ps; direct = Ahead })) letter
    ≡ goes_on_in (record { line = line; head = Removal asked x; served = []; walks = walks; potentials = ps; direct = Ahead }) letter
removal_goes line asked x walks [] letter = or_after ((letter == 103) || (letter == 104 && is_full_walk (last_walk walks))) (letter == 117) (letter == 119)
removal_goes line asked x walks (p ∷ ps) letter =
    ap (λ t. false || t) (joins_goes p ps letter)
    ∙ or_alone (letter == 117) (letter == 119 && (length (last_listed (p ∷ ps)) % 32 == 0)) ((letter == 103) || (letter == 104 && is_full_walk (last_walk walks)))

removal_whole : (line : ℕ) (asked : RequestNo) (x : RemovalHead) (walks : List (List NodeNo)) (ps : List Potential)
    → is_number asked.0 ≡ true → is_removal_head x ≡ true → nat_le (most_walks_of (Removal asked x)) (length walks + 1) ≡ true → length walks ≤ most_walks_of (Removal asked x) → list_all is_walk_text walks ≡ true
    → list_all is_potential_text ps ≡ true → length ps ≤ length walks
    → IsWhole (record { line = line; head = Removal asked x; served = []; walks = walks; potentials = ps; direct = Ahead })
removal_whole line asked x walks ps number e enough few valid listed less =
    let h : List ℕ = numbers_line 121 (asked.0 ∷ []) in
    let r : List ℕ = numbers_line 111 (asked.0 ∷ x.no.0 ∷ x.pickup ∷ x.dropoff ∷ []) in
    let w : List ℕ = walks_from (Removal asked x) 0 walks in
    let j : List ℕ = numbered_lines 5 ps in
    record {
      form = both_hold _ _ number (both_hold _ _ (removal_text asked x walks e enough few valid) (both_hold true _ refl (both_hold _ _ (le_holds (length ps) (length walks) less) listed)));
      text = ap (λ l. h ++ (r ++ l) ++ [] ++ j) (joined_walks asked x walks few)
          ∙ ap (λ l. l ++ j) (append-nil (h ++ (r ++ w)) ∙ sym (append_assoc h r w) ∙ ap (λ l. l ++ w) (sym (append-nil (h ++ r))))
          ∙ sym (append-nil ((h ++ r) ++ [] ++ w ++ j));
      goes = removal_goes line asked x walks ps;
    }

record Empty (d : Draft) (most : ℕ) : Type 0 where
  potentials : d.potentials ≡ []
  direct : d.direct ≡ Ahead
  walks : most ≡ 0 → d.walks ≡ []

empty_of : (d : Draft) (head : Head) → IsDraft d → d.head ≡ head → most_potentials_of head 0 ≡ 0 → most_potentials_of head (length d.walks) ≡ most_potentials_of head 0 → is_commit head ≡ false → Empty d (most_walks_of head)
empty_of d head ok h none same commit =
    let few : length d.potentials ≤ most_potentials_of head (length d.walks) = subst (λ (x : Head). length d.potentials ≤ most_potentials_of x (length d.walks)) h ok.few in
    let few_walks : length d.walks ≤ most_walks_of head = subst (λ (x : Head). length d.walks ≤ most_walks_of x) h ok.few_walks in
    record {
      potentials = no_length d.potentials (omega (arith, few, none, same));
      direct = not_direct d.head d.potentials d.direct (ap (λ (x : Head). is_commit x && length d.potentials == 4) h ∙ ap (λ t. t && length d.potentials == 4) commit) ok.is_direct;
      walks = λ e. no_length d.walks (omega (arith, few_walks, e));
    }

bare_same : (d : Draft) (head : Head) → d.head ≡ head → is_clock head ≡ false → IsDraft d → Empty d 0 → d ≡ new_draft d.line head
bare_same d head h clock ok none =
    let served : d.served ≡ [] = ok.still (ap is_clock h ∙ clock) in
    λ i. record { line = d.line; head = h i; served = served i; walks = none.walks refl i; potentials = none.potentials i; direct = none.direct i }

valid_head : (d : Draft) (head : Head) → IsDraft d → d.head ≡ head → is_head head ≡ true
valid_head d head ok h = sym (ap is_head h) ∙ ok.valid

pub whole_law : (d : Draft) → IsDraft d → is_whole_draft d ≡ true → IsWhole d
whole_law d ok whole = by d.head refl
  where
    is_whole_at : (head : Head) → d.head ≡ head → is_whole_with head (nat_le (most_walks_of head) (length d.walks + 1)) (has_proof_or_none d.direct d.potentials) ≡ true
    is_whole_at head h = subst (λ (x : Head). is_whole_with x (nat_le (most_walks_of x) (length d.walks + 1)) (has_proof_or_none d.direct d.potentials) ≡ true) h whole

    by : (head : Head) → d.head ≡ head → IsWhole d
    by (Ride r Accepted) h =
        bare_whole d (Ride r Accepted) (bare_same d (Ride r Accepted) h refl ok (empty_of d (Ride r Accepted) ok h refl refl refl)) (both_hold _ _ (valid_head d (Ride r Accepted) ok h) refl) refl (λ letter. refl)
    by (Ride r (Refused reason)) h =
        bare_whole d (Ride r (Refused reason)) (bare_same d (Ride r (Refused reason)) h refl ok (empty_of d (Ride r (Refused reason)) ok h refl refl refl)) (both_hold _ _ (valid_head d (Ride r (Refused reason)) ok h) refl) refl (λ letter. refl)
    by (Claim asked desk) h =
        let v = both (is_number asked.0) (is_number desk) (valid_head d (Claim asked desk) ok h) in
        bare_whole d (Claim asked desk) (bare_same d (Claim asked desk) h refl ok (empty_of d (Claim asked desk) ok h refl refl refl)) (both_hold _ _ v.0 (both_hold _ _ v.1 refl)) refl (λ letter. refl)
    by (Back asked) h =
        bare_whole d (Back asked) (bare_same d (Back asked) h refl ok (empty_of d (Back asked) ok h refl refl refl)) (both_hold _ _ (valid_head d (Back asked) ok h) refl) refl (λ letter. refl)
    by (Offer asked o) h =
        let v = both (is_number asked.0) (is_offer_head o) (valid_head d (Offer asked o) ok h) in
        let w = both (nat_le (most_walks_of (Offer asked o)) (length d.walks + 1)) (has_proof_or_none d.direct d.potentials) (is_whole_at (Offer asked o) h) in
        let served : d.served ≡ [] = ok.still (ap is_clock h) in
        let same : d ≡ record { line = d.line; head = Offer asked o; served = []; walks = d.walks; potentials = d.potentials; direct = d.direct } =
        λ i. record { line = d.line; head = h i; served = served i; walks = d.walks; potentials = d.potentials; direct = d.direct } in
        subst IsWhole (sym same) (offer_whole d.line asked o d.walks d.potentials d.direct v.0 v.1 w.0
        (subst (λ (x : Head). length d.walks ≤ most_walks_of x) h ok.few_walks) ok.are_walks ok.are_potentials (subst (λ (x : Head). is_direct_draft x d.potentials d.direct ≡ true) h ok.is_direct) w.1)
    by (Nobody asked) h =
        let served : d.served ≡ [] = ok.still (ap is_clock h) in
        let walks : d.walks ≡ [] = no_length d.walks (subst (λ (x : Head). length d.walks ≤ most_walks_of x) h ok.few_walks) in
        let same : d ≡ record { line = d.line; head = Nobody asked; served = []; walks = []; potentials = d.potentials; direct = d.direct } =
        λ i. record { line = d.line; head = h i; served = served i; walks = walks i; potentials = d.potentials; direct = d.direct } in
        subst IsWhole (sym same) (nobody_whole d.line asked d.potentials d.direct (valid_head d (Nobody asked) ok h) ok.are_potentials
        (subst (λ (x : Head). is_direct_draft x d.potentials d.direct ≡ true) h ok.is_direct) (is_whole_at (Nobody asked) h))
    by (Clock now) h =
        let none = empty_of d (Clock now) ok h refl refl refl in
        let same : d ≡ record (new_draft d.line (Clock now)) { served = d.served } =
        λ i. record { line = d.line; head = h i; served = d.served; walks = none.walks refl i; potentials = none.potentials i; direct = none.direct i } in
        let t : List ℕ = numbers_line 116 (now ∷ []) ++ flat_map served_line d.served in
        subst IsWhole (sym same) (record {
          form = both_hold _ _ (valid_head d (Clock now) ok h) (both_hold _ _ ok.stops refl);
          text = sym (append-nil (t ++ [] ++ []));
          goes = clock_goes d.line now d.served;
        })
    by (Behind now clock) h =
        let v = both (nat_le now latest_clock) (nat_le clock latest_clock) (valid_head d (Behind now clock) ok h) in
        bare_whole d (Behind now clock) (bare_same d (Behind now clock) h refl ok (empty_of d (Behind now clock) ok h refl refl refl)) (both_hold _ _ v.0 (both_hold _ _ v.1 refl)) refl (λ letter. refl)
    by (Asked asked) h = absurd (never (is_whole_at (Asked asked) h))
      where
        never : false ≡ true → ⊥
        never e = cc
    by (Declined asked reason) h =
        bare_whole d (Declined asked reason) (bare_same d (Declined asked reason) h refl ok (empty_of d (Declined asked reason) ok h refl refl refl)) (both_hold _ _ (valid_head d (Declined asked reason) ok h) refl) refl (λ letter. refl)
    by (Removal asked x) h =
        let v = both (is_number asked.0) (is_removal_head x) (valid_head d (Removal asked x) ok h) in
        let served : d.served ≡ [] = ok.still (ap is_clock h) in
        let direct : d.direct ≡ Ahead = not_direct d.head d.potentials d.direct (ap (λ (y : Head). is_commit y && length d.potentials == 4) h) ok.is_direct in
        let same : d ≡ record { line = d.line; head = Removal asked x; served = []; walks = d.walks; potentials = d.potentials; direct = Ahead } =
        λ i. record { line = d.line; head = h i; served = served i; walks = d.walks; potentials = d.potentials; direct = direct i } in
        subst IsWhole (sym same) (removal_whole d.line asked x d.walks d.potentials v.0 v.1 (is_whole_at (Removal asked x) h)
        (subst (λ (y : Head). length d.walks ≤ most_walks_of y) h ok.few_walks) ok.are_walks ok.are_potentials (subst (λ (y : Head). length d.potentials ≤ most_potentials_of y (length d.walks)) h ok.few))
    by Shut h = bare_whole d Shut (bare_same d Shut h refl ok (empty_of d Shut ok h refl refl refl)) refl refl (λ letter. refl)

-- Each group in form is the group of some draft.
pub record IsGroupDraft (g : Group) : Type 0 where
  pub draft : Draft
  pub fits : IsDraft draft
  pub whole : is_whole_draft draft ≡ true
  pub group : group_of draft ≡ g

nothing : (proof : Option Certificate) (joins : List Potential) → (is_none proof && is_empty joins) ≡ true → (proof ≡ None) × (joins ≡ [])
nothing None [] e = (refl, refl)
nothing None (p ∷ ps) e = absurd cc
nothing (Some c) joins e = absurd cc

no_joins : (joins : List Potential) → is_empty joins ≡ true → joins ≡ []
no_joins [] e = refl
no_joins (p ∷ ps) e = absurd cc

no_proof : (proof : Option Certificate) → is_none proof ≡ true → proof ≡ None
no_proof None e = refl
no_proof (Some c) e = absurd cc

bare_group : (line : ℕ) (entry : TextEntry) (proof : Option Certificate) (joins : List Potential) (head : Head) → is_head head ≡ true → (is_none proof && is_empty joins) ≡ true → entry_of head [] [] ≡ entry
    → is_whole_with head (nat_le (most_walks_of head) 1) true ≡ true → IsGroupDraft (record { line = line; entry = entry; proof = proof; joins = joins })
bare_group line entry proof joins head valid none same whole =
    let n = nothing proof joins none in
    record {
      draft = new_draft line head;
      fits = bare_is_draft line head valid;
      whole = whole;
      group = λ i. record { line = line; entry = same i; proof = sym n.0 i; joins = sym n.1 i };
    }

-- the potentials and the direct walk of a certificate where there is one
abbrev proof_potentials : Option Certificate → List Potential
proof_potentials None = []
proof_potentials (Some c) = c.to_pickup ∷ c.from_pickup ∷ c.to_dropoff ∷ c.from_dropoff ∷ []

abbrev proof_direct : Option Certificate → Direct
proof_direct None = Ahead
proof_direct (Some c) = direct_of c.direct

record FitsProof (head : Head) (proof : Option Certificate) : Type 0 where
  few : length (proof_potentials proof) ≤ 4
  listed : list_all is_potential_text (proof_potentials proof) ≡ true
  direct : is_commit head ≡ true → is_direct_draft head (proof_potentials proof) (proof_direct proof) ≡ true
  whole : has_proof_or_none (proof_direct proof) (proof_potentials proof) ≡ true
  proof_is : proof_of (proof_direct proof) (proof_potentials proof) ≡ proof
  joins_is : joins_of (proof_direct proof) (proof_potentials proof) ≡ []

fits_certificate : (head : Head) (a b c d : Potential) (direct : Option (List NodeNo)) → list_all is_potential_text (a ∷ b ∷ c ∷ d ∷ []) ≡ true → is_direct_text direct ≡ true
    → FitsProof head (Some (record { to_pickup = a; from_pickup = b; to_dropoff = c; from_dropoff = d; direct = direct }))
fits_certificate head a b c d None all e = record { few = omega arith; listed = all; direct = λ k. both_hold (is_commit head) true k refl; whole = refl; proof_is = refl; joins_is = refl }
fits_certificate head a b c d (Some nodes) all e = record {
  few = omega arith;
  listed = all;
  direct = λ k. both_hold (is_commit head && true) (is_walk_text nodes) (both_hold (is_commit head) true k refl) e;
  whole = refl;
  proof_is = refl;
  joins_is = refl;
}

fits_proof : (head : Head) (proof : Option Certificate) → is_proof_text proof ≡ true → FitsProof head proof
fits_proof head None e = record { few = omega arith; listed = refl; direct = λ c. refl; whole = refl; proof_is = refl; joins_is = refl }
fits_proof head (Some c) e =
    let p = both (is_potential_text c.to_pickup) _ e in
    let q = both (is_potential_text c.from_pickup) _ p.1 in
    let r = both (is_potential_text c.to_dropoff) _ q.1 in
    let s = both (is_potential_text c.from_dropoff) (is_direct_text c.direct) r.1 in
    fits_certificate head c.to_pickup c.from_pickup c.to_dropoff c.from_dropoff c.direct (both_hold _ _ p.0 (both_hold _ _ q.0 (both_hold _ _ r.0 (both_hold _ true s.0 refl)))) s.1

abbrev offer_head : TextOffer → OfferHead
offer_head o = record { no = o.no; at = o.at; cost = o.cost; leave = o.leave; arrive = o.arrive }

abbrev removal_head : TextRemoval → RemovalHead
removal_head x = record { no = x.no; pickup = x.pickup; dropoff = x.dropoff }

entry_draft : (line : ℕ) (entry : TextEntry) (proof : Option Certificate) (joins : List Potential) → is_entry_text entry proof joins ≡ true → IsGroupDraft (record { line = line; entry = entry; proof = proof; joins = joins })
entry_draft line (text.Submit r submitted) proof joins e =
    let v = both (is_ride_text r) _ e in
    bare_group line (text.Submit r submitted) proof joins (Ride r submitted) v.0 v.1 refl refl
entry_draft line (text.Claim number desk) proof joins e =
    let v = both (is_number number.0) _ e in
    let w = both (is_number desk) _ v.1 in
    bare_group line (text.Claim number desk) proof joins (Claim number desk) (both_hold _ _ v.0 w.0) w.1 refl refl
entry_draft line (text.Back number) proof joins e =
    let v = both (is_number number.0) _ e in
    bare_group line (text.Back number) proof joins (Back number) v.0 v.1 refl refl
entry_draft line (text.Commit number (answer.Assigned o)) proof joins e =
    let v = both (is_number number.0) _ e in
    let w = both (is_offer_text o) _ v.1 in
    let x = both (is_proof_text proof) (is_empty joins) w.1 in
    let b = both (is_32 o.no.0) _ w.0 in
    let c = both (nat_le o.at.i o.at.j) _ b.1 in
    let d = both (nat_le o.at.j largest_position) _ c.1 in
    let f = both (is_number o.cost) _ d.1 in
    let g = both (is_number o.leave) _ f.1 in
    let h = both (is_number o.arrive) _ g.1 in
    let k = both (are_so_many (most_changed o.at) o.walks) (list_all is_walk_text o.walks) h.1 in
    let m = both (nat_le (most_changed o.at) (length o.walks + 1)) (nat_le (length o.walks) (most_changed o.at)) k.0 in
    let head : Head = Offer number (offer_head o) in
    let p = fits_proof head proof x.0 in
    record {
      draft = record { line = line; head = head; served = []; walks = o.walks; potentials = proof_potentials proof; direct = proof_direct proof };
      fits = record {
        valid = both_hold _ _ v.0 (both_hold _ _ b.0 (both_hold _ _ c.0 (both_hold _ _ d.0 (both_hold _ _ f.0 (both_hold _ _ g.0 h.0)))));
        stops = refl;
        still = λ q. refl;
        few_walks = le_from (length o.walks) (most_changed o.at) m.1;
        are_walks = k.1;
        few = p.few;
        are_potentials = p.listed;
        begun = λ q. m.0;
        is_direct = p.direct refl;
      };
      whole = both_hold _ _ m.0 p.whole;
      group = λ i. record { line = line; entry = text.Commit number (answer.Assigned o); proof = p.proof_is i; joins = (p.joins_is ∙ sym (no_joins joins x.1)) i };
    }
entry_draft line (text.Commit number answer.Nobody) proof joins e =
    let v = both (is_number number.0) _ e in
    let x = both (is_proof_text proof) (is_empty joins) v.1 in
    let p = fits_proof (Nobody number) proof x.0 in
    record {
      draft = record { line = line; head = Nobody number; served = []; walks = []; potentials = proof_potentials proof; direct = proof_direct proof };
      fits = record {
        valid = v.0;
        stops = refl;
        still = λ q. refl;
        few_walks = omega arith;
        are_walks = refl;
        few = p.few;
        are_potentials = p.listed;
        begun = λ q. refl;
        is_direct = p.direct refl;
      };
      whole = p.whole;
      group = λ i. record { line = line; entry = text.Commit number answer.Nobody; proof = p.proof_is i; joins = (p.joins_is ∙ sym (no_joins joins x.1)) i };
    }
entry_draft line (text.Advance now (Moved served)) proof joins e =
    let v = both (nat_le now latest_clock) _ e in
    let w = both (list_all is_served_text served) _ v.1 in
    let n = nothing proof joins w.1 in
    record {
      draft = record (new_draft line (Clock now)) { served = served };
      fits = record {
        valid = v.0;
        stops = w.0;
        still = λ q. absurd cc;
        few_walks = omega arith;
        are_walks = refl;
        few = omega arith;
        are_potentials = refl;
        begun = λ q. absurd cc;
        is_direct = refl;
      };
      whole = refl;
      group = λ i. record { line = line; entry = text.Advance now (Moved served); proof = sym n.0 i; joins = sym n.1 i };
    }
entry_draft line (text.Advance now (Held clock)) proof joins e =
    let v = both (nat_le now latest_clock) _ e in
    let w = both (nat_le clock latest_clock) _ v.1 in
    bare_group line (text.Advance now (Held clock)) proof joins (Behind now clock) (both_hold _ _ v.0 w.0) w.1 refl refl
entry_draft line (text.Cancel number (cancelled.Removed x)) proof joins e =
    let v = both (is_number number.0) _ e in
    let w = both (is_removal_text x) _ v.1 in
    let y = both (is_none proof) _ w.1 in
    let z = both (nat_le (length joins) (length x.walks)) (list_all is_potential_text joins) y.1 in
    let b = both (is_32 x.no.0) _ w.0 in
    let c = both (nat_le 1 x.pickup) _ b.1 in
    let d = both (nat_lt x.pickup x.dropoff) _ c.1 in
    let f = both (nat_le x.dropoff largest_position) _ d.1 in
    let k = both (are_so_many (most_joined x.pickup x.dropoff) x.walks) (list_all is_walk_text x.walks) f.1 in
    let m = both (nat_le (most_joined x.pickup x.dropoff) (length x.walks + 1)) (nat_le (length x.walks) (most_joined x.pickup x.dropoff)) k.0 in
    record {
      draft = record { line = line; head = Removal number (removal_head x); served = []; walks = x.walks; potentials = joins; direct = Ahead };
      fits = record {
        valid = both_hold _ _ v.0 (both_hold _ _ b.0 (both_hold _ _ c.0 (both_hold _ _ d.0 f.0)));
        stops = refl;
        still = λ q. refl;
        few_walks = le_from (length x.walks) (most_joined x.pickup x.dropoff) m.1;
        are_walks = k.1;
        few = le_from (length joins) (length x.walks) z.0;
        are_potentials = z.1;
        begun = λ q. m.0;
        is_direct = refl;
      };
      whole = m.0;
      group = λ i. record { line = line; entry = text.Cancel number (cancelled.Removed x); proof = sym (no_proof proof y.0) i; joins = joins };
    }
entry_draft line (text.Cancel number (cancelled.Refused reason)) proof joins e =
    let v = both (is_number number.0) _ e in
    bare_group line (text.Cancel number (cancelled.Refused reason)) proof joins (Declined number reason) v.0 v.1 refl refl
entry_draft line text.Shut proof joins e = bare_group line text.Shut proof joins Shut refl e refl refl

pub group_draft : (g : Group) → is_in_form g ≡ true → IsGroupDraft g
group_draft g e = entry_draft g.line g.entry g.proof g.joins e
