use Rattle.std.proofs.Common.{◌≡◌, ℕ, zero, suc, ◌+◌, ◌-◌, ◌%◌, ◌^◌, ◌≤◌, ◌<◌, ◌==◌, Bool, true, ◌&&◌, cond, List, [], ◌∷◌, ◌++◌, length, flat_map, Option, Some, None, refl, sym, ap, ◌∙◌, subst, append_assoc, append-nil, length-append, arith, codes, eq-eqb}
use Rattle.std.proofs.lemmas.Bool.Decides.{nat_tests}
use Rattle.std.proofs.lemmas.List.Folds.{list_all-append}
use Rattle.std.proofs.Math.Nat.{add-mod_right}
use Rattle.std.specs.Prelude.{nat_le, nat_lt}
use Rattle.std.specs.List.{list_all}
use Rattle.std.specs.Fmt.{decimal}
use Rattle.road_graph.specs.declared.road.NodeNo.{NodeNo}
use Rattle.plain_search.specs.declared.potential.Potential.{Potential}
use Rattle.ride_base.specs.declared.numbers.VehicleNo.{VehicleNo}
use Rattle.stop_advance.specs.declared.served.Served.{Served}
use Rattle.stop_schedule.specs.declared.stop.StopKind.{StopKind}
use Rattle.stop_schedule.specs.declared.stop.StopKind.TheVariants.{Pickup, Dropoff}
use Rattle.journal_text.specs.declared.heads.Head.{Head}
use Rattle.journal_text.specs.declared.heads.Head.TheVariants.{Removal}
use Rattle.journal_text.specs.declared.draft.Direct.{Direct}
use Rattle.journal_text.specs.declared.draft.Direct.TheVariants.{Ahead, Absent, Walk}
use Rattle.journal_text.specs.declared.draft.Draft.{Draft}
use Rattle.journal_text.specs.Groups.{spaced, served_line, walk_lines, kind_text}
use Rattle.journal_text.specs.Certificates.{numbered_lines, potential_lines, direct_lines, rest_text, pairs_after}
use Rattle.journal_text.specs.TextGroups.{is_full_walk, last_walk}
use Rattle.journal_text.specs.Forms.{is_32, is_number, largest_value, most_nodes, is_served_text, is_walk_text, is_potential_text, is_rest_text, is_direct_text, do_rise, rise_above}
use Rattle.journal_text.specs.LineParts.{and_then}
use Rattle.journal_text.specs.LineRuns.{nodes_of_line, pairs_of_line}
use Rattle.journal_text.specs.LineHeads.{served_in}
use Rattle.journal_text.specs.Drafts.{most_walks_of, has_walks, is_empty, is_clock, leg_of, behind_the, rest_at_end, next_number_with, replaced_last, lengthened, last_listed, last_node_of, are_pairs_full_in, with_pairs, is_ahead, wants_direct_with, with_direct, walk_direct, direct_in, draft_step}
use Rattle.journal_text.specs.DraftTexts.{leg_at, walks_from, first_number}
use Rattle.journal_text.proofs.Numbers.{begins_no_digit}
use Rattle.journal_text.proofs.Spelling.{both, both_hold, le_holds, le_from, is_clean, clean_append, clean_decimal, spaced_append}
use Rattle.journal_text.proofs.LongLines.{numbers_of_items, numbers_of_items-append, node_number, pair_numbers, after, nodes_are, direct_is, pairs_are}
use Rattle.journal_text.proofs.PartsRead.{is_node_text, is_pair_text, rise_from}
use Rattle.journal_text.proofs.PrintedLines.{the_number_read, served_read, rest_read, nodes_read, pairs_read, not_absent}

-- What is printed of a group is read again, line by line.

-- lines, each with its end
abbrev pub ended : List (List ℕ) → List ℕ
ended [] = []
ended (line ∷ lines) = line ++ 10 ∷ ended lines

-- what comes of a group with these lines
abbrev pub drafted : Draft → List (List ℕ) → Option Draft
drafted d [] = Some d
drafted d (line ∷ lines) = and_then (draft_step d line) (λ (next : Draft). drafted next lines)

-- these bytes are lines that make one group so far of the other
pub record Goes (d : Draft) (text : List ℕ) (d' : Draft) : Type 0 where
  pub lines : List (List ℕ)
  pub spelled : text ≡ ended lines
  pub clean : list_all is_clean lines ≡ true
  pub steps : drafted d lines ≡ Some d'

pub goes_none : (d : Draft) → Goes d [] d
goes_none d = record { lines = []; spelled = refl; clean = refl; steps = refl }

pub goes_line : (d : Draft) (line : List ℕ) (d' : Draft) → draft_step d line ≡ Some d' → is_clean line ≡ true → Goes d (line ++ 10 ∷ []) d'
goes_line d line d' e clean = record {
  lines = line ∷ [];
  spelled = refl;
  clean = both_hold (is_clean line) true clean refl;
  steps = ap (λ o. and_then o (λ (next : Draft). Some next)) e;
}

pub ended-append : (xs ys : List (List ℕ)) → ended (xs ++ ys) ≡ ended xs ++ ended ys
ended-append [] ys = refl
ended-append (x ∷ xs) ys = ap (λ l. x ++ 10 ∷ l) (ended-append xs ys) ∙ sym (append_assoc x (10 ∷ ended xs) (ended ys))

pub drafted-append : (d : Draft) (xs ys : List (List ℕ)) → drafted d (xs ++ ys) ≡ and_then (drafted d xs) (λ (next : Draft). drafted next ys)
drafted-append d [] ys = refl
drafted-append d (x ∷ xs) ys = by (draft_step d x) (λ next. drafted-append next xs ys)
  where
    by : (o : Option Draft) → ((next : Draft) → drafted next (xs ++ ys) ≡ and_then (drafted next xs) (λ (last : Draft). drafted last ys)) → and_then o (λ (next : Draft). drafted next (xs ++ ys)) ≡ and_then (and_then o (λ (next : Draft). drafted next xs)) (λ (next : Draft). drafted next ys)
    by None same = refl
    by (Some next) same = same next

pub goes_on : (d : Draft) (text : List ℕ) (d' : Draft) (text' : List ℕ) (d'' : Draft) → Goes d text d' → Goes d' text' d'' → Goes d (text ++ text') d''
goes_on d text d' text' d'' a b = record {
  lines = a.lines ++ b.lines;
  spelled = ap (λ l. l ++ text') a.spelled ∙ ap (λ l. ended a.lines ++ l) b.spelled ∙ sym (ended-append a.lines b.lines);
  clean = list_all-append is_clean a.lines b.lines ∙ both_hold (list_all is_clean a.lines) (list_all is_clean b.lines) a.clean b.clean;
  steps = drafted-append d a.lines b.lines ∙ ap (λ o. and_then o (λ (next : Draft). drafted next b.lines)) a.steps ∙ b.steps;
}

pub goes_text : (d : Draft) (text text' : List ℕ) (d' : Draft) → text ≡ text' → Goes d text' d' → Goes d text d'
goes_text d text text' d' e g = subst (λ t. Goes d t d') (sym e) g

-- a line that is read
pub record IsRead (d : Draft) (line : List ℕ) (d' : Draft) : Type 0 where
  pub step : draft_step d line ≡ Some d'
  pub clean : is_clean line ≡ true

-- Items over several lines: what each further line does.
record Continues {X : Type 0} (of : X → List ℕ) (front : List ℕ) (width : ℕ) (D : List X → Draft) (P : List X → Type 0) : Type 0 where
  closed : (xs ys : List X) → P (xs ++ ys) → P xs
  more : (done chunk : List X) → length done % (width + 1) ≡ 0 → 1 ≤ length done → 1 ≤ length chunk → length chunk ≤ width + 1 → P (done ++ chunk)
      → IsRead (D done) (front ++ spaced (numbers_of_items of chunk)) (D (done ++ chunk))

full_again : (width n m : ℕ) → n % (width + 1) ≡ 0 → m ≡ width + 1 → (n + m) % (width + 1) ≡ 0
full_again width n m e f = subst (λ k. (n + k) % (width + 1) ≡ 0) (sym f) (add-mod_right n (width + 1) ∙ e)

goes_items : {X : Type 0} (of : X → List ℕ) (front : List ℕ) (width : ℕ) (D : List X → Draft) (P : List X → Type 0) → Continues of front width D P
    → (d : Draft) (opening : List ℕ) (done chunk : List X) (left : ℕ) (rest : List X)
    → ((line : List X) → 1 ≤ length line → length line ≤ width + 1 → P (done ++ line) → IsRead d (opening ++ spaced (numbers_of_items of line)) (D (done ++ line)))
    → length chunk + left ≡ width + 1 → 1 ≤ length chunk → length done % (width + 1) ≡ 0 → P (done ++ chunk ++ rest)
    → Goes d (opening ++ spaced (numbers_of_items of chunk) ++ after of front width left rest) (D (done ++ chunk ++ rest))
goes_items of front width D P c d opening done chunk left [] line size some full ok =
    let same : done ++ chunk ++ [] ≡ done ++ chunk = append-nil (done ++ chunk) in
    let r = line chunk some (omega (arith, size)) (subst P same ok) in
    subst (λ xs. Goes d (opening ++ spaced (numbers_of_items of chunk) ++ 10 ∷ []) (D xs)) (sym same) (goes_line d (opening ++ spaced (numbers_of_items of chunk)) (D (done ++ chunk)) r.step r.clean)
goes_items of front width D P c d opening done chunk zero (x ∷ rest) line size some full ok =
    let whole : length chunk ≡ width + 1 = omega (arith, size) in
    let r = line chunk some (omega (arith, size)) (c.closed (done ++ chunk) (x ∷ rest) ok) in
    let now_full : length (done ++ chunk) % (width + 1) ≡ 0 = ap (λ k. k % (width + 1)) (length-append done chunk) ∙ full_again width (length done) (length chunk) full whole in
    let same : (done ++ chunk) ++ (x ∷ []) ++ rest ≡ done ++ chunk ++ x ∷ rest = append_assoc (done ++ chunk) (x ∷ []) rest in
    let further = goes_items of front width D P c (D (done ++ chunk)) front (done ++ chunk) (x ∷ []) width rest
    (λ next any few valid. c.more (done ++ chunk) next now_full (omega (arith, some, length-append done chunk)) any few valid)
    (omega arith) (omega arith) now_full (subst P (sym same) ok) in
    let text : opening ++ spaced (numbers_of_items of chunk) ++ (10 ∷ front ++ spaced (of x) ++ after of front width width rest)
    ≡ (opening ++ spaced (numbers_of_items of chunk) ++ 10 ∷ []) ++ (front ++ spaced (of x ++ []) ++ after of front width width rest) =
    ap (λ l. opening ++ spaced (numbers_of_items of chunk) ++ (10 ∷ front ++ spaced l ++ after of front width width rest)) (sym (append-nil (of x)))
    ∙ sym (append_assoc (opening ++ spaced (numbers_of_items of chunk)) (10 ∷ []) (front ++ spaced (of x ++ []) ++ after of front width width rest)) in
    goes_text d _ _ (D (done ++ chunk ++ x ∷ rest)) text
    (goes_on d (opening ++ spaced (numbers_of_items of chunk) ++ 10 ∷ []) (D (done ++ chunk)) _ (D (done ++ chunk ++ x ∷ rest))
    (goes_line d (opening ++ spaced (numbers_of_items of chunk)) (D (done ++ chunk)) r.step r.clean)
    (subst (λ xs. Goes (D (done ++ chunk)) (front ++ spaced (of x ++ []) ++ after of front width width rest) (D xs)) same further))
goes_items of front width D P c d opening done chunk (suc left) (x ∷ rest) line size some full ok =
    let same : done ++ (chunk ++ x ∷ []) ++ rest ≡ done ++ chunk ++ x ∷ rest =
    ap (λ l. l ++ rest) (sym (append_assoc done chunk (x ∷ []))) ∙ append_assoc (done ++ chunk) (x ∷ []) rest in
    let further = goes_items of front width D P c d opening done (chunk ++ x ∷ []) left rest line
    (omega (arith, size, length-append chunk (x ∷ []))) (omega (arith, some, length-append chunk (x ∷ []))) full (subst P (sym same) ok) in
    let numbers : spaced (numbers_of_items of (chunk ++ x ∷ [])) ≡ spaced (numbers_of_items of chunk) ++ spaced (of x) =
    ap spaced (numbers_of_items-append of chunk (x ∷ []) ∙ ap (λ l. numbers_of_items of chunk ++ l) (append-nil (of x))) ∙ spaced_append (numbers_of_items of chunk) (of x) in
    let text : opening ++ spaced (numbers_of_items of chunk) ++ (spaced (of x) ++ after of front width left rest) ≡ opening ++ spaced (numbers_of_items of (chunk ++ x ∷ [])) ++ after of front width left rest =
    sym (append_assoc (opening ++ spaced (numbers_of_items of chunk)) (spaced (of x)) (after of front width left rest))
    ∙ ap (λ l. l ++ after of front width left rest) (append_assoc opening (spaced (numbers_of_items of chunk)) (spaced (of x)) ∙ ap (λ l. opening ++ l) (sym numbers)) in
    goes_text d _ _ (D (done ++ chunk ++ x ∷ rest)) text
    (subst (λ xs. Goes d (opening ++ spaced (numbers_of_items of (chunk ++ x ∷ [])) ++ after of front width left rest) (D xs)) same further)

-- Cleanness of items.

clean_items : {X : Type 0} (of : X → List ℕ) (test : X → Bool) (front : List ℕ) (xs : List X) → ((x : X) → test x ≡ true → is_clean (spaced (of x)) ≡ true) → is_clean front ≡ true → list_all test xs ≡ true
    → is_clean (front ++ spaced (numbers_of_items of xs)) ≡ true
clean_items {X = X} of test front xs one f e = clean_append front (spaced (numbers_of_items of xs)) f (all xs e)
  where
    all : (xs : List X) → list_all test xs ≡ true → is_clean (spaced (numbers_of_items of xs)) ≡ true
    all [] e = refl
    all (x ∷ xs) e =
        let a = both (test x) (list_all test xs) e in
        ap is_clean (spaced_append (of x) (numbers_of_items of xs)) ∙ clean_append (spaced (of x)) (spaced (numbers_of_items of xs)) (one x a.0) (all xs a.1)

clean_node : (n : NodeNo) → is_node_text n ≡ true → is_clean (spaced (n.0 ∷ [])) ≡ true
clean_node n e = let le = le_from n.0 _ e in clean_append (decimal n.0) [] (clean_decimal n.0 (omega (arith, le))) refl

clean_pair : (p : NodeNo × ℕ) → is_pair_text p ≡ true → is_clean (spaced (p.0.0 ∷ p.1 ∷ [])) ≡ true
clean_pair p e =
    let a = both (is_32 p.0.0) (nat_le p.1 largest_value) e in
    let n = le_from p.0.0 _ a.0 in
    let v = le_from p.1 largest_value a.1 in
    clean_append (decimal p.0.0) (spaced (p.1 ∷ [])) (clean_decimal p.0.0 (omega (arith, n))) (clean_append (decimal p.1) [] (clean_decimal p.1 (omega (arith, v))) refl)

begins_with_space : {X : Type 0} (of : X → List ℕ) (xs : List X) → begins_no_digit (spaced (numbers_of_items of xs)) ≡ true
begins_with_space of xs = by (numbers_of_items of xs)
  where
    by : (ns : List ℕ) → begins_no_digit (spaced ns) ≡ true
    by [] = refl
    by (n ∷ ns) = refl

-- Walks.

abbrev AreNodes : List NodeNo → Type 0
AreNodes nodes = (length nodes ≤ most_nodes) × (list_all is_node_text nodes ≡ true)

nodes_closed : (xs ys : List NodeNo) → AreNodes (xs ++ ys) → AreNodes xs
nodes_closed xs ys ok = (omega (arith, ok.0, length-append xs ys), (both (list_all is_node_text xs) (list_all is_node_text ys) (sym (list_all-append is_node_text xs ys) ∙ ok.1)).0)

last_nodes : (xs ys : List NodeNo) → AreNodes (xs ++ ys) → list_all is_node_text ys ≡ true
last_nodes xs ys ok = (both (list_all is_node_text xs) (list_all is_node_text ys) (sym (list_all-append is_node_text xs ys) ∙ ok.1)).1

last_walk-append : (walks : List (List NodeNo)) (walk : List NodeNo) → last_walk (walks ++ walk ∷ []) ≡ walk
last_walk-append [] walk = refl
last_walk-append (w ∷ []) walk = refl
last_walk-append (w ∷ next ∷ walks) walk = last_walk-append (next ∷ walks) walk

replaced_last-append : {X : Type 0} (xs : List X) (x y : X) → replaced_last (xs ++ x ∷ []) y ≡ xs ++ y ∷ []
replaced_last-append [] x y = refl
replaced_last-append (z ∷ []) x y = refl
replaced_last-append (z ∷ next ∷ zs) x y = ap (λ l. z ∷ l) (replaced_last-append (next ∷ zs) x y)

full_walk : (walk : List NodeNo) → length walk % 64 ≡ 0 → 1 ≤ length walk → is_full_walk walk ≡ true
full_walk [] e some = absurd (omega arith)
full_walk (n ∷ walk) e some = eq-eqb (length (n ∷ walk) % 64) 0 e

longer_fits : (walk nodes : List NodeNo) → AreNodes (walk ++ nodes) → lengthened walk nodes ≡ Some (walk ++ nodes)
longer_fits walk nodes ok = ap (λ t. cond t (Some (walk ++ nodes)) None) (le_holds (length walk + length nodes) most_nodes (omega (arith, ok.0, length-append walk nodes)))

-- where a walk of that leg may come
pub record HasRoom (d : Draft) (leg : ℕ) : Type 0 where
  pub none : d.potentials ≡ []
  pub room : length d.walks < most_walks_of d.head
  pub has_leg : leg_of d.head (length d.walks) ≡ Some leg
  pub small : leg < 2 ^ 64

abbrev one_walk_made : Draft → List NodeNo → Option Draft
one_walk_made d ns = Some (record d { walks = d.walks ++ ns ∷ [] })

abbrev one_walk_with_nodes : Draft → List ℕ → Option Draft
one_walk_with_nodes d text = and_then (nodes_of_line text) (one_walk_made d)

abbrev one_walk_with_text : Draft → List ℕ → ℕ → Option Draft
one_walk_with_text d rest k = and_then (behind_the rest k) (one_walk_with_nodes d)

pub first_of_walk : (d : Draft) (leg : ℕ) (nodes : List NodeNo) → HasRoom d leg → 1 ≤ length nodes → length nodes ≤ 64 → list_all is_node_text nodes ≡ true
    → IsRead d (103 ∷ 32 ∷ decimal leg ++ spaced (numbers_of_items node_number nodes)) (record d { walks = d.walks ++ nodes ∷ [] })
first_of_walk d leg nodes ok some few valid =
    let text : List ℕ = spaced (numbers_of_items node_number nodes) in
    let may : (is_empty d.potentials && nat_lt (length d.walks) (most_walks_of d.head)) ≡ true =
    both_hold (is_empty d.potentials) (nat_lt (length d.walks) (most_walks_of d.head)) (ap is_empty ok.none) (let r = ok.room in grind (arith, nat_tests)) in
    record {
      step = ap (λ t. and_then (cond t (leg_of d.head (length d.walks)) None) ((one_walk_with_text d) (32 ∷ decimal leg ++ text))) may
          ∙ ap (λ o. and_then o ((one_walk_with_text d) (32 ∷ decimal leg ++ text))) ok.has_leg
          ∙ ap (λ o. and_then o (one_walk_with_nodes d)) (the_number_read leg text ok.small (begins_with_space node_number nodes))
          ∙ ap (λ o. and_then o (one_walk_made d)) (nodes_read nodes some few valid);
      clean = clean_items node_number is_node_text (103 ∷ 32 ∷ decimal leg) nodes clean_node (clean_decimal leg ok.small) valid;
    }

abbrev longer_made : Draft → List (List NodeNo) → List NodeNo → Option Draft
longer_made d walks w = Some (record d { walks = replaced_last walks w })

abbrev longer_with_run : Draft → List (List NodeNo) → List NodeNo → Option Draft
longer_with_run d walks run = and_then (lengthened (last_walk walks) run) (longer_made d walks)

abbrev longer_with_nodes : Draft → List (List NodeNo) → List ℕ → Option Draft
longer_with_nodes d walks text = and_then (nodes_of_line text) (longer_with_run d walks)

abbrev longer_with_text : Draft → List (List NodeNo) → List ℕ → ℕ → Option Draft
longer_with_text d walks rest k = and_then (behind_the rest k) (longer_with_nodes d walks)

more_of_walk : (d : Draft) (leg : ℕ) (done nodes : List NodeNo) → HasRoom d leg → length done % 64 ≡ 0 → 1 ≤ length done → 1 ≤ length nodes → length nodes ≤ 64 → AreNodes (done ++ nodes)
    → IsRead (record d { walks = d.walks ++ done ∷ [] }) (104 ∷ 32 ∷ decimal leg ++ spaced (numbers_of_items node_number nodes)) (record d { walks = d.walks ++ (done ++ nodes) ∷ [] })
more_of_walk d leg done nodes ok full begun some few valid =
    let text : List ℕ = spaced (numbers_of_items node_number nodes) in
    let walks : List (List NodeNo) = d.walks ++ done ∷ [] in
    let may : (is_empty d.potentials && is_full_walk (last_walk walks)) ≡ true =
    both_hold (is_empty d.potentials) (is_full_walk (last_walk walks)) (ap is_empty ok.none) (ap is_full_walk (last_walk-append d.walks done) ∙ full_walk done full begun) in
    let index : length walks - 1 ≡ length d.walks = omega (arith, length-append d.walks (done ∷ [])) in
    record {
      step = ap (λ t. and_then (cond t (leg_of d.head (length walks - 1)) None) ((longer_with_text d) walks (32 ∷ decimal leg ++ text))) may
          ∙ ap (λ k. and_then (leg_of d.head k) ((longer_with_text d) walks (32 ∷ decimal leg ++ text))) index
          ∙ ap (λ o. and_then o ((longer_with_text d) walks (32 ∷ decimal leg ++ text))) ok.has_leg
          ∙ ap (λ o. and_then o ((longer_with_nodes d) walks)) (the_number_read leg text ok.small (begins_with_space node_number nodes))
          ∙ ap (λ o. and_then o ((longer_with_run d) walks)) (nodes_read nodes some few (last_nodes done nodes valid))
          ∙ ap (λ (w : List NodeNo). and_then (lengthened w nodes) ((longer_made d) walks)) (last_walk-append d.walks done)
          ∙ ap (λ o. and_then o ((longer_made d) walks)) (longer_fits done nodes valid)
          ∙ ap (λ (ws : List (List NodeNo)). Some (record d { walks = ws })) (replaced_last-append d.walks done (done ++ nodes));
      clean = clean_items node_number is_node_text (104 ∷ 32 ∷ decimal leg) nodes clean_node (clean_decimal leg ok.small) (last_nodes done nodes valid);
    }

-- the lines of one walk
goes_walk : (d : Draft) (leg : ℕ) (nodes : List NodeNo) → HasRoom d leg → is_walk_text nodes ≡ true → Goes d (walk_lines leg nodes) (record d { walks = d.walks ++ nodes ∷ [] })
goes_walk d leg [] ok e = absurd cc
goes_walk d leg (n ∷ nodes) ok e =
    let a = both (nat_le 1 (length (n ∷ nodes))) _ e in
    let b = both (nat_le (length (n ∷ nodes)) most_nodes) (list_all is_node_text (n ∷ nodes)) a.1 in
    let few = le_from (length (n ∷ nodes)) most_nodes b.0 in
    let D : List NodeNo → Draft = λ w. record d { walks = d.walks ++ w ∷ [] } in
    let c : Continues node_number (104 ∷ 32 ∷ decimal leg) 63 D AreNodes = record {
      closed = nodes_closed;
      more = λ done chunk full begun some few valid. more_of_walk d leg done chunk ok full begun some few valid;
    } in
    goes_text d _ _ (D (n ∷ nodes))
    (ap (λ l. 103 ∷ spaced (leg ∷ []) ++ (spaced (n.0 ∷ []) ++ l)) (nodes_are leg 63 nodes) ∙ ap (λ l. 103 ∷ 32 ∷ l ++ (spaced (n.0 ∷ []) ++ after node_number (104 ∷ 32 ∷ decimal leg) 63 63 nodes)) (append-nil (decimal leg))
    ∙ sym (append_assoc (103 ∷ 32 ∷ decimal leg) (spaced (n.0 ∷ [])) (after node_number (104 ∷ 32 ∷ decimal leg) 63 63 nodes)))
    (goes_items node_number (104 ∷ 32 ∷ decimal leg) 63 D AreNodes c d (103 ∷ 32 ∷ decimal leg) [] (n ∷ []) 63 nodes
    (λ line some few valid. first_of_walk d leg line ok some few valid.1) refl (omega arith) refl (few, b.1))

-- all walks from that index on
pub goes_walks : (d : Draft) (walks : List (List NodeNo)) → ((index : ℕ) → (leg_of d.head index ≡ Some (leg_at d.head index)) × (leg_at d.head index < 2 ^ 64)) → d.potentials ≡ []
    → length d.walks + length walks ≤ most_walks_of d.head → list_all is_walk_text walks ≡ true → Goes d (walks_from d.head (length d.walks) walks) (record d { walks = d.walks ++ walks })
goes_walks d [] legs none few e = subst (λ (ws : List (List NodeNo)). Goes d [] (record d { walks = ws })) (sym (append-nil d.walks)) (goes_none d)
goes_walks d (walk ∷ walks) legs none few e =
    let a = both (is_walk_text walk) (list_all is_walk_text walks) e in
    let index : ℕ = length d.walks in
    let next : Draft = record d { walks = d.walks ++ walk ∷ [] } in
    let one = goes_walk d (leg_at d.head index) walk (record { none = none; room = omega (arith, few); has_leg = (legs index).0; small = (legs index).1 }) a.0 in
    let size : length next.walks ≡ index + 1 = omega (arith, length-append d.walks (walk ∷ [])) in
    let rest = goes_walks next walks legs none (omega (arith, size, few)) a.1 in
    let more : Goes next (walks_from d.head (index + 1) walks) (record d { walks = (d.walks ++ walk ∷ []) ++ walks }) = subst (λ k. Goes next (walks_from d.head k walks) (record d { walks = (d.walks ++ walk ∷ []) ++ walks })) size rest in
    goes_on d (walk_lines (leg_at d.head index) walk) next (walks_from d.head (index + 1) walks) (record d { walks = d.walks ++ walk ∷ walks })
    one (subst (λ (ws : List (List NodeNo)). Goes next (walks_from d.head (index + 1) walks) (record d { walks = ws })) (append_assoc d.walks (walk ∷ []) walks) more)

-- Stops that were reached.

pub goes_served : (d : Draft) (served : List (VehicleNo × Served)) → is_clock d.head ≡ true → list_all is_served_text served ≡ true → Goes d (flat_map served_line served) (record d { served = d.served ++ served })
goes_served d [] clock e = subst (λ (ss : List (VehicleNo × Served)). Goes d [] (record d { served = ss })) (sym (append-nil d.served)) (goes_none d)
goes_served d (s ∷ served) clock e =
    let a = both (is_served_text s) (list_all is_served_text served) e in
    let next : Draft = record d { served = d.served ++ s ∷ [] } in
    let line : List ℕ = spaced (s.0.0 ∷ s.1.no.0 ∷ []) ++ 32 ∷ kind_text s.1.kind ++ spaced (s.1.node.0 ∷ s.1.arr ∷ s.1.dep ∷ []) in
    let step : draft_step d (115 ∷ line) ≡ Some next =
    ap (λ t. cond t (and_then (served_in line) (λ (stop : VehicleNo × Served). Some (record d { served = d.served ++ stop ∷ [] }))) None) clock
    ∙ ap (λ o. and_then o (λ (stop : VehicleNo × Served). Some (record d { served = d.served ++ stop ∷ [] }))) (served_read s a.0) in
    let one : Goes d (served_line s) next = goes_line d (115 ∷ line) next step (clean_stop s a.0) in
    let rest = goes_served next served clock a.1 in
    goes_on d (served_line s) next (flat_map served_line served) (record d { served = d.served ++ s ∷ served })
    one (subst (λ (ss : List (VehicleNo × Served)). Goes next (flat_map served_line served) (record d { served = ss })) (append_assoc d.served (s ∷ []) served) rest)
  where
    clean_kind : (s : VehicleNo × Served) → is_clean (kind_text s.1.kind) ≡ true
    clean_kind s = kinds s.1.kind
      where
        kinds : (k : StopKind) → is_clean (kind_text k) ≡ true
        kinds Pickup = refl
        kinds Dropoff = refl

    clean_stop : (s : VehicleNo × Served) → is_served_text s ≡ true → is_clean (spaced (s.0.0 ∷ s.1.no.0 ∷ []) ++ 32 ∷ kind_text s.1.kind ++ spaced (s.1.node.0 ∷ s.1.arr ∷ s.1.dep ∷ [])) ≡ true
    clean_stop s e =
        let a = both (is_32 s.0.0) _ e in
        let b = both (is_number s.1.no.0) _ a.1 in
        let c = both (is_32 s.1.node.0) _ b.1 in
        let d = both (is_number s.1.arr) (is_number s.1.dep) c.1 in
        let v = le_from s.0.0 _ a.0 in
        let n = le_from s.1.no.0 _ b.0 in
        let m = le_from s.1.node.0 _ c.0 in
        let p = le_from s.1.arr _ d.0 in
        let q = le_from s.1.dep _ d.1 in
        clean_append (spaced (s.0.0 ∷ s.1.no.0 ∷ []) ++ 32 ∷ kind_text s.1.kind) (spaced (s.1.node.0 ∷ s.1.arr ∷ s.1.dep ∷ []))
        (clean_append (spaced (s.0.0 ∷ s.1.no.0 ∷ [])) (32 ∷ kind_text s.1.kind)
        (clean_append (decimal s.0.0) (spaced (s.1.no.0 ∷ [])) (clean_decimal s.0.0 (omega (arith, v))) (clean_append (decimal s.1.no.0) [] (clean_decimal s.1.no.0 (omega (arith, n))) refl))
        (clean_kind s))
        (clean_append (decimal s.1.node.0) (spaced (s.1.arr ∷ s.1.dep ∷ [])) (clean_decimal s.1.node.0 (omega (arith, m)))
        (clean_append (decimal s.1.arr) (spaced (s.1.dep ∷ [])) (clean_decimal s.1.arr (omega (arith, p))) (clean_append (decimal s.1.dep) [] (clean_decimal s.1.dep (omega (arith, q))) refl)))

-- Potentials.

abbrev ArePairs : List (NodeNo × ℕ) → Type 0
ArePairs pairs = (do_rise pairs ≡ true) × (list_all is_pair_text pairs ≡ true)

rise_front : (n : ℕ) (xs ys : List (NodeNo × ℕ)) → rise_above n (xs ++ ys) ≡ true → rise_above n xs ≡ true
rise_front n [] ys e = refl
rise_front n (x ∷ xs) ys e =
    let a = both (nat_lt n x.0.0) (rise_above x.0.0 (xs ++ ys)) e in
    both_hold (nat_lt n x.0.0) (rise_above x.0.0 xs) a.0 (rise_front x.0.0 xs ys a.1)

rises_from : (last : NodeNo) (ys : List (NodeNo × ℕ)) → rise_above last.0 ys ≡ true → rise_from (Some last) ys ≡ true
rises_from last [] e = refl
rises_from last (y ∷ ys) e =
    let a = both (nat_lt last.0 y.0.0) (rise_above y.0.0 ys) e in
    both_hold (nat_lt last.0 y.0.0) (rise_from (Some y.0) ys) a.0 (rises_from y.0 ys a.1)

rise_back : (n : ℕ) (x : NodeNo × ℕ) (xs ys : List (NodeNo × ℕ)) → rise_above n ((x ∷ xs) ++ ys) ≡ true → rise_from (last_node_of (x ∷ xs)) ys ≡ true
rise_back n x [] ys e = rises_from x.0 ys (both (nat_lt n x.0.0) (rise_above x.0.0 ys) e).1
rise_back n x (z ∷ zs) ys e = rise_back x.0.0 z zs ys (both (nat_lt n x.0.0) (rise_above x.0.0 ((z ∷ zs) ++ ys)) e).1

do_rise_front : (xs ys : List (NodeNo × ℕ)) → do_rise (xs ++ ys) ≡ true → do_rise xs ≡ true
do_rise_front [] ys e = refl
do_rise_front (x ∷ xs) ys e = rise_front x.0.0 xs ys e

do_rise_back : (xs ys : List (NodeNo × ℕ)) → do_rise (xs ++ ys) ≡ true → rise_from (last_node_of xs) ys ≡ true
do_rise_back [] [] e = refl
do_rise_back [] (y ∷ ys) e = both_hold true (rise_from (Some y.0) ys) refl (rises_from y.0 ys e)
do_rise_back (x ∷ []) ys e = rises_from x.0 ys e
do_rise_back (x ∷ z ∷ zs) ys e = rise_back x.0.0 z zs ys e

pairs_closed : (xs ys : List (NodeNo × ℕ)) → ArePairs (xs ++ ys) → ArePairs xs
pairs_closed xs ys ok = (do_rise_front xs ys ok.0, (both (list_all is_pair_text xs) (list_all is_pair_text ys) (sym (list_all-append is_pair_text xs ys) ∙ ok.1)).0)

last_listed-append : (ps : List Potential) (p : Potential) → last_listed (ps ++ p ∷ []) ≡ p.listed
last_listed-append [] p = refl
last_listed-append (q ∷ []) p = refl
last_listed-append (q ∷ next ∷ ps) p = last_listed-append (next ∷ ps) p

with_pairs-append : (ps : List Potential) (p : Potential) (pairs : List (NodeNo × ℕ)) → with_pairs (ps ++ p ∷ []) pairs ≡ ps ++ (record p { listed = p.listed ++ pairs }) ∷ []
with_pairs-append [] p pairs = refl
with_pairs-append (q ∷ []) p pairs = refl
with_pairs-append (q ∷ next ∷ ps) p pairs = ap (λ l. q ∷ l) (with_pairs-append (next ∷ ps) p pairs)

full_pairs : (ps : List Potential) (p : Potential) → length p.listed % 32 ≡ 0 → are_pairs_full_in (ps ++ p ∷ []) ≡ true
full_pairs [] p e = eq-eqb (length p.listed % 32) 0 e
full_pairs (q ∷ ps) p e = ap (λ (l : List (NodeNo × ℕ)). length l % 32 == 0) (last_listed-append (q ∷ ps) p) ∙ eq-eqb (length p.listed % 32) 0 e

abbrev pairs_made : Draft → List Potential → List (NodeNo × ℕ) → Option Draft
pairs_made d all more = Some (record d { potentials = with_pairs all more })

more_of_potential : (d : Draft) (ps : List Potential) (rest : Option ℕ) (done pairs : List (NodeNo × ℕ)) → d.direct ≡ Ahead → length done % 32 ≡ 0 → 1 ≤ length pairs → length pairs ≤ 32 → ArePairs (done ++ pairs)
    → IsRead (record d { potentials = ps ++ (record { listed = done; rest = rest }) ∷ [] }) (119 ∷ spaced (numbers_of_items pair_numbers pairs)) (record d { potentials = ps ++ (record { listed = done ++ pairs; rest = rest }) ∷ [] })
more_of_potential d ps rest done pairs ahead full some few valid =
    let p : Potential = record { listed = done; rest = rest } in
    let all : List Potential = ps ++ p ∷ [] in
    let text : List ℕ = spaced (numbers_of_items pair_numbers pairs) in
    let may : (is_ahead d.direct && are_pairs_full_in all) ≡ true = both_hold (is_ahead d.direct) (are_pairs_full_in all) (ap is_ahead ahead) (full_pairs ps p full) in
    let last : last_node_of (last_listed all) ≡ last_node_of done = ap last_node_of (last_listed-append ps p) in
    let ok = (both (list_all is_pair_text done) (list_all is_pair_text pairs) (sym (list_all-append is_pair_text done pairs) ∙ valid.1)).1 in
    record {
      step = ap (λ t. cond t (and_then (pairs_of_line text (last_node_of (last_listed all))) ((pairs_made d) all)) None) may
          ∙ ap (λ l. and_then (pairs_of_line text l) ((pairs_made d) all)) last
          ∙ ap (λ o. and_then o ((pairs_made d) all)) (pairs_read (last_node_of done) pairs some few ok (do_rise_back done pairs valid.0))
          ∙ ap (λ (qs : List Potential). Some (record d { potentials = qs })) (with_pairs-append ps p pairs);
      clean = clean_items pair_numbers is_pair_text (119 ∷ []) pairs clean_pair refl ok;
    }

-- where a potential of that number may come
pub record WantsPotential (d : Draft) (number : ℕ) : Type 0 where
  pub next : next_number_with d.head d.direct (has_walks d) (length d.potentials) (length d.walks) ≡ Some number
  pub small : number < 2 ^ 64
  pub ahead : d.direct ≡ Ahead

clean_rest : (value : Option ℕ) → is_rest_text value ≡ true → is_clean (rest_text value) ≡ true
clean_rest None e = refl
clean_rest (Some v) e = let le = le_from v largest_value e in clean_decimal v (omega (arith, le))

abbrev potential_made : Draft → Option ℕ → Option Draft
potential_made d v = Some (record d { potentials = d.potentials ++ (record { listed = []; rest = v }) ∷ [] })

abbrev potential_with_rest : Draft → List ℕ → Option Draft
potential_with_rest d text = and_then (rest_at_end text) (potential_made d)

abbrev potential_with_text : Draft → List ℕ → ℕ → Option Draft
potential_with_text d rest k = and_then (behind_the rest k) (potential_with_rest d)

pub begin_of_potential : (d : Draft) (number : ℕ) (value : Option ℕ) → WantsPotential d number → is_rest_text value ≡ true
    → IsRead d (117 ∷ spaced (number ∷ []) ++ 32 ∷ rest_text value) (record d { potentials = d.potentials ++ (record { listed = []; rest = value }) ∷ [] })
begin_of_potential d number value ok e = record {
  step = ap (λ o. and_then o ((potential_with_text d) (spaced (number ∷ []) ++ 32 ∷ rest_text value))) ok.next
      ∙ ap (λ l. and_then (behind_the (32 ∷ l ++ 32 ∷ rest_text value) number) (potential_with_rest d)) (append-nil (decimal number))
      ∙ ap (λ o. and_then o (potential_with_rest d)) (the_number_read number (32 ∷ rest_text value) ok.small refl)
      ∙ ap (λ o. and_then o (potential_made d)) (rest_read value e);
  clean = clean_append (spaced (number ∷ [])) (32 ∷ rest_text value) (clean_append (decimal number) [] (clean_decimal number ok.small) refl) (clean_rest value e);
}

-- a text without its first byte
abbrev drop_first : List ℕ → List ℕ
drop_first [] = []
drop_first (b ∷ bs) = bs

goes_pairs : (d : Draft) (ps : List Potential) (rest : Option ℕ) (pairs : List (NodeNo × ℕ)) → d.direct ≡ Ahead → ArePairs pairs
    → Goes (record d { potentials = ps ++ (record { listed = []; rest = rest }) ∷ [] }) (drop_first (pairs_after 0 pairs)) (record d { potentials = ps ++ (record { listed = pairs; rest = rest }) ∷ [] })
goes_pairs d ps rest [] ahead ok = goes_none (record d { potentials = ps ++ (record { listed = []; rest = rest }) ∷ [] })
goes_pairs d ps rest (p ∷ pairs) ahead ok =
    let D : List (NodeNo × ℕ) → Draft = λ l. record d { potentials = ps ++ (record { listed = l; rest = rest }) ∷ [] } in
    let c : Continues pair_numbers (119 ∷ []) 31 D ArePairs = record {
      closed = pairs_closed;
      more = λ done chunk full begun some few valid. more_of_potential d ps rest done chunk ahead full some few valid;
    } in
    goes_text (D []) _ _ (D (p ∷ pairs)) (ap (λ l. 119 ∷ spaced (pair_numbers p) ++ l) (pairs_are 31 pairs))
    (goes_items pair_numbers (119 ∷ []) 31 D ArePairs c (D []) (119 ∷ []) [] (p ∷ []) 31 pairs
    (λ line some few valid. more_of_potential d ps rest [] line ahead refl some few valid) refl (omega arith) refl ok)

-- the lines of one potential
goes_potential : (d : Draft) (number : ℕ) (p : Potential) → WantsPotential d number → is_potential_text p ≡ true → Goes d (potential_lines number p) (record d { potentials = d.potentials ++ p ∷ [] })
goes_potential d number p ok e =
    let a = both (is_rest_text p.rest) (do_rise p.listed && list_all is_pair_text p.listed) e in
    let b = both (do_rise p.listed) (list_all is_pair_text p.listed) a.1 in
    let opening : List ℕ = 117 ∷ spaced (number ∷ []) ++ 32 ∷ rest_text p.rest in
    let begun = begin_of_potential d number p.rest ok a.0 in
    let next : Draft = record d { potentials = d.potentials ++ (record { listed = []; rest = p.rest }) ∷ [] } in
    goes_text d _ _ (record d { potentials = d.potentials ++ p ∷ [] })
    (ap (λ l. opening ++ l) (first_ends p.listed) ∙ sym (append_assoc opening (10 ∷ []) (drop_first (pairs_after 0 p.listed))))
    (goes_on d (opening ++ 10 ∷ []) next (drop_first (pairs_after 0 p.listed)) (record d { potentials = d.potentials ++ p ∷ [] })
    (goes_line d opening next begun.step begun.clean) (goes_pairs d d.potentials p.rest p.listed ok.ahead b))
  where
    first_ends : (pairs : List (NodeNo × ℕ)) → pairs_after 0 pairs ≡ 10 ∷ drop_first (pairs_after 0 pairs)
    first_ends [] = refl
    first_ends (p ∷ pairs) = refl

-- all potentials from that number on
pub goes_potentials : (d : Draft) (ps : List Potential) → ((count : ℕ) → count < length d.potentials + length ps → next_number_with d.head d.direct (has_walks d) count (length d.walks) ≡ Some (first_number d.head + count))
    → d.direct ≡ Ahead → length d.potentials + length ps ≤ 2 ^ 32 → list_all is_potential_text ps ≡ true
    → Goes d (numbered_lines (first_number d.head + length d.potentials) ps) (record d { potentials = d.potentials ++ ps })
goes_potentials d [] wants ahead few e = subst (λ (qs : List Potential). Goes d [] (record d { potentials = qs })) (sym (append-nil d.potentials)) (goes_none d)
goes_potentials d (p ∷ ps) wants ahead few e =
    let a = both (is_potential_text p) (list_all is_potential_text ps) e in
    let number : ℕ = first_number d.head + length d.potentials in
    let next : Draft = record d { potentials = d.potentials ++ p ∷ [] } in
    let one = goes_potential d number p (record { next = wants (length d.potentials) (omega arith); small = omega (arith, few, first_number_few d.head); ahead = ahead }) a.0 in
    let size : length next.potentials ≡ length d.potentials + 1 = omega (arith, length-append d.potentials (p ∷ [])) in
    let rest = goes_potentials next ps (λ count less. wants count (omega (arith, size, less))) ahead (omega (arith, size, few)) a.1 in
    let number_is : first_number d.head + length next.potentials ≡ number + 1 = omega (arith, size) in
    let more : Goes next (numbered_lines (number + 1) ps) (record d { potentials = (d.potentials ++ p ∷ []) ++ ps }) =
    subst (λ k. Goes next (numbered_lines k ps) (record d { potentials = (d.potentials ++ p ∷ []) ++ ps })) number_is rest in
    goes_on d (potential_lines number p) next (numbered_lines (number + 1) ps) (record d { potentials = d.potentials ++ p ∷ ps })
    one (subst (λ (qs : List Potential). Goes next (numbered_lines (number + 1) ps) (record d { potentials = qs })) (append_assoc d.potentials (p ∷ []) ps) more)
  where
    first_number_few : (head : Head) → first_number head ≤ 5
    first_number_few (Removal asked x) = omega arith
    first_number_few head = omega arith

-- The direct walk.

first_of_direct : (d : Draft) (nodes : List NodeNo) → wants_direct_with d.head d.direct (length d.potentials) ≡ true → 1 ≤ length nodes → length nodes ≤ 64 → list_all is_node_text nodes ≡ true
    → IsRead d (101 ∷ spaced (numbers_of_items node_number nodes)) (record d { direct = Walk nodes })
first_of_direct d [] wants some few e = absurd (omega arith)
first_of_direct d (n ∷ nodes) wants some few e =
    let a = both (is_node_text n) (list_all is_node_text nodes) e in
    let le = le_from n.0 _ a.0 in
    let text : List ℕ = spaced (numbers_of_items node_number (n ∷ nodes)) in
    record {
      step = ap (λ t. cond t (with_direct d (direct_in text)) None) wants
          ∙ ap (λ t. with_direct d (cond t (Some Absent) (walk_direct (nodes_of_line text)))) (not_absent n.0 (spaced (numbers_of_items node_number nodes)) (omega (arith, le)))
          ∙ ap (λ o. with_direct d (walk_direct o)) (nodes_read (n ∷ nodes) some few e);
      clean = clean_items node_number is_node_text (101 ∷ []) (n ∷ nodes) clean_node refl e;
    }

more_of_direct : (d : Draft) (done nodes : List NodeNo) → length done % 64 ≡ 0 → 1 ≤ length nodes → length nodes ≤ 64 → AreNodes (done ++ nodes)
    → IsRead (record d { direct = Walk done }) (102 ∷ spaced (numbers_of_items node_number nodes)) (record d { direct = Walk (done ++ nodes) })
more_of_direct d done nodes full some few valid =
    let text : List ℕ = spaced (numbers_of_items node_number nodes) in
    record {
      step = ap (λ t. with_direct d (cond t (and_then (nodes_of_line text) (λ (run : List NodeNo). walk_direct (lengthened done run))) None)) (eq-eqb (length done % 64) 0 full)
          ∙ ap (λ o. with_direct d (and_then o (λ (run : List NodeNo). walk_direct (lengthened done run)))) (nodes_read nodes some few (last_nodes done nodes valid))
          ∙ ap (λ o. with_direct d (walk_direct o)) (longer_fits done nodes valid);
      clean = clean_items node_number is_node_text (102 ∷ []) nodes clean_node refl (last_nodes done nodes valid);
    }

abbrev pub direct_of : Option (List NodeNo) → Direct
direct_of None = Absent
direct_of (Some nodes) = Walk nodes

pub goes_direct : (d : Draft) (direct : Option (List NodeNo)) → wants_direct_with d.head d.direct (length d.potentials) ≡ true → is_direct_text direct ≡ true
    → Goes d (direct_lines direct) (record d { direct = direct_of direct })
goes_direct d None wants e = goes_line d (codes "e -") (record d { direct = Absent }) (ap (λ t. cond t (with_direct d (direct_in (codes " -"))) None) wants) refl
goes_direct d (Some []) wants e = absurd cc
goes_direct d (Some (n ∷ nodes)) wants e =
    let a = both (nat_le 1 (length (n ∷ nodes))) _ e in
    let b = both (nat_le (length (n ∷ nodes)) most_nodes) (list_all is_node_text (n ∷ nodes)) a.1 in
    let few = le_from (length (n ∷ nodes)) most_nodes b.0 in
    let D : List NodeNo → Draft = λ w. record d { direct = Walk w } in
    let c : Continues node_number (102 ∷ []) 63 D AreNodes = record {
      closed = nodes_closed;
      more = λ done chunk full begun some few valid. more_of_direct d done chunk full some few valid;
    } in
    goes_text d _ _ (D (n ∷ nodes)) (ap (λ l. 101 ∷ spaced (n.0 ∷ []) ++ l) (direct_is 63 nodes))
    (goes_items node_number (102 ∷ []) 63 D AreNodes c d (101 ∷ []) [] (n ∷ []) 63 nodes
    (λ line some few valid. first_of_direct d line wants some few valid.1) refl (omega arith) refl (few, b.1))
