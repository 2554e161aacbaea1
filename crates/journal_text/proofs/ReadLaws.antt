use Rattle.std.proofs.Common.{◌≡◌, ℕ, zero, suc, ◌+◌, ◌-◌, ◌%◌, ◌≤◌, ◌==◌, Bool, true, false, ◌&&◌, ◌||◌, cond, List, [], ◌∷◌, ◌++◌, length, Option, Some, None, refl, sym, ap, ◌∙◌, subst, append_assoc, append-nil, arith}
use Rattle.std.proofs.lemmas.Bool.Decides.{nat_tests}
use Rattle.std.specs.Prelude.{nat_le, nat_lt, slice_index, take}
use Rattle.std.specs.List.{list_all, slice_split, onto_first}
use Rattle.std.specs.Str.Lines.{strip_carriage_return}
use Rattle.road_graph.specs.declared.road.NodeNo.{NodeNo}
use Rattle.plain_search.specs.declared.potential.Potential.{Potential}
use Rattle.ride_base.specs.declared.numbers.VehicleNo.{VehicleNo}
use Rattle.ride_base.specs.Pieces.{is_line_end, ended_in_parts, ended_lines}
use Rattle.stop_advance.specs.declared.served.Served.{Served}
use Rattle.board_core.specs.declared.entry.Submitted.TheVariants.{Accepted}
use Rattle.journal_text.specs.declared.heads.Head.{Head}
use Rattle.journal_text.specs.declared.heads.Head.TheVariants.{Ride, Offer, Nobody, Clock, Asked, Removal}
use Rattle.journal_text.specs.declared.draft.Direct.{Direct}
use Rattle.journal_text.specs.declared.draft.Direct.TheVariants.{Ahead, Absent, Walk}
use Rattle.journal_text.specs.declared.draft.Draft.{Draft}
use Rattle.journal_text.specs.TextGroups.{group_lines, goes_on_with, goes_on_with_line, is_full_walk, last_walk, is_field_end}
use Rattle.journal_text.specs.Forms.{is_walk_text}
use Rattle.journal_text.specs.LineParts.{and_then}
use Rattle.journal_text.specs.Drafts.{is_direct_full_in, most_walks_of, has_walks, has_proof_or_none, is_whole_with, is_whole_draft, is_empty, is_clock, leg_of, refused_head, removed_head, refuse_step, remove_step, serve_step, next_leg_of, walk_step, open_leg_of, longer_step, next_number_with, potential_step, are_pairs_full_in, is_ahead, pairs_step, wants_direct_with, direct_step, longer_direct_in, longer_direct_step, draft_step, draft_of_line, goes_on_in, head_goes_on_in, walks_go_on_in}
use Rattle.journal_text.specs.DraftTexts.{draft_text, is_commit, most_potentials_of, is_direct_draft, IsDraft, group_of}
use Rattle.journal_text.proofs.Spelling.{both, both_hold, is_clean, was_then, was_if, le_from}
use Rattle.journal_text.proofs.DraftSteps.{step_was, begin_was, with_head_was, with_direct_was, no_length, none_listed}
use Rattle.journal_text.proofs.DraftReads.{ended, drafted}
use Rattle.journal_text.proofs.DraftLaws.{draft_reads}
use Rattle.journal_text.proofs.GroupLaws.{whole_law}

-- What the lines ahead say of the next group, by the lines that were read.

-- Lines and their text.

not_line_end : (b : ℕ) → nat_le 32 b ≡ true → (b == 10) ≡ false
not_line_end b e = let h = le_from 32 b e in grind (arith, nat_tests)

pub split_line : (line rest : List ℕ) → is_clean line ≡ true → slice_split is_line_end (line ++ 10 ∷ rest) ≡ line ∷ slice_split is_line_end rest
split_line [] rest e = refl
split_line (b ∷ line) rest e =
    let a = both (nat_le 32 b) (is_clean line) e in
    ap (λ t. cond t ([] ∷ slice_split is_line_end (line ++ 10 ∷ rest)) (onto_first b (slice_split is_line_end (line ++ 10 ∷ rest)))) (not_line_end b a.0)
    ∙ ap (onto_first b) (split_line line rest a.1)

pub some_part : (text : List ℕ) → (part : List ℕ) × (parts : List (List ℕ)) × (slice_split is_line_end text ≡ part ∷ parts)
some_part [] = ([], [], refl)
some_part (b ∷ text) = by (b == 10) (some_part text)
  where
    by : (t : Bool) → (part : List ℕ) × (parts : List (List ℕ)) × (slice_split is_line_end text ≡ part ∷ parts)
        → (part : List ℕ) × (parts : List (List ℕ)) × (cond t ([] ∷ slice_split is_line_end text) (onto_first b (slice_split is_line_end text)) ≡ part ∷ parts)
    by true p = ([], slice_split is_line_end text, refl)
    by false p = (b ∷ p.0, p.1, ap (onto_first b) p.2)

clean_index : (line : List ℕ) (k : ℕ) → is_clean line ≡ true → (slice_index line k == 13) ≡ false
clean_index [] zero e = refl
clean_index [] (suc k) e = refl
clean_index (b ∷ line) zero e = let a = both (nat_le 32 b) (is_clean line) e in let h = le_from 32 b a.0 in grind (arith, nat_tests)
clean_index (b ∷ line) (suc k) e = clean_index line k (both (nat_le 32 b) (is_clean line) e).1

pub strip_clean : (line : List ℕ) → is_clean line ≡ true → strip_carriage_return line ≡ line
strip_clean line e = ap (λ t. cond t (take (length line - 1) line) line) (clean_index line (length line - 1) e)

pub ended_line : (line rest : List ℕ) → is_clean line ≡ true → ended_lines (line ++ 10 ∷ rest) ≡ line ∷ ended_lines rest
ended_line line rest e =
    let p = some_part rest in
    ap ended_in_parts (split_line line rest e ∙ ap (λ ps. line ∷ ps) p.2)
    ∙ ap (λ l. l ∷ ended_in_parts (p.0 ∷ p.1)) (strip_clean line e)
    ∙ ap (λ ps. line ∷ ended_in_parts ps) (sym p.2)

pub ended_all : (lines : List (List ℕ)) (rest : List ℕ) → list_all is_clean lines ≡ true → ended_lines (ended lines ++ rest) ≡ lines ++ ended_lines rest
ended_all [] rest e = refl
ended_all (line ∷ lines) rest e =
    let a = both (is_clean line) (list_all is_clean lines) e in
    ap ended_lines (append_assoc line (10 ∷ ended lines) rest) ∙ ended_line line (ended lines ++ rest) a.0 ∙ ap (λ ls. line ∷ ls) (ended_all lines rest a.1)

-- the lines of a group as far as it was read
abbrev pub draft_lines : Draft → List (List ℕ)
draft_lines d = ended_lines (draft_text d)

-- the group that lines come to
abbrev pub read_of : (number : ℕ) → List (List ℕ) → Option Draft
read_of number [] = None
read_of number (first ∷ more) = and_then (draft_of_line number first) (λ (d : Draft). drafted d more)

-- the lines of a group are read as that group
pub record OwnLines (d : Draft) : Type 0 where
  pub first : List ℕ
  pub more : List (List ℕ)
  pub are : draft_lines d ≡ first ∷ more
  pub read : read_of d.line (first ∷ more) ≡ Some d
  pub text : draft_text d ≡ ended (first ∷ more)
  pub clean : list_all is_clean (first ∷ more) ≡ true

pub own_lines : (d : Draft) → IsDraft d → OwnLines d
own_lines d ok =
    let r = draft_reads d ok in
    let lines : List (List ℕ) = r.first ∷ r.more in
    record {
      first = r.first;
      more = r.more;
      are = ap ended_lines (r.spelled ∙ sym (append-nil (ended lines))) ∙ ended_all lines [] r.clean ∙ append-nil lines;
      read = r.begun;
      text = r.spelled;
      clean = r.clean;
    }

pub own_read : (d : Draft) → IsDraft d → read_of d.line (draft_lines d) ≡ Some d
own_read d ok = let o = own_lines d ok in ap (read_of d.line) o.are ∙ o.read

pub step_lines : (d : Draft) (line : List ℕ) (d' : Draft) → IsDraft d → draft_step d line ≡ Some d' → draft_lines d' ≡ draft_lines d ++ line ∷ []
step_lines d line d' ok e =
    let w = step_was d line d' ok e in
    let o = own_lines d ok in
    ap ended_lines (w.spelled ∙ ap (λ l. l ++ (line ++ 10 ∷ [])) o.text) ∙ ended_all (o.first ∷ o.more) (line ++ 10 ∷ []) o.clean
    ∙ ap (λ ls. (o.first ∷ o.more) ++ ls) (ended_line line [] w.clean) ∙ ap (λ ls. ls ++ line ∷ []) (sym o.are)

pub begin_lines : (number : ℕ) (line : List ℕ) (d : Draft) → draft_of_line number line ≡ Some d → draft_lines d ≡ line ∷ []
begin_lines number line d e =
    let w = begin_was number line d e in
    ap ended_lines w.spelled ∙ ended_line line [] w.clean

pub whole_lines : (d : Draft) → IsDraft d → is_whole_draft d ≡ true → group_lines (group_of d) ≡ draft_lines d
whole_lines d ok whole = ap ended_lines (whole_law d ok whole).text

-- A line that a whole group takes goes on with it.

refuse_goes : (d : Draft) (rest : List ℕ) (d' : Draft) → is_whole_draft d ≡ true → refuse_step d rest ≡ Some d' → goes_on_in d 120 ≡ true
refuse_goes d rest d' whole e =
    let w = with_head_was d d' (refused_head d.head d.served rest) e in
    by d.head d.served refl refl w.0 w.1
  where
    by : (head : Head) (served : List (VehicleNo × Served)) → d.head ≡ head → d.served ≡ served → (head' : Head) → refused_head head served rest ≡ Some head' → goes_on_in d 120 ≡ true
    by (Ride r Accepted) served h s head' f = ap (λ (x : Head). head_goes_on_in x d 120) h
    by (Clock now) [] h s head' f = ap (λ (x : Head). head_goes_on_in x d 120) h ∙ ap is_empty s
    by (Asked asked) served h s head' f = absurd (never (sym (ap (λ (x : Head). is_whole_with x (nat_le (most_walks_of x) (length d.walks + 1)) (has_proof_or_none d.direct d.potentials)) h) ∙ whole))
      where
        never : false ≡ true → ⊥
        never e = cc
    by head served h s head' f = absurd cc

serve_goes : (d : Draft) (rest : List ℕ) (d' : Draft) → serve_step d rest ≡ Some d' → goes_on_in d 115 ≡ true
serve_goes d rest d' e = by d.head refl (was_if (is_clock d.head) _ d' e).0
  where
    by : (head : Head) → d.head ≡ head → is_clock head ≡ true → goes_on_in d 115 ≡ true
    by (Clock now) h t = ap (λ (x : Head). head_goes_on_in x d 115) h
    by head h t = absurd cc

remove_goes : (d : Draft) (rest : List ℕ) (d' : Draft) → is_whole_draft d ≡ true → remove_step d rest ≡ Some d' → goes_on_in d 111 ≡ true
remove_goes d rest d' whole e =
    let w = with_head_was d d' (removed_head d.head rest) e in
    by d.head refl w.0 w.1
  where
    by : (head : Head) → d.head ≡ head → (head' : Head) → removed_head head rest ≡ Some head' → goes_on_in d 111 ≡ true
    by (Asked asked) h head' f = absurd (never (sym (ap (λ (x : Head). is_whole_with x (nat_le (most_walks_of x) (length d.walks + 1)) (has_proof_or_none d.direct d.potentials)) h) ∙ whole))
      where
        never : false ≡ true → ⊥
        never e = cc
    by head h head' f = absurd cc

-- only these heads have walks
with_legs : (d : Draft) (index leg letter : ℕ) → leg_of d.head index ≡ Some leg → (letter == 117) ≡ false → walks_go_on_in d letter ≡ true → goes_on_in d letter ≡ true
with_legs d index leg letter e other may = by d.head refl e
  where
    first : (a b c : Bool) → a ≡ false → b ≡ true → (a || (b || c)) ≡ true
    first true b c e f = absurd cc
    first false true c e f = refl
    first false false c e f = absurd cc

    by : (head : Head) → d.head ≡ head → leg_of head index ≡ Some leg → goes_on_in d letter ≡ true
    by (Offer asked o) h f = ap (λ (x : Head). head_goes_on_in x d letter) h ∙ first (letter == 117) (walks_go_on_in d letter) _ other may
    by (Removal asked x) h f = ap (λ (y : Head). head_goes_on_in y d letter) h ∙ first (letter == 117) (walks_go_on_in d letter) _ other may
    by head h f = absurd cc

walk_goes : (d : Draft) (rest : List ℕ) (d' : Draft) → walk_step d rest ≡ Some d' → goes_on_in d 103 ≡ true
walk_goes d rest d' e =
    let a = was_then (next_leg_of d) _ d' e in
    let t = was_if (is_empty d.potentials && nat_lt (length d.walks) (most_walks_of d.head)) (leg_of d.head (length d.walks)) a.value a.was in
    let u = both (is_empty d.potentials) _ t.0 in
    with_legs d (length d.walks) a.value 103 t.1 refl (both_hold (is_empty d.potentials) true u.0 refl)

longer_goes : (d : Draft) (rest : List ℕ) (d' : Draft) → longer_step d rest ≡ Some d' → goes_on_in d 104 ≡ true
longer_goes d rest d' e =
    let a = was_then (open_leg_of d) _ d' e in
    let t = was_if (is_empty d.potentials && is_full_walk (last_walk d.walks)) (leg_of d.head (length d.walks - 1)) a.value a.was in
    let u = both (is_empty d.potentials) (is_full_walk (last_walk d.walks)) t.0 in
    with_legs d (length d.walks - 1) a.value 104 t.1 refl (both_hold (is_empty d.potentials) (is_full_walk (last_walk d.walks)) u.0 u.1)

potential_goes : (d : Draft) (rest : List ℕ) (d' : Draft) → potential_step d rest ≡ Some d' → goes_on_in d 117 ≡ true
potential_goes d rest d' e =
    let a = was_then (next_number_with d.head d.direct (has_walks d) (length d.potentials) (length d.walks)) _ d' e in
    by d.head refl d.direct (has_walks d) a.was
  where
    by : (head : Head) → d.head ≡ head → (direct : Direct) (has : Bool) {number : ℕ} → next_number_with head direct has (length d.potentials) (length d.walks) ≡ Some number → goes_on_in d 117 ≡ true
    by head h direct false f = absurd cc
    by (Offer asked o) h direct true f = ap (λ (x : Head). head_goes_on_in x d 117) h
    by (Nobody asked) h direct true f = ap (λ (x : Head). head_goes_on_in x d 117) h
    by (Removal asked x) h direct true f = ap (λ (y : Head). head_goes_on_in y d 117) h
    by head h direct true f = absurd cc

some_pairs : (ps : List Potential) → are_pairs_full_in ps ≡ true → is_empty ps ≡ false
some_pairs [] e = absurd cc
some_pairs (p ∷ ps) e = refl

never : {A : Type 0} → false ≡ true → A
never e = absurd cc

-- a whole group that may take pairs is a removal
pairs_goes : (d : Draft) (rest : List ℕ) (d' : Draft) → IsDraft d → is_whole_draft d ≡ true → pairs_step d rest ≡ Some d' → goes_on_in d 119 ≡ true
pairs_goes d rest d' ok whole e =
    let t = was_if (is_ahead d.direct && are_pairs_full_in d.potentials) _ d' e in
    let u = both (is_ahead d.direct) (are_pairs_full_in d.potentials) t.0 in
    by d.head refl d.direct refl u.0 u.1 (some_pairs d.potentials u.1)
  where
    whole_at : (head : Head) → d.head ≡ head → is_whole_with head (nat_le (most_walks_of head) (length d.walks + 1)) (has_proof_or_none d.direct d.potentials) ≡ true
    whole_at head h = sym (ap (λ (x : Head). is_whole_with x (nat_le (most_walks_of x) (length d.walks + 1)) (has_proof_or_none d.direct d.potentials)) h) ∙ whole

    broken : (direct : Direct) → d.direct ≡ direct → is_ahead direct ≡ true → is_empty d.potentials ≡ false → has_proof_or_none d.direct d.potentials ≡ true → goes_on_in d 119 ≡ true
    broken Ahead h a some p = never (sym (ap (λ (x : Direct). has_proof_or_none x d.potentials) h ∙ some) ∙ p)
    broken Absent h a some p = never a
    broken (Walk nodes) h a some p = never a

    few_none : (head : Head) → d.head ≡ head → most_potentials_of head (length d.walks) ≡ 0 → is_empty d.potentials ≡ false → goes_on_in d 119 ≡ true
    few_none head h zero' some =
        let none : d.potentials ≡ [] = no_length d.potentials (omega (arith, subst (λ (x : Head). length d.potentials ≤ most_potentials_of x (length d.walks)) h ok.few, zero')) in
        never (sym some ∙ ap is_empty none)

    last_one : (a b : Bool) → b ≡ true → (false || (a || b)) ≡ true
    last_one true b e = refl
    last_one false b e = e

    by : (head : Head) → d.head ≡ head → (direct : Direct) → d.direct ≡ direct → is_ahead direct ≡ true → are_pairs_full_in d.potentials ≡ true → is_empty d.potentials ≡ false → goes_on_in d 119 ≡ true
    by (Removal asked x) h direct k a full some = ap (λ (y : Head). head_goes_on_in y d 119) h ∙ last_one (walks_go_on_in d 119) (are_pairs_full_in d.potentials) full
    by (Offer asked o) h direct k a full some = broken direct k a some (both _ (has_proof_or_none d.direct d.potentials) (whole_at (Offer asked o) h)).1
    by (Nobody asked) h direct k a full some = broken direct k a some (whole_at (Nobody asked) h)
    by head h direct k a full some = few_none head h refl some

direct_goes : (d : Draft) (rest : List ℕ) (d' : Draft) → is_whole_draft d ≡ true → direct_step d rest ≡ Some d' → goes_on_in d 101 ≡ true
direct_goes d rest d' whole e =
    let t = was_if (wants_direct_with d.head d.direct (length d.potentials)) _ d' e in
    by d.head refl d.direct refl t.0
  where
    whole_at : (head : Head) → d.head ≡ head → (direct : Direct) → d.direct ≡ direct → is_whole_with head (nat_le (most_walks_of head) (length d.walks + 1)) (has_proof_or_none direct d.potentials) ≡ true
    whole_at head h direct k = sym (ap (λ (x : Head). is_whole_with x (nat_le (most_walks_of x) (length d.walks + 1)) (has_proof_or_none d.direct d.potentials)) h
        ∙ ap (λ (x : Direct). is_whole_with head (nat_le (most_walks_of head) (length d.walks + 1)) (has_proof_or_none x d.potentials)) k) ∙ whole

    broken : (length d.potentials == 4) ≡ true → is_empty d.potentials ≡ true → goes_on_in d 101 ≡ true
    broken four none = never (sym (ap (λ (ps : List Potential). length ps == 4) (none_listed d.potentials none)) ∙ four)

    by : (head : Head) → d.head ≡ head → (direct : Direct) → d.direct ≡ direct → wants_direct_with head direct (length d.potentials) ≡ true → goes_on_in d 101 ≡ true
    by (Offer asked o) h Ahead k wants = broken wants (both _ (is_empty d.potentials) (whole_at (Offer asked o) h Ahead k)).1
    by (Nobody asked) h Ahead k wants = broken wants (whole_at (Nobody asked) h Ahead k)
    by head h direct k wants = absurd cc

longer_direct_goes : (d : Draft) (rest : List ℕ) (d' : Draft) → IsDraft d → longer_direct_step d rest ≡ Some d' → goes_on_in d 102 ≡ true
longer_direct_goes d rest d' ok e =
    let w = with_direct_was d d' (longer_direct_in d.direct rest) e in
    by d.direct refl w.0 w.1
  where
    last_one : (a b : Bool) → b ≡ true → (false || (a || b)) ≡ true
    last_one true b e = refl
    last_one false b e = e

    full : (nodes : List NodeNo) → is_walk_text nodes ≡ true → (length nodes % 64 == 0) ≡ true → is_full_walk nodes ≡ true
    full [] valid e = never valid
    full (n ∷ nodes) valid e = e

    commit : (head : Head) → d.head ≡ head → (nodes : List NodeNo) → d.direct ≡ Walk nodes → is_commit head ≡ true → is_full_walk nodes ≡ true → goes_on_in d 102 ≡ true
    commit (Offer asked o) h nodes k c f = ap (λ (x : Head). head_goes_on_in x d 102) h ∙ last_one (walks_go_on_in d 102) _ (ap is_direct_full_in k ∙ f)
    commit (Nobody asked) h nodes k c f = ap (λ (x : Head). head_goes_on_in x d 102) h ∙ ap is_direct_full_in k ∙ f
    commit head h nodes k c f = absurd cc

    by : (direct : Direct) → d.direct ≡ direct → (direct' : Direct) → longer_direct_in direct rest ≡ Some direct' → goes_on_in d 102 ≡ true
    by (Walk nodes) k direct' f =
        let t = was_if (length nodes % 64 == 0) _ direct' f in
        let v = both (is_commit d.head && length d.potentials == 4) (is_walk_text nodes) (sym (ap (is_direct_draft d.head d.potentials) k) ∙ ok.is_direct) in
        commit d.head refl nodes k (both (is_commit d.head) (length d.potentials == 4) v.0).0 (full nodes v.1 t.0)
    by direct k direct' f = absurd cc

goes_by_letter : (d : Draft) (letter n : ℕ) (d' : Draft) (o other : Option Draft) → (o ≡ Some d' → goes_on_in d n ≡ true) → (other ≡ Some d' → goes_on_in d letter ≡ true)
    → cond (letter == n) o other ≡ Some d' → goes_on_in d letter ≡ true
goes_by_letter d letter n d' o other same_letter differs e = by (letter == n) refl e
  where
    by : (t : Bool) → (letter == n) ≡ t → cond t o other ≡ Some d' → goes_on_in d letter ≡ true
    by true t e =
        let same : letter ≡ n = grind (arith, nat_tests) in
        ap (goes_on_in d) same ∙ same_letter e
    by false t e = differs e

goes_in : (d : Draft) (letter : ℕ) (rest : List ℕ) (d' : Draft) → IsDraft d → is_whole_draft d ≡ true → draft_step d (letter ∷ rest) ≡ Some d' → goes_on_in d letter ≡ true
goes_in d letter rest d' ok whole e =
    goes_by_letter d letter 120 d' _ _ (refuse_goes d rest d' whole) (goes_by_letter d letter 115 d' _ _ (serve_goes d rest d') (goes_by_letter d letter 111 d' _ _ (remove_goes d rest d' whole)
    (goes_by_letter d letter 103 d' _ _ (walk_goes d rest d') (goes_by_letter d letter 104 d' _ _ (longer_goes d rest d') (goes_by_letter d letter 117 d' _ _ (potential_goes d rest d')
    (goes_by_letter d letter 119 d' _ _ (pairs_goes d rest d' ok whole) (goes_by_letter d letter 101 d' _ _ (direct_goes d rest d' whole) (goes_by_letter d letter 102 d' _ None (longer_direct_goes d rest d' ok) (λ f. absurd cc))))))))) e

pub step_goes_on : (d : Draft) (line : List ℕ) (d' : Draft) → IsDraft d → is_whole_draft d ≡ true → draft_step d line ≡ Some d' → goes_on_with_line (group_of d) line ≡ true
step_goes_on d [] d' ok whole e = absurd cc
step_goes_on d (letter ∷ rest) d' ok whole e =
    both_hold (is_field_end rest) (goes_on_with (group_of d) letter) (step_was d (letter ∷ rest) d' ok e).field ((whole_law d ok whole).goes letter ∙ goes_in d letter rest d' ok whole e)

-- the last one of this file
pub last_law : (d : Draft) (line : List ℕ) (d' : Draft) → IsDraft d → is_whole_draft d ≡ true → draft_step d line ≡ Some d' → goes_on_with_line (group_of d) line ≡ true
last_law = step_goes_on
