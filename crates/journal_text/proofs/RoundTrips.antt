use Rattle.std.proofs.Common.{◌≡◌, ℕ, ◌+◌, ◌==◌, Bool, true, false, not, ◌&&◌, ◌||◌, List, [], ◌∷◌, ◌++◌, length, map, flat_map, Option, Some, None, refl, sym, ap, ◌∙◌, append-nil, eqb-true}
use Rattle.ride_base.specs.Pieces.{Piece, Whole}
use Rattle.plain_search.specs.declared.potential.Potential.{Potential}
use Rattle.road_graph.specs.declared.road.NodeNo.{NodeNo}
use Rattle.board_core.specs.declared.entry.Submitted.TheVariants.{Accepted, Refused}
use Rattle.board_core.specs.declared.entry.Advanced.TheVariants.{Moved, Back as Held}
use Rattle.journal_text.specs.declared.certificate.Certificate.{Certificate}
use Rattle.journal_text.specs.declared.text.TextDecision.TheVariants as answer
use Rattle.journal_text.specs.declared.text.TextCancelled.TheVariants as cancelled
use Rattle.journal_text.specs.declared.text.TextEntry.{TextEntry}
use Rattle.journal_text.specs.declared.text.TextEntry.TheVariants as text
use Rattle.journal_text.specs.declared.groups.Group.{Group}
use Rattle.journal_text.specs.declared.heads.Head.{Head}
use Rattle.journal_text.specs.TextGroups.{group_lines, goes_on_with, goes_on_with_line, joins_go_on, is_full_walk, is_full_direct, is_field_end, last_walk, entry_goes_on}
use Rattle.journal_text.specs.Forms.{is_in_form}
use Rattle.journal_text.specs.Journals.{is_over, IsNextGroup, AreGroups}
use Rattle.journal_text.specs.LineHeads.{head_in, lettered_head}
use Rattle.journal_text.specs.Drafts.{new_draft, draft_of_line}
use Rattle.journal_text.proofs.Spelling.{was_then}
use Rattle.journal_text.proofs.ReadLaws.{read_of}
use Rattle.journal_text.proofs.JournalLaws.{form_reads}

-- What was printed of a group is the next group, whatever group follows.

-- a letter by which no line goes on with a group
record GoesOnWithNone (letter : ℕ) : Type 0 where
  x : (letter == 120) ≡ false
  s : (letter == 115) ≡ false
  g : (letter == 103) ≡ false
  h : (letter == 104) ≡ false
  u : (letter == 117) ≡ false
  w : (letter == 119) ≡ false
  f : (letter == 102) ≡ false

not_first : (letter n : ℕ) (rest : List ℕ) (head : Head) → lettered_head n rest ≡ None → lettered_head letter rest ≡ Some head → (letter == n) ≡ false
not_first letter n rest head none e = by (letter == n) refl
  where
    never : None ≡ Some head → true ≡ false
    never f = absurd cc

    by : (t : Bool) → (letter == n) ≡ t → t ≡ false
    by false t = refl
    by true t = never (sym none ∙ ap (λ m. lettered_head m rest) (sym (eqb-true letter n t)) ∙ e)

first_letter : (letter : ℕ) (rest : List ℕ) (head : Head) → head_in (letter ∷ rest) ≡ Some head → GoesOnWithNone letter
first_letter letter rest head e = record {
  x = not_first letter 120 rest head refl e;
  s = not_first letter 115 rest head refl e;
  g = not_first letter 103 rest head refl e;
  h = not_first letter 104 rest head refl e;
  u = not_first letter 117 rest head refl e;
  w = not_first letter 119 rest head refl e;
  f = not_first letter 102 rest head refl e;
}

neither : (a b : Bool) → a ≡ false → b ≡ false → (a || b) ≡ false
neither a false e f = neither_first a e
  where
    neither_first : (a : Bool) → a ≡ false → (a || false) ≡ false
    neither_first true e = e
    neither_first false e = refl
neither a true e f = absurd (never f)
  where
    never : true ≡ false → ⊥
    never g = cc

not_both : (a b : Bool) → a ≡ false → (a && b) ≡ false
not_both true b e = absurd (never e)
  where
    never : true ≡ false → ⊥
    never g = cc
not_both false b e = refl

joins_end : (ps : List Potential) (letter : ℕ) → GoesOnWithNone letter → joins_go_on ps letter ≡ false
joins_end [] letter k = k.u
joins_end (p ∷ []) letter k = neither (letter == 117) _ k.u (not_both (letter == 119) _ k.w)
joins_end (p ∷ next ∷ ps) letter k = joins_end (next ∷ ps) letter k

walks_end : (walks : List (List NodeNo)) (letter : ℕ) → GoesOnWithNone letter → ((letter == 103) || (letter == 104 && is_full_walk (last_walk walks))) ≡ false
walks_end walks letter k = neither (letter == 103) _ k.g (not_both (letter == 104) _ k.h)

entry_ends : (entry : TextEntry) (proof : Option Certificate) (joins : List Potential) (letter : ℕ) → GoesOnWithNone letter → entry_goes_on entry proof joins letter ≡ false
entry_ends (text.Submit r Accepted) proof joins letter k = k.x
entry_ends (text.Submit r (Refused reason)) proof joins letter k = refl
entry_ends (text.Claim number desk) proof joins letter k = refl
entry_ends (text.Back number) proof joins letter k = refl
entry_ends (text.Commit number (answer.Assigned o)) None joins letter k = neither _ _ (walks_end o.walks letter k) k.u
entry_ends (text.Commit number (answer.Assigned o)) (Some c) joins letter k = neither false _ refl (neither (letter == 117) _ k.u (not_both (letter == 102) (is_full_direct c.direct) k.f))
entry_ends (text.Commit number answer.Nobody) None joins letter k = neither false _ refl k.u
entry_ends (text.Commit number answer.Nobody) (Some c) joins letter k = neither false _ refl (neither (letter == 117) _ k.u (not_both (letter == 102) (is_full_direct c.direct) k.f))
entry_ends (text.Advance now (Moved [])) proof joins letter k = neither (letter == 120) (letter == 115) k.x k.s
entry_ends (text.Advance now (Moved (s ∷ more))) proof joins letter k = k.s
entry_ends (text.Advance now (Held clock)) proof joins letter k = refl
entry_ends (text.Cancel number (cancelled.Removed x)) proof [] letter k = neither _ _ (walks_end x.walks letter k) (joins_end [] letter k)
entry_ends (text.Cancel number (cancelled.Removed x)) proof (p ∷ ps) letter k = neither false _ refl (joins_end (p ∷ ps) letter k)
entry_ends (text.Cancel number (cancelled.Refused reason)) proof joins letter k = refl
entry_ends text.Shut proof joins letter k = refl

first_line_ends : (g : Group) (line : List ℕ) (head : Head) → head_in line ≡ Some head → not (goes_on_with_line g line) ≡ true
first_line_ends g [] head e = refl
first_line_ends g (letter ∷ rest) head e = by (is_field_end rest) (entry_ends g.entry g.proof g.joins letter (first_letter letter rest head e))
  where
    by : (t : Bool) → goes_on_with g letter ≡ false → not (t && goes_on_with g letter) ≡ true
    by true f = ap not f
    by false f = refl

-- behind a group the lines of any other one belong to it no more
pub over_before_group : (g g' : Group) (rest : List Piece) → is_in_form g' ≡ true → is_over g (map Whole (group_lines g') ++ rest) ≡ true
over_before_group g g' rest e =
    let a = form_reads g'.line g' e in
    let f = was_then (draft_of_line g'.line a.first) _ a.draft (ap (read_of g'.line) (sym a.lines) ∙ a.read) in
    let h = was_then (head_in a.first) (λ (head : Head). Some (new_draft g'.line head)) f.value f.was in
    ap (λ ls. is_over g (map Whole ls ++ rest)) a.lines ∙ first_line_ends g a.first h.value h.was

-- what was printed of a group is read again, whatever group follows
pub group_is_next : (g g' : Group) (rest : List Piece) → is_in_form g ≡ true → is_in_form g' ≡ true
    → IsNextGroup g.line (map Whole (group_lines g) ++ (map Whole (group_lines g') ++ rest)) g (map Whole (group_lines g') ++ rest)
group_is_next g g' rest e f = record { number = refl; form = e; lines = refl; over = over_before_group g g' rest f }

-- and at the end
pub last_is_next : (g : Group) → is_in_form g ≡ true → IsNextGroup g.line (map Whole (group_lines g)) g []
last_is_next g e = record { number = refl; form = e; lines = sym (append-nil (map Whole (group_lines g))); over = refl }

-- The groups of a whole journal have its lines.

pub map-append : (xs ys : List (List ℕ)) → map Whole (xs ++ ys) ≡ map Whole xs ++ map Whole ys
map-append [] ys = refl
map-append (x ∷ xs) ys = ap (λ l. Whole x ∷ l) (map-append xs ys)

pub lines_of_groups : (next : ℕ) (ahead : List Piece) (groups : List Group) → AreGroups next ahead groups → ahead ≡ map Whole (flat_map group_lines groups)
lines_of_groups next ahead [] e = e
lines_of_groups next ahead (g ∷ groups) e =
    e.1.lines ∙ ap (λ l. map Whole (group_lines g) ++ l) (lines_of_groups (next + length (group_lines g)) e.0 groups e.2) ∙ sym (map-append (group_lines g) (flat_map group_lines groups))
