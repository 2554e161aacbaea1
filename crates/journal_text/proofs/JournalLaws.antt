use Rattle.std.proofs.Common.{◌≡◌, ◌⊎◌, inl, inr, ℕ, ◌+◌, ◌-◌, Bool, true, false, not, List, [], ◌∷◌, ◌++◌, length, map, drop, Option, Some, None, refl, sym, ap, ◌∙◌, append_assoc, arith}
use Rattle.ride_base.specs.Pieces.{Piece, Whole, TooLong, TooLarge, ended_lines}
use Rattle.journal_text.specs.declared.groups.Group.{Group}
use Rattle.journal_text.specs.declared.text.TextEntry.TheVariants as text
use Rattle.journal_text.specs.declared.heads.Head.{Head}
use Rattle.journal_text.specs.declared.draft.Draft.{Draft}
use Rattle.journal_text.specs.TextGroups.{group_lines, goes_on_with_line}
use Rattle.journal_text.specs.Forms.{is_in_form}
use Rattle.journal_text.specs.Journals.{is_over, IsNextGroup, BeginsAGroup, IsBadBehind}
use Rattle.journal_text.specs.LineParts.{and_then}
use Rattle.journal_text.specs.LineHeads.{head_in}
use Rattle.journal_text.specs.Drafts.{is_whole_draft, draft_step, new_draft, draft_of_line}
use Rattle.journal_text.specs.DraftTexts.{IsDraft, group_of}
use Rattle.journal_text.proofs.Spelling.{was_then, same_value}
use Rattle.journal_text.proofs.DraftReads.{drafted, drafted-append}
use Rattle.journal_text.proofs.GroupLaws.{whole_law, group_draft}
use Rattle.journal_text.proofs.ReadLaws.{draft_lines, read_of, OwnLines, own_lines, own_read, whole_lines, step_goes_on, ended_all}
use Rattle.journal_text.proofs.WholeGroups.{Completes, completes}

-- What the lines ahead say of the next group, by what was read of it.

abbrev pub at_line : (number : ℕ) → Group → Group
at_line number g = record { line = number; entry = g.entry; proof = g.proof; joins = g.joins }

-- each group in form is read from its lines
pub record FormReads (number : ℕ) (g : Group) : Type 0 where
  pub draft : Draft
  pub fits : IsDraft draft
  pub whole : is_whole_draft draft ≡ true
  pub group : group_of draft ≡ at_line number g
  pub read : read_of number (group_lines g) ≡ Some draft
  pub first : List ℕ
  pub more : List (List ℕ)
  pub lines : group_lines g ≡ first ∷ more

pub form_reads : (number : ℕ) (g : Group) → is_in_form g ≡ true → FormReads number g
form_reads number g e =
    let d = group_draft (at_line number g) e in
    let lines : draft_lines d.draft ≡ group_lines g = sym (whole_lines d.draft d.fits d.whole) ∙ ap group_lines d.group in
    let line : d.draft.line ≡ number = ap (λ (x : Group). x.line) d.group in
    let own = own_lines d.draft d.fits in
    record {
      draft = d.draft;
      fits = d.fits;
      whole = d.whole;
      group = d.group;
      read = ap (λ n. read_of n (group_lines g)) (sym line) ∙ ap (read_of d.draft.line) (sym lines) ∙ own_read d.draft d.fits;
      first = own.first;
      more = own.more;
      lines = sym lines ∙ own.are;
    }

read-append : (number : ℕ) (first : List ℕ) (rest more : List (List ℕ)) → read_of number ((first ∷ rest) ++ more) ≡ and_then (read_of number (first ∷ rest)) (λ (d : Draft). drafted d more)
read-append number first rest more = by (draft_of_line number first)
  where
    by : (o : Option Draft) → and_then o (λ (d : Draft). drafted d (rest ++ more)) ≡ and_then (and_then o (λ (d : Draft). drafted d rest)) (λ (d : Draft). drafted d more)
    by None = refl
    by (Some d) = drafted-append d rest more

-- a line behind others that were read as part of a group
next_step : (number : ℕ) (first : List ℕ) (rest : List (List ℕ)) (d : Draft) (line : List ℕ) (more : List (List ℕ)) (d' : Draft) → read_of number (first ∷ rest) ≡ Some d → read_of number ((first ∷ rest) ++ line ∷ more) ≡ Some d'
    → (next : Draft) × (draft_step d line ≡ Some next)
next_step number first rest d line more d' e f =
    let steps : and_then (draft_step d line) (λ (x : Draft). drafted x more) ≡ Some d' =
    sym (ap (λ o. and_then o (λ (x : Draft). drafted x (line ∷ more))) e) ∙ sym (read-append number first rest (line ∷ more)) ∙ f in
    let a = was_then (draft_step d line) (λ (x : Draft). drafted x more) d' steps in
    (a.value, a.was)

-- a line that a longer group has behind a whole one goes on with it
longer_goes_on : (number : ℕ) (g g' : Group) (line : List ℕ) (more : List (List ℕ)) → is_in_form g ≡ true → is_in_form g' ≡ true → group_lines g' ≡ group_lines g ++ line ∷ more → goes_on_with_line g line ≡ true
longer_goes_on number g g' line more e f longer =
    let a = form_reads number g e in
    let b = form_reads number g' f in
    let s = next_step number a.first a.more a.draft line more b.draft (ap (read_of number) (sym a.lines) ∙ a.read)
    (ap (λ ls. read_of number (ls ++ line ∷ more)) (sym a.lines) ∙ ap (read_of number) (sym longer) ∙ b.read) in
    sym (ap (λ (x : Group). goes_on_with_line x line) a.group) ∙ step_goes_on a.draft line s.0 a.fits a.whole s.1

-- Two lists of lines in front of pieces.

abbrev head_line : List Piece → List ℕ
head_line [] = []
head_line (Whole line ∷ more) = line
head_line (TooLong ∷ more) = []
head_line (TooLarge ∷ more) = []

record IsShorter (xs ys : List (List ℕ)) (rest rest' : List Piece) : Type 0 where
  line : List ℕ
  more : List (List ℕ)
  longer : ys ≡ xs ++ line ∷ more
  ahead : rest ≡ Whole line ∷ (map Whole more ++ rest')

record AreSame (xs ys : List (List ℕ)) (rest rest' : List Piece) : Type 0 where
  lines : xs ≡ ys
  rests : rest ≡ rest'

fronts : (xs ys : List (List ℕ)) (rest rest' : List Piece) → map Whole xs ++ rest ≡ map Whole ys ++ rest' → AreSame xs ys rest rest' ⊎ (IsShorter xs ys rest rest' ⊎ IsShorter ys xs rest' rest)
fronts [] [] rest rest' e = inl (record { lines = refl; rests = e })
fronts [] (y ∷ ys) rest rest' e = inr (inl (record { line = y; more = ys; longer = refl; ahead = e }))
fronts (x ∷ xs) [] rest rest' e = inr (inr (record { line = x; more = xs; longer = refl; ahead = sym e }))
fronts (x ∷ xs) (y ∷ ys) rest rest' e = by (fronts xs ys rest rest' (ap (drop 1) e))
  where
    first : x ≡ y
    first = ap head_line e

    by : AreSame xs ys rest rest' ⊎ (IsShorter xs ys rest rest' ⊎ IsShorter ys xs rest' rest)
        → AreSame (x ∷ xs) (y ∷ ys) rest rest' ⊎ (IsShorter (x ∷ xs) (y ∷ ys) rest rest' ⊎ IsShorter (y ∷ ys) (x ∷ xs) rest' rest)
    by (inl s) = inl (record { lines = λ i. first i ∷ s.lines i; rests = s.rests })
    by (inr (inl s)) = inr (inl (record { line = s.line; more = s.more; longer = λ i. sym first i ∷ s.longer i; ahead = s.ahead }))
    by (inr (inr s)) = inr (inr (record { line = s.line; more = s.more; longer = λ i. first i ∷ s.longer i; ahead = s.ahead }))

clash : {A : Type 0} (t : Bool) → t ≡ true → not t ≡ true → A
clash true e f = absurd cc
clash false e f = absurd cc

-- No two groups are next, and no spelling of a group is another group's.

same_lines : (number : ℕ) (g g' : Group) → is_in_form g ≡ true → is_in_form g' ≡ true → group_lines g ≡ group_lines g' → at_line number g ≡ at_line number g'
same_lines number g g' e f same =
    let a = form_reads number g e in
    let b = form_reads number g' f in
    let drafts : a.draft ≡ b.draft = same_value a.draft b.draft (sym a.read ∙ ap (read_of number) same ∙ b.read) in
    sym a.group ∙ ap group_of drafts ∙ b.group

pub one_spelling : (g g' : Group) → is_in_form g ≡ true → is_in_form g' ≡ true → g.line ≡ g'.line → group_lines g ≡ group_lines g' → g ≡ g'
one_spelling g g' e f line same = same_lines g.line g g' e f same ∙ (λ i. record { line = line i; entry = g'.entry; proof = g'.proof; joins = g'.joins })

pub record AreOneGroup (g g' : Group) (rest rest' : List Piece) : Type 0 where
  pub groups : g ≡ g'
  pub rests : rest ≡ rest'

pub one_next : (number : ℕ) (ahead : List Piece) (g g' : Group) (rest rest' : List Piece) → IsNextGroup number ahead g rest → IsNextGroup number ahead g' rest' → AreOneGroup g g' rest rest'
one_next number ahead g g' rest rest' n n' = by (fronts (group_lines g) (group_lines g') rest rest' (sym n.lines ∙ n'.lines))
  where
    by : AreSame (group_lines g) (group_lines g') rest rest' ⊎ (IsShorter (group_lines g) (group_lines g') rest rest' ⊎ IsShorter (group_lines g') (group_lines g) rest' rest) → AreOneGroup g g' rest rest'
    by (inl s) = record { groups = one_spelling g g' n.form n'.form (n.number ∙ sym n'.number) s.lines; rests = s.rests }
    by (inr (inl s)) = clash (goes_on_with_line g s.line) (longer_goes_on number g g' s.line s.more n.form n'.form s.longer) (sym (ap (is_over g) s.ahead) ∙ n.over)
    by (inr (inr s)) = clash (goes_on_with_line g' s.line) (longer_goes_on number g' g s.line s.more n'.form n.form s.longer) (sym (ap (is_over g') s.ahead) ∙ n'.over)

-- What was read whole is the next group where what is ahead goes on with it no more.
pub next_of_draft : (number : ℕ) (d : Draft) (rest : List Piece) → IsDraft d → d.line ≡ number → is_whole_draft d ≡ true → is_over (group_of d) rest ≡ true
    → IsNextGroup number (map Whole (draft_lines d) ++ rest) (group_of d) rest
next_of_draft number d rest ok line whole over = record {
  number = line;
  form = (whole_law d ok whole).form;
  lines = ap (λ ls. map Whole ls ++ rest) (sym (whole_lines d ok whole));
  over = over;
}

-- A line that what was read refuses is the first bad one, and so is the place behind what was read where a group is cut short.
pub bad_behind_draft : (number : ℕ) (d : Draft) (rest : List Piece) → IsDraft d → d.line ≡ number → ((line : List ℕ) (more : List Piece) → rest ≡ Whole line ∷ more → draft_step d line ≡ None)
    → (is_whole_draft d ≡ true → is_over (group_of d) rest ≡ false) → IsBadBehind number (map Whole (draft_lines d) ++ rest) (draft_lines d)
bad_behind_draft number d rest ok line refused unended = record {
  rest = rest;
  begun = refl;
  some = λ e. nothing own.first own.more rest (sym (ap (λ ls. map Whole ls ++ rest) own.are) ∙ e);
  good = record {
    group = group_of c.whole;
    form = (whole_law c.whole c.fits c.is_whole).form;
    more = ended_lines c.more;
    begins = whole_lines c.whole c.fits c.is_whole ∙ ap ended_lines (c.text ∙ ap (λ l. l ++ c.more) own.text) ∙ ended_all (own.first ∷ own.more) c.more own.clean
        ∙ ap (λ ls. ls ++ ended_lines c.more) (sym own.are);
  };
  bad = λ l more e b. bad_line l more e b;
  no_group = λ g behind n. by g behind n (fronts (draft_lines d) (group_lines g) rest behind n.lines);
}
  where
    own : OwnLines d
    own = own_lines d ok

    c : Completes d
    c = completes ((4 - length d.walks) + (5 - length d.potentials) + 1) d ok (omega arith)

    read : read_of number (own.first ∷ own.more) ≡ Some d
    read = ap (λ n. read_of n (own.first ∷ own.more)) (sym line) ∙ own.read

    nothing : (first : List ℕ) (more : List (List ℕ)) (rest : List Piece) → map Whole (first ∷ more) ++ rest ≡ [] → ⊥
    nothing first more rest e = absurd cc

    refuses : (l : List ℕ) (more : List Piece) → rest ≡ Whole l ∷ more → (x : Draft) → draft_step d l ≡ Some x → ⊥
    refuses l more e x f = clash_none (sym (refused l more e) ∙ f)
      where
        clash_none : {y : Draft} → None ≡ Some y → ⊥
        clash_none g = cc

    step_in : (g : Group) → is_in_form g ≡ true → (l : List ℕ) (more : List (List ℕ)) → group_lines g ≡ draft_lines d ++ l ∷ more → (x : Draft) × (draft_step d l ≡ Some x)
    step_in g form l more e =
        let a = form_reads number g form in
        next_step number own.first own.more d l more a.draft read (ap (λ ls. read_of number (ls ++ l ∷ more)) (sym own.are) ∙ ap (read_of number) (sym e) ∙ a.read)

    bad_line : (l : List ℕ) (more : List Piece) → rest ≡ Whole l ∷ more → BeginsAGroup (draft_lines d ++ l ∷ []) → ⊥
    bad_line l more e b =
        let s = step_in b.group b.form l b.more (b.begins ∙ append_assoc (draft_lines d) (l ∷ []) b.more) in
        refuses l more e s.0 s.1

    by : (g : Group) (behind : List Piece) → IsNextGroup number (map Whole (draft_lines d) ++ rest) g behind
        → AreSame (draft_lines d) (group_lines g) rest behind ⊎ (IsShorter (draft_lines d) (group_lines g) rest behind ⊎ IsShorter (group_lines g) (draft_lines d) behind rest) → ⊥
    by g behind n (inl s) =
        let a = form_reads number g n.form in
        let same : d ≡ a.draft = same_value d a.draft (sym read ∙ ap (read_of number) (sym own.are ∙ s.lines) ∙ a.read) in
        let whole : is_whole_draft d ≡ true = ap is_whole_draft same ∙ a.whole in
        let over : is_over (group_of d) rest ≡ is_over g behind = ap (λ (x : Draft). is_over (group_of x) rest) same ∙ ap (λ (x : Group). is_over x rest) a.group ∙ ap (is_over g) s.rests in
        never (sym (unended whole) ∙ over ∙ n.over)
      where
        never : false ≡ true → ⊥
        never e = cc
    by g behind n (inr (inl s)) = let t = step_in g n.form s.line s.more s.longer in refuses s.line _ s.ahead t.0 t.1
    by g behind n (inr (inr s)) =
        let a = form_reads number g n.form in
        let t = next_step number a.first a.more a.draft s.line s.more d (ap (read_of number) (sym a.lines) ∙ a.read)
        (ap (λ ls. read_of number (ls ++ s.line ∷ s.more)) (sym a.lines) ∙ ap (read_of number) (sym s.longer ∙ own.are) ∙ read) in
        clash (goes_on_with_line g s.line) (sym (ap (λ (x : Group). goes_on_with_line x s.line) a.group) ∙ step_goes_on a.draft s.line t.0 a.fits a.whole t.1)
        (sym (ap (is_over g) s.ahead) ∙ n.over)

-- A line that is the first line of no group is the first bad one, and so is a line too long, or the place where a text is too large.
pub bad_first : (number : ℕ) (rest : List Piece) → (rest ≡ [] → ⊥) → ((line : List ℕ) (more : List Piece) → rest ≡ Whole line ∷ more → head_in line ≡ None) → IsBadBehind number rest []
bad_first number rest some refused = record {
  rest = rest;
  begun = refl;
  some = some;
  good = record { group = record { line = number; entry = text.Shut; proof = None; joins = [] }; form = refl; more = (122 ∷ []) ∷ []; begins = refl };
  bad = λ line more e b. bad_line line more e b.group b.form (line ∷ b.more) b.begins refl;
  no_group = λ g behind n. no_group g behind n;
}
  where
    bad_line : (line : List ℕ) (more : List Piece) → rest ≡ Whole line ∷ more → (g : Group) → is_in_form g ≡ true → (lines : List (List ℕ)) → group_lines g ≡ lines → {more' : List (List ℕ)} → lines ≡ line ∷ more' → ⊥
    bad_line line more e g form lines is begins =
        let a = form_reads number g form in
        let f = was_then (draft_of_line number line) _ a.draft (ap (read_of number) (sym (is ∙ begins)) ∙ a.read) in
        let h = was_then (head_in line) (λ (head : Head). Some (new_draft number head)) f.value f.was in
        none_some (sym (refused line more e) ∙ h.was)
      where
        none_some : {y : Head} → None ≡ Some y → ⊥
        none_some g = cc

    no_group : (g : Group) (behind : List Piece) → IsNextGroup number rest g behind → ⊥
    no_group g behind n =
        let a = form_reads number g n.form in
        bad_line a.first (map Whole a.more ++ behind) (n.lines ∙ ap (λ ls. map Whole ls ++ behind) a.lines) g n.form (group_lines g) refl a.lines

-- the end is no group's
pub end_is_none : (number : ℕ) (g : Group) (rest : List Piece) → IsNextGroup number [] g rest → ⊥
end_is_none number g rest n =
    let a = form_reads number g n.form in
    nothing (n.lines ∙ ap (λ ls. map Whole ls ++ rest) a.lines)
  where
    nothing : {first : List ℕ} {more : List Piece} → [] ≡ Whole first ∷ more → ⊥
    nothing e = cc
