use Rattle.std.proofs.Common.{◌≡◌, inl, inr, ℕ, ◌+◌, ◌-◌, Bool, true, false, not, ◌&&◌, cond, List, [], ◌∷◌, ◌++◌, map, length, Option, Some, None, IfSome, Result, Ok, Err, refl, sym, ap, ◌∙◌, subst, append_assoc, length-append, arith}
use Rattle.ride_base.specs.Pieces.{Piece, Whole, TooLong, TooLarge, IsRefused, ended_lines}
use Rattle.ride_base.specs.Reader.{Reader}
use Rattle.ride_base.specs.Told.{WhereTold, ahead}
use Rattle.ride_base.specs.declared.lines.Line.{Line}
use Rattle.journal_text.specs.declared.groups.Group.{Group}
use Rattle.journal_text.specs.declared.heads.Head.{Head}
use Rattle.journal_text.specs.declared.draft.Draft.{Draft}
use Rattle.journal_text.specs.declared.reader.GroupFault.{GroupFault}
use Rattle.journal_text.specs.declared.reader.GroupFault.TheVariants.{Form, Fault, NoMemory}
use Rattle.journal_text.specs.declared.reader.Held.{Held}
use Rattle.journal_text.specs.declared.reader.Behind.{Behind}
use Rattle.journal_text.specs.declared.reader.Behind.TheVariants.{Next, End, Refused}
use Rattle.journal_text.specs.TextGroups.{group_lines, goes_on_with_line, is_field_end}
use Rattle.journal_text.specs.Journals.{is_over, IsNextGroup, IsBadBehind, IsBadLine}
use Rattle.journal_text.specs.LineParts.{and_then}
use Rattle.journal_text.specs.LineHeads.{head_in}
use Rattle.journal_text.specs.Drafts.{is_whole_draft, new_draft, draft_of_line, goes_on_in_line}
use Rattle.journal_text.specs.DraftTexts.{draft_text, IsDraft, group_of}
use Rattle.journal_text.specs.Readers.{GroupReader, Moment, IsReading, IsSameAhead, IsBehind, IsUntaken, IsDraftHeld, TellsGroup, CountsGroup, behind_held, pieces_ahead, next_line, lines_of_draft, held_line, reader_of, is_end, is_over_with, group_of_held, draft_with}
use Rattle.journal_text.proofs.Spelling.{both}
use Rattle.journal_text.proofs.GroupLaws.{whole_law}
use Rattle.journal_text.proofs.ReadLaws.{draft_lines, own_lines, whole_lines}
use Rattle.journal_text.proofs.RoundTrips.{map-append}
use Rattle.journal_text.proofs.JournalLaws.{next_of_draft, bad_behind_draft, bad_first}
use Rattle.journal_text.proofs.HeldLines.{at}

-- What the reader tells where a group is over, and where a line is bad.

pub record IsAnswered (old : Moment) (answer : Result (Option Group) GroupFault) (new : Moment) : Type 0 where
  pub tells : TellsGroup (next_line old) (pieces_ahead old) answer (pieces_ahead new)
  pub counts : CountsGroup (next_line old) answer (next_line new)
  pub reading : IsReading new

clash : {X : Type 0} (t : Bool) → t ≡ true → t ≡ false → X
clash true e f = absurd cc
clash false e f = absurd cc

-- ---- answers that move nothing

fault_tells : (next : ℕ) (before after : Option (List Piece)) → after ≡ before → TellsGroup next before (Err Fault) after
fault_tells next None after e = e
fault_tells next (Some pieces) after e = e

memory_tells : (next : ℕ) (before after : Option (List Piece)) → after ≡ before → TellsGroup next before (Err NoMemory) after
memory_tells next None after e = e
memory_tells next (Some pieces) after e = e

form_tells : (next line : ℕ) (before after : Option (List Piece)) → after ≡ before → WhereTold after (λ pieces. IsBadLine next pieces line) → TellsGroup next before (Err (Form line)) after
form_tells next line None after e bad = e
form_tells next line (Some pieces) after e bad = (subst (λ (o : Option (List Piece)). WhereTold o (λ pieces. IsBadLine next pieces line)) e bad, e)

-- a fault that names no line
abbrev pub IsNoForm : GroupFault → Type 0
IsNoForm (Form line) = ⊥
IsNoForm Fault = Unit {0}
IsNoForm NoMemory = Unit {0}

pub faulted : (old new : Moment) (fault : GroupFault) → IsNoForm fault → IsSameAhead old new → IsAnswered old (Err fault) new
faulted old new (Form line) none s = absurd none
faulted old new Fault none s = record { tells = fault_tells (next_line old) (pieces_ahead old) (pieces_ahead new) s.pieces; counts = s.next; reading = s.reading }
faulted old new NoMemory none s = record { tells = memory_tells (next_line old) (pieces_ahead old) (pieces_ahead new) s.pieces; counts = s.next; reading = s.reading }

-- a reader that stopped tells its bad line again
pub told_again : (m : Moment) (line : ℕ) → m.groups.bad ≡ Some line → IsReading m → IsAnswered m (Err (Form line)) m
told_again m line is r = record {
  tells = form_tells (next_line m) line (pieces_ahead m) (pieces_ahead m) refl
      (subst (λ (o : Option ℕ). IfSome o (λ line. WhereTold (pieces_ahead m) (λ pieces. IsBadLine (next_line m) pieces line))) is r.bad);
  counts = refl;
  reading = r;
}

-- ---- a group

end_tells : (next : ℕ) (before after : Option (List Piece)) → after ≡ before → WhereTold after (λ pieces. pieces ≡ []) → TellsGroup next before (Ok None) after
end_tells next None after e none = e
end_tells next (Some pieces) None e none = absurd cc
end_tells next (Some pieces) (Some more) e none = let same : more ≡ pieces = cc in (sym same ∙ none, ap (λ (x : List Piece). Some x) none)

group_tells : (next : ℕ) (g : Group) (before : Option (List Piece)) (lines held : List (List ℕ)) (o : Option (List Piece)) → behind_held (lines ++ held) o ≡ before
    → ((pieces : List Piece) → o ≡ Some pieces → IsNextGroup next (map Whole lines ++ (map Whole held ++ pieces)) g (map Whole held ++ pieces)) → TellsGroup next before (Ok (Some g)) (behind_held held o)
group_tells next g before lines held None e n = subst (λ (b : Option (List Piece)). TellsGroup next b (Ok (Some g)) None) e refl
group_tells next g before lines held (Some pieces) e n =
    subst (λ (b : Option (List Piece)). TellsGroup next b (Ok (Some g)) (Some (map Whole held ++ pieces))) e
    (map Whole held ++ pieces, subst (λ (x : List Piece). IsNextGroup next x g (map Whole held ++ pieces)) (sym (ap (λ (x : List Piece). x ++ pieces) (map-append lines held) ∙ append_assoc (map Whole lines) (map Whole held) pieces)) (n pieces refl), refl)

goes_same : (d : Draft) (line : List ℕ) → IsDraft d → is_whole_draft d ≡ true → goes_on_with_line (group_of d) line ≡ goes_on_in_line d line
goes_same d [] ok whole = refl
goes_same d (letter ∷ rest) ok whole = ap (λ b. is_field_end rest && b) ((whole_law d ok whole).goes letter)

-- what stands behind a whole group goes on with it or doesn't
behind_refused : (g : Group) (pieces : List Piece) → IsRefused pieces → is_over g pieces ≡ true
behind_refused g pieces (inl e) = ap (is_over g) e
behind_refused g pieces (inr e) = ap (is_over g) e

over_behind : (d : Draft) (line : Line) (has_line : Bool) (behind : Behind) (lines : Reader) (left : Option (List ℕ)) (pieces : List Piece) → IsDraft d → is_whole_draft d ≡ true → not (has_line && goes_on_in_line d line.bytes) ≡ true
    → IsBehind behind (record { draft = Some d; line = line; has_line = has_line }) lines left → ahead lines left ≡ Some pieces → is_over (group_of d) (map Whole (cond has_line (line.bytes ∷ []) []) ++ pieces) ≡ true
over_behind d line true behind lines left pieces ok whole over stands told = ap not (goes_same d line.bytes ok whole) ∙ over
over_behind d line false Next lines left pieces ok whole over stands told = clash false stands refl
over_behind d line false End lines left pieces ok whole over stands told =
    let none : pieces ≡ [] = subst (λ (o : Option (List Piece)). WhereTold o (λ pieces. pieces ≡ [])) told stands.1 in
    ap (is_over (group_of d)) none
over_behind d line false Refused lines left pieces ok whole over stands told =
    behind_refused (group_of d) pieces (subst (λ (o : Option (List Piece)). WhereTold o IsRefused) told stands.1)

-- how many lines there are before a line that is held, or the end
few_before : (d : Draft) (held : List (List ℕ)) (given : ℕ) → d.line + length (draft_lines d ++ held) ≡ given + 1 → d.line ≡ given + 1 - length (draft_lines d ++ held)
few_before d held given e = omega (arith, e)

given_some : (old : Moment) (d : Draft) (line : Line) (has_line : Bool) (behind : Behind) (lines : Reader) (left : Option (List ℕ)) → IsDraft d → IsSameAhead old (at (record { draft = Some d; line = line; has_line = has_line }) lines left)
    → IsBehind behind (record { draft = Some d; line = line; has_line = has_line }) lines left → is_over_with (Some d) has_line line.bytes behind ≡ true
    → IsAnswered old (Ok (Some (group_of d))) (at (record { draft = None; line = line; has_line = has_line }) lines left)
given_some old d line has_line behind lines left ok s stands over =
    let w = both (is_whole_draft d) (not (has_line && goes_on_in_line d line.bytes)) over in
    let held : List (List ℕ) = cond has_line (line.bytes ∷ []) [] in
    let numbers : d.line + length (draft_lines d ++ held) ≡ lines.given + 1 = s.reading.numbered in
    let number : d.line ≡ next_line old = few_before d held lines.given numbers ∙ s.next in
    let size = length-append (draft_lines d) held in
    let many : length (group_lines (group_of d)) ≡ length (draft_lines d) = ap (λ (ls : List (List ℕ)). length ls) (whole_lines d ok w.0) in
    let next : lines.given + 1 - length (draft_lines d ++ held) ≡ next_line old = s.next in
    record {
      tells = group_tells (next_line old) (group_of d) (pieces_ahead old) (draft_lines d) held (ahead lines left) s.pieces
          (λ pieces told. next_of_draft (next_line old) d (map Whole held ++ pieces) ok number w.0 (over_behind d line has_line behind lines left pieces ok w.0 w.1 stands told));
      counts = (number, (whole_law d ok w.0).form, omega (arith, numbers, size, many, next));
      reading = record { numbered = tt; refused = s.reading.refused; bad = tt };
    }

given_none : (old : Moment) (line : Line) (has_line : Bool) (behind : Behind) (lines : Reader) (left : Option (List ℕ)) → IsSameAhead old (at (record { draft = None; line = line; has_line = has_line }) lines left)
    → IsBehind behind (record { draft = None; line = line; has_line = has_line }) lines left → is_end behind ≡ true → IsAnswered old (Ok None) (at (record { draft = None; line = line; has_line = has_line }) lines left)
given_none old line has_line Next lines left s stands over = clash false over refl
given_none old line has_line Refused lines left s stands over = clash false over refl
given_none old line has_line End lines left s stands over = record {
  tells = end_tells (next_line old) (pieces_ahead old) _ s.pieces
      (subst (λ (b : Bool). WhereTold (behind_held ([] ++ cond b (line.bytes ∷ []) []) (ahead lines left)) (λ pieces. pieces ≡ [])) (sym stands.0) (nothing (ahead lines left) stands.1));
  counts = s.next;
  reading = s.reading;
}
  where
    nothing : (o : Option (List Piece)) → WhereTold o (λ pieces. pieces ≡ []) → WhereTold (behind_held [] o) (λ pieces. pieces ≡ [])
    nothing None e = tt
    nothing (Some pieces) e = e

pub given : (old : Moment) (draft : Option Draft) (line : Line) (has_line : Bool) (behind : Behind) (lines : Reader) (left : Option (List ℕ)) → IfSome draft IsDraft → IsSameAhead old (at (record { draft = draft; line = line; has_line = has_line }) lines left)
    → IsBehind behind (record { draft = draft; line = line; has_line = has_line }) lines left → is_over_with draft has_line line.bytes behind ≡ true
    → IsAnswered old (Ok (group_of_held draft)) (at (record { draft = None; line = line; has_line = has_line }) lines left)
given old None line has_line behind lines left ok s stands over = given_none old line has_line behind lines left s stands over
given old (Some d) line has_line behind lines left ok s stands over = given_some old d line has_line behind lines left ok s stands over

-- ---- a bad line

no_whole_refused : (pieces : List Piece) → IsRefused pieces → (line : List ℕ) (more : List Piece) → pieces ≡ Whole line ∷ more → ⊥
no_whole_refused pieces (inl e) line more f = never (sym e ∙ f)
  where
    never : TooLong ∷ [] ≡ Whole line ∷ more → ⊥
    never g = absurd cc
no_whole_refused pieces (inr e) line more f = never (sym e ∙ f)
  where
    never : TooLarge ∷ [] ≡ Whole line ∷ more → ⊥
    never g = absurd cc

some_refused : (pieces : List Piece) → IsRefused pieces → pieces ≡ [] → ⊥
some_refused pieces (inl e) f = never (sym e ∙ f)
  where
    never : TooLong ∷ [] ≡ [] → ⊥
    never g = absurd cc
some_refused pieces (inr e) f = never (sym e ∙ f)
  where
    never : TooLarge ∷ [] ≡ [] → ⊥
    never g = absurd cc

no_whole_nothing : (pieces : List Piece) → pieces ≡ [] → (line : List ℕ) (more : List Piece) → pieces ≡ Whole line ∷ more → ⊥
no_whole_nothing pieces e line more f = never (sym e ∙ f)
  where
    never : [] ≡ Whole line ∷ more → ⊥
    never g = absurd cc

first_of : List Piece → List ℕ → List ℕ
first_of [] line = line
first_of (Whole l ∷ more) line = l
first_of (TooLong ∷ more) line = line
first_of (TooLarge ∷ more) line = line

same_first : (l line : List ℕ) (pieces more : List Piece) → Whole l ∷ pieces ≡ Whole line ∷ more → l ≡ line
unfolding first_of
same_first l line pieces more e = ap (λ ps. first_of ps l) e

-- no line that stands behind what was read is taken
refuses : (draft : Option Draft) (line : Line) (has_line : Bool) (behind : Behind) (lines : Reader) (left : Option (List ℕ)) (pieces : List Piece) → IsBehind behind (record { draft = draft; line = line; has_line = has_line }) lines left
    → IsUntaken behind (record { draft = draft; line = line; has_line = has_line }) lines.given → ahead lines left ≡ Some pieces
    → (l : List ℕ) (more : List Piece) → map Whole (cond has_line (line.bytes ∷ []) []) ++ pieces ≡ Whole l ∷ more → draft_with draft lines.given l ≡ None
refuses draft line true Next lines left pieces stands untaken told l more e = subst (λ (x : List ℕ). draft_with draft lines.given x ≡ None) (same_first line.bytes l pieces more e) untaken
refuses draft line true End lines left pieces stands untaken told l more e = clash true refl stands.0
refuses draft line true Refused lines left pieces stands untaken told l more e = clash true refl stands.0
refuses draft line false Next lines left pieces stands untaken told l more e = clash false stands refl
refuses draft line false End lines left pieces stands untaken told l more e =
    absurd (no_whole_nothing pieces (subst (λ (o : Option (List Piece)). WhereTold o (λ pieces. pieces ≡ [])) told stands.1) l more e)
refuses draft line false Refused lines left pieces stands untaken told l more e =
    absurd (no_whole_refused pieces (subst (λ (o : Option (List Piece)). WhereTold o IsRefused) told stands.1) l more e)

goes_on_behind : (d : Draft) (line : Line) (has_line : Bool) (pieces : List Piece) → IsDraft d → is_whole_draft d ≡ true → (is_whole_draft d && not (has_line && goes_on_in_line d line.bytes)) ≡ false
    → is_over (group_of d) (map Whole (cond has_line (line.bytes ∷ []) []) ++ pieces) ≡ false
goes_on_behind d line true pieces ok whole over = ap not (goes_same d line.bytes ok whole) ∙ sym (ap (λ b. b && not (goes_on_in_line d line.bytes)) whole) ∙ over
goes_on_behind d line false pieces ok whole over = clash true refl (sym (ap (λ b. b && true) whole) ∙ over)

abbrev pub bad_number : (has_line : Bool) (given : ℕ) → ℕ
bad_number has_line given = cond has_line given (given + 1)

bad_some : (d : Draft) (line : Line) (has_line : Bool) (behind : Behind) (lines : Reader) (left : Option (List ℕ)) (pieces : List Piece) → IsDraft d → IsReading (at (record { draft = Some d; line = line; has_line = has_line }) lines left)
    → IsBehind behind (record { draft = Some d; line = line; has_line = has_line }) lines left → IsUntaken behind (record { draft = Some d; line = line; has_line = has_line }) lines.given
    → is_over_with (Some d) has_line line.bytes behind ≡ false → ahead lines left ≡ Some pieces
    → IsBadLine (lines.given + 1 - length (draft_lines d ++ cond has_line (line.bytes ∷ []) [])) (map Whole (draft_lines d ++ cond has_line (line.bytes ∷ []) []) ++ pieces) (bad_number has_line lines.given)
bad_some d line has_line behind lines left pieces ok r stands untaken over told =
    let held : List (List ℕ) = cond has_line (line.bytes ∷ []) [] in
    let next : ℕ = lines.given + 1 - length (draft_lines d ++ held) in
    let number : d.line ≡ next = few_before d held lines.given r.numbered in
    record {
      good_lines = draft_lines d;
      behind = subst (λ (x : List Piece). IsBadBehind next x (draft_lines d)) (sym (ap (λ (x : List Piece). x ++ pieces) (map-append (draft_lines d) held) ∙ append_assoc (map Whole (draft_lines d)) (map Whole held) pieces))
          (bad_behind_draft next d (map Whole held ++ pieces) ok number (refuses (Some d) line has_line behind lines left pieces stands untaken told)
          (λ whole. goes_on_behind d line has_line pieces ok whole over));
      number = count has_line r.numbered;
    }
  where
    count : (has : Bool) → d.line + length (draft_lines d ++ cond has (line.bytes ∷ []) []) ≡ lines.given + 1
        → cond has lines.given (lines.given + 1) ≡ lines.given + 1 - length (draft_lines d ++ cond has (line.bytes ∷ []) []) + length (draft_lines d)
    count true numbers = omega (arith, numbers, length-append (draft_lines d) (line.bytes ∷ []))
    count false numbers = omega (arith, numbers, length-append (draft_lines d) [])

bad_none : (line : Line) (has_line : Bool) (behind : Behind) (lines : Reader) (left : Option (List ℕ)) (pieces : List Piece) → IsBehind behind (record { draft = None; line = line; has_line = has_line }) lines left
    → IsUntaken behind (record { draft = None; line = line; has_line = has_line }) lines.given → is_end behind ≡ false → ahead lines left ≡ Some pieces
    → IsBadLine (lines.given + 1 - length ([] ++ cond has_line (line.bytes ∷ []) [])) (map Whole ([] ++ cond has_line (line.bytes ∷ []) []) ++ pieces) (bad_number has_line lines.given)
bad_none line has_line behind lines left pieces stands untaken over told = record {
  good_lines = [];
  behind = bad_first _ (map Whole (cond has_line (line.bytes ∷ []) []) ++ pieces) (some has_line behind stands over)
      (λ l more e. no_head l (refuses None line has_line behind lines left pieces stands untaken told l more e));
  number = count has_line;
}
  where
    no_head : (l : List ℕ) → draft_of_line lines.given l ≡ None → head_in l ≡ None
    no_head l e = by (head_in l) e
      where
        by : (o : Option Head) → and_then o (λ (head : Head). Some (new_draft lines.given head)) ≡ None → o ≡ None
        by None f = refl
        by (Some head) f = absurd cc

    some : (has : Bool) (behind : Behind) → IsBehind behind (record { draft = None; line = line; has_line = has }) lines left → is_end behind ≡ false → map Whole (cond has (line.bytes ∷ []) []) ++ pieces ≡ [] → ⊥
    some true behind stands over e = absurd cc
    some false Next stands over e = clash false stands refl
    some false End stands over e = clash true refl over
    some false Refused stands over e = some_refused pieces (subst (λ (o : Option (List Piece)). WhereTold o IsRefused) told stands.1) e

    count : (has : Bool) → cond has lines.given (lines.given + 1) ≡ lines.given + 1 - length ([] ++ cond has (line.bytes ∷ []) []) + 0
    count true = omega arith
    count false = omega arith

bad_ahead : (draft : Option Draft) (line : Line) (has_line : Bool) (behind : Behind) (lines : Reader) (left : Option (List ℕ)) → IfSome draft IsDraft → IsReading (at (record { draft = draft; line = line; has_line = has_line }) lines left)
    → IsBehind behind (record { draft = draft; line = line; has_line = has_line }) lines left → IsUntaken behind (record { draft = draft; line = line; has_line = has_line }) lines.given
    → is_over_with draft has_line line.bytes behind ≡ false → (o : Option (List Piece)) → ahead lines left ≡ o
    → WhereTold (behind_held (lines_of_draft draft ++ cond has_line (line.bytes ∷ []) []) o)
    (λ pieces. IsBadLine (lines.given + 1 - length (lines_of_draft draft ++ cond has_line (line.bytes ∷ []) [])) pieces (bad_number has_line lines.given))
bad_ahead draft line has_line behind lines left ok r stands untaken over None told = tt
bad_ahead None line has_line behind lines left ok r stands untaken over (Some pieces) told = bad_none line has_line behind lines left pieces stands untaken over told
bad_ahead (Some d) line has_line behind lines left ok r stands untaken over (Some pieces) told = bad_some d line has_line behind lines left pieces ok r stands untaken over told

-- the moment at which the reader stopped
abbrev pub stopped_at : Held → (bad : ℕ) → Reader → Option (List ℕ) → Moment
stopped_at h bad lines left = record { groups = reader_of h (Some bad); lines = lines; left = left }

pub bad_told : (old : Moment) (draft : Option Draft) (line : Line) (has_line : Bool) (behind : Behind) (lines : Reader) (left : Option (List ℕ)) → IfSome draft IsDraft → IsSameAhead old (at (record { draft = draft; line = line; has_line = has_line }) lines left)
    → IsBehind behind (record { draft = draft; line = line; has_line = has_line }) lines left → IsUntaken behind (record { draft = draft; line = line; has_line = has_line }) lines.given
    → is_over_with draft has_line line.bytes behind ≡ false
    → IsAnswered old (Err (Form (bad_number has_line lines.given))) (stopped_at (record { draft = draft; line = line; has_line = has_line }) (bad_number has_line lines.given) lines left)
bad_told old draft line has_line behind lines left ok s stands untaken over =
    let bad = bad_ahead draft line has_line behind lines left ok s.reading stands untaken over (ahead lines left) refl in
    record {
      tells = form_tells (next_line old) (bad_number has_line lines.given) (pieces_ahead old) _ s.pieces
          (subst (λ (n : ℕ). WhereTold (behind_held (lines_of_draft draft ++ cond has_line (line.bytes ∷ []) []) (ahead lines left)) (λ pieces. IsBadLine n pieces (bad_number has_line lines.given))) s.next bad);
      counts = s.next;
      reading = record { numbered = s.reading.numbered; refused = s.reading.refused; bad = bad };
    }

-- ---- the answers of the call

abbrev pub now : GroupReader → Reader → Option (List ℕ) → Moment
now groups lines left = record { groups = groups; lines = lines; left = left }

unstopped : (g : GroupReader) (h : Held) (bad : Option ℕ) (lines : Reader) (left : Option (List ℕ)) → reader_of h bad ≡ g → bad ≡ None → at h lines left ≡ now g lines left
unstopped g h bad lines left is none = ap (λ (x : GroupReader). now x lines left) (ap (reader_of h) (sym none) ∙ is)

pub group_answer : (g : GroupReader) (h0 : Held) (bad : Option ℕ) (lines0 : Reader) (left0 : Option (List ℕ)) (h h' : Held) (behind : Behind) (lines : Reader) (left : Option (List ℕ)) (result : Option Group) → reader_of h0 bad ≡ g → bad ≡ None
    → (IsReading (at h0 lines0 left0) → IsSameAhead (at h0 lines0 left0) (at h lines left)) → (IsReading (at h0 lines0 left0) → IsBehind behind h lines left) → IsDraftHeld h → is_over_with h.draft h.has_line h.line.bytes behind ≡ true
    → result ≡ group_of_held h.draft → h' ≡ record h { draft = None } → IsReading (now g lines0 left0) → IsAnswered (now g lines0 left0) (Ok result) (now (reader_of h' bad) lines left)
group_answer g h0 bad lines0 left0 h h' behind lines left result is none stays stands ok over group rest reading =
    let old = unstopped g h0 bad lines0 left0 is none in
    let r : IsReading (at h0 lines0 left0) = subst IsReading (sym old) reading in
    let a : IsAnswered (at h0 lines0 left0) (Ok (group_of_held h.draft)) (at (record h { draft = None }) lines left) = given (at h0 lines0 left0) h.draft h.line h.has_line behind lines left ok (stays r) (stands r) over in
    let b : IsAnswered (at h0 lines0 left0) (Ok result) (at (record h { draft = None }) lines left) =
    subst (λ (x : Option Group). IsAnswered (at h0 lines0 left0) (Ok x) (at (record h { draft = None }) lines left)) (sym group) a in
    let c : IsAnswered (at h0 lines0 left0) (Ok result) (now (reader_of h' bad) lines left) =
    subst (λ (x : GroupReader). IsAnswered (at h0 lines0 left0) (Ok result) (now x lines left)) (ap (λ (x : Held). reader_of x None) (sym rest) ∙ ap (reader_of h') (sym none)) b in
    subst (λ (m : Moment). IsAnswered m (Ok result) (now (reader_of h' bad) lines left)) old c

pub bad_answer : (g : GroupReader) (h0 : Held) (bad : Option ℕ) (lines0 : Reader) (left0 : Option (List ℕ)) (h : Held) (behind : Behind) (lines : Reader) (left : Option (List ℕ)) (n : ℕ) → reader_of h0 bad ≡ g → bad ≡ None
    → (IsReading (at h0 lines0 left0) → IsSameAhead (at h0 lines0 left0) (at h lines left)) → (IsReading (at h0 lines0 left0) → IsBehind behind h lines left) → IsDraftHeld h → IsUntaken behind h lines.given
    → is_over_with h.draft h.has_line h.line.bytes behind ≡ false → n ≡ bad_number h.has_line lines.given
    → IsReading (now g lines0 left0) → IsAnswered (now g lines0 left0) (Err (Form n)) (now (reader_of h (Some n)) lines left)
bad_answer g h0 bad lines0 left0 h behind lines left n is none stays stands ok untaken over number reading =
    let old = unstopped g h0 bad lines0 left0 is none in
    let r : IsReading (at h0 lines0 left0) = subst IsReading (sym old) reading in
    let a : IsAnswered (at h0 lines0 left0) (Err (Form (bad_number h.has_line lines.given))) (now (reader_of h (Some (bad_number h.has_line lines.given))) lines left) =
    bad_told (at h0 lines0 left0) h.draft h.line h.has_line behind lines left ok (stays r) (stands r) untaken over in
    let b : IsAnswered (at h0 lines0 left0) (Err (Form n)) (now (reader_of h (Some n)) lines left) = subst (λ (x : ℕ). IsAnswered (at h0 lines0 left0) (Err (Form x)) (now (reader_of h (Some x)) lines left)) (sym number) a in
    subst (λ (m : Moment). IsAnswered m (Err (Form n)) (now (reader_of h (Some n)) lines left)) old b

some_lines : (d : Draft) → IsDraft d → (more : List (List ℕ)) → ended_lines (draft_text d) ++ more ≡ [] → ⊥
some_lines d ok more e = let o = own_lines d ok in nothing o.first o.more (sym (ap (λ ls. ls ++ more) o.are) ∙ e)
  where
    nothing : (first : List ℕ) (rest : List (List ℕ)) → (first ∷ rest) ++ more ≡ [] → ⊥
    nothing first rest f = absurd cc

-- a reader that holds no line
pub nothing_held : (h : Held) → IsDraftHeld h → lines_of_draft h.draft ++ held_line h ≡ [] → (h.draft ≡ None) × (h.has_line ≡ false)
nothing_held h ok e = by h.draft ok h.has_line e
  where
    by : (draft : Option Draft) → IfSome draft IsDraft → (has : Bool) → lines_of_draft draft ++ cond has (h.line.bytes ∷ []) [] ≡ [] → (draft ≡ None) × (has ≡ false)
    by None ok false e = (refl, refl)
    by None ok true e = absurd cc
    by (Some d) ok has e = absurd (some_lines d ok (cond has (h.line.bytes ∷ []) []) e)

pub empty_reader : (h h' : Held) (bad : Option ℕ) → h.draft ≡ None → h.has_line ≡ false → h'.draft ≡ None → h'.has_line ≡ false → reader_of h' bad ≡ reader_of h bad
empty_reader h h' bad d n d' n' = rw (d, n, d', n') refl

pub never_faulted : {X : Type 0} (r : Result Behind GroupFault) (fault : GroupFault) → r ≡ Err fault → r ≡ Ok End → X
never_faulted r fault e f = never (sym e ∙ f)
  where
    never : {X : Type 0} → ◌≡◌ {A = Result Behind GroupFault} (Err fault) (Ok End) → X
    never g = absurd cc

pub came_to_end : (r : Result Behind GroupFault) (behind : Behind) → r ≡ Ok behind → r ≡ Ok End → behind ≡ End
came_to_end r behind e f = same (sym e ∙ f)
  where
    same : ◌≡◌ {A = Result Behind GroupFault} (Ok behind) (Ok End) → behind ≡ End
    same g = cc

pub over_at_end : {X : Type 0} (h : Held) (behind : Behind) → h.draft ≡ None → behind ≡ End → is_over_with h.draft h.has_line h.line.bytes behind ≡ false → X
over_at_end h behind none end over = clash true refl (sym (ap (λ (b : Behind). is_over_with None h.has_line h.line.bytes b) end) ∙ sym (ap (λ (o : Option Draft). is_over_with o h.has_line h.line.bytes behind) none) ∙ over)
