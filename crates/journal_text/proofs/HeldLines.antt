use Rattle.std.proofs.Common.{◌≡◌, ℕ, ◌+◌, ◌-◌, Bool, true, false, cond, List, [], ◌∷◌, ◌++◌, map, length, Option, Some, None, IfSome, Result, Ok, Err, refl, sym, ap, ◌∙◌, subst, append-nil, length-append, arith}
use Rattle.ride_base.specs.Pieces.{Piece, Whole, IsRefused, ended_lines}
use Rattle.ride_base.specs.Reader.{Reader, Limit}
use Rattle.ride_base.specs.Outside.{ShelfState}
use Rattle.ride_base.specs.Reading.{line_read, limit_after, over_after, fault_of, Counts, StaysOver, StaysStopped, TellsNext}
use Rattle.ride_base.specs.Told.{WhereTold, ahead}
use Rattle.ride_base.specs.declared.lines.Line.{Line}
use Rattle.ride_base.specs.declared.lines.LineFault.{LineFault}
use Rattle.journal_text.specs.declared.draft.Draft.{Draft}
use Rattle.journal_text.specs.declared.reader.GroupFault.{GroupFault}
use Rattle.journal_text.specs.declared.reader.Held.{Held}
use Rattle.journal_text.specs.declared.reader.Behind.{Behind}
use Rattle.journal_text.specs.declared.reader.Behind.TheVariants.{Next, End, Refused}
use Rattle.journal_text.specs.DraftTexts.{IsDraft, draft_text}
use Rattle.journal_text.specs.Readers.{GroupReader, Moment, IsReading, IsSameAhead, IsBehind, IsDraftHeld, behind_held, pieces_ahead, next_line, lines_of_draft, held_line, first_held, held_at, reader_of, StaysAhead, LeavesBehind, IsUntaken, draft_with, with_draft, taken_behind}
use Rattle.journal_text.specs.Drafts.{Takes}
use Rattle.journal_text.proofs.DraftSteps.{step_was, begin_was}
use Rattle.journal_text.proofs.ReadLaws.{step_lines, begin_lines}
use Rattle.journal_text.proofs.LinesAhead.{IsLineCall, Went, WasStopped, WasOver, WentOn, went, line_before, line_given, end_given, over_ahead, nothing_given, refused_ahead, IsLimit, is_limit}

-- What the lines that are held are when another one is read, and when one is taken.

abbrev pub at : Held → Reader → Option (List ℕ) → Moment
at h lines left = record { groups = reader_of h None; lines = lines; left = left }

-- after the call for a line
abbrev pub filled : Held → Line → Result Bool LineFault → Held
filled h line (Ok true) = record h { line = line; has_line = true }
filled h line (Ok false) = record h { line = line }
filled h line (Err _) = record h { line = line }

abbrev pub IsFilled : Result Bool LineFault → Held → Reader → Option (List ℕ) → Type 0
IsFilled (Ok true) h lines left = h.has_line ≡ true
IsFilled (Ok false) h lines left = IsBehind End h lines left
IsFilled (Err fault) h lines left = IsLimit fault → IsBehind Refused h lines left

pub record IsFill (h : Held) (line : Line) (r : Result Bool LineFault) (old new : Reader) (left left' : Option (List ℕ)) : Type 0 where
  pub same : IsSameAhead (at h old left) (at (filled h line r) new left')
  pub behind : IsFilled r (filled h line r) new left'

held_more : (lines : List (List ℕ)) (line : List ℕ) (o : Option (List Piece)) → behind_held (lines ++ line ∷ []) o ≡ behind_held (lines ++ []) (line_before line o)
held_more lines line None = refl
held_more lines line (Some ps) = ap (λ (x : List Piece). Some x) (by lines)
  where
    by : (lines : List (List ℕ)) → map Whole (lines ++ line ∷ []) ++ ps ≡ map Whole (lines ++ []) ++ (Whole line ∷ ps)
    by [] = refl
    by (l ∷ lines) = ap (λ (x : List Piece). Whole l ∷ x) (by lines)

-- a reader that holds no line is the same whatever was read into its line
no_line : (draft : Option Draft) (line line' : Line) (b : Bool) → b ≡ false
    → reader_of (record { draft = draft; line = line'; has_line = b }) None ≡ reader_of (record { draft = draft; line = line; has_line = b }) None
no_line draft line line' b e = rw e refl

-- a moment at which nothing moved but what was read into the line
still : (h : Held) (line : Line) (lines : Reader) (left : Option (List ℕ)) → h.has_line ≡ false → IsReading (at h lines left) → IsSameAhead (at h lines left) (at (record h { line = line }) lines left)
still h line lines left none reading =
    let same = no_line h.draft h.line line h.has_line none in
    let moment : GroupReader → Moment = λ (g : GroupReader). record { groups = g; lines = lines; left = left } in
    record {
      reading = subst (λ (g : GroupReader). IsReading (record { groups = g; lines = lines; left = left })) (sym same) reading;
      pieces = ap (λ (g : GroupReader). pieces_ahead (record { groups = g; lines = lines; left = left })) same;
      next = ap (λ (g : GroupReader). next_line (record { groups = g; lines = lines; left = left })) same;
    }

-- a line was read
filled_line : (h : Held) (line : Line) (old new : Reader) (left left' : Option (List ℕ)) → h.has_line ≡ false → ahead old left ≡ line_before line.bytes (ahead new left') → new.given ≡ old.given + 1 → new.stopped ≡ None → IsReading (at h old left) → IsSameAhead (at h old left) (at (record h { line = line; has_line = true }) new left')
filled_line h line old new left left' none before given unstopped reading = record {
  reading = record {
    numbered = numbered h.draft (rw none at reading.numbered);
    refused = λ stopped. absurd (stopped unstopped);
    bad = tt;
  };
  pieces = held_more lines line.bytes (ahead new left') ∙ ap (behind_held (lines ++ [])) (sym before) ∙ ap (λ (b : Bool). behind_held (lines ++ cond b (h.line.bytes ∷ []) []) (ahead old left)) (sym none);
  next = rw none (omega (arith, given, length-append lines (line.bytes ∷ []), length-append lines []));
}
  where
    lines : List (List ℕ)
    lines = lines_of_draft h.draft

    numbered : (draft : Option Draft) → IfSome (first_held draft) (λ first. first + length (lines_of_draft draft ++ []) ≡ old.given + 1)
        → IfSome (first_held draft) (λ first. first + length (lines_of_draft draft ++ line.bytes ∷ []) ≡ new.given + 1)
    numbered None h = tt
    numbered (Some d) h = omega (arith, h, given, length-append (lines_of_draft (Some d)) (line.bytes ∷ []), length-append (lines_of_draft (Some d)) [])

-- nothing was read
unfilled : (h : Held) (line : Line) (old new : Reader) (left left' : Option (List ℕ)) → h.has_line ≡ false → ahead new left' ≡ ahead old left → new.given ≡ old.given → ((new.stopped ≡ None → ⊥) → WhereTold (ahead old left) IsRefused)
    → IsReading (at h old left) → IsSameAhead (at h old left) (at (record h { line = line }) new left')
unfilled h line old new left left' none same given refused reading =
    let s = still h line old left none reading in
    record {
      reading = record {
        numbered = subst (λ n. IfSome (first_held h.draft) (λ first. first + length (lines_of_draft h.draft ++ held_line (record h { line = line })) ≡ n + 1)) (sym given) s.reading.numbered;
        refused = λ stopped. subst (λ o. WhereTold o IsRefused) (sym same) (refused stopped);
        bad = tt;
      };
      pieces = ap (behind_held (reader_of (record h { line = line }) None).held) same ∙ s.pieces;
      next = ap (λ n. n + 1 - length (reader_of (record h { line = line }) None).held) given ∙ s.next;
    }

pub fill : (h : Held) (line : Line) (r : Result Bool LineFault) (old new : Reader) (left left' : Option (List ℕ)) → h.has_line ≡ false → IsLineCall old new left left' (line_read r line) → IsReading (at h old left)
    → IsFill h line r old new left left'
fill h line (Ok true) old new left left' none c reading = by (went old new left left' (Ok (Some line)) c)
  where
    by : Went old new left left' (Ok (Some line)) → IsFill h line (Ok true) old new left left'
    by (WasStopped limit e a n l) = absurd cc
    by (WasOver e a n l) = absurd cc
    by (WentOn e f tells) = record {
      same = filled_line h line old new left left' none (line_given old new left left' line tells f c.over) c.counts.1 c.stops reading;
      behind = refl;
    }
fill h line (Ok false) old new left left' none c reading = by (went old new left left' (Ok None) c)
  where
    by : Went old new left left' (Ok None) → IsFill h line (Ok false) old new left left'
    by (WasStopped limit e a n l) = absurd cc
    by (WasOver e a n l) = record {
      same = unfilled h line old new left left' none (ap (λ (x : Reader). ahead x left') n ∙ ap (ahead old) l) c.counts.0 (λ stopped. absurd (stopped c.stops)) reading;
      behind = (none, over_ahead new left' (ap (λ (x : Reader). x.over) n ∙ e));
    }
    by (WentOn e f tells) =
        let end = end_given old new left left' tells f c.over in
        record { same = unfilled h line old new left left' none end.0 c.counts.0 (λ stopped. absurd (stopped c.stops)) reading; behind = (none, end.1) }
fill h line (Err fault) old new left left' none c reading = by (went old new left left' (Err fault) c)
  where
    by : Went old new left left' (Err fault) → IsFill h line (Err fault) old new left left'
    by (WasStopped limit e a n l) =
        let same : ahead new left' ≡ ahead old left = ap (λ (x : Reader). ahead x left') n ∙ ap (ahead old) l in
        let refused : WhereTold (ahead old left) IsRefused = reading.refused (λ none. never limit (sym e ∙ none)) in
        record { same = unfilled h line old new left left' none same c.counts.0 (λ _. refused) reading; behind = λ _. (none, subst (λ o. WhereTold o IsRefused) (sym same) refused) }
      where
        never : (limit : Limit) → Some limit ≡ None → ⊥
        never limit f = absurd cc
    by (WasOver e a n l) = absurd cc
    by (WentOn e f tells) =
        let same = nothing_given old new left left' fault tells c.counts.1 c.over in
        let refused : IsLimit fault → WhereTold (ahead old left) IsRefused = λ limit. refused_ahead old new left left' fault limit tells f in
        record {
          same = unfilled h line old new left left' none same c.counts.0 (λ stopped. refused (is_limit fault (λ none. stopped (c.stops ∙ none)))) reading;
          behind = λ limit. (none, subst (λ o. WhereTold o IsRefused) (sym same) (refused limit));
        }

-- the same from the clauses of the call, and the answer that it came to
pub fill_by : {S : Type 0} (seen : S → ShelfState) (h : Held) (line : Line) (r r' : Result Bool LineFault) (old new : Reader) (shelf shelf' : S) → h.has_line ≡ false → TellsNext old (seen shelf) (line_read r line) new (seen shelf')
    → Counts old (line_read r line) new → new.stopped ≡ limit_after (line_read r line) → new.over ≡ over_after old.over (line_read r line) → StaysOver false old shelf r new shelf' → StaysStopped old shelf r new shelf' → r ≡ r'
    → IsReading (held_at h old (seen shelf)) → IsFill h line r' old new (seen shelf).left (seen shelf').left
fill_by seen h line r r' old new shelf shelf' none tells counts stops over ended again is reading =
    fill h line r' old new (seen shelf).left (seen shelf').left none (subst (λ (x : Result Bool LineFault). IsLineCall old new (seen shelf).left (seen shelf').left (line_read x line)) is call) reading
  where
    left : shelf' ≡ shelf → (seen shelf').left ≡ (seen shelf).left
    left e = ap (λ s. (seen s).left) e

    stopped : (o : Option Limit) → IfSome o (λ limit. (r ≡ Err (fault_of limit)) × (new ≡ old) × (shelf' ≡ shelf)) → IfSome o (λ limit. (line_read r line ≡ Err (fault_of limit)) × (new ≡ old) × ((seen shelf').left ≡ (seen shelf).left))
    stopped None h = tt
    stopped (Some limit) h = (ap (λ (x : Result Bool LineFault). line_read x line) h.0, h.1, left h.2)

    call : IsLineCall old new (seen shelf).left (seen shelf').left (line_read r line)
    call = record {
      tells = tells;
      counts = counts;
      stops = stops;
      over = over;
      ended = λ e f. let t = ended e f in (ap (λ (x : Result Bool LineFault). line_read x line) t.0, t.1, left t.2);
      again = stopped old.stopped again;
    }

-- Lines that are taken.

-- a line that was taken was held
pub record WasTaken (behind : Behind) (h : Held) (number : ℕ) (h' : Held) : Type 0 where
  pub next : behind ≡ Next
  pub draft : Draft
  pub with : draft_with h.draft number h.line.bytes ≡ Some draft
  pub new : h' ≡ record h { draft = Some draft; has_line = false }

never_true : {X : Type 0} → true ≡ false → X
never_true f = absurd cc

never_false : {X : Type 0} → false ≡ true → X
never_false f = absurd cc

pub was_taken : (behind : Behind) (h : Held) (number : ℕ) (h' : Held) → Takes (taken_behind behind h number) h true h' → WasTaken behind h number h'
was_taken End h number h' t = never_true t.0
was_taken Refused h number h' t = never_true t.0
was_taken Next h number h' t = by (draft_with h.draft number h.line.bytes) refl t
  where
    by : (o : Option Draft) → draft_with h.draft number h.line.bytes ≡ o → Takes (with_draft h o) h true h' → WasTaken Next h number h'
    by None e t = never_true t.0
    by (Some d) e t = record { next = refl; draft = d; with = e; new = t.1 }

-- a line that was not taken is held still
pub untaken : (behind : Behind) (h : Held) (number : ℕ) (h' : Held) → Takes (taken_behind behind h number) h false h' → h' ≡ h
untaken End h number h' t = t.1
untaken Refused h number h' t = t.1
untaken Next h number h' t = by (draft_with h.draft number h.line.bytes) t
  where
    by : (o : Option Draft) → Takes (with_draft h o) h false h' → h' ≡ h
    by None t = t.1
    by (Some d) t = never_false t.0

pub is_untaken : (behind : Behind) (h : Held) (number : ℕ) (h' : Held) → Takes (taken_behind behind h number) h false h' → IsUntaken behind h number
is_untaken End h number h' t = tt
is_untaken Refused h number h' t = tt
is_untaken Next h number h' t = by (draft_with h.draft number h.line.bytes) refl t
  where
    by : (o : Option Draft) → draft_with h.draft number h.line.bytes ≡ o → Takes (with_draft h o) h false h' → draft_with h.draft number h.line.bytes ≡ None
    by None e t = e
    by (Some d) e t = never_false t.0

-- what a line makes of a draft, or of none
record IsNextDraft (draft : Option Draft) (number : ℕ) (line : List ℕ) (d : Draft) : Type 0 where
  fits : IsDraft d
  lines : ended_lines (draft_text d) ≡ lines_of_draft draft ++ line ∷ []
  first : (given : ℕ) → number ≡ given → IfSome (first_held draft) (λ first. first + length (lines_of_draft draft ++ line ∷ []) ≡ given + 1) → d.line + length (lines_of_draft draft ++ line ∷ []) ≡ given + 1

next_draft : (draft : Option Draft) (number : ℕ) (line : List ℕ) (d : Draft) → IfSome draft IsDraft → draft_with draft number line ≡ Some d → IsNextDraft draft number line d
next_draft None number line d ok e =
    let w = begin_was number line d e in
    record { fits = w.draft; lines = begin_lines number line d e; first = λ given is numbered. ap (λ n. n + 1) (w.same ∙ is) }
next_draft (Some d0) number line d ok e =
    let w = step_was d0 line d ok e in
    record { fits = w.draft; lines = step_lines d0 line d ok e; first = λ given is numbered. ap (λ n. n + length (lines_of_draft (Some d0) ++ line ∷ [])) w.same ∙ numbered }

pub drafted_taken : (behind : Behind) (h : Held) (number : ℕ) (h' : Held) → IsDraftHeld h → Takes (taken_behind behind h number) h true h' → IsDraftHeld h'
drafted_taken behind h number h' ok t =
    let w = was_taken behind h number h' t in
    subst IsDraftHeld (sym w.new) (next_draft h.draft number h.line.bytes w.draft ok w.with).fits

pub no_line_taken : (behind : Behind) (h : Held) (number : ℕ) (h' : Held) → Takes (taken_behind behind h number) h true h' → h'.has_line ≡ false
no_line_taken behind h number h' t = ap (λ (x : Held). x.has_line) (was_taken behind h number h' t).new

with_line : (old : Moment) (h : Held) (number : ℕ) (d : Draft) (lines : Reader) (left : Option (List ℕ)) → h.has_line ≡ true → number ≡ lines.given → IsDraftHeld h → draft_with h.draft number h.line.bytes ≡ Some d → IsSameAhead old (at h lines left)
    → IsSameAhead old (at (record h { draft = Some d; has_line = false }) lines left)
with_line old h number d lines left has is ok e s = record {
  reading = record {
    numbered = ap (λ (ls : List (List ℕ)). d.line + length ls) (append-nil (ended_lines (draft_text d)) ∙ n.lines) ∙ n.first lines.given is (rw has at s.reading.numbered);
    refused = s.reading.refused;
    bad = tt;
  };
  pieces = ap (λ (ls : List (List ℕ)). behind_held ls (ahead lines left)) same ∙ s.pieces;
  next = ap (λ (ls : List (List ℕ)). lines.given + 1 - length ls) same ∙ s.next;
}
  where
    n : IsNextDraft h.draft number h.line.bytes d
    n = next_draft h.draft number h.line.bytes d ok e

    same : ended_lines (draft_text d) ++ [] ≡ lines_of_draft h.draft ++ cond h.has_line (h.line.bytes ∷ []) []
    same = append-nil (ended_lines (draft_text d)) ∙ n.lines ∙ ap (λ (b : Bool). lines_of_draft h.draft ++ cond b (h.line.bytes ∷ []) []) (sym has)

pub stays_taken : (old : Moment) (behind : Behind) (h : Held) (number : ℕ) (h' : Held) (lines : Reader) (shelf : ShelfState) → number ≡ lines.given → StaysAhead old (held_at h lines shelf) → LeavesBehind old behind h lines shelf → IsDraftHeld h
    → Takes (taken_behind behind h number) h true h' → StaysAhead old (held_at h' lines shelf)
stays_taken old behind h number h' lines shelf is stays leaves ok t reading =
    let w = was_taken behind h number h' t in
    let has : h.has_line ≡ true = subst (λ (b : Behind). LeavesBehind old b h lines shelf) w.next leaves reading in
    subst (λ (x : Held). IsSameAhead old (at x lines shelf.left)) (sym w.new) (with_line old h number w.draft lines shelf.left has is ok w.with (stays reading))

-- no line is taken at the end
abbrev came_to : Behind → Result Behind GroupFault
came_to behind = Ok behind

pub never_at_end : {X : Type 0} (behind : Behind) → behind ≡ Next → came_to behind ≡ came_to End → X
never_at_end behind e f = never (ap came_to (sym e) ∙ f)
  where
    never : {X : Type 0} → came_to Next ≡ came_to End → X
    never g = absurd cc

pub stays_then : {a b c : Moment} → StaysAhead a b → StaysAhead b c → StaysAhead a c
stays_then first second reading =
    let s = first reading in
    let t = second s.reading in
    record { reading = t.reading; pieces = t.pieces ∙ s.pieces; next = t.next ∙ s.next }

pub leaves_then : (old middle : Moment) (behind : Behind) (h : Held) (lines : Reader) (shelf : ShelfState) → StaysAhead old middle → LeavesBehind middle behind h lines shelf → LeavesBehind old behind h lines shelf
leaves_then old middle behind h lines shelf stays leaves reading = leaves (stays reading).reading
