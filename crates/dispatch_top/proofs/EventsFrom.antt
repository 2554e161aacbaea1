use Rattle.std.proofs.Common.{◌≡◌, ℕ, suc, ◌+◌, List, [], ◌∷◌, ◌++◌, Option, Some, None, Result, Ok, Err, refl, sym, ap, ◌∙◌, arith, append_assoc, map, length}
use Rattle.ride_base.specs.Buffers.{with_read}
use Rattle.ride_base.specs.Pieces.{Piece, Whole, pieces, largest_text}
use Rattle.ride_base.specs.Prefixes.{IsReadWithLines, AreBefore, AreFirstLines}
use Rattle.input_tables.specs.declared.faults.StreamFault.{StreamFault}
use Rattle.input_tables.specs.declared.lines.StreamLine.{StreamLine}
use Rattle.input_tables.specs.Streams.{stream_line_of}
use Rattle.board_core.specs.Histories.{Event}
use Rattle.dispatch_top.specs.Histories.{AreEventsRead}
use Rattle.dispatch_top.specs.Streams.{Events, StreamEnd, AtEnd, AtBad, events_from, events_of, events_said, from_line, onto, no_more}

-- Prefixes of a stream: lines that were read whole and go to events, and what is left behind them.

onto_both : (a b : List Event) (rest : Events) → onto a (onto b rest) ≡ onto (a ++ b) rest
onto_both a b rest = ap (λ (l : List Event). record { events = l; ends = rest.ends }) (sym (append_assoc a b rest.events))

-- the events of lines that go to the end, and then those of the pieces behind them
pub events_behind : (events : List Event) (n : ℕ) (lines : List (List ℕ)) (more : List Piece) → events_from n (map Whole lines) ≡ record { events = events; ends = AtEnd }
    → events_from n (map Whole lines ++ more) ≡ onto events (events_from (length lines + n) more)
events_behind events n [] more h =
    let none : events ≡ [] = ap (λ (r : Events). r.events) (sym h) in
    sym (ap (λ (l : List Event). onto l (events_from (0 + n) more)) none ∙ ap (λ (k : ℕ). events_from k more) (let e : 0 + n ≡ n = omega arith in e))
events_behind events n (line ∷ lines) more h = step (λ es e. events_behind es (n + 1) lines more e) (stream_line_of line) h
  where
    count : length lines + (n + 1) ≡ suc (length lines) + n
    count = omega arith

    bad : (k : ℕ) → no_more (AtBad k) ≡ record { events = events; ends = AtEnd } → ⊥
    bad k e = let f : AtBad k ≡ AtEnd = ap (λ (r : Events). r.ends) e in cc

    step : ((es : List Event) → events_from (n + 1) (map Whole lines) ≡ record { events = es; ends = AtEnd } → events_from (n + 1) (map Whole lines ++ more) ≡ onto es (events_from (length lines + (n + 1)) more))
        → (said : Result StreamLine StreamFault) → from_line n said (events_from (n + 1) (map Whole lines)) ≡ record { events = events; ends = AtEnd }
        → from_line n said (events_from (n + 1) (map Whole lines ++ more)) ≡ onto events (events_from (suc (length lines) + n) more)
    step tails (Ok said) e =
        let rest = events_from (n + 1) (map Whole lines) in
        let tail : events_from (n + 1) (map Whole lines) ≡ record { events = rest.events; ends = AtEnd } =
        ap (λ (end : StreamEnd). record { events = rest.events; ends = end }) (ap (λ (x : Events). x.ends) e) in
        let all : events_said said ++ rest.events ≡ events = ap (λ (x : Events). x.events) e in
        ap (onto (events_said said)) (tails rest.events tail)
        ∙ onto_both (events_said said) rest.events (events_from (length lines + (n + 1)) more)
        ∙ ap (λ (l : List Event). onto l (events_from (length lines + (n + 1)) more)) all
        ∙ ap (λ (k : ℕ). onto events (events_from k more)) count
    step tails (Err fault) e = absurd (bad n e)

-- What was read of a stream, whose lines go to these events.
pub record AreEventsBefore (events : List Event) (text rest : List ℕ) (number room : ℕ) : Type 0 where
  pub lines : List (List ℕ)
  pub given : AreFirstLines largest_text text lines room rest
  pub count : length lines ≡ number
  pub said : events_from 1 (map Whole lines) ≡ record { events = events; ends = AtEnd }

-- what was read of a stream that is told, and what is unread
abbrev pub AreEventsBeforeUnread : List Event → List ℕ → Option (List ℕ) → (number room : ℕ) → Type 0
AreEventsBeforeUnread events text None number room = ⊥
AreEventsBeforeUnread events text (Some rest) number room = AreEventsBefore events text rest number room

-- nothing was read
pub nothing_read : (text : List ℕ) → AreEventsBefore [] text text 0 largest_text
nothing_read text = record {
  lines = [];
  given = record { parts = []; unended_parts = tt; are_lines = refl; is_text = refl; spent = omega arith; first = refl };
  count = refl;
  said = refl;
}

-- the events of the text are those of the lines that were read, and of the pieces that are left
pub events_left : (events : List Event) (text rest : List ℕ) (number room : ℕ) → AreEventsBefore events text rest number room
    → events_of text ≡ onto events (events_from (number + 1) (pieces room rest))
events_left events text rest number room f =
    ap (events_from 1) f.given.first ∙ events_behind events 1 f.lines (pieces room rest) f.said
    ∙ ap (λ (k : ℕ). onto events (events_from (k + 1) (pieces room rest))) f.count

length_more : (lines : List (List ℕ)) (line : List ℕ) → length (lines ++ line ∷ []) ≡ length lines + 1
length_more [] line = refl
length_more (x ∷ lines) line = let e = length_more lines line in omega arith

-- one line more was read, and goes to further events
pub one_line_more : (events more : List Event) (text bytes pending pending' : List ℕ) (left left' : Option (List ℕ)) (number room room' : ℕ) → AreEventsBeforeUnread events text (with_read pending left) number room
    → ((lines : List (List ℕ)) → AreBefore largest_text text lines room pending left → AreBefore largest_text text (lines ++ bytes ∷ []) room' pending' left')
    → events_from (number + 1) (Whole bytes ∷ []) ≡ record { events = more; ends = AtEnd } → AreEventsBeforeUnread (events ++ more) text (with_read pending' left') (number + 1) room'
one_line_more events more text bytes pending pending' None left' number room room' f goes said = absurd f
one_line_more events more text bytes pending pending' (Some l) None number room room' f goes said = absurd (goes f.lines f.given)
one_line_more events more text bytes pending pending' (Some l) (Some l') number room room' f goes said = record {
  lines = f.lines ++ bytes ∷ [];
  given = goes f.lines f.given;
  count = length_more f.lines bytes ∙ ap (λ (k : ℕ). k + 1) f.count;
  said = ap (events_from 1) (map_more f.lines bytes) ∙ events_behind events 1 f.lines (Whole bytes ∷ []) f.said
      ∙ ap (λ (k : ℕ). onto events (events_from (k + 1) (Whole bytes ∷ []))) f.count ∙ ap (onto events) said;
}
  where
    map_more : (lines : List (List ℕ)) (line : List ℕ) → map Whole (lines ++ line ∷ []) ≡ map Whole lines ++ Whole line ∷ []
    map_more [] line = refl
    map_more (x ∷ lines) line = ap (λ (l : List Piece). Whole x ∷ l) (map_more lines line)

-- what was read where the shelf failed
pub unread_from : (events : List Event) (text pending : List ℕ) (left left' : Option (List ℕ)) (number room : ℕ) → AreEventsBeforeUnread events text (with_read pending left) number room
    → ((lines : List (List ℕ)) → AreBefore largest_text text lines room pending left → IsReadWithLines largest_text text lines left')
    → AreEventsRead text left' events
unread_from events text pending None left' number room f failed = absurd f
unread_from events text pending (Some l) left' number room f failed =
    let r = failed f.lines f.given in
    record { read_to = r.0; are = ap (λ (x : List (List ℕ)). events_from 1 (map Whole x)) r.1 ∙ f.said }
