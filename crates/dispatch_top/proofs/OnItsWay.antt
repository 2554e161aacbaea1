use Rattle.std.proofs.Common.{◌≡◌, ◌⊎◌, ℕ, suc, length-append, ◌+◌, ◌≤◌, List, [], ◌∷◌, ◌++◌, true, false, Option, Some, None, Result, Ok, Err, refl, sym, ap, subst, ◌∙◌, arith, append_assoc, append-nil, position, length, take, inl, inr}
use Rattle.std.specs.Prelude.{is_some, ◌==◌}
use Rattle.std.proofs.lemmas.Bool.{eqb-true}
use Rattle.ride_base.specs.Outside.{ShelfState, Takes, TakesPrefix}
use Rattle.ride_base.specs.Pieces.{Piece, Whole, TooLong, TooLarge, pieces, after_line, is_line_end, is_ended, ended_lines, largest_text}
use Rattle.ride_base.specs.Prefixes.{IsReadWithLines, AreGiven}
use Rattle.ride_base.specs.Reader.{Reader}
use Rattle.ride_base.specs.Reading.{TellsLine, unread}
use Rattle.ride_base.specs.Told.{WhereTold}
use Rattle.ride_base.specs.declared.lines.Line.{Line}
use Rattle.ride_base.specs.declared.lines.LineFault.TheVariants.{Long, Large}
use Rattle.ride_base.proofs.LineLaws.{after_last_line}
use Rattle.input_tables.specs.declared.faults.StreamFault.{StreamFault}
use Rattle.input_tables.specs.declared.lines.StreamLine.{StreamLine}
use Rattle.input_tables.specs.declared.lines.StreamLine.TheVariants as kind
use Rattle.input_tables.specs.Streams.{stream_line_of}
use Rattle.board_core.specs.Histories.{Event}
use Rattle.dispatch_top.specs.declared.stops.StreamExit.{StreamExit}
use Rattle.dispatch_top.specs.declared.stops.StreamExit.TheVariants as exit
use Rattle.dispatch_top.specs.declared.stream.Next.TheVariants as next
use Rattle.dispatch_top.specs.Answerers.{GoesOn, HasAsked, HasFew, HasGone, IsFresh}
use Rattle.dispatch_top.specs.Histories.{AreAnsweredAs, AreEventsRead, EndsAt, EndsEarly}
use Rattle.dispatch_top.specs.Streaming.{GivesLine, GivesNext, Streamed}
use Rattle.dispatch_top.specs.Streams.{Events, AtEnd, AtBad, StreamEnd, events_from, events_of, events_said, from_line, onto, no_more}
use Rattle.dispatch_top.proofs.EventsFrom.{AreEventsBefore, AreEventsBeforeUnread, events_behind, nothing_read, events_left, one_line_more, unread_from}
use Rattle.dispatch_top.proofs.Told.{told_so}

-- A stream that is answered, line by line.

-- ---- what was taken

pub took_nothing : (a : Option (List ℕ)) → Takes a a []
took_nothing None = tt
took_nothing (Some a) = sym (append-nil a)

pub takes_both : (a b c : Option (List ℕ)) (xs ys : List ℕ) → Takes a b xs → Takes b c ys → Takes a c (xs ++ ys)
takes_both None None None xs ys h k = tt
takes_both None None (Some c) xs ys h k = absurd k
takes_both None (Some b) c xs ys h k = absurd h
takes_both (Some a) None c xs ys h k = absurd h
takes_both (Some a) (Some b) None xs ys h k = absurd k
takes_both (Some a) (Some b) (Some c) xs ys h k = k ∙ ap (λ (l : List ℕ). l ++ ys) h ∙ append_assoc a xs ys

take_past : (xs ys : List ℕ) (n : ℕ) → take (length xs + n) (xs ++ ys) ≡ xs ++ take n ys
take_past [] ys n = let e : 0 + n ≡ n = omega arith in ap (λ (k : ℕ). take k ys) e
take_past (x ∷ xs) ys n = let e : length (x ∷ xs) + n ≡ suc (length xs + n) = omega arith in ap (λ (k : ℕ). take k (x ∷ (xs ++ ys))) e ∙ ap (λ (l : List ℕ). x ∷ l) (take_past xs ys n)

takes_prefix : (a b c : Option (List ℕ)) (xs ys : List ℕ) → Takes a b xs → TakesPrefix b c ys → TakesPrefix a c (xs ++ ys)
takes_prefix a b c xs ys h k =
    let within = k.1 in
    (length xs + k.0, omega (arith, length-append xs ys), subst (Takes a c) (sym (take_past xs ys k.0)) (takes_both a b c xs (take k.0 ys) h k.2))

-- ---- events of a text

-- the first events of a text
abbrev pub BeginWith : List Event → List ℕ → Type 0
BeginWith events text = (more : List Event) × ((events_of text).events ≡ events ++ more)

-- the events of a text are these up to an end
abbrev pub GoTo : List Event → StreamEnd → List ℕ → Type 0
GoTo events end text = events_of text ≡ record { events = events; ends = end }

end_of : (events : List Event) (end : StreamEnd) → onto events (no_more end) ≡ record { events = events; ends = end }
end_of events end = ap (λ (l : List Event). record { events = l; ends = end }) (append-nil events)

-- all events of a text are its first ones
first_of_all : (events : List Event) (end : StreamEnd) (text : List ℕ) → GoTo events end text → BeginWith events text
first_of_all events end text e = ([], ap (λ (r : Events). r.events) e ∙ sym (append-nil events))

-- and so are those of the lines that were read of it
first_of_read : (events : List Event) (left : Option (List ℕ)) (text : List ℕ) → AreEventsRead text left events → BeginWith events text
first_of_read events left text r =
    let rest = events_from (length (ended_lines r.read_to.read) + 1) r.read_to.more in
    (rest.events, ap (λ (x : Events). x.events) (ap (events_from 1) r.read_to.first ∙ events_behind events 1 (ended_lines r.read_to.read) r.read_to.more r.are))

-- fewer of them are first ones, too
first_of_more : (events held asked : List Event) → events ++ held ≡ asked → (text : List ℕ) → BeginWith asked text → BeginWith events text
first_of_more events held asked e text b =
    (held ++ b.0, b.1 ∙ ap (λ (l : List Event). l ++ b.0) (sym e) ∙ append_assoc events held b.0)

-- ---- the rest of a text

nothing_left : (pending : List ℕ) (left : Option (List ℕ)) (reader : Reader) → reader.pending ≡ pending → unread reader left ≡ Some [] → left ≡ Some []
nothing_left pending None reader e h = cc
nothing_left [] (Some l) reader e h = let f : reader.pending ++ l ≡ [] = cc in ap (λ (x : List ℕ). Some (x ++ l)) (sym e) ∙ ap Some f
nothing_left (b ∷ bs) (Some l) reader e h = let f : reader.pending ++ l ≡ [] = cc in let k : b ∷ (bs ++ l) ≡ [] = ap (λ (x : List ℕ). x ++ l) (sym e) ∙ f in cc

none_left : (rest : List ℕ) → is_ended rest ≡ false → after_line rest ≡ []
none_left rest e = after_last_line rest (none (position is_line_end rest) e)
  where
    none : (o : Option ℕ) → is_some o ≡ false → o ≡ None
    none None e = refl
    none (Some k) e = cc

-- One line more was given.
pub record IsNext (events : List Event) (text : List ℕ) (line : Line) (after : Option (List ℕ)) (number room room' : ℕ) : Type 0 where
  pub rest : List ℕ
  pub before : AreEventsBefore events text rest number room
  pub in_pieces : pieces room rest ≡ Whole line.bytes ∷ pieces room' (after_line rest)
  pub after_is : after ≡ Some (after_line rest)
  pub ended_is : line.ended ≡ is_ended rest

is_next : (events : List Event) (text : List ℕ) (line : Line) (before after : Option (List ℕ)) (number room room' : ℕ) → AreEventsBeforeUnread events text before number room → TellsLine room before (Ok (Some line)) room' after
    → IsNext events text line after number room room'
is_next events text line None after number room room' p t = absurd p
is_next events text line (Some rest) after number room room' p t = record { rest = rest; before = p; in_pieces = t.0; after_is = t.1; ended_is = t.2 }

-- the events of the text are those before the line, and those from the line on
line_on : (events : List Event) (text : List ℕ) (line : Line) (after : Option (List ℕ)) (number room room' : ℕ) (n : IsNext events text line after number room room')
    → events_of text ≡ onto events (events_from (number + 1) (Whole line.bytes ∷ pieces room' (after_line n.rest)))
line_on events text line after number room room' n = events_left events text n.rest number room n.before ∙ ap (λ (l : List Piece). onto events (events_from (number + 1) l)) n.in_pieces

-- by what the line says
said_on : (events : List Event) (text : List ℕ) (line : Line) (after : Option (List ℕ)) (number room room' : ℕ) (said : Result StreamLine StreamFault) → line.number ≡ number + 1 → stream_line_of line.bytes ≡ said → (n : IsNext events text line after number room room')
    → events_of text ≡ onto events (from_line line.number said (events_from (line.number + 1) (pieces room' (after_line n.rest))))
said_on events text line after number room room' said c e n =
    line_on events text line after number room room' n
    ∙ ap (λ (k : ℕ). onto events (events_from k (Whole line.bytes ∷ pieces room' (after_line n.rest)))) (sym c)
    ∙ ap (λ (s : Result StreamLine StreamFault). onto events (from_line line.number s (events_from (line.number + 1) (pieces room' (after_line n.rest))))) e

-- the events of a line that goes on, and of those behind it
onto_said : (events : List Event) (line : ℕ) (said : StreamLine) (rest : Events) → onto events (from_line line (Ok said) rest) ≡ onto (events ++ events_said said) rest
onto_said events line said rest = ap (λ (l : List Event). record { events = l; ends = rest.ends }) (sym (append_assoc events (events_said said) rest.events))

-- a line says one event at most
one_at_most : (said : StreamLine) → length (events_said said) ≤ 1
one_at_most (kind.Ride r) = omega arith
one_at_most (kind.Move now) = omega arith
one_at_most (kind.Cancel number) = omega arith
one_at_most kind.Nothing = omega arith

-- ---- on the way

-- A stream on its way: the events that its lines say so far were asked, and the text of their answers was taken. Each line takes room,
-- so the events stay few.
pub record IsOnItsWay {A : Type 0} (Has : A → A → List Event → List ℕ → Type 0) (held : A → List Event) (first now : A) (text rest : Option (List ℕ)) (number room : ℕ) (old new : Option (List ℕ)) : Type 0 where
  pub asked : List Event
  pub printed : List ℕ
  pub has : HasAsked Has held first now asked printed
  pub took : Takes old new printed
  pub few : length asked + room ≤ largest_text
  pub part : WhereTold text (λ told. AreEventsBeforeUnread asked told rest number room)

-- at the start
pub first_way : (A : Type 0) (Has : A → A → List Event → List ℕ → Type 0) (held : A → List Event) (first : A) (reader : Reader) (text old : Option (List ℕ)) → IsFresh Has held first
    → reader ≡ record { pending = []; given = 0; room = largest_text; stopped = None; over = false } → IsOnItsWay Has held first first text (unread reader text) reader.given reader.room old old
first_way A Has held first reader text old fresh l = record {
  asked = [];
  printed = [];
  has = record { events = []; has = fresh.0; asks = fresh.1 };
  took = took_nothing old;
  few = omega (arith, ap (λ (r : Reader). r.room) l);
  part = subst (λ (r : Reader). WhereTold text (λ told. AreEventsBeforeUnread [] told (unread r text) r.given r.room)) (sym l) (at_first text);
}
  where
    at_first : (t : Option (List ℕ)) → WhereTold t (λ told. AreEventsBeforeUnread [] told (unread (record { pending = []; given = 0; room = largest_text; stopped = None; over = false }) t) 0 largest_text)
    at_first None = tt
    at_first (Some t) = nothing_read t

-- few events were asked so far
pub has_few : (A : Type 0) (Has : A → A → List Event → List ℕ → Type 0) (held : A → List Event) (first now : A) (asked : List Event) (printed : List ℕ) → HasAsked Has held first now asked printed → length asked ≤ largest_text
    → HasFew Has held now
has_few A Has held first now asked printed h few = record {
  first = first;
  events = h.events;
  printed = printed;
  has = h.has;
  few = omega (arith, ap (λ (l : List Event). length l) h.asks);
}

-- an account of the first events of a stream
early : (A : Type 0) (Has : A → A → List Event → List ℕ → Type 0) (held : A → List Event) (first now : A) (asked : List Event) (printed : List ℕ) (text : Option (List ℕ)) (Taken : List ℕ → Type 0)
    → HasAsked Has held first now asked printed → WhereTold text (BeginWith asked) → Taken printed → EndsEarly (HasGone Has first) (WhereTold text) Taken
early A Has held first now asked printed text Taken h begins took = record {
  events = h.events;
  printed = printed;
  said = told_so (BeginWith asked) (BeginWith h.events) text (first_of_more h.events (held now) asked h.asks) begins;
  account = (now, h.has);
  took = took;
}

-- ---- before the next line

module _ (A : Type 0) (Has : A → A → List Event → List ℕ → Type 0) (held : A → List Event) (first now : A) (text : Option (List ℕ)) (old mid : Option (List ℕ)) (was : Reader) (had : ShelfState) (number : ℕ)
    (w : IsOnItsWay Has held first now text (unread was had.left) number was.room old mid) where
  pub few_so_far : HasFew Has held now
  few_so_far = let f = w.few in has_few A Has held first now w.asked w.printed w.has (omega arith)

  begins : WhereTold text (BeginWith w.asked)
  begins = on text (unread was had.left) w.part
    where
      on : (x y : Option (List ℕ)) → WhereTold x (λ told. AreEventsBeforeUnread w.asked told y number was.room) → WhereTold x (BeginWith w.asked)
      on None y p = tt
      on (Some told) None p = absurd p
      on (Some told) (Some rest) p = ((events_from (number + 1) (pieces was.room rest)).events, ap (λ (r : Events). r.events) (events_left w.asked told rest number was.room p))

  -- memory was wanted
  pub ends_early : EndsEarly (HasGone Has first) (WhereTold text) (Takes old mid)
  ends_early = early A Has held first now w.asked w.printed text (Takes old mid) w.has begins w.took

  whole : (Asked : List Event → List ℕ → Type 0) → WhereTold text (Asked w.asked) → AreAnsweredAs (HasAsked Has held first now) (λ events. WhereTold text (Asked events)) (Takes old mid)
  whole Asked said = record { events = w.asked; printed = w.printed; said = said; account = w.has; took = w.took }

  -- a line is too long, or one byte too many
  past_limit : (piece : Piece) (y : Option (List ℕ)) → ((rest : List ℕ) → y ≡ Some rest → pieces was.room rest ≡ piece ∷ []) → ((m : List Piece) → events_from (number + 1) (piece ∷ m) ≡ no_more (AtBad (number + 1)))
      → (x : Option (List ℕ)) → WhereTold x (λ told. AreEventsBeforeUnread w.asked told y number was.room) → WhereTold x (GoTo w.asked (AtBad (number + 1)))
  past_limit piece y h b None p = tt
  past_limit piece None h b (Some told) p = absurd p
  past_limit piece (Some rest) h b (Some told) p =
      events_left w.asked told rest number was.room p ∙ ap (λ (l : List Piece). onto w.asked (events_from (number + 1) l)) (h rest refl)
      ∙ ap (onto w.asked) (b []) ∙ end_of w.asked (AtBad (number + 1))

  limit_met : (y y' : Option (List ℕ)) (room' : ℕ) → TellsLine was.room y (Err Long) room' y' ⊎ TellsLine was.room y (Err Large) room' y'
      → (x : Option (List ℕ)) → WhereTold x (λ told. AreEventsBeforeUnread w.asked told y number was.room) → WhereTold x (GoTo w.asked (AtBad (number + 1)))
  limit_met None y' room' t None p = tt
  limit_met None y' room' t (Some told) p = absurd p
  limit_met (Some r) y' room' (inl t) x p = past_limit TooLong (Some r) (λ rest e. let q : r ≡ rest = cc in ap (pieces was.room) (sym q) ∙ t.0) (λ m. refl) x p
  limit_met (Some r) y' room' (inr t) x p = past_limit TooLarge (Some r) (λ rest e. let q : r ≡ rest = cc in ap (pieces was.room) (sym q) ∙ t.0) (λ m. refl) x p

  at_end : (y y' : Option (List ℕ)) (room' : ℕ) → TellsLine was.room y (Ok None) room' y' → (x : Option (List ℕ)) → WhereTold x (λ told. AreEventsBeforeUnread w.asked told y number was.room) → WhereTold x (GoTo w.asked AtEnd)
  at_end y y' room' t None p = tt
  at_end None y' room' t (Some told) p = absurd p
  at_end (Some rest) y' room' t (Some told) p = events_left w.asked told rest number was.room p ∙ ap (λ (l : List ℕ). onto w.asked (events_from (number + 1) (pieces was.room l))) t.0 ∙ end_of w.asked AtEnd

  none_more : (reader : Reader) (left y : Option (List ℕ)) → TellsLine was.room y (Ok None) reader.room (unread reader left) → (x : Option (List ℕ)) → WhereTold x (λ told. AreEventsBeforeUnread w.asked told y number was.room)
      → WhereTold x (λ told. left ≡ Some [])
  none_more reader left y t None p = tt
  none_more reader left None t (Some told) p = absurd p
  none_more reader left (Some rest) t (Some told) p = nothing_left reader.pending left reader refl t.1

  was_read : (left : Option (List ℕ)) → ((all : ℕ) (told : List ℕ) (given : List (List ℕ)) → AreGiven all told given was had.left → IsReadWithLines all told given left)
      → (x : Option (List ℕ)) → WhereTold x (λ told. AreEventsBeforeUnread w.asked told (unread was had.left) number was.room) → WhereTold x (λ told. AreEventsRead told left w.asked)
  was_read left f None p = tt
  was_read left f (Some told) p = unread_from w.asked told was.pending had.left left number was.room p (f largest_text told)

  -- there is no line more
  pub ends_before : (ends : StreamExit) (reader : Reader) (shelf : ShelfState) → was.given ≡ number → GivesNext was had (next.Exit ends) reader shelf
      → Streamed (HasAsked Has held first now) (HasGone Has first) (WhereTold text) (Ok ends) shelf.left old mid
  ends_before exit.AtEnd reader shelf c g = (
    whole (λ events. GoTo events AtEnd) (at_end (unread was had.left) (unread reader shelf.left) reader.room g text w.part),
    none_more reader shelf.left (unread was had.left) g text w.part,
  )
  ends_before (exit.AtBad line) reader shelf c g =
      let same : line ≡ number + 1 = g.0 ∙ ap (λ (k : ℕ). k + 1) c in
      subst (λ (k : ℕ). EndsAt (HasAsked Has held first now) (AtBad k) (WhereTold text) (Takes old mid)) (sym same)
      (whole (λ events. GoTo events (AtBad (number + 1))) (limit_met (unread was had.left) (unread reader shelf.left) reader.room g.1 text w.part))
  ends_before exit.AtFault reader shelf c g = whole (λ events text. AreEventsRead text shelf.left events) (was_read shelf.left g text w.part)

  -- ---- at a line

  module _ (line : Line) (reader : Reader) (shelf : ShelfState) (c : was.given ≡ number) (g : GivesLine was had line reader shelf) where
    counted : line.number ≡ number + 1
    counted = g.counts.0 ∙ ap (λ (k : ℕ). k + 1) c

    -- the events of a told text are those asked so far, and those of the line and behind it
    told_on : (said : Result StreamLine StreamFault) → stream_line_of line.bytes ≡ said → (x : Option (List ℕ)) → WhereTold x (λ told. AreEventsBeforeUnread w.asked told (unread was had.left) number was.room)
        → WhereTold x (λ told. (n : IsNext w.asked told line (unread reader shelf.left) number was.room reader.room) × (events_of told ≡ onto w.asked (from_line line.number said (events_from (line.number + 1) (pieces reader.room (after_line n.rest))))))
    told_on said e None p = tt
    told_on said e (Some told) p =
        let n = is_next w.asked told line (unread was had.left) (unread reader shelf.left) number was.room reader.room p g.tells in
        (n, said_on w.asked told line (unread reader shelf.left) number was.room reader.room said counted e n)

    -- the line is bad
    pub ends_at_bad : (fault : StreamFault) → stream_line_of line.bytes ≡ Err fault → Streamed (HasAsked Has held first now) (HasGone Has first) (WhereTold text) (Ok (exit.AtBad line.number)) shelf.left old mid
    ends_at_bad fault e = whole (λ events. GoTo events (AtBad line.number)) (on text (told_on (Err fault) e text w.part))
      where
        on : (x : Option (List ℕ)) → WhereTold x (λ told. (n : IsNext w.asked told line (unread reader shelf.left) number was.room reader.room) × (events_of told ≡ onto w.asked (from_line line.number (Err fault) (events_from (line.number + 1) (pieces reader.room (after_line n.rest))))))
            → WhereTold x (GoTo w.asked (AtBad line.number))
        on None p = tt
        on (Some told) p = p.1 ∙ end_of w.asked (AtBad line.number)

    pub ends_at_other : (said : Result StreamLine StreamFault) → stream_line_of line.bytes ≡ said → ((s : StreamLine) → said ≡ Ok s → ⊥) → Streamed (HasAsked Has held first now) (HasGone Has first) (WhereTold text) (Ok (exit.AtBad line.number)) shelf.left old mid
    ends_at_other (Ok s) e n = absurd (n s refl)
    ends_at_other (Err fault) e n = ends_at_bad fault e

    -- it was answered
    module _ (said : StreamLine) (says : stream_line_of line.bytes ≡ Ok said) (later : A) (more : List ℕ) (goes : GoesOn Has held now (events_said said) later more) where
      abbrev asked_then : List Event
      asked_then = w.asked ++ events_said said

      has_then : HasAsked Has held first later asked_then (w.printed ++ more)
      has_then = goes first w.asked w.printed w.has

      -- what was read of a told text says what was asked
      then_told : (told : List ℕ) (n : IsNext w.asked told line (unread reader shelf.left) number was.room reader.room)
          → events_of told ≡ onto w.asked (from_line line.number (Ok said) (events_from (line.number + 1) (pieces reader.room (after_line n.rest))))
          → events_of told ≡ onto asked_then (events_from (line.number + 1) (pieces reader.room (after_line n.rest)))
      then_told told n e = e ∙ onto_said w.asked line.number said (events_from (line.number + 1) (pieces reader.room (after_line n.rest)))

      -- its lines couldn't be written
      pub ends_unwritten : (new : Option (List ℕ)) → TakesPrefix mid new more → EndsEarly (HasGone Has first) (WhereTold text) (TakesPrefix old new)
      ends_unwritten new p = early A Has held first later asked_then (w.printed ++ more) text (TakesPrefix old new) has_then (on text (told_on (Ok said) says text w.part)) (takes_prefix old mid new w.printed more w.took p)
        where
          on : (x : Option (List ℕ)) → WhereTold x (λ told. (n : IsNext w.asked told line (unread reader shelf.left) number was.room reader.room) × (events_of told ≡ onto w.asked (from_line line.number (Ok said) (events_from (line.number + 1) (pieces reader.room (after_line n.rest))))))
              → WhereTold x (BeginWith asked_then)
          on None p = tt
          on (Some told) p = ((events_from (line.number + 1) (pieces reader.room (after_line p.0.rest))).events, ap (λ (r : Events). r.events) (then_told told p.0 p.1))

      -- a last line that isn't ended
      pub ends_with_line : (new : Option (List ℕ)) → line.ended ≡ false → Takes mid new more → Streamed (HasAsked Has held first later) (HasGone Has first) (WhereTold text) (Ok exit.AtEnd) shelf.left old new
      ends_with_line new ended taken = (
        record {
          events = asked_then;
          printed = w.printed ++ more;
          said = on text (told_on (Ok said) says text w.part);
          account = has_then;
          took = takes_both old mid new w.printed more w.took taken;
        },
        behind text (told_on (Ok said) says text w.part),
      )
        where
          on : (x : Option (List ℕ)) → WhereTold x (λ told. (n : IsNext w.asked told line (unread reader shelf.left) number was.room reader.room) × (events_of told ≡ onto w.asked (from_line line.number (Ok said) (events_from (line.number + 1) (pieces reader.room (after_line n.rest))))))
              → WhereTold x (GoTo asked_then AtEnd)
          on None p = tt
          on (Some told) p =
              then_told told p.0 p.1 ∙ ap (λ (l : List ℕ). onto asked_then (events_from (line.number + 1) (pieces reader.room l))) (none_left p.0.rest (sym p.0.ended_is ∙ ended)) ∙ end_of asked_then AtEnd

          behind : (x : Option (List ℕ)) → WhereTold x (λ told. (n : IsNext w.asked told line (unread reader shelf.left) number was.room reader.room) × (events_of told ≡ onto w.asked (from_line line.number (Ok said) (events_from (line.number + 1) (pieces reader.room (after_line n.rest))))))
              → WhereTold x (λ told. shelf.left ≡ Some [])
          behind None p = tt
          behind (Some told) p = nothing_left reader.pending shelf.left reader refl (p.0.after_is ∙ ap Some (none_left p.0.rest (sym p.0.ended_is ∙ ended)))

      room_for : length asked_then + reader.room ≤ largest_text
      room_for =
          let few = w.few in
          let one = one_at_most said in
          let falls = g.counts.2 in
          omega (arith, length-append w.asked (events_said said))

      pub few_then : HasFew Has held later
      few_then = let f = room_for in has_few A Has held first later asked_then (w.printed ++ more) has_then (omega arith)

      -- the stream goes on behind an ended line
      pub further : (new : Option (List ℕ)) → line.ended ≡ true → Takes mid new more → IsOnItsWay Has held first later text (unread reader shelf.left) reader.given reader.room old new
      further new ended taken = record {
        asked = asked_then;
        printed = w.printed ++ more;
        has = has_then;
        took = takes_both old mid new w.printed more w.took taken;
        few = room_for;
        part = on text w.part;
      }
        where
          one : events_from (number + 1) (Whole line.bytes ∷ []) ≡ record { events = events_said said; ends = AtEnd }
          one = ap (λ (s : Result StreamLine StreamFault). from_line (number + 1) s (no_more AtEnd)) says ∙ end_of (events_said said) AtEnd

          on : (x : Option (List ℕ)) → WhereTold x (λ told. AreEventsBeforeUnread w.asked told (unread was had.left) number was.room)
              → WhereTold x (λ told. AreEventsBeforeUnread asked_then told (unread reader shelf.left) reader.given reader.room)
          on None p = tt
          on (Some told) p =
              subst (λ (k : ℕ). AreEventsBeforeUnread asked_then told (unread reader shelf.left) k reader.room) (sym (g.counts.1 ∙ ap (λ (k : ℕ). k + 1) c))
              (one_line_more w.asked (events_said said) told line.bytes was.pending reader.pending had.left shelf.left number was.room reader.room p (g.given ended largest_text told) one)

-- ---- what was held back

pub empty_if : (l : List ℕ) → (length l == 0) ≡ true → l ≡ []
empty_if [] e = refl
empty_if (x ∷ l) e = let n : length (x ∷ l) ≡ 0 = eqb-true _ _ e in absurd (omega arith)

-- What was asked at a stream's end, and what of it was taken.
pub record IsAskedOf {A : Type 0} (Has : A → A → List Event → List ℕ → Type 0) (held : A → List Event) (first now : A) (text old mid : Option (List ℕ)) : Type 0 where
  pub asked : List Event
  pub printed : List ℕ
  pub has : HasAsked Has held first now asked printed
  pub begins : WhereTold text (BeginWith asked)
  pub took : Takes old mid printed

module _ (A : Type 0) (Has : A → A → List Event → List ℕ → Type 0) (held : A → List Event) (first now : A) (text left old mid : Option (List ℕ)) where
  asked_of : (Asked : List Event → List ℕ → Type 0) → ((events : List Event) (told : List ℕ) → Asked events told → BeginWith events told) → AreAnsweredAs (HasAsked Has held first now) (λ events. WhereTold text (Asked events)) (Takes old mid)
      → IsAskedOf Has held first now text old mid
  asked_of Asked f a = record { asked = a.events; printed = a.printed; has = a.account; begins = told_so (Asked a.events) (BeginWith a.events) text (f a.events) a.said; took = a.took }

  asked_at : (ends : StreamExit) → Streamed (HasAsked Has held first now) (HasGone Has first) (WhereTold text) (Ok ends) left old mid → IsAskedOf Has held first now text old mid
  asked_at exit.AtEnd s = asked_of (λ events. GoTo events AtEnd) (λ events. first_of_all events AtEnd) s.0
  asked_at (exit.AtBad line) s = asked_of (λ events. GoTo events (AtBad line)) (λ events. first_of_all events (AtBad line)) s
  asked_at exit.AtFault s = asked_of (λ events told. AreEventsRead told left events) (λ events. first_of_read events left) s

  module _ (ends : StreamExit) (s : Streamed (HasAsked Has held first now) (HasGone Has first) (WhereTold text) (Ok ends) left old mid) where
    -- memory was wanted for it
    pub unfinished : EndsEarly (HasGone Has first) (WhereTold text) (Takes old mid)
    unfinished = let a = asked_at ends s in early A Has held first now a.asked a.printed text (Takes old mid) a.has a.begins a.took

    module _ (later : A) (more : List ℕ) (goes : GoesOn Has held now [] later more) where
      -- its lines couldn't be written
      pub finished_unwritten : (new : Option (List ℕ)) → TakesPrefix mid new more → EndsEarly (HasGone Has first) (WhereTold text) (TakesPrefix old new)
      finished_unwritten new p =
          let a = asked_at ends s in
          early A Has held first later (a.asked ++ []) (a.printed ++ more) text (TakesPrefix old new) (goes first a.asked a.printed a.has)
          (subst (λ (l : List Event). WhereTold text (BeginWith l)) (sym (append-nil a.asked)) a.begins) (takes_prefix old mid new a.printed more a.took p)

      -- it was answered
      all_of : (Asked : List Event → List ℕ → Type 0) → held later ≡ [] → (new : Option (List ℕ)) → Takes mid new more → AreAnsweredAs (HasAsked Has held first now) (λ events. WhereTold text (Asked events)) (Takes old mid)
          → AreAnsweredAs (HasGone Has first) (λ events. WhereTold text (Asked events)) (Takes old new)
      all_of Asked none new taken a =
          let h = goes first a.events a.printed a.account in
          let same : h.events ≡ a.events = sym (append-nil h.events) ∙ ap (λ (l : List Event). h.events ++ l) (sym none) ∙ h.asks ∙ append-nil a.events in
          record {
            events = a.events;
            printed = a.printed ++ more;
            said = a.said;
            account = (later, subst (λ (l : List Event). Has first later l (a.printed ++ more)) same h.has);
            took = takes_both old mid new a.printed more a.took taken;
          }

      pub finished : held later ≡ [] → (new : Option (List ℕ)) → Takes mid new more → Streamed (HasGone Has first) (HasGone Has first) (WhereTold text) (Ok ends) left old new
      finished none new taken = on ends s
        where
          on : (ends : StreamExit) → Streamed (HasAsked Has held first now) (HasGone Has first) (WhereTold text) (Ok ends) left old mid → Streamed (HasGone Has first) (HasGone Has first) (WhereTold text) (Ok ends) left old new
          on exit.AtEnd x = (all_of (λ events. GoTo events AtEnd) none new taken x.0, x.1)
          on (exit.AtBad line) x = all_of (λ events. GoTo events (AtBad line)) none new taken x
          on exit.AtFault x = all_of (λ events told. AreEventsRead told left events) none new taken x
