use Rattle.std.proofs.Common.{◌≡◌, ℕ, ◌+◌, Bool, true, false, cond, List, [], ◌∷◌, ◌++◌, length-append, position, Option, Some, None, Result, Ok, Err, refl, sym, ap, subst, ◌∙◌, ◌≤◌, length, arith, inl, inr}
use Rattle.std.specs.Prelude.{not, is_some, IfOk, IfSome}
use Rattle.ride_base.proofs.LineLaws.{after_last_line}
use Rattle.ride_base.proofs.ReadLaws.{before_still, few_next, near_grows, near_next}
use Rattle.ride_base.specs.Buffers.{IsWithinARead, with_read}
use Rattle.ride_base.specs.Pieces.{Piece, Whole, pieces, after_line, is_ended, is_line_end, largest_text}
use Rattle.ride_base.specs.Prefixes.{AreBefore, AreGiven, IsReadNear, IsReadWithLines, size_of_lines}
use Rattle.ride_base.specs.Reader.{Reader, longest_read, most_line}
use Rattle.ride_base.specs.Reading.{Counts, ShowsNoLimit, TellsLine, unread, line_read, over_after}
use Rattle.ride_base.specs.Told.{ahead}
use Rattle.ride_base.specs.declared.lines.Line.{Line}
use Rattle.ride_base.specs.declared.lines.LineFault.{LineFault}
use Rattle.ride_base.specs.declared.lines.LineFault.TheVariants.{Fault as LineFaultOfShelf, Long, Large, NoMemory}
use Rattle.dimacs_reader.specs.declared.faults.GraphFault.{GraphFault}
use Rattle.dimacs_reader.specs.declared.faults.GraphFault.TheVariants.{Fault, NoMemory as GraphNoMemory}
use Rattle.dimacs_reader.specs.Reading.{GivesLine, fault_at}
use Rattle.dimacs_reader.specs.Refusals.{IsReadBehind, IsReadFrom, StandsBehind}

-- What a call that reads a line says of the lines ahead, and of those that were given.

none_is : (o : Option ℕ) → is_some o ≡ false → o ≡ None
none_is None e = refl
none_is (Some k) e = cc

-- nothing stands behind a line that no line end ends
after_unended : (text : List ℕ) → is_ended text ≡ false → after_line text ≡ []
after_unended text e = after_last_line text (none_is (position is_line_end text) e)

not_true : (b : Bool) → (b ≡ true → ⊥) → b ≡ false
not_true true h = absurd (h refl)
not_true false h = refl

not_false : (b : Bool) → not b ≡ false → b ≡ true
not_false true h = refl
not_false false h = cc

-- at the end of the text
nothing_ahead : (given : ℕ) (reader : Reader) (left : Option (List ℕ)) (line : Line) → reader.over ≡ true → GivesLine given (ahead reader left) (Ok false) line (ahead reader left)
nothing_ahead given reader None line over = refl
nothing_ahead given reader (Some l) line over = rw over (refl, refl)

end_ahead : (given : ℕ) (old new : Reader) (left left' : Option (List ℕ)) (line : Line) → TellsLine old.room (unread old left) (Ok None) new.room (unread new left') → old.over ≡ false → new.over ≡ true
    → GivesLine given (ahead old left) (Ok false) line (ahead new left')
end_ahead given old new None None line tells still over = refl
end_ahead given old new None (Some l') line tells still over = cc
end_ahead given old new (Some l) None line tells still over = let f = tells.1 in cc
end_ahead given old new (Some l) (Some l') line tells still over = rw (still, over) (ap (pieces old.room) tells.0, refl)

line_ahead : (given : ℕ) (old new : Reader) (left left' : Option (List ℕ)) (line : Line) → TellsLine old.room (unread old left) (Ok (Some line)) new.room (unread new left') → old.over ≡ false → new.over ≡ not line.ended
    → GivesLine given (ahead old left) (Ok true) line (ahead new left')
line_ahead given old new None None line tells still over = refl
line_ahead given old new None (Some l') line tells still over = cc
line_ahead given old new (Some l) None line tells still over = let f = tells.1 in cc
line_ahead given old new (Some l) (Some l') line tells still over = rw still (tells.0 ∙ ap (λ (rest : List Piece). Whole line.bytes ∷ rest) (rw over (on line.ended refl)))
  where
    is : new.pending ++ l' ≡ after_line (old.pending ++ l)
    is = let f = tells.1 in cc

    on : (b : Bool) → line.ended ≡ b → pieces new.room (after_line (old.pending ++ l)) ≡ cond (not b) [] (pieces new.room (new.pending ++ l'))
    on true e = ap (pieces new.room) (sym is)
    on false e = ap (pieces new.room) (after_unended (old.pending ++ l) (sym tells.2 ∙ e))

refused_ahead : (given : ℕ) (old new : Reader) (left left' : Option (List ℕ)) (line : Line) (why : LineFault) → TellsLine old.room (unread old left) (Err why) new.room (unread new left') → old.over ≡ false
    → GivesLine given (ahead old left) (Err (fault_at (given + 1) why)) line (ahead new left')
refused_ahead given old new None left' line why tells still = tt
refused_ahead given old new (Some l) left' line LineFaultOfShelf tells still = tt
refused_ahead given old new (Some l) left' line Long tells still = rw still (refl, inl tells.0)
refused_ahead given old new (Some l) left' line Large tells still = rw still (refl, inr tells.0)
refused_ahead given old new (Some l) left' line NoMemory tells still = tt

-- an answer with the number of the line that it is about
abbrev pub numbered : ℕ → Result Bool LineFault → Result Bool GraphFault
numbered line (Ok read) = Ok read
numbered line (Err why) = Err (fault_at line why)

pub gives : (given : ℕ) (old new : Reader) (left left' : Option (List ℕ)) (answer : Result Bool LineFault) (line : Line)
    → (old.over ≡ false → TellsLine old.room (unread old left) (line_read answer line) new.room (unread new left')) → new.over ≡ over_after old.over (line_read answer line)
    → (old.over ≡ true → (answer ≡ Ok false) × (new ≡ old) × (left' ≡ left))
    → GivesLine given (ahead old left) (numbered (given + 1) answer) line (ahead new left')
gives given old new left left' answer line tells over ended = on old.over refl
  where
    still : (answer : Result Bool LineFault) → old.over ≡ false → TellsLine old.room (unread old left) (line_read answer line) new.room (unread new left') → new.over ≡ over_after old.over (line_read answer line)
        → GivesLine given (ahead old left) (numbered (given + 1) answer) line (ahead new left')
    still (Ok false) e t o = end_ahead given old new left left' line t e o
    still (Ok true) e t o = line_ahead given old new left left' line t e o
    still (Err why) e t o = refused_ahead given old new left left' line why t e

    on : (b : Bool) → old.over ≡ b → GivesLine given (ahead old left) (numbered (given + 1) answer) line (ahead new left')
    on true e = let f = ended e in rw (f.0, f.1, f.2) (nothing_ahead given old left line e)
    on false e = still answer e (tells e) over

-- how far was read
pub reads_near : (text : List ℕ) (old : Reader) (left left' : Option (List ℕ)) → (old.over ≡ true → left' ≡ left) → IsWithinARead (most_line old) old.pending left left'
    → IsReadFrom text old left → IsReadNear (old.given + 1) largest_text text left'
reads_near text old left left' ended within from = on old.over refl
  where
    on : (b : Bool) → old.over ≡ b → IsReadNear (old.given + 1) largest_text text left'
    on true e = near_grows old.given largest_text text left' (subst (λ (o : Option (List ℕ)). IsReadNear old.given largest_text text o) (sym (ended e)) from.near)
    on false e =
        let given = from.given e in
        subst (λ (n : ℕ). IsReadNear (n + 1) largest_text text left') given.2 (near_next largest_text old.room text given.0 old.pending left left' given.1 given.3 within)

-- behind an ended line no more is held than one read brings
few_given : (text : List ℕ) (lines : List (List ℕ)) (old new : Reader) (left left' : Option (List ℕ)) (line : Line) → AreGiven largest_text text lines old left → TellsLine old.room (unread old left) (Ok (Some line)) new.room (unread new left')
    → line.ended ≡ true → length old.pending ≤ longest_read → IsWithinARead (most_line old) old.pending left left' → length new.pending ≤ longest_read
few_given text lines old new None left' line given tells ended few within = absurd given
few_given text lines old new (Some l) None line given tells ended few within = absurd within
few_given text lines old new (Some l) (Some l') line given tells ended few within =
    few_next (most_line old) old.pending new.pending l l' few within (sym tells.2 ∙ ended) (let f = tells.1 in cc)

-- the text is at its end
end_given : (text : List ℕ) (old new : Reader) (left left' : Option (List ℕ)) → TellsLine old.room (unread old left) (Ok None) new.room (unread new left') → new.over ≡ true → new.given ≡ old.given
    → IsReadFrom text old left → IsReadFrom text new left'
end_given text old new None left' tells over count from = absurd from.near
end_given text old new (Some l) None tells over count from = let f = tells.1 in cc
end_given text old new (Some l) (Some l') tells over count from = record {
  near =
      let none : length (old.pending ++ l) ≡ length {A = ℕ} [] = ap length tells.0 in
      let same : size_of_lines new.given largest_text text ≡ size_of_lines old.given largest_text text = ap (λ (n : ℕ). size_of_lines n largest_text text) count in
      omega (arith, none, same, from.near, length-append old.pending l);
  given = λ still. let f = sym over ∙ still in cc;
}

-- one line more
line_given : (text : List ℕ) (old new : Reader) (left left' : Option (List ℕ)) (line : Line) → new.over ≡ not line.ended → old.over ≡ false → TellsLine old.room (unread old left) (Ok (Some line)) new.room (unread new left')
    → new.given ≡ old.given + 1 → (line.ended ≡ true → (all : ℕ) (text : List ℕ) (lines : List (List ℕ)) → AreGiven all text lines old left → AreGiven all text (lines ++ line.bytes ∷ []) new left')
    → IsWithinARead (most_line old) old.pending left left' → IsReadFrom text old left → IsReadFrom text new left'
line_given text old new left left' line over e tells count goes within from = record {
  near = subst (λ (n : ℕ). IsReadNear n largest_text text left') (sym count) (reads_near text old left left' (λ f. let x = sym e ∙ f in cc) within from);
  given = λ still.
      let given = from.given e in
      let ended = not_false line.ended (sym over ∙ still) in
      (given.0 ++ line.bytes ∷ [], goes ended largest_text text given.0 given.1, omega (arith, length-append given.0 (line.bytes ∷ []), given.2, count), few_given text given.0 old new left left' line given.1 tells ended given.3 within);
}

pub stays_given : (text : List ℕ) (old new : Reader) (left left' : Option (List ℕ)) (read : Bool) (line : Line) → new.over ≡ over_after old.over (line_read (Ok read) line)
    → (old.over ≡ true → ◌≡◌ {A = Result Bool LineFault} (Ok read) (Ok false) × (new ≡ old) × (left' ≡ left)) → (old.over ≡ false → TellsLine old.room (unread old left) (line_read (Ok read) line) new.room (unread new left'))
    → Counts old (line_read (Ok read) line) new
    → IfOk (line_read (Ok read) line) (λ o. IfSome o (λ given. given.ended ≡ true → (all : ℕ) (text : List ℕ) (lines : List (List ℕ)) → AreGiven all text lines old left → AreGiven all text (lines ++ given.bytes ∷ []) new left'))
    → IsWithinARead (most_line old) old.pending left left' → IsReadFrom text old left → IsReadFrom text new left'
stays_given text old new left left' read line over ended tells counts goes within from = on old.over refl
  where
    still : (read : Bool) → old.over ≡ false → new.over ≡ over_after old.over (line_read (Ok read) line) → TellsLine old.room (unread old left) (line_read (Ok read) line) new.room (unread new left') → Counts old (line_read (Ok read) line) new
        → IfOk (line_read (Ok read) line) (λ o. IfSome o (λ given. given.ended ≡ true → (all : ℕ) (text : List ℕ) (lines : List (List ℕ)) → AreGiven all text lines old left → AreGiven all text (lines ++ given.bytes ∷ []) new left'))
        → IsReadFrom text new left'
    still false e o t n g = end_given text old new left left' t o n.0 from
    still true e o t n g = line_given text old new left left' line o e t n.1 g within from

    on : (b : Bool) → old.over ≡ b → IsReadFrom text new left'
    on true e = let f = ended e in rw (f.1, f.2) from
    on false e = still read e over (tells e) counts goes

fault_of_shelf : (line : ℕ) (why : LineFault) → ◌≡◌ {A = Result Bool GraphFault} (Err (fault_at line why)) (Err Fault) → why ≡ LineFaultOfShelf
fault_of_shelf line LineFaultOfShelf e = refl
fault_of_shelf line Long e = cc
fault_of_shelf line Large e = cc
fault_of_shelf line NoMemory e = cc

-- the shelf failed
pub none_given : (text : List ℕ) (old : Reader) (left left' : Option (List ℕ)) (line : ℕ) (why : LineFault) → ◌≡◌ {A = Result Bool GraphFault} (Err (fault_at line why)) (Err Fault)
    → (old.over ≡ true → ◌≡◌ {A = Result Bool LineFault} (Err why) (Ok false))
    → (◌≡◌ {A = Result Bool LineFault} (Err why) (Err LineFaultOfShelf) → (all : ℕ) (text : List ℕ) (lines : List (List ℕ)) → AreGiven all text lines old left → IsReadWithLines all text lines left')
    → IsReadFrom text old left → IsReadBehind text left' old.given
none_given text old left left' line why is ended failed from =
    let given = from.given (not_true old.over (λ e. let f = ended e in cc)) in
    (given.0, failed (ap Err (fault_of_shelf line why is)) largest_text text given.0 given.1, given.2)

want_of_memory : (line : ℕ) (why : LineFault) → ◌≡◌ {A = Result Bool GraphFault} (Err (fault_at line why)) (Err GraphNoMemory) → why ≡ NoMemory
want_of_memory line LineFaultOfShelf e = cc
want_of_memory line Long e = cc
want_of_memory line Large e = cc
want_of_memory line NoMemory e = refl

unread_still : (room room' : ℕ) (p p' : List ℕ) (left left' : Option (List ℕ)) → TellsLine room (with_read p left) (Err NoMemory) room' (with_read p' left') → with_read p' left' ≡ with_read p left
unread_still room room' p p' None left' tells = tells
unread_still room room' p p' (Some l) left' tells = tells

-- memory was wanted
pub wants_given : (text : List ℕ) (old new : Reader) (left left' : Option (List ℕ)) (line : ℕ) (why : LineFault) → ◌≡◌ {A = Result Bool GraphFault} (Err (fault_at line why)) (Err GraphNoMemory)
    → (old.over ≡ true → ◌≡◌ {A = Result Bool LineFault} (Err why) (Ok false)) → (old.over ≡ false → TellsLine old.room (unread old left) (Err why) new.room (unread new left')) → new.room ≡ old.room
    → (◌≡◌ {A = Result Bool LineFault} (Err why) (Err NoMemory) → ShowsNoLimit new) → IsWithinARead (most_line old) old.pending left left'
    → IsReadFrom text old left → StandsBehind text left' old.given
wants_given text old new left left' line why is ended tells room shows within from =
    let goes : old.over ≡ false = not_true old.over (λ e. let f = ended e in cc) in
    let given = from.given goes in
    let memory = want_of_memory line why is in
    let still = unread_still old.room new.room old.pending new.pending left left' (subst (λ (w : LineFault). TellsLine old.room (unread old left) (Err w) new.room (unread new left')) memory (tells goes)) in
    record {
      lines = given.0;
      pending = new.pending;
      room = new.room;
      first = subst (λ (n : ℕ). AreBefore largest_text text given.0 n new.pending left') (sym room) (before_still old.pending new.pending old.room left left' still largest_text text given.0 given.1);
      counted = given.2;
      shows = shows (ap Err memory);
      near = reads_near text old left left' (λ e. let f = sym goes ∙ e in cc) within from;
    }
