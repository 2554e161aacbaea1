use Rattle.std.proofs.Common.{◌≡◌, inl, inr, ℕ, Bool, true, false, not, cond, List, [], ◌∷◌, ◌++◌, position, is_some, Option, Some, None, IfSome, Result, Ok, Err, refl, sym, ap, ◌∙◌, subst}
use Rattle.ride_base.proofs.LineLaws.{after_last_line}
use Rattle.ride_base.specs.Pieces.{Piece, Whole, IsRefused, pieces, after_line, is_line_end}
use Rattle.ride_base.specs.Reader.{Reader, Limit}
use Rattle.ride_base.specs.Reading.{Counts, TellsLine, unread, over_after, limit_after, fault_of}
use Rattle.ride_base.specs.Told.{WhereTold, ahead}
use Rattle.ride_base.specs.declared.lines.Line.{Line}
use Rattle.ride_base.specs.declared.lines.LineFault.{LineFault}
use Rattle.ride_base.specs.declared.lines.LineFault.TheVariants.{Fault, Long, Large, NoMemory}

-- What the call for the next line says of the pieces ahead.

pub record IsLineCall (old new : Reader) (left left' : Option (List ℕ)) (answer : Result (Option Line) LineFault) : Type 0 where
  pub tells : old.stopped ≡ None → old.over ≡ false → TellsLine old.room (unread old left) answer new.room (unread new left')
  pub counts : Counts old answer new
  pub stops : new.stopped ≡ limit_after answer
  pub over : new.over ≡ over_after old.over answer
  pub ended : old.stopped ≡ None → old.over ≡ true → (answer ≡ Ok None) × (new ≡ old) × (left' ≡ left)
  pub again : IfSome old.stopped (λ limit. (answer ≡ Err (fault_of limit)) × (new ≡ old) × (left' ≡ left))

-- how a call went: on a reader that was stopped, or over, or on one that goes on
pub data Went (old new : Reader) (left left' : Option (List ℕ)) (answer : Result (Option Line) LineFault) : Type 0 where
  WasStopped : (limit : Limit) → old.stopped ≡ Some limit → answer ≡ Err (fault_of limit) → new ≡ old → left' ≡ left → Went old new left left' answer
  WasOver : old.over ≡ true → answer ≡ Ok None → new ≡ old → left' ≡ left → Went old new left left' answer
  WentOn : old.stopped ≡ None → old.over ≡ false → TellsLine old.room (unread old left) answer new.room (unread new left') → Went old new left left' answer

pub went : (old new : Reader) (left left' : Option (List ℕ)) (answer : Result (Option Line) LineFault) → IsLineCall old new left left' answer → Went old new left left' answer
went old new left left' answer c = by old.stopped refl old.over refl
  where
    by : (o : Option Limit) → old.stopped ≡ o → (b : Bool) → old.over ≡ b → Went old new left left' answer
    by (Some limit) e b f = let t = subst (λ (x : Option Limit). IfSome x (λ limit. (answer ≡ Err (fault_of limit)) × (new ≡ old) × (left' ≡ left))) e c.again in WasStopped limit e t.0 t.1 t.2
    by None e true f = let t = c.ended e f in WasOver f t.0 t.1 t.2
    by None e false f = WentOn e f (c.tells e f)

none_is : (o : Option ℕ) → is_some o ≡ false → o ≡ None
none_is None e = refl
none_is (Some k) e = cc

-- a line in front of what is ahead
abbrev pub line_before : List ℕ → Option (List Piece) → Option (List Piece)
line_before line None = None
line_before line (Some more) = Some (Whole line ∷ more)

pub line_given : (old new : Reader) (left left' : Option (List ℕ)) (line : Line) → TellsLine old.room (unread old left) (Ok (Some line)) new.room (unread new left') → old.over ≡ false → new.over ≡ not line.ended
    → ahead old left ≡ line_before line.bytes (ahead new left')
line_given old new None None line tells still over = refl
line_given old new None (Some l') line tells still over = cc
line_given old new (Some l) None line tells still over = let f = tells.1 in cc
line_given old new (Some l) (Some l') line tells still over =
    rw still (ap (λ (ps : List Piece). Some ps) (tells.0 ∙ ap (λ (rest : List Piece). Whole line.bytes ∷ rest) (rw over (on line.ended refl))))
  where
    is : new.pending ++ l' ≡ after_line (old.pending ++ l)
    is = let f = tells.1 in cc

    on : (b : Bool) → line.ended ≡ b → pieces new.room (after_line (old.pending ++ l)) ≡ cond (not b) [] (pieces new.room (new.pending ++ l'))
    on true e = ap (pieces new.room) (sym is)
    on false e = ap (pieces new.room) (after_last_line (old.pending ++ l) (none_is (position is_line_end (old.pending ++ l)) (sym tells.2 ∙ e)))

pub end_given : (old new : Reader) (left left' : Option (List ℕ)) → TellsLine old.room (unread old left) (Ok None) new.room (unread new left') → old.over ≡ false → new.over ≡ true
    → (ahead new left' ≡ ahead old left) × WhereTold (ahead new left') (λ ps. ps ≡ [])
end_given old new None None tells still over = (refl, tt)
end_given old new None (Some l') tells still over = absurd cc
end_given old new (Some l) None tells still over = let f = tells.1 in absurd cc
end_given old new (Some l) (Some l') tells still over = rw (still, over) (ap (λ (t : List ℕ). Some (pieces old.room t)) (sym tells.0), refl)

pub over_ahead : (reader : Reader) (left : Option (List ℕ)) → reader.over ≡ true → WhereTold (ahead reader left) (λ ps. ps ≡ [])
over_ahead reader None over = tt
over_ahead reader (Some l) over = rw over refl

text_stays : (room room' : ℕ) (before after : Option (List ℕ)) (fault : LineFault) → TellsLine room before (Err fault) room' after → after ≡ before
text_stays room room' None after _ tells = tells
text_stays room room' (Some text) after Fault tells = tells
text_stays room room' (Some text) after Long tells = tells.1
text_stays room room' (Some text) after Large tells = tells.1
text_stays room room' (Some text) after NoMemory tells = tells

pub nothing_given : (old new : Reader) (left left' : Option (List ℕ)) (fault : LineFault) → TellsLine old.room (unread old left) (Err fault) new.room (unread new left') → new.room ≡ old.room → new.over ≡ old.over
    → ahead new left' ≡ ahead old left
nothing_given old new left left' fault tells room over = by left left' (text_stays old.room new.room (unread old left) (unread new left') fault tells)
  where
    by : (left left' : Option (List ℕ)) → unread new left' ≡ unread old left → ahead new left' ≡ ahead old left
    by None None e = refl
    by None (Some l') e = absurd cc
    by (Some l) None e = absurd cc
    by (Some l) (Some l') e =
        let text : new.pending ++ l' ≡ old.pending ++ l = cc in
        rw (room, over) (ap (λ (t : List ℕ). Some (cond old.over [] (pieces old.room t))) text)

-- a limit that was met
abbrev pub IsLimit : LineFault → Type 0
IsLimit Fault = ⊥
IsLimit Long = Unit {0}
IsLimit Large = Unit {0}
IsLimit NoMemory = ⊥

pub refused_ahead : (old new : Reader) (left left' : Option (List ℕ)) (fault : LineFault) → IsLimit fault → TellsLine old.room (unread old left) (Err fault) new.room (unread new left') → old.over ≡ false
    → WhereTold (ahead old left) IsRefused
refused_ahead old new None left' _ limit tells still = tt
refused_ahead old new (Some l) left' Long limit tells still = rw still (inl tells.0)
refused_ahead old new (Some l) left' Large limit tells still = rw still (inr tells.0)
refused_ahead old new (Some l) left' Fault limit tells still = absurd limit
refused_ahead old new (Some l) left' NoMemory limit tells still = absurd limit

pub is_limit : (fault : LineFault) → (limit_after (Err fault) ≡ None → ⊥) → IsLimit fault
is_limit Fault h = absurd (h refl)
is_limit Long h = tt
is_limit Large h = tt
is_limit NoMemory h = absurd (h refl)
