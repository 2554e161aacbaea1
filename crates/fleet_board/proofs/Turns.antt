use Rattle.std.proofs.Common.{◌≡◌, inl, inr, ℕ, Bool, true, false, List, [], ◌∷◌, ◌++◌, Option, Some, Result, Ok, Err, sym, refl, ap, ◌∙◌, subst}
use Rattle.std.specs.Prelude.{IfOk, IfSome, OnErr}
use Rattle.road_graph.specs.Roads.{Roads}
use Rattle.stop_schedule.specs.Fleets.{Fitting, IsGoodView}
use Rattle.turn_lock.specs.Desks.{GainsOwn, KeepsOthers, KeepsOwn, TurnState, own}
use Rattle.turn_lock.specs.Noted.{Begins, Follows, IsLeft}
use Rattle.board_core.specs.declared.entry.Entry.{Entry}
use Rattle.board_core.specs.declared.entry.Entry.TheVariants as entry
use Rattle.board_core.specs.declared.fleet.Fleet.{Fleet}
use Rattle.board_core.specs.BoardViews.{board_of}
use Rattle.board_core.specs.Boards.{Board}
use Rattle.board_core.specs.FleetViews.{cars_of}
use Rattle.board_core.specs.Steps.{Step}
use Rattle.fleet_board.specs.declared.recorded.RecordedBoard.{RecordedBoard}
use Rattle.fleet_board.specs.Openings.{Opening}
use Rattle.fleet_board.specs.Records.{HasNoted, HasStayed, IsRecordOf, NotesOn, NotesOver, ShutsOn, StaysOn}
use Rattle.fleet_board.specs.Turns.{DeskNow, IsDeskOf, LeadsTo, Lock, Looks, Notes, NotesAt, Sees, SeesAt, Shuts}

-- What a desk has seen after a turn.

abbrev pub Turned : Type 0
Turned = TurnState Entry Opening

-- a turn that the desk began, and what it is when a value with this list was left
pub record HasTurned (old : DeskNow) (turn : Turned) (after : List (ℕ × Entry)) (new : DeskNow) : Type 0 where
  pub began : turn.desk ≡ old
  pub found : Follows old.number old.family old.seen turn.list
  pub desk : new ≡ record turn.desk { seen = after }
  pub same : KeepsOwn turn after new
  pub more : GainsOwn turn after new
  pub others : KeepsOthers turn.desk new

pub seen_after : (old : DeskNow) (turn : Turned) (after : List (ℕ × Entry)) (new : DeskNow) → HasTurned old turn after new → new.seen ≡ after
seen_after old turn after new t = ap (λ (d : DeskNow). d.seen) t.desk

pub desk_after : (old : DeskNow) (turn : Turned) (after : List (ℕ × Entry)) (new : DeskNow) → HasTurned old turn after new → new ≡ record old { seen = new.seen }
desk_after old turn after new t =
    t.desk ∙ ap (λ (d : DeskNow). let e : DeskNow = record d { seen = after } in e) t.began
    ∙ ap (λ (l : List (ℕ × Entry)). let e : DeskNow = record old { seen = l } in e) (sym (seen_after old turn after new t))

begins_after : (old : DeskNow) (turn : Turned) → Follows old.number old.family old.seen turn.list → Begins old.seen turn.list
begins_after old turn f = f.begins

pub sees_so : (lock : Lock) (old new : DeskNow) (turn : Turned) (after : List (ℕ × Entry)) (b : Board) → HasTurned old turn after new → after ≡ turn.list → LeadsTo lock after b → SeesAt lock old new b
sees_so lock old new turn after b t same led = record {
  desk = desk_after old turn after new t;
  begins = subst (λ (l : List (ℕ × Entry)). Begins old.seen l) (sym (seen_after old turn after new t ∙ same)) t.found.begins;
  own = t.same same ∙ ap own t.began;
  others = subst (λ (d : DeskNow). KeepsOthers d new) t.began t.others;
  legal = subst (λ (l : List (ℕ × Entry)). LeadsTo lock l b) (sym (seen_after old turn after new t)) led;
}

pub notes_so : (lock : Lock) (old new : DeskNow) (turn : Turned) (after : List (ℕ × Entry)) (e : Entry) (before b : Board) → HasTurned old turn after new → after ≡ turn.list ++ (old.number, e) ∷ []
    → LeadsTo lock turn.list before → Step lock.origin.graph before e b → LeadsTo lock after b → NotesAt lock old new e before b
notes_so lock old new turn after e before b t noted led step leads = record {
  desk = desk_after old turn after new t;
  found = turn.list;
  begins = t.found.begins;
  seen = seen_after old turn after new t ∙ noted;
  own = t.more e (noted ∙ ap (λ (d : DeskNow). turn.list ++ (d.number, e) ∷ []) (sym t.began)) ∙ ap (λ (d : DeskNow). own d ++ e ∷ []) t.began;
  others = subst (λ (d : DeskNow). KeepsOthers d new) t.began t.others;
  led = led;
  step = step;
  legal = subst (λ (l : List (ℕ × Entry)). LeadsTo lock l b) (sym (seen_after old turn after new t)) leads;
}

-- the desk is still one of its board
pub desk_so : (g : Roads) (lock : Lock) (old new : DeskNow) (turn : Turned) (after : List (ℕ × Entry)) (b : Board) → IsDeskOf g lock old → HasTurned old turn after new → LeadsTo lock after b → IsDeskOf g lock new
desk_so g lock old new turn after b is t led = record {
  of_lock = ap (λ (d : DeskNow). d.lock) (desk_after old turn after new t) ∙ is.of_lock;
  graph = is.graph;
  legal = (b, subst (λ (l : List (ℕ × Entry)). LeadsTo lock l b) (sym (seen_after old turn after new t)) led);
}

-- a turn that the desk began, with the record that it took
pub record HasTaken {I : Type 0} (fits : I → Fitting) (lock : Lock) (old : DeskNow) (turn : Turned) (v : RecordedBoard I) : Type 0 where
  pub began : turn.desk ≡ old
  pub found : Follows old.number old.family old.seen turn.list
  pub list : v.journal.noted ≡ turn.list
  pub of : IsRecordOf fits lock.origin v

-- what the calls that begin a turn tell
pub taken_so : {I : Type 0} (fits : I → Fitting) (lock : Lock) (old : DeskNow) (first turn : Turned) (v : RecordedBoard I) → old.lock ≡ Some lock → (first.desk ≡ old) × (first.taken ≡ false)
    → Follows old.number old.family old.seen first.list → turn ≡ record first { taken = true } → v.journal.noted ≡ first.list
    → IfSome first.desk.lock (λ (l : Lock). IsRecordOf fits l.origin v) → HasTaken fits lock old turn v
taken_so {I = I} fits lock old first turn v of began found taken list from = record {
  began = ap (λ (t : Turned). t.desk) taken ∙ began.0;
  found = subst (λ (t : Turned). Follows old.number old.family old.seen t.list) (sym taken) found;
  list = list ∙ ap (λ (t : Turned). t.list) (sym taken);
  of = subst (λ (o : Option Lock). IfSome o (λ (l : Lock). IsRecordOf fits l.origin v)) (ap (λ (d : DeskNow). d.lock) began.0 ∙ of) from;
}

-- what the call that ends it tells
pub turned : {I : Type 0} (fits : I → Fitting) (lock : Lock) (old : DeskNow) (turn : Turned) (v : RecordedBoard I) (after : List (ℕ × Entry)) (new : DeskNow) → HasTaken fits lock old turn v
    → new ≡ record turn.desk { seen = after } → KeepsOwn turn after new → GainsOwn turn after new → KeepsOthers turn.desk new → HasTurned old turn after new
turned fits lock old turn v after new h desk same more others = record { began = h.began; found = h.found; desk = desk; same = same; more = more; others = others }

-- ---- by what became of the record

pub stayed_sees : {I : Type 0} (fits : I → Fitting) (lock : Lock) (old new exit : DeskNow) (turn : Turned) (v w : RecordedBoard I) → HasTaken fits lock old turn v → HasTurned old turn w.journal.noted new
    → HasStayed fits lock.origin v w → exit ≡ new → SeesAt lock old exit (board_of w.board)
stayed_sees fits lock old new exit turn v w h t s same =
    subst (λ (d : DeskNow). SeesAt lock old d (board_of w.board)) (sym same) (sees_so lock old new turn w.journal.noted (board_of w.board) t (s.noted ∙ h.list) s.of.legal)

pub noted_notes : {I : Type 0} (fits : I → Fitting) (lock : Lock) (old new exit : DeskNow) (turn : Turned) (v w : RecordedBoard I) (e : Entry) → HasTaken fits lock old turn v → HasTurned old turn w.journal.noted new
    → HasNoted fits lock.origin v old.number e w → exit ≡ new → NotesAt lock old exit e (board_of v.board) (board_of w.board)
noted_notes fits lock old new exit turn v w e h t s same =
    subst (λ (d : DeskNow). NotesAt lock old d e (board_of v.board) (board_of w.board)) (sym same)
    (notes_so lock old new turn w.journal.noted e (board_of v.board) (board_of w.board) t (s.noted ∙ ap (λ (l : List (ℕ × Entry)). l ++ (old.number, e) ∷ []) h.list)
    (subst (λ (l : List (ℕ × Entry)). LeadsTo lock l (board_of v.board)) h.list h.of.legal) s.step s.of.legal)

-- the list is left as it was found, or with one entry of the desk more
pub left_stayed : {I : Type 0} (fits : I → Fitting) (lock : Lock) (old : DeskNow) (turn : Turned) (v w : RecordedBoard I) → HasTaken fits lock old turn v → HasStayed fits lock.origin v w → IsLeft turn.desk.number turn.list w.journal.noted
left_stayed fits lock old turn v w h s = inl (s.noted ∙ h.list)

pub left_noted : {I : Type 0} (fits : I → Fitting) (lock : Lock) (old : DeskNow) (turn : Turned) (v w : RecordedBoard I) (e : Entry) → HasTaken fits lock old turn v → HasNoted fits lock.origin v old.number e w
    → IsLeft turn.desk.number turn.list w.journal.noted
left_noted fits lock old turn v w e h s =
    inr (e, s.noted ∙ ap (λ (l : List (ℕ × Entry)). l ++ (old.number, e) ∷ []) h.list ∙ ap (λ (d : DeskNow). turn.list ++ (d.number, e) ∷ []) (sym h.began))

-- the desk is still one of its board
pub desk_left : {I : Type 0} (fits : I → Fitting) (g : Roads) (lock : Lock) (old new exit : DeskNow) (turn : Turned) (w : RecordedBoard I) → IsDeskOf g lock old → HasTurned old turn w.journal.noted new → IsRecordOf fits lock.origin w
    → exit ≡ new → IsDeskOf g lock exit
desk_left fits g lock old new exit turn w is t of same = subst (λ (d : DeskNow). IsDeskOf g lock d) (sym same) (desk_so g lock old new turn w.journal.noted (board_of w.board) is t of.legal)

-- ---- calls that note what they answer

-- the entry of an answer was noted, and after an error nothing
pub record HasAnswered {I T E : Type 0} (fits : I → Fitting) (o : Opening) (v w : RecordedBoard I) (desk : ℕ) (entry_of : T → Entry) (r : Result T E) : Type 0 where
  pub ok : IfOk r (λ (x : T). HasNoted fits o v desk (entry_of x) w)
  pub err : OnErr r (HasStayed fits o v w)

noted_at : {I T E : Type 0} (fits : I → Fitting) (g : Roads) (o : Opening) (v w : RecordedBoard I) (desk : ℕ) (entry_of : T → Entry) (r : Result T E) → o.graph ≡ g → IsRecordOf fits o v
    → IfOk r (λ (x : T). NotesOver fits g v desk (entry_of x) w) → IfOk r (λ (x : T). HasNoted fits o v desk (entry_of x) w)
noted_at fits g o v w desk entry_of (Ok x) same is ok = ok o same is
noted_at fits g o v w desk entry_of (Err y) same is ok = tt

stayed_at : {I T E : Type 0} (fits : I → Fitting) (o : Opening) (v w : RecordedBoard I) (r : Result T E) → IsRecordOf fits o v → OnErr r (StaysOn fits v w) → OnErr r (HasStayed fits o v w)
stayed_at fits o v w (Ok x) is err = tt
stayed_at fits o v w (Err y) is err = err o is

over_all : {I T E : Type 0} (fits : I → Fitting) (g : Roads) (v w : RecordedBoard I) (desk : ℕ) (entry_of : T → Entry) (r : Result T E) → IfOk r (λ (x : T). NotesOn fits v desk (entry_of x) w) → IfOk r (λ (x : T). NotesOver fits g v desk (entry_of x) w)
over_all fits g v w desk entry_of (Ok x) ok = λ o same. ok o
over_all fits g v w desk entry_of (Err y) ok = tt

-- what a call tells of the record that it was given, over one graph and over all
pub answered_over : {I T E : Type 0} (fits : I → Fitting) (g : Roads) (lock : Lock) (old : DeskNow) (turn : Turned) (v w : RecordedBoard I) (desk : ℕ) (entry_of : T → Entry) (r : Result T E) → HasTaken fits lock old turn v
    → lock.origin.graph ≡ g → desk ≡ old.number → IfOk r (λ (x : T). NotesOver fits g v desk (entry_of x) w) → OnErr r (StaysOn fits v w) → HasAnswered fits lock.origin v w old.number entry_of r
answered_over fits g lock old turn v w desk entry_of r h same by ok err = record {
  ok = noted_at fits g lock.origin v w old.number entry_of r same h.of (subst (λ (n : ℕ). IfOk r (λ x. NotesOver fits g v n (entry_of x) w)) by ok);
  err = stayed_at fits lock.origin v w r h.of err;
}

pub answered : {I T E : Type 0} (fits : I → Fitting) (lock : Lock) (old : DeskNow) (turn : Turned) (v w : RecordedBoard I) (desk : ℕ) (entry_of : T → Entry) (r : Result T E) → HasTaken fits lock old turn v
    → desk ≡ old.number → IfOk r (λ (x : T). NotesOn fits v desk (entry_of x) w) → OnErr r (StaysOn fits v w) → HasAnswered fits lock.origin v w old.number entry_of r
answered fits lock old turn v w desk entry_of r h by ok err =
    answered_over fits lock.origin.graph lock old turn v w desk entry_of r h refl by (over_all fits lock.origin.graph v w desk entry_of r ok) err

pub left_so : {I T E : Type 0} (fits : I → Fitting) (lock : Lock) (old : DeskNow) (turn : Turned) (v w : RecordedBoard I) (entry_of : T → Entry) (r : Result T E) → HasTaken fits lock old turn v
    → HasAnswered fits lock.origin v w old.number entry_of r → IsLeft turn.desk.number turn.list w.journal.noted
left_so fits lock old turn v w entry_of (Ok x) h a = left_noted fits lock old turn v w (entry_of x) h a.ok
left_so fits lock old turn v w entry_of (Err y) h a = left_stayed fits lock old turn v w h a.err

pub ok_notes : {I T E : Type 0} (fits : I → Fitting) (lock : Lock) (old new exit : DeskNow) (turn : Turned) (v w : RecordedBoard I) (entry_of : T → Entry) (r : Result T E) → HasTaken fits lock old turn v
    → HasAnswered fits lock.origin v w old.number entry_of r → HasTurned old turn w.journal.noted new → exit ≡ new → IfOk r (λ (x : T). Notes lock old exit (entry_of x))
ok_notes fits lock old new exit turn v w entry_of (Ok x) h a t same = (board_of v.board, board_of w.board, noted_notes fits lock old new exit turn v w (entry_of x) h t a.ok same)
ok_notes fits lock old new exit turn v w entry_of (Err y) h a t same = tt

pub err_sees : {I T E : Type 0} (fits : I → Fitting) (lock : Lock) (old new exit : DeskNow) (turn : Turned) (v w : RecordedBoard I) (entry_of : T → Entry) (r : Result T E) → HasTaken fits lock old turn v
    → HasAnswered fits lock.origin v w old.number entry_of r → HasTurned old turn w.journal.noted new → exit ≡ new → OnErr r (Sees lock old exit)
err_sees fits lock old new exit turn v w entry_of (Ok x) h a t same = tt
err_sees fits lock old new exit turn v w entry_of (Err y) h a t same = (board_of w.board, stayed_sees fits lock old new exit turn v w h t a.err same)

pub record_after : {I T E : Type 0} (fits : I → Fitting) (o : Opening) (v w : RecordedBoard I) (desk : ℕ) (entry_of : T → Entry) (r : Result T E) → HasAnswered fits o v w desk entry_of r → IsRecordOf fits o w
record_after fits o v w desk entry_of (Ok x) a = a.ok.of
record_after fits o v w desk entry_of (Err y) a = a.err.of

-- ---- calls without an error

pub left_one : {I : Type 0} (fits : I → Fitting) (lock : Lock) (old : DeskNow) (turn : Turned) (v w : RecordedBoard I) (desk : ℕ) (e : Entry) → HasTaken fits lock old turn v → desk ≡ old.number → NotesOn fits v desk e w
    → IsLeft turn.desk.number turn.list w.journal.noted
left_one fits lock old turn v w desk e h by on = left_noted fits lock old turn v w e h (subst (λ (n : ℕ). HasNoted fits lock.origin v n e w) by (on lock.origin h.of))

pub notes_one : {I : Type 0} (fits : I → Fitting) (lock : Lock) (old new exit : DeskNow) (turn : Turned) (v w : RecordedBoard I) (desk : ℕ) (e : Entry) → HasTaken fits lock old turn v → desk ≡ old.number → NotesOn fits v desk e w
    → HasTurned old turn w.journal.noted new → exit ≡ new → Notes lock old exit e
notes_one fits lock old new exit turn v w desk e h by on t same =
    (board_of v.board, board_of w.board, noted_notes fits lock old new exit turn v w e h t (subst (λ (n : ℕ). HasNoted fits lock.origin v n e w) by (on lock.origin h.of)) same)

-- an open board is shut, and a closed one stays
pub left_shut : {I : Type 0} (fits : I → Fitting) (lock : Lock) (old : DeskNow) (turn : Turned) (v w : RecordedBoard I) (desk : ℕ) → HasTaken fits lock old turn v → desk ≡ old.number → ShutsOn fits v desk w
    → IsLeft turn.desk.number turn.list w.journal.noted
left_shut fits lock old turn v w desk h by s = on (board_of v.board).closed refl
  where
    on : (b : Bool) → (board_of v.board).closed ≡ b → IsLeft turn.desk.number turn.list w.journal.noted
    on true e = left_stayed fits lock old turn v w h (s.closed e lock.origin h.of)
    on false e = left_one fits lock old turn v w desk entry.Shut h by (s.opened e)

pub shuts : {I : Type 0} (fits : I → Fitting) (lock : Lock) (old new exit : DeskNow) (turn : Turned) (v w : RecordedBoard I) (desk : ℕ) → HasTaken fits lock old turn v → desk ≡ old.number → ShutsOn fits v desk w
    → HasTurned old turn w.journal.noted new → exit ≡ new → Shuts lock old exit
shuts fits lock old new exit turn v w desk h by s t same = on (board_of v.board).closed refl
  where
    on : (b : Bool) → (board_of v.board).closed ≡ b → Shuts lock old exit
    on true e =
        let stays = s.closed e lock.origin h.of in
        inr (board_of w.board, stayed_sees fits lock old new exit turn v w h t stays same, ap (λ (b : Board). b.closed) stays.board ∙ e)
    on false e = inl (notes_one fits lock old new exit turn v w desk entry.Shut h by (s.opened e) t same)

pub shut_after : {I : Type 0} (fits : I → Fitting) (o : Opening) (v w : RecordedBoard I) (desk : ℕ) → IsRecordOf fits o v → ShutsOn fits v desk w → IsRecordOf fits o w
shut_after fits o v w desk is s = on (board_of v.board).closed refl
  where
    on : (b : Bool) → (board_of v.board).closed ≡ b → IsRecordOf fits o w
    on true e = (s.closed e o is).of
    on false e = (s.opened e o is).of

-- ---- looks

stays_same : {I : Type 0} (fits : I → Fitting) (o : Opening) (v : RecordedBoard I) → IsRecordOf fits o v → HasStayed fits o v v
stays_same fits o v is = record { of = is; noted = refl; board = refl }

pub ok_looks : {I E : Type 0} (fits : I → Fitting) (g : Roads) (lock : Lock) (old new exit : DeskNow) (turn : Turned) (v : RecordedBoard I) (now : Fleet I) (r : Result (Fleet I) E) → lock.origin.graph ≡ g → HasTaken fits lock old turn v
    → now ≡ v.board.fleet → IfOk r (λ (f : Fleet I). f ≡ now) → HasTurned old turn v.journal.noted new → exit ≡ new → IfOk r (λ (f : Fleet I). Looks fits g lock old f exit)
ok_looks {I = I} fits g lock old new exit turn v now (Ok fleet) over h read is t same = (
  board_of v.board,
  stayed_sees fits lock old new exit turn v v h t (stays_same fits lock.origin v h.of) same,
  ap (λ (f : Fleet I). cars_of f) (is ∙ read),
  subst (λ (f : Fleet I). IsGoodView (fits f.index) g (cars_of f)) (sym (is ∙ read)) (subst (λ (k : Roads). IsGoodView (fits v.board.fleet.index) k (board_of v.board).fleet) over h.of.good),
)
ok_looks fits g lock old new exit turn v now (Err y) over h read is t same = tt

pub err_looks : {I T E : Type 0} (fits : I → Fitting) (lock : Lock) (old new exit : DeskNow) (turn : Turned) (v : RecordedBoard I) (r : Result T E) → HasTaken fits lock old turn v → HasTurned old turn v.journal.noted new → exit ≡ new
    → OnErr r (Sees lock old exit)
err_looks fits lock old new exit turn v (Ok x) h t same = tt
err_looks fits lock old new exit turn v (Err y) h t same = (board_of v.board, stayed_sees fits lock old new exit turn v v h t (stays_same fits lock.origin v h.of) same)
