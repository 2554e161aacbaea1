use Rattle.std.proofs.Common.{◌≡◌, ◌≢◌, ℕ, zero, suc, ◌≤◌, true, false, List, [], ◌∷◌, ◌++◌, None, Result, Ok, Err, refl, sym, ap, ◌∙◌, arith, append_assoc, append-nil, take, inl, inr}
use Rattle.command_words.specs.Commands.{Word, Run, Walk, Gen}
use Rattle.ride_base.specs.Calls.{Call, call_of}
use Rattle.ride_base.specs.Outside.{AddsName, ShelfState, SinkState}
use Rattle.road_graph.specs.Roads.{Roads}
use Rattle.stop_schedule.specs.declared.vehicle.Vehicle.{Vehicle}
use Rattle.stop_schedule.specs.Rates.{Rates}
use Rattle.dispatch_top.specs.declared.status.Status.TheVariants as status
use Rattle.dispatch_top.specs.declared.stops.OutputStop.{OutputStop}
use Rattle.dispatch_top.specs.declared.stops.OutputStop.TheVariants.{WriteFault, NoMemory}
use Rattle.dispatch_top.specs.declared.stops.ReadingStop.{ReadingStop}
use Rattle.dispatch_top.specs.declared.stops.ReadingStop.TheVariants.{Graph, Fleet}
use Rattle.dispatch_top.specs.declared.stops.StreamExit.{StreamExit}
use Rattle.dispatch_top.specs.declared.stops.StreamExit.TheVariants.{AtEnd, AtBad, AtFault}
use Rattle.dispatch_top.specs.declared.stops.TextStop.TheVariants.{Refused, ReadFault as TextFault, NoMemory as TextMemory}
use Rattle.dispatch_top.specs.Ends.{EndsForm, HasBegun}
use Rattle.dispatch_top.specs.GenMode.{WritesSummary}
use Rattle.dispatch_top.specs.Histories.{IsHistoryOf}
use Rattle.dispatch_top.specs.Moves.{ReadsNames}
use Rattle.dispatch_top.specs.Stops.{status_of_reading, status_of_stream, status_of_written}
use Rattle.dispatch_top.specs.Streaming.{EndsStream}
use Rattle.dispatch_top.specs.Texts.{AreTexts, IsGraphOf}
use Rattle.dispatch_top.specs.WalkMode.{WritesWalk}
use Rattle.dispatch_top.proofs.Behaves.{ends_behind}
use Rattle.dispatch_top.proofs.EndsStream.{ends_later}

-- How the parts of a run come to its status.

-- ---- statuses

pub unwritten_reading : (stop : ReadingStop) → status_of_reading stop ≡ status.WriteFault → ⊥
unwritten_reading (Graph (Refused line)) e = cc
unwritten_reading (Graph TextFault) e = cc
unwritten_reading (Graph TextMemory) e = cc
unwritten_reading (Fleet (Refused row)) e = cc
unwritten_reading (Fleet TextFault) e = cc
unwritten_reading (Fleet TextMemory) e = cc

pub at_fault : (result : Result StreamExit OutputStop) → status_of_stream result ≡ status.ReadFault → result ≡ Ok AtFault
at_fault (Ok AtEnd) e = cc
at_fault (Ok (AtBad line)) e = cc
at_fault (Ok AtFault) e = refl
at_fault (Err WriteFault) e = cc
at_fault (Err NoMemory) e = cc

pub unwritten_stream : (result : Result StreamExit OutputStop) → status_of_stream result ≡ status.WriteFault → result ≡ Err WriteFault
unwritten_stream (Ok AtEnd) e = cc
unwritten_stream (Ok (AtBad line)) e = cc
unwritten_stream (Ok AtFault) e = cc
unwritten_stream (Err WriteFault) e = refl
unwritten_stream (Err NoMemory) e = cc

pub unread_written : (result : Result (Unit {0}) OutputStop) → status_of_written result ≡ status.ReadFault → ⊥
unread_written (Ok done) e = cc
unread_written (Err WriteFault) e = cc
unread_written (Err NoMemory) e = cc

pub unwritten_text : (result : Result (Unit {0}) OutputStop) → status_of_written result ≡ status.WriteFault → result ≡ Err WriteFault
unwritten_text (Ok done) e = cc
unwritten_text (Err WriteFault) e = refl
unwritten_text (Err NoMemory) e = cc

-- ---- a run over a stream

module _ (old mid new : ShelfState) (sink sink' : SinkState) (graph fleet stream : Word) (roads : Roads) (vehicles : List Vehicle) (texts : AreTexts graph fleet old mid roads vehicles) where
  abbrev whole_call : Call
  whole_call = call_of old sink new sink'

  all_named : AddsName mid stream new → new.names ≡ old.names ++ graph ∷ fleet ∷ stream ∷ []
  all_named h = h ∙ ap (λ (l : List Word). l ++ stream ∷ []) texts.began ∙ append_assoc old.names (graph ∷ fleet ∷ []) (stream ∷ [])

  first_named : (k : ℕ) → k ≤ 1 → new.names ≡ mid.names ++ take k (stream ∷ []) → HasBegun (graph ∷ fleet ∷ stream ∷ []) 2 status.NoMemory whole_call
  first_named zero l h = inl (h ∙ append-nil mid.names ∙ texts.began)
  first_named (suc zero) l h = inr (all_named h)
  first_named (suc (suc k)) l h = absurd (omega arith)

  begun_all : (Fails : Type 0) (result : Result StreamExit OutputStop) → (result ≢ Err NoMemory → AddsName mid stream new) → ReadsNames (stream ∷ []) Fails mid new
      → HasBegun (graph ∷ fleet ∷ stream ∷ []) 2 (status_of_stream result) whole_call
  begun_all Fails (Ok AtEnd) n r = all_named (n (λ e. cc))
  begun_all Fails (Ok (AtBad line)) n r = all_named (n (λ e. cc))
  begun_all Fails (Ok AtFault) n r = all_named (n (λ e. cc))
  begun_all Fails (Err WriteFault) n r = all_named (n (λ e. cc))
  begun_all Fails (Err NoMemory) n r = first_named r.began.0 r.began.1 r.began.2

  pub ends_over : (rates : Rates) (Fails : Type 0) (result : Result StreamExit OutputStop) → mid.held ≡ old.held → (result ≢ Err NoMemory → AddsName mid stream new) → ReadsNames (stream ∷ []) Fails mid new
      → EndsStream (IsHistoryOf roads rates vehicles) stream (status_of_stream result) (call_of mid sink new sink')
      → EndsForm true (Run graph fleet stream (record { rates = rates; window = None; proof = false })) (status_of_stream result) whole_call
  ends_over rates Fails result holds n r e =
      ends_behind (Run graph fleet stream (record { rates = rates; window = None; proof = false })) whole_call (record { roads = roads; vehicles = vehicles }) (status_of_stream result) texts.are_read (begun_all Fails result n r)
      (ends_later stream (IsHistoryOf roads rates vehicles) old mid new sink sink' holds (status_of_stream result) e)

-- ---- a walk

pub ends_walk : (old new : ShelfState) (sink sink' : SinkState) (name : Word) (from to : ℕ) (roads : Roads) → IsGraphOf old name roads → AddsName old name new → (result : Result (Unit {0}) OutputStop)
    → WritesWalk roads (record { 0 = from }) (record { 0 = to }) result sink.taken sink'.taken → EndsForm true (Walk name from to) (status_of_written result) (call_of old sink new sink')
ends_walk old new sink sink' name from to roads graph named (Ok done) w =
    ends_behind (Walk name from to) (call_of old sink new sink') (record { roads = roads; vehicles = [] }) status.Done (graph, tt) named w
ends_walk old new sink sink' name from to roads graph named (Err WriteFault) w =
    ends_behind (Walk name from to) (call_of old sink new sink') (record { roads = roads; vehicles = [] }) status.WriteFault (graph, tt) named w
ends_walk old new sink sink' name from to roads graph named (Err NoMemory) w =
    ends_behind (Walk name from to) (call_of old sink new sink') (record { roads = roads; vehicles = [] }) status.NoMemory (graph, tt) (inl named) w

-- ---- a made city

pub ends_gen : (shelf : ShelfState) (sink sink' : SinkState) (number : ℕ) (result : Result (Unit {0}) OutputStop) → WritesSummary number result sink.taken sink'.taken
    → EndsForm true (Gen number) (status_of_written result) (call_of shelf sink shelf sink')
ends_gen shelf sink sink' number (Ok done) w =
    ends_behind (Gen number) (call_of shelf sink shelf sink') (record { roads = record { nodes = 0; roads = [] }; vehicles = [] }) status.Done tt (sym (append-nil shelf.names)) w
ends_gen shelf sink sink' number (Err WriteFault) w =
    ends_behind (Gen number) (call_of shelf sink shelf sink') (record { roads = record { nodes = 0; roads = [] }; vehicles = [] }) status.WriteFault tt (sym (append-nil shelf.names)) w
ends_gen shelf sink sink' number (Err NoMemory) w =
    ends_behind (Gen number) (call_of shelf sink shelf sink') (record { roads = record { nodes = 0; roads = [] }; vehicles = [] }) status.NoMemory tt (inl (sym (append-nil shelf.names))) w
