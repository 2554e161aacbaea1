use Rattle.std.proofs.Common.{◌≡◌, ℕ, true, false, List, Option, Result, Ok, Err, sym, subst, ◌∙◌, inl, inr}
use Rattle.std.proofs.lemmas.Bool.{false≢true}
use Rattle.command_words.specs.Commands.{Word}
use Rattle.ride_base.specs.Calls.{Call, IsSoOf, Says, TookNothing, call_of}
use Rattle.ride_base.specs.Outside.{Held, IsAllOf, ShelfState, SinkState}
use Rattle.ride_base.specs.Told.{WhereTold}
use Rattle.board_core.specs.Histories.{Event}
use Rattle.dispatch_top.specs.declared.status.Status.{Status}
use Rattle.dispatch_top.specs.declared.status.Status.TheVariants.{Done, NotYet, Usage, GraphText, FleetText, StreamText, ReadFault, WriteFault, NoMemory}
use Rattle.dispatch_top.specs.declared.stops.OutputStop.{OutputStop}
use Rattle.dispatch_top.specs.declared.stops.OutputStop.TheVariants as output
use Rattle.dispatch_top.specs.declared.stops.StreamExit.{StreamExit}
use Rattle.dispatch_top.specs.declared.stops.StreamExit.TheVariants as exit
use Rattle.dispatch_top.specs.Histories.{Account, AreAnsweredAs}
use Rattle.dispatch_top.specs.Stops.{status_of_stream}
use Rattle.dispatch_top.specs.Streaming.{EndsStream, Streamed}
use Rattle.dispatch_top.proofs.Told.{of_held}

-- How a run ends over a stream, by the name of its text.

module _ (c : Call) (stream : Word) (IsAccount : Account) where
  -- the stream was begun, and all of it was left
  module _ (left : Option (List ℕ)) (is_all : IsAllOf (c.old.shelf.held stream) left) (begun : c.new.shelf.begun ≡ true) where
    says : (P : List ℕ → Type 0) → WhereTold left P → Says c.old.shelf stream P
    says P w = of_held P (c.old.shelf.held stream) left is_all w

    said_of : (Asked : List Event → List ℕ → Type 0) (Taken : List ℕ → Type 0) → AreAnsweredAs IsAccount (λ events. WhereTold left (Asked events)) Taken
        → AreAnsweredAs IsAccount (λ events. Says c.old.shelf stream (Asked events)) Taken
    said_of Asked Taken e = record { events = e.events; printed = e.printed; said = says (Asked e.events) e.said; account = e.account; took = e.took }

    pub ends_stream : (result : Result StreamExit OutputStop) → Streamed IsAccount IsAccount (WhereTold left) result c.new.shelf.left c.old.sink.taken c.new.sink.taken → EndsStream IsAccount stream (status_of_stream result) c
    ends_stream (Ok exit.AtEnd) e = (said_of _ _ e.0, says _ e.1)
    ends_stream (Ok (exit.AtBad line)) e = said_of _ _ e
    ends_stream (Ok exit.AtFault) e = record { begun = λ b. said_of _ _ e; unbegun = λ n. absurd (false≢true (sym n ∙ begun)) }
    ends_stream (Err output.WriteFault) e = said_of _ _ e
    ends_stream (Err output.NoMemory) e = inr (said_of _ _ e)

  -- the stream couldn't be begun
  pub ends_unbegun : c.new.shelf.begun ≡ false → TookNothing c → EndsStream IsAccount stream ReadFault c
  ends_unbegun u t = record { begun = λ b. absurd (false≢true (sym u ∙ b)); unbegun = λ n. t }

-- what was answered and printed, said otherwise
module _ (c : Call) (stream : Word) (IsAccount Known : Account) (f : (events : List Event) (printed : List ℕ) → IsAccount events printed → Known events printed) where
  known : (AreAsked : List Event → Type 0) (Taken : List ℕ → Type 0) → AreAnsweredAs IsAccount AreAsked Taken → AreAnsweredAs Known AreAsked Taken
  known AreAsked Taken e = record { events = e.events; printed = e.printed; said = e.said; account = f e.events e.printed e.account; took = e.took }

  pub ends_known : (status : Status) → EndsStream IsAccount stream status c → EndsStream Known stream status c
  ends_known Done e = (known _ _ e.0, e.1)
  ends_known (StreamText line) e = known _ _ e
  ends_known ReadFault e = record { begun = λ b. known _ _ (e.begun b); unbegun = e.unbegun }
  ends_known WriteFault e = known _ _ e
  ends_known NoMemory (inl e) = inl e
  ends_known NoMemory (inr e) = inr (known _ _ e)
  ends_known NotYet e = absurd e
  ends_known Usage e = absurd e
  ends_known (GraphText line) e = absurd e
  ends_known (FleetText row) e = absurd e

-- the same of a call that began earlier, where the names held the same
module _ (stream : Word) (IsAccount : Account) (old mid new : ShelfState) (sink sink' : SinkState) (holds : mid.held ≡ old.held) where
  says_of : (P : List ℕ → Type 0) → Says mid stream P → Says old stream P
  says_of P s = subst (λ (x : List ℕ → Held). IsSoOf (x stream) P) holds s

  known_of : (Asked : List Event → List ℕ → Type 0) (Taken : List ℕ → Type 0) → AreAnsweredAs IsAccount (λ events. Says mid stream (Asked events)) Taken → AreAnsweredAs IsAccount (λ events. Says old stream (Asked events)) Taken
  known_of Asked Taken e = record { events = e.events; printed = e.printed; said = says_of (Asked e.events) e.said; account = e.account; took = e.took }

  pub ends_later : (status : Status) → EndsStream IsAccount stream status (call_of mid sink new sink') → EndsStream IsAccount stream status (call_of old sink new sink')
  ends_later Done e = (known_of _ _ e.0, says_of _ e.1)
  ends_later (StreamText line) e = known_of _ _ e
  ends_later ReadFault e = record { begun = λ b. known_of _ _ (e.begun b); unbegun = e.unbegun }
  ends_later WriteFault e = known_of _ _ e
  ends_later NoMemory (inl e) = inl e
  ends_later NoMemory (inr e) = inr (known_of _ _ e)
  ends_later NotYet e = absurd e
  ends_later Usage e = absurd e
  ends_later (GraphText line) e = absurd e
  ends_later (FleetText row) e = absurd e
