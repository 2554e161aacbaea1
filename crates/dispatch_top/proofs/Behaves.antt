use Rattle.std.proofs.Common.{◌≡◌, ℕ, List, Some, length, refl, inr, true}
use Rattle.command_words.specs.Commands.{Form}
use Rattle.ride_base.specs.Calls.{Call, Began, Says}
use Rattle.dispatch_top.specs.declared.status.Status.{Status}
use Rattle.dispatch_top.specs.declared.status.Status.TheVariants.{Done, NotYet, Usage, GraphText, FleetText, StreamText, ReadFault, WriteFault, NoMemory}
use Rattle.dispatch_top.specs.Behaving.{Behaves, HasCause}
use Rattle.dispatch_top.specs.Ends.{EndsForm, EndsMode, HasBegun}
use Rattle.dispatch_top.specs.Forms.{names_of, stages_of}
use Rattle.dispatch_top.specs.Moves.{ReadsNames, Writes}
use Rattle.dispatch_top.specs.Reading.{Read, AreRead}

-- What holds of a run whatever its status, and how one ends behind the texts that are read whole.

module _ (form : Form) (c : Call) (status : Status) (r : ReadsNames (names_of form) (status ≡ ReadFault) c.old.shelf c.new.shelf) (w : Writes (status ≡ WriteFault) c.old.sink c.new.sink) where
  has_cause : (s : Status) → status ≡ s → HasCause s c
  has_cause ReadFault e = r.cause e
  has_cause WriteFault e = w.cause e
  has_cause Done e = tt
  has_cause NotYet e = tt
  has_cause Usage e = tt
  has_cause (GraphText line) e = tt
  has_cause (FleetText row) e = tt
  has_cause (StreamText line) e = tt
  has_cause NoMemory e = tt

  pub behaves : Behaves (Some form) status c
  behaves = record {
    names = r.began;
    cause = has_cause status refl;
    silent = λ sure held. record { unread = r.surely sure held; silent = r.silent sure held };
    stays = record { held = r.holds; sure = r.sure; shelf_quiet = r.quiet; sink_quiet = w.quiet; shelf_counted = r.counted; sink_counted = w.counted };
  }

-- all names of a form were begun, with each status
pub has_begun : (names : List (List ℕ)) (stages : ℕ) (c : Call) → Began names (length names) c → (status : Status) → HasBegun names stages status c
has_begun names stages c h Done = h
has_begun names stages c h NotYet = h
has_begun names stages c h Usage = h
has_begun names stages c h (GraphText line) = h
has_begun names stages c h (FleetText row) = h
has_begun names stages c h (StreamText line) = h
has_begun names stages c h ReadFault = h
has_begun names stages c h WriteFault = h
has_begun names stages c h NoMemory = inr h

-- the run ended so behind its texts
pub ends_behind : (form : Form) (c : Call) (read : Read) (status : Status) → AreRead (Says c.old.shelf) read (stages_of form) → HasBegun (names_of form) (length (stages_of form)) status c → EndsMode form read status c
    → EndsForm true form status c
ends_behind form c read status are_read began ends = inr (record { read = read; are_read = are_read; began = began; ends = ends })
