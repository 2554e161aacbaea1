use Rattle.std.proofs.Common.{◌≡◌, ℕ, Bool, true, false, List, [], ◌∷◌, Option, Some, None, refl, sym, ◌∙◌, append-nil, inl, inr, subst}
use Rattle.std.proofs.lemmas.Bool.{false≢true}
use Rattle.command_words.specs.Commands.{Word, Form, Run, Audit, Walk, Gen, Live, RunOptions}
use Rattle.ride_base.specs.Calls.{Call, TookNothing}
use Rattle.dispatch_top.specs.declared.status.Status.TheVariants.{NotYet, NoMemory}
use Rattle.dispatch_top.specs.Asking.{IsLater}
use Rattle.dispatch_top.specs.Behaving.{IsComplete}
use Rattle.dispatch_top.specs.Ends.{Ends, EndsForm}
use Rattle.dispatch_top.specs.Forms.{Stage, GraphText as GraphStage, FleetText as FleetStage, is_plain}
use Rattle.dispatch_top.specs.Reading.{EndsReading}

-- How a run ends that did nothing.

-- a form that isn't answered yet
pub complete_later : (form : Option Form) (c : Call) → IsLater form → IsComplete form NotYet c
complete_later None c h = absurd h
complete_later (Some form) c h = λ t. absurd (false≢true (sym h ∙ t))

pub ends_later : (form : Option Form) (c : Call) → IsLater form → Ends form NotYet c
ends_later None c h = absurd h
ends_later (Some form) c h = subst (λ (answered : Bool). EndsForm answered form NotYet c) (sym h) (inl refl)

-- memory was wanted
pub complete_unread : (form : Option Form) (c : Call) → IsComplete form NoMemory c
complete_unread None c = tt
complete_unread (Some form) c = λ answered good shelf sink. inr refl

-- memory was wanted for the words
module _ (c : Call) (unnamed : c.new.shelf.names ≡ c.old.shelf.names) (took : TookNothing c) where
  at_first : (name : Word) (names : List (List ℕ)) (stages : List Stage) → EndsReading (name ∷ names) (GraphStage name ∷ stages) NoMemory c
  at_first name names stages =
      (record { roads = record { nodes = 0; roads = [] }; vehicles = [] }, GraphStage name, inr (record { before = []; after = stages; stands = refl; are_read = tt; began = unnamed ∙ sym (append-nil c.old.shelf.names); took = took }))

  ends_run : (answered : Bool) (graph fleet stream : Word) (options : RunOptions) → EndsForm answered (Run graph fleet stream options) NoMemory c
  ends_run true graph fleet stream options = inl (at_first graph (fleet ∷ stream ∷ []) (FleetStage fleet ∷ []))
  ends_run false graph fleet stream options = inr refl

  ends_form : (form : Form) → Ends (Some form) NoMemory c
  ends_form (Run graph fleet stream options) = ends_run (is_plain options) graph fleet stream options
  ends_form (Audit graph fleet journal rates) = inr refl
  ends_form (Walk graph from to) = inl (at_first graph [] [])
  ends_form (Gen number) = inr (record { read = record { roads = record { nodes = 0; roads = [] }; vehicles = [] }; are_read = tt; began = inl (unnamed ∙ sym (append-nil c.old.shelf.names)); ends = took })
  ends_form (Live graph fleet stream rates workers) = inr refl

  pub ends_unread : (form : Option Form) → Ends form NoMemory c
  ends_unread None = inr refl
  ends_unread (Some form) = ends_form form
