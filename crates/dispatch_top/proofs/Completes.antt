use Rattle.std.proofs.Common.{◌≡◌, ◌⊎◌, ℕ, true, List, [], ◌∷◌, ◌++◌, Option, Some, Ok, refl, sym, ap, subst, ◌∙◌, inl, inr}
use Rattle.command_words.specs.Commands.{Word, Form, Run, Walk, Gen, RunOptions}
use Rattle.ride_base.specs.Calls.{Call, IsSoOf, Says, Tells, ShelfFailed, SinkFailed}
use Rattle.ride_base.specs.Outside.{Held, Text}
use Rattle.road_graph.specs.Roads.{Roads}
use Rattle.dimacs_reader.specs.Graphs.{graph_of}
use Rattle.input_tables.specs.Fleets.{fleet_of}
use Rattle.dispatch_top.specs.declared.status.Status.{Status}
use Rattle.dispatch_top.specs.declared.status.Status.TheVariants.{Done, NotYet, Usage, GraphText, FleetText, StreamText, ReadFault, WriteFault, NoMemory}
use Rattle.dispatch_top.specs.Behaving.{AreGood, Behaves, HasCause, IsComplete}
use Rattle.dispatch_top.specs.Ends.{EndsForm}
use Rattle.dispatch_top.specs.Forms.{Stage, GraphText as GraphStage, FleetText as FleetStage}
use Rattle.dispatch_top.specs.Reading.{Read, AreRead, IsReadAs, IsRefusedAs, IsBadAt, IsBadAtRow, Refuses}
use Rattle.dispatch_top.specs.Streams.{Events, AtEnd, AtBad, events_of}

-- A run over good texts ends by no fault of theirs.

-- a fact of what a name holds is one of the text that is told
so_of_told : (P : List ℕ → Type 0) (held : Held) (text : List ℕ) → held ≡ Text text → IsSoOf held P → P text
so_of_told P held text e h = subst (λ (x : Held). IsSoOf x P) e h

-- there is one graph of a text
same_roads : (c : Call) (name : Word) (good said : Roads) → Tells c.old.shelf name (λ text. graph_of text ≡ Ok good) → Says c.old.shelf name (λ text. graph_of text ≡ Ok said) → said ≡ good
same_roads c name good said t h =
    let read = so_of_told (λ text. graph_of text ≡ Ok said) (c.old.shelf.held name) t.text t.told h in
    let both = sym read ∙ t.is_so in
    cc

-- a good graph isn't refused
good_graph : (c : Call) (name : Word) (good : Roads) → Tells c.old.shelf name (λ text. graph_of text ≡ Ok good) → (line : ℕ) → Says c.old.shelf name (λ text. IsBadAt (graph_of text) line) → ⊥
good_graph c name good t line h =
    let bad = so_of_told (λ text. IsBadAt (graph_of text) line) (c.old.shelf.held name) t.text t.told h in
    let both = sym bad.1 ∙ t.is_so in
    cc

-- a good fleet isn't refused
good_fleet : (c : Call) (name : Word) (good read : Read) → read.roads ≡ good.roads → Tells c.old.shelf name (λ text. fleet_of good.roads.nodes text ≡ Ok good.vehicles)
    → (row : ℕ) → Says c.old.shelf name (λ text. IsBadAtRow (fleet_of read.roads.nodes text) row) → ⊥
good_fleet c name good read e t row h =
    let bad = so_of_told (λ text. IsBadAtRow (fleet_of read.roads.nodes text) row) (c.old.shelf.held name) t.text t.told h in
    let both = sym bad.1 ∙ ap (λ (g : Roads). fleet_of g.nodes t.text) e ∙ t.is_so in
    cc

-- none of good stages is refused, over the graph that they are good over
good_stage : (c : Call) (good read : Read) → read.roads ≡ good.roads → (stage : Stage) → IsReadAs (Tells c.old.shelf) good stage → (status : Status) → IsRefusedAs (Says c.old.shelf) read stage status → ⊥
good_stage c good read e (GraphStage name) t Done h = absurd h
good_stage c good read e (GraphStage name) t NotYet h = absurd h
good_stage c good read e (GraphStage name) t Usage h = absurd h
good_stage c good read e (GraphStage name) t (GraphText line) h = good_graph c name good.roads t.1 line h
good_stage c good read e (GraphStage name) t (FleetText row) h = absurd h
good_stage c good read e (GraphStage name) t (StreamText line) h = absurd h
good_stage c good read e (GraphStage name) t ReadFault h = absurd h
good_stage c good read e (GraphStage name) t WriteFault h = absurd h
good_stage c good read e (GraphStage name) t NoMemory h = absurd h
good_stage c good read e (FleetStage name) t Done h = absurd h
good_stage c good read e (FleetStage name) t NotYet h = absurd h
good_stage c good read e (FleetStage name) t Usage h = absurd h
good_stage c good read e (FleetStage name) t (GraphText line) h = absurd h
good_stage c good read e (FleetStage name) t (FleetText row) h = good_fleet c name good read e t.1 row h
good_stage c good read e (FleetStage name) t (StreamText line) h = absurd h
good_stage c good read e (FleetStage name) t ReadFault h = absurd h
good_stage c good read e (FleetStage name) t WriteFault h = absurd h
good_stage c good read e (FleetStage name) t NoMemory h = absurd h

good_stages : (c : Call) (good read : Read) → read.roads ≡ good.roads → (stages : List Stage) → AreRead (Tells c.old.shelf) good stages
    → (before after : List Stage) (stage : Stage) → stages ≡ before ++ stage ∷ after → (status : Status) → IsRefusedAs (Says c.old.shelf) read stage status → ⊥
good_stages c good read e [] t [] after stage h status r = cc
good_stages c good read e [] t (x ∷ before) after stage h status r = cc
good_stages c good read e (s ∷ stages) t [] after stage h status r =
    let same : stage ≡ s = cc in
    good_stage c good read e s t.0 status (subst (λ (x : Stage). IsRefusedAs (Says c.old.shelf) read x status) same r)
good_stages c good read e (s ∷ stages) t (x ∷ before) after stage h status r =
    let rest : stages ≡ before ++ stage ∷ after = cc in
    good_stages c good read e stages t.1 before after stage rest status r

-- what is refused of the first stage, a graph, says nothing of what was read
refused_over : (c : Call) (read other : Read) (name : Word) (status : Status) → IsRefusedAs (Says c.old.shelf) read (GraphStage name) status → IsRefusedAs (Says c.old.shelf) other (GraphStage name) status
refused_over c read other name Done h = h
refused_over c read other name NotYet h = h
refused_over c read other name Usage h = h
refused_over c read other name (GraphText line) h = h
refused_over c read other name (FleetText row) h = h
refused_over c read other name (StreamText line) h = h
refused_over c read other name ReadFault h = h
refused_over c read other name WriteFault h = h
refused_over c read other name NoMemory h = h

-- none of good stages behind a graph is refused
unrefused : (c : Call) (good : Read) (graph : Word) (stages : List Stage) → AreRead (Tells c.old.shelf) good (GraphStage graph ∷ stages) → (read : Read) (before after : List Stage) (stage : Stage)
    → GraphStage graph ∷ stages ≡ before ++ stage ∷ after → AreRead (Says c.old.shelf) read before → (status : Status) → IsRefusedAs (Says c.old.shelf) read stage status → ⊥
unrefused c good graph stages t read [] after stage h said status r =
    let same : stage ≡ GraphStage graph = cc in
    good_stage c good good refl (GraphStage graph) t.0 status (refused_over c read good graph status (subst (λ (x : Stage). IsRefusedAs (Says c.old.shelf) read x status) same r))
unrefused c good graph stages t read (x ∷ before) after stage h said status r =
    let same : x ≡ GraphStage graph = cc in
    let rest : stages ≡ before ++ stage ∷ after = cc in
    let first = subst (λ (s : Stage). IsReadAs (Says c.old.shelf) read s) same said.0 in
    good_stages c good read (same_roads c graph good.roads read.roads t.0.1 first.1) stages t.1 before after stage rest status r

good_refused : (c : Call) (good : Read) (graph : Word) (stages : List Stage) → AreRead (Tells c.old.shelf) good (GraphStage graph ∷ stages) → (names : List (List ℕ)) (status : Status)
    → Refuses names (GraphStage graph ∷ stages) status c → ⊥
good_refused c good graph stages t names status (read, stage, at, r) = unrefused c good graph stages t read at.before at.after stage at.stands at.are_read status r

-- the events of a stream end in one way
same_end : (c : Call) (stream : Word) → Tells c.old.shelf stream (λ text. (events_of text).ends ≡ AtEnd) → (events : Events) → Says c.old.shelf stream (λ text. events_of text ≡ events) → events.ends ≡ AtEnd
same_end c stream last events s =
    let are = so_of_told (λ text. events_of text ≡ events) (c.old.shelf.held stream) last.text last.told s in
    sym (ap (λ (r : Events). r.ends) are) ∙ last.is_so

-- a fault's count didn't rise where its cause isn't
no_read_fault : (c : Call) (status : Status) → HasCause status c → (ShelfFailed c → ⊥) → status ≡ ReadFault → ⊥
no_read_fault c status h n e = n (subst (λ (s : Status). HasCause s c) e h)

no_write_fault : (c : Call) (status : Status) → HasCause status c → (SinkFailed c → ⊥) → status ≡ WriteFault → ⊥
no_write_fault c status h n e = n (subst (λ (s : Status). HasCause s c) e h)

module _ (c : Call) (graph fleet stream : Word) (options : RunOptions) (good : AreGood c.old.shelf (Run graph fleet stream options)) where
  run_done : (status : Status) → EndsForm true (Run graph fleet stream options) status c → (status ≡ ReadFault → ⊥) → (status ≡ WriteFault → ⊥) → (status ≡ Done) ⊎ (status ≡ NoMemory)
  run_done Done h r w = inl refl
  run_done NoMemory h r w = inr refl
  run_done ReadFault h r w = absurd (r refl)
  run_done WriteFault h r w = absurd (w refl)
  run_done Usage (inl h) r w = absurd h
  run_done Usage (inr h) r w = absurd h.ends
  run_done (GraphText line) (inl h) r w = absurd (good_refused c good.read graph (FleetStage fleet ∷ []) good.are_read (graph ∷ fleet ∷ stream ∷ []) (GraphText line) h)
  run_done (GraphText line) (inr h) r w = absurd h.ends
  run_done (FleetText row) (inl h) r w = absurd (good_refused c good.read graph (FleetStage fleet ∷ []) good.are_read (graph ∷ fleet ∷ stream ∷ []) (FleetText row) h)
  run_done (FleetText row) (inr h) r w = absurd h.ends
  run_done NotYet (inl h) r w = absurd h
  run_done NotYet (inr h) r w = absurd h.ends
  run_done (StreamText line) (inl h) r w = absurd h
  run_done (StreamText line) (inr h) r w =
      let e = same_end c stream good.last (record { events = h.ends.events; ends = AtBad line }) h.ends.said in
      cc

module _ (c : Call) (graph : Word) (from to : ℕ) (good : AreGood c.old.shelf (Walk graph from to)) where
  walk_done : (status : Status) → EndsForm true (Walk graph from to) status c → (status ≡ ReadFault → ⊥) → (status ≡ WriteFault → ⊥) → (status ≡ Done) ⊎ (status ≡ NoMemory)
  walk_done Done h r w = inl refl
  walk_done NoMemory h r w = inr refl
  walk_done ReadFault h r w = absurd (r refl)
  walk_done WriteFault h r w = absurd (w refl)
  walk_done Usage (inl h) r w = absurd h
  walk_done Usage (inr h) r w = absurd h.ends
  walk_done (GraphText line) (inl h) r w = absurd (good_refused c good.read graph [] good.are_read (graph ∷ []) (GraphText line) h)
  walk_done (GraphText line) (inr h) r w = absurd h.ends
  walk_done (FleetText row) (inl h) r w = absurd (good_refused c good.read graph [] good.are_read (graph ∷ []) (FleetText row) h)
  walk_done (FleetText row) (inr h) r w = absurd h.ends
  walk_done NotYet (inl h) r w = absurd h
  walk_done NotYet (inr h) r w = absurd h.ends
  walk_done (StreamText line) (inl h) r w = absurd h
  walk_done (StreamText line) (inr h) r w = absurd h.ends

-- no text is refused where none is read
none_refused : (names : List (List ℕ)) (status : Status) (c : Call) → Refuses names [] status c → ⊥
none_refused names status c (read, stage, at, r) = none_before at.before at.after stage at.stands
  where
    none_before : (before after : List Stage) (stage : Stage) → [] ≡ before ++ stage ∷ after → ⊥
    none_before [] after stage h = cc
    none_before (x ∷ before) after stage h = cc

module _ (c : Call) (number : ℕ) where
  gen_done : (status : Status) → EndsForm true (Gen number) status c → (status ≡ ReadFault → ⊥) → (status ≡ WriteFault → ⊥) → (status ≡ Done) ⊎ (status ≡ NoMemory)
  gen_done Done h r w = inl refl
  gen_done NoMemory h r w = inr refl
  gen_done ReadFault h r w = absurd (r refl)
  gen_done WriteFault h r w = absurd (w refl)
  gen_done Usage (inl h) r w = absurd h
  gen_done Usage (inr h) r w = absurd h.ends
  gen_done (GraphText line) (inl h) r w = absurd (none_refused [] (GraphText line) c h)
  gen_done (GraphText line) (inr h) r w = absurd h.ends
  gen_done (FleetText row) (inl h) r w = absurd (none_refused [] (FleetText row) c h)
  gen_done (FleetText row) (inr h) r w = absurd h.ends
  gen_done NotYet (inl h) r w = absurd h
  gen_done NotYet (inr h) r w = absurd h.ends
  gen_done (StreamText line) (inl h) r w = absurd h
  gen_done (StreamText line) (inr h) r w = absurd h.ends

-- where neither the shelf nor the sink failed, all was answered, or memory was wanted
pub run_completes : (c : Call) (graph fleet stream : Word) (options : RunOptions) (status : Status) → EndsForm true (Run graph fleet stream options) status c → Behaves (Some (Run graph fleet stream options)) status c
    → IsComplete (Some (Run graph fleet stream options)) status c
run_completes c graph fleet stream options status h b = λ answered good shelf sink.
    run_done c graph fleet stream options good status h (no_read_fault c status b.cause shelf) (no_write_fault c status b.cause sink)

pub walk_completes : (c : Call) (graph : Word) (from to : ℕ) (status : Status) → EndsForm true (Walk graph from to) status c → Behaves (Some (Walk graph from to)) status c
    → IsComplete (Some (Walk graph from to)) status c
walk_completes c graph from to status h b = λ answered good shelf sink.
    walk_done c graph from to good status h (no_read_fault c status b.cause shelf) (no_write_fault c status b.cause sink)

pub gen_completes : (c : Call) (number : ℕ) (status : Status) → EndsForm true (Gen number) status c → Behaves (Some (Gen number)) status c → IsComplete (Some (Gen number)) status c
gen_completes c number status h b = λ answered good shelf sink. gen_done c number status h (no_read_fault c status b.cause shelf) (no_write_fault c status b.cause sink)

-- of a form by the words, and of its status
pub completes_as : (form : Option Form) (known : Form) (c : Call) (status ended : Status) → form ≡ Some known → status ≡ ended → IsComplete (Some known) ended c → IsComplete form status c
completes_as form known c status ended f s h = subst (λ (o : Option Form). IsComplete o status c) (sym f) (subst (λ (x : Status). IsComplete (Some known) x c) (sym s) h)
