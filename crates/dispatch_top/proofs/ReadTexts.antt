use Rattle.std.proofs.Common.{◌≡◌, ℕ, true, false, List, [], ◌∷◌, ◌++◌, Option, Result, Ok, Err, ◌≤◌, refl, sym, ap, subst, ◌∙◌, append_assoc, append-nil, inl, inr}
use Rattle.std.proofs.lemmas.Bool.{false≢true}
use Rattle.command_words.specs.Commands.{Word}
use Rattle.ride_base.specs.Calls.{Call, IsSoOf, Says, TookNothing}
use Rattle.ride_base.specs.Outside.{Absent, AddsName, CountRose, Held, IsAllOf, ShelfState}
use Rattle.ride_base.specs.Told.{WhereTold}
use Rattle.ride_base.specs.declared.outside.BeginFault.{BeginFault}
use Rattle.ride_base.specs.declared.outside.BeginFault.TheVariants.{Failed, NoMemory as BeginNoMemory}
use Rattle.road_graph.specs.Roads.{Roads}
use Rattle.dimacs_reader.specs.declared.faults.GraphFault.{GraphFault}
use Rattle.dimacs_reader.specs.declared.faults.GraphFault.TheVariants as graph
use Rattle.dimacs_reader.specs.Graphs.{graph_of}
use Rattle.dimacs_reader.specs.Refusals.{IsGraphRefusal, IsUndecided, refused_line}
use Rattle.stop_schedule.specs.declared.vehicle.Vehicle.{Vehicle}
use Rattle.stop_schedule.specs.Bounds.{AreVehicles}
use Rattle.input_tables.specs.declared.faults.FleetFault.{FleetFault}
use Rattle.input_tables.specs.declared.faults.FleetFault.TheVariants as fleet
use Rattle.input_tables.specs.Fleets.{fleet_of}
use Rattle.input_tables.specs.Refusals.{IsReadWithin, IsFleetRefusal}
use Rattle.dispatch_top.specs.declared.status.Status.TheVariants as status
use Rattle.dispatch_top.specs.declared.stops.ReadingStop.TheVariants.{Graph, Fleet}
use Rattle.dispatch_top.specs.declared.stops.TextStop.{TextStop}
use Rattle.dispatch_top.specs.declared.stops.TextStop.TheVariants.{Refused, ReadFault, NoMemory}
use Rattle.dispatch_top.specs.Forms.{Stage, GraphText as GraphStage, FleetText as FleetStage}
use Rattle.dispatch_top.specs.Reading.{Read, EndsReading, IsBadAt, IsBadAtRow, row_of}
use Rattle.dispatch_top.specs.Stops.{status_of_reading, stop_of_begin, stop_of_graph, stop_of_fleet}
use Rattle.dispatch_top.specs.Texts.{AreTexts, IsFleetOf, IsGraphOf, StopsFleet, StopsGraph, StopsText}
use Rattle.dispatch_top.specs.Moves.{ReadsNames}
use Rattle.dispatch_top.proofs.Moves.{reads_nothing, reads_unbegun}
use Rattle.dispatch_top.proofs.Told.{of_held, told_so}

-- The texts that are read whole.

-- ---- one text

module _ (name : Word) (old new : ShelfState) where
  -- its name couldn't be begun
  unbegun : (IsBad : ℕ → List ℕ → Type 0) (IsOpen : Option (List ℕ) → List ℕ → Type 0) (fault : BeginFault) → (fault ≡ Failed → AddsName old name new) → (fault ≡ Failed → new.begun ≡ false)
      → (fault ≡ BeginNoMemory → new.names ≡ old.names) → StopsText IsBad IsOpen name old new (stop_of_begin fault)
  unbegun IsBad IsOpen Failed n u k = (n refl, λ begun. absurd (false≢true (sym (u refl) ∙ begun)))
  unbegun IsBad IsOpen BeginNoMemory n u k = inr (k refl)

  pub graph_unbegun : (fault : BeginFault) → (fault ≡ Failed → AddsName old name new) → (fault ≡ Failed → new.begun ≡ false) → (fault ≡ BeginNoMemory → new.names ≡ old.names) → StopsGraph name old new (stop_of_begin fault)
  graph_unbegun fault n u k = unbegun (λ line text. IsBadAt (graph_of text) line) (λ left text. IsUndecided (graph_of text) text left) fault n u k

  pub fleet_unbegun : (nodes : ℕ) (fault : BeginFault) → (fault ≡ Failed → AddsName old name new) → (fault ≡ Failed → new.begun ≡ false) → (fault ≡ BeginNoMemory → new.names ≡ old.names) → StopsFleet nodes name old new (stop_of_begin fault)
  fleet_unbegun nodes fault n u k = unbegun (λ row text. IsBadAtRow (fleet_of nodes text) row) (λ left text. IsReadWithin text left) fault n u k

  module _ (all : Option (List ℕ)) (is_all : IsAllOf (old.held name) all) (named : AddsName old name new) where
    bad_graph : (f : GraphFault) (line : ℕ) → WhereTold all (λ text. graph_of text ≡ Err f) → IsGraphRefusal f → refused_line f ≡ line → Says old name (λ text. IsBadAt (graph_of text) line)
    bad_graph f line w r e = of_held (λ t. IsBadAt (graph_of t) line) (old.held name) all is_all (told_so (λ t. graph_of t ≡ Err f) _ all (λ t k. (f, k, r, e)) w)

    pub graph_refused : (fault : GraphFault) → (IsGraphRefusal fault → WhereTold all (λ text. graph_of text ≡ Err fault)) → (fault ≡ graph.Fault → WhereTold all (λ text. IsUndecided (graph_of text) text new.left))
        → StopsGraph name old new (stop_of_graph fault)
    graph_refused graph.Fault r u = (named, λ begun. of_held (λ t. IsUndecided (graph_of t) t new.left) (old.held name) all is_all (u refl))
    graph_refused (graph.Form line) r u = (named, bad_graph (graph.Form line) line (r tt) tt refl)
    graph_refused (graph.Count line said found) r u = (named, bad_graph (graph.Count line said found) line (r tt) tt refl)
    graph_refused (graph.Node line) r u = (named, bad_graph (graph.Node line) line (r tt) tt refl)
    graph_refused (graph.Weight line) r u = (named, bad_graph (graph.Weight line) line (r tt) tt refl)
    graph_refused (graph.Limit line) r u = (named, bad_graph (graph.Limit line) line (r tt) tt refl)
    graph_refused graph.NoMemory r u = inl named

    bad_fleet : (nodes : ℕ) (f : FleetFault) (row : ℕ) → WhereTold all (λ text. fleet_of nodes text ≡ Err f) → IsFleetRefusal f → row_of f ≡ row → Says old name (λ text. IsBadAtRow (fleet_of nodes text) row)
    bad_fleet nodes f row w r e = of_held (λ t. IsBadAtRow (fleet_of nodes t) row) (old.held name) all is_all (told_so (λ t. fleet_of nodes t ≡ Err f) _ all (λ t k. (f, k, r, e)) w)

    pub fleet_refused : (nodes : ℕ) (fault : FleetFault) → (IsFleetRefusal fault → WhereTold all (λ text. fleet_of nodes text ≡ Err fault)) → (fault ≡ fleet.Fault → WhereTold all (λ text. IsReadWithin text new.left))
        → StopsFleet nodes name old new (stop_of_fleet fault)
    fleet_refused nodes fleet.Fault r u = (named, λ begun. of_held (λ t. IsReadWithin t new.left) (old.held name) all is_all (u refl))
    fleet_refused nodes fleet.Large r u = (named, bad_fleet nodes fleet.Large 0 (r tt) tt refl)
    fleet_refused nodes fleet.Header r u = (named, bad_fleet nodes fleet.Header 0 (r tt) tt refl)
    fleet_refused nodes (fleet.Form row) r u = (named, bad_fleet nodes (fleet.Form row) row (r tt) tt refl)
    fleet_refused nodes (fleet.Range row) r u = (named, bad_fleet nodes (fleet.Range row) row (r tt) tt refl)
    fleet_refused nodes (fleet.Double row) r u = (named, bad_fleet nodes (fleet.Double row) row (r tt) tt refl)
    fleet_refused nodes fleet.NoMemory r u = inl named

-- ---- a text among others

abbrev nothing_read : Read
nothing_read = record { roads = record { nodes = 0; roads = [] }; vehicles = [] }

-- how a run ends at its graph
pub ends_at_graph : (c : Call) (name : Word) (names : List Word) (stages : List Stage) (stop : TextStop) → StopsGraph name c.old.shelf c.new.shelf stop → TookNothing c
    → EndsReading (name ∷ names) (GraphStage name ∷ stages) (status_of_reading (Graph stop)) c
ends_at_graph c name names stages (Refused line) h t =
    (nothing_read, GraphStage name, record { before = []; after = stages; stands = refl; are_read = tt; began = h.0; took = t }, h.1)
ends_at_graph c name names stages ReadFault h t =
    (nothing_read, GraphStage name, record { before = []; after = stages; stands = refl; are_read = tt; began = h.0; took = t }, h.1)
ends_at_graph c name names stages NoMemory (inl h) t =
    (nothing_read, GraphStage name, inl (record { before = []; after = stages; stands = refl; are_read = tt; began = h; took = t }))
ends_at_graph c name names stages NoMemory (inr h) t =
    (nothing_read, GraphStage name, inr (record { before = []; after = stages; stands = refl; are_read = tt; began = h ∙ sym (append-nil c.old.shelf.names); took = t }))

-- and at its fleet, behind a graph
module _ (c : Call) (graph name : Word) (more : List Word) (stages : List Stage) (roads : Roads) (mid : ShelfState)
    (is_graph : IsGraphOf c.old.shelf graph roads) (holds : mid.held ≡ c.old.shelf.held) (named : AddsName c.old.shelf graph mid) where
  abbrev read_so_far : Read
  read_so_far = record { roads = roads; vehicles = [] }

  both_named : AddsName mid name c.new.shelf → c.new.shelf.names ≡ c.old.shelf.names ++ graph ∷ name ∷ []
  both_named h = h ∙ ap (λ (l : List Word). l ++ name ∷ []) named ∙ append_assoc c.old.shelf.names (graph ∷ []) (name ∷ [])

  said_then : (Fact : List ℕ → Type 0) → Says mid name Fact → Says c.old.shelf name Fact
  said_then Fact s = subst (λ (x : List ℕ → Held). IsSoOf (x name) Fact) holds s

  pub ends_at_fleet : (stop : TextStop) → StopsFleet roads.nodes name mid c.new.shelf stop → TookNothing c
      → EndsReading (graph ∷ name ∷ more) (GraphStage graph ∷ FleetStage name ∷ stages) (status_of_reading (Fleet stop)) c
  ends_at_fleet (Refused row) h t = (
    read_so_far,
    FleetStage name,
    record { before = GraphStage graph ∷ []; after = stages; stands = refl; are_read = (is_graph, tt); began = both_named h.0; took = t },
    said_then (λ text. IsBadAtRow (fleet_of roads.nodes text) row) h.1,
  )
  ends_at_fleet ReadFault h t = (
    read_so_far,
    FleetStage name,
    record { before = GraphStage graph ∷ []; after = stages; stands = refl; are_read = (is_graph, tt); began = both_named h.0; took = t },
    λ begun. said_then (λ text. IsReadWithin text c.new.shelf.left) (h.1 begun),
  )
  ends_at_fleet NoMemory (inl h) t =
      (read_so_far, FleetStage name, inl (record { before = GraphStage graph ∷ []; after = stages; stands = refl; are_read = (is_graph, tt); began = both_named h; took = t }))
  ends_at_fleet NoMemory (inr h) t =
      (read_so_far, FleetStage name, inr (record { before = GraphStage graph ∷ []; after = stages; stands = refl; are_read = (is_graph, tt); began = h ∙ named; took = t }))

-- both were read
pub both_read : (graph fleet : Word) (old mid new : ShelfState) (roads : Roads) (nodes : ℕ) (vehicles : List Vehicle) → IsGraphOf old graph roads → AddsName old graph mid → mid.held ≡ old.held → nodes ≡ roads.nodes
    → IsFleetOf mid fleet nodes vehicles → AddsName mid fleet new → AreTexts graph fleet old new roads vehicles
both_read graph fleet old mid new roads nodes vehicles g first holds n f second = record {
  are_read = (g, (subst (λ (x : List ℕ → Held). IsFleetIn x) holds (subst (λ (k : ℕ). IsFleetOf mid fleet k vehicles) n f), tt));
  began = second ∙ ap (λ (l : List Word). l ++ fleet ∷ []) first ∙ append_assoc old.names (graph ∷ []) (fleet ∷ []);
}
  where
    IsFleetIn : (List ℕ → Held) → Type 0
    IsFleetIn x = AreVehicles roads.nodes vehicles × IsSoOf (x fleet) (λ text. fleet_of roads.nodes text ≡ Ok vehicles)

-- ---- faults of the shelf

abbrev failed_as : {T E : Type 0} → E → Result T E
failed_as e = Err e

abbrev stopped_as : {T : Type 0} → TextStop → Result T TextStop
stopped_as stop = Err stop

pub read_graph_fault : {T : Type 0} (f : GraphFault) → stopped_as {T = T} (stop_of_graph f) ≡ Err ReadFault → f ≡ graph.Fault
read_graph_fault graph.Fault e = refl
read_graph_fault (graph.Form line) e = cc
read_graph_fault (graph.Count line said found) e = cc
read_graph_fault (graph.Node line) e = cc
read_graph_fault (graph.Weight line) e = cc
read_graph_fault (graph.Limit line) e = cc
read_graph_fault graph.NoMemory e = cc

pub read_fleet_fault : {T : Type 0} (f : FleetFault) → stopped_as {T = T} (stop_of_fleet f) ≡ Err ReadFault → f ≡ fleet.Fault
read_fleet_fault fleet.Fault e = refl
read_fleet_fault fleet.Large e = cc
read_fleet_fault fleet.Header e = cc
read_fleet_fault (fleet.Form row) e = cc
read_fleet_fault (fleet.Range row) e = cc
read_fleet_fault (fleet.Double row) e = cc
read_fleet_fault fleet.NoMemory e = cc

pub read_graph_stop : {T U : Type 0} (f : GraphFault) → failed_as {T = T} f ≡ Err graph.Fault → stopped_as {T = U} (stop_of_graph f) ≡ Err ReadFault
read_graph_stop f e = let same : f ≡ graph.Fault = cc in ap (λ x. Err (stop_of_graph x)) same

pub read_fleet_stop : {T U : Type 0} (f : FleetFault) → failed_as {T = T} f ≡ Err fleet.Fault → stopped_as {T = U} (stop_of_fleet f) ≡ Err ReadFault
read_fleet_stop f e = let same : f ≡ fleet.Fault = cc in ap (λ x. Err (stop_of_fleet x)) same

memory_read : {T : Type 0} → stopped_as {T = T} NoMemory ≡ Err ReadFault → ⊥
memory_read e = cc

-- the name of a text couldn't be begun, or memory was wanted for it
pub reads_not_begun : {T : Type 0} (name : Word) (old new : ShelfState) (fault : BeginFault) → (fault ≡ Failed → AddsName old name new) → new.held ≡ old.held → old.faults ≤ new.faults → (old.sure ≡ true → new.sure ≡ true) → new.quiet ≡ old.quiet
    → (fault ≡ Failed → CountRose old new) → (old.sure ≡ true → fault ≡ Failed → old.held name ≡ Absent) → (fault ≡ BeginNoMemory → new ≡ old)
    → ReadsNames (name ∷ []) (stopped_as {T = T} (stop_of_begin fault) ≡ Err ReadFault) old new
reads_not_begun name old new Failed named holds counted sure quiet rose absent same = reads_unbegun name _ old new refl (named refl) holds counted sure quiet (rose refl) (λ s. absent s refl)
reads_not_begun {T = T} name old new BeginNoMemory named holds counted sure quiet rose absent same =
    subst (λ (x : ShelfState). ReadsNames (name ∷ []) (stopped_as {T = T} NoMemory ≡ Err ReadFault) old x) (sym (same refl)) (reads_nothing (name ∷ []) (stopped_as {T = T} NoMemory ≡ Err ReadFault) old memory_read)

-- by the status of a stop
pub graph_failed : (stop : TextStop) → status_of_reading (Graph stop) ≡ status.ReadFault → stop ≡ ReadFault
graph_failed (Refused line) e = cc
graph_failed ReadFault e = refl
graph_failed NoMemory e = cc

pub graph_fails : {T : Type 0} (stop : TextStop) → stopped_as {T = T} stop ≡ Err ReadFault → status_of_reading (Graph stop) ≡ status.ReadFault
graph_fails (Refused line) e = cc
graph_fails ReadFault e = refl
graph_fails NoMemory e = cc

pub fleet_failed : (stop : TextStop) → status_of_reading (Fleet stop) ≡ status.ReadFault → stop ≡ ReadFault
fleet_failed (Refused row) e = cc
fleet_failed ReadFault e = refl
fleet_failed NoMemory e = cc

pub fleet_fails : {T : Type 0} (stop : TextStop) → stopped_as {T = T} stop ≡ Err ReadFault → status_of_reading (Fleet stop) ≡ status.ReadFault
fleet_fails (Refused row) e = cc
fleet_fails ReadFault e = refl
fleet_fails NoMemory e = cc
