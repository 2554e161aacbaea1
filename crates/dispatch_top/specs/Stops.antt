use Rattle.std.specs.Prelude.{Result, Ok, Err}
use Rattle.ride_base.specs.declared.outside.BeginFault.{BeginFault}
use Rattle.ride_base.specs.declared.outside.BeginFault.TheVariants.{Failed, NoMemory as BeginNoMemory}
use Rattle.dimacs_reader.specs.declared.faults.GraphFault.{GraphFault}
use Rattle.dimacs_reader.specs.declared.faults.GraphFault.TheVariants as graph
use Rattle.input_tables.specs.declared.faults.FleetFault.{FleetFault}
use Rattle.input_tables.specs.declared.faults.FleetFault.TheVariants as fleet
use Rattle.dispatch_top.specs.declared.status.Status.{Status}
use Rattle.dispatch_top.specs.declared.status.Status.TheVariants as status
use Rattle.dispatch_top.specs.declared.stops.OutputStop.{OutputStop}
use Rattle.dispatch_top.specs.declared.stops.OutputStop.TheVariants as output
use Rattle.dispatch_top.specs.declared.stops.ReadingStop.{ReadingStop}
use Rattle.dispatch_top.specs.declared.stops.ReadingStop.TheVariants.{Graph, Fleet}
use Rattle.dispatch_top.specs.declared.stops.StreamExit.{StreamExit}
use Rattle.dispatch_top.specs.declared.stops.StreamExit.TheVariants.{AtEnd, AtBad, AtFault}
use Rattle.dispatch_top.specs.declared.stops.TextStop.{TextStop}
use Rattle.dispatch_top.specs.declared.stops.TextStop.TheVariants.{Refused, ReadFault, NoMemory}

-- What a fault of a lower call comes to, and the status of a run that ends so.

abbrev pub stop_of_begin : BeginFault → TextStop
stop_of_begin Failed = ReadFault
stop_of_begin BeginNoMemory = NoMemory

-- a graph is refused at its line, whatever the refusal
abbrev pub stop_of_graph : GraphFault → TextStop
stop_of_graph graph.Fault = ReadFault
stop_of_graph (graph.Form line) = Refused line
stop_of_graph (graph.Count line said found) = Refused line
stop_of_graph (graph.Node line) = Refused line
stop_of_graph (graph.Weight line) = Refused line
stop_of_graph (graph.Limit line) = Refused line
stop_of_graph graph.NoMemory = NoMemory

-- a fleet is refused at its row, and at 0 where no row is to blame
abbrev pub stop_of_fleet : FleetFault → TextStop
stop_of_fleet fleet.Fault = ReadFault
stop_of_fleet fleet.Large = Refused 0
stop_of_fleet fleet.Header = Refused 0
stop_of_fleet (fleet.Form row) = Refused row
stop_of_fleet (fleet.Range row) = Refused row
stop_of_fleet (fleet.Double row) = Refused row
stop_of_fleet fleet.NoMemory = NoMemory

abbrev pub status_of_reading : ReadingStop → Status
status_of_reading (Graph (Refused line)) = status.GraphText line
status_of_reading (Fleet (Refused row)) = status.FleetText row
status_of_reading (Graph ReadFault) = status.ReadFault
status_of_reading (Fleet ReadFault) = status.ReadFault
status_of_reading (Graph NoMemory) = status.NoMemory
status_of_reading (Fleet NoMemory) = status.NoMemory

abbrev pub status_of_exit : StreamExit → Status
status_of_exit AtEnd = status.Done
status_of_exit (AtBad line) = status.StreamText line
status_of_exit AtFault = status.ReadFault

abbrev pub status_of_output : OutputStop → Status
status_of_output output.WriteFault = status.WriteFault
status_of_output output.NoMemory = status.NoMemory

-- a stream whose answers were written up to its end, or not
abbrev pub status_of_stream : Result StreamExit OutputStop → Status
status_of_stream (Ok exit) = status_of_exit exit
status_of_stream (Err stop) = status_of_output stop

-- a text that was written whole, or not
abbrev pub status_of_written : Result (Unit {0}) OutputStop → Status
status_of_written (Ok done) = status.Done
status_of_written (Err stop) = status_of_output stop
