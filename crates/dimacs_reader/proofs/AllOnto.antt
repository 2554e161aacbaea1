use Rattle.std.specs.Prelude.{List, ◌++◌, Result}
use Rattle.dimacs_reader.specs.declared.faults.GraphFault.{GraphFault}
use Rattle.dimacs_reader.specs.Graphs.{map_ok}

-- what was read, before what the rest says
abbrev pub all_onto : {X : Type 0} → List X → Result (List X) GraphFault → Result (List X) GraphFault
all_onto done rest = map_ok (λ more. done ++ more) rest
