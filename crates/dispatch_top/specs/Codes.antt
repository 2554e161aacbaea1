use Rattle.std.specs.Prelude.{ℕ, List, [], ◌++◌, codes}
use Rattle.std.specs.Fmt.{decimal}
use Rattle.dispatch_top.specs.declared.status.Status.{Status}
use Rattle.dispatch_top.specs.declared.status.Status.TheVariants.{Done, NotYet, Usage, GraphText, FleetText, StreamText, ReadFault, WriteFault, NoMemory}

-- the exit code of each status
abbrev pub code_of : Status → ℕ
code_of Done = 0
code_of NotYet = 1
code_of Usage = 2
code_of (GraphText line) = 3
code_of (FleetText row) = 4
code_of (StreamText line) = 5
code_of ReadFault = 6
code_of WriteFault = 7
code_of NoMemory = 8

-- what is told of each status, where there is something to tell
abbrev pub told_as : Status → List ℕ
told_as Done = []
told_as NotYet = codes "not yet"
told_as Usage = codes "usage"
told_as (GraphText line) = codes "graph line " ++ decimal line
told_as (FleetText row) = codes "fleet row " ++ decimal row
told_as (StreamText line) = codes "stream line " ++ decimal line
told_as ReadFault = codes "read fault"
told_as WriteFault = codes "write fault"
told_as NoMemory = codes "no memory"
