use Rattle.std.specs.Prelude.{◌≡◌, false, Option, Some, None}
use Rattle.command_words.specs.Commands.{Form, Run, Walk, Gen}
use Rattle.dispatch_top.specs.declared.words.RunNames.{RunNames}
use Rattle.dispatch_top.specs.declared.words.Task.{Task}
use Rattle.dispatch_top.specs.declared.words.Task.TheVariants as task
use Rattle.dispatch_top.specs.Forms.{is_answered}

-- what a stream that is to be answered is asked for by
abbrev pub run_form : RunNames → Form
run_form asked = Run asked.graph.now asked.fleet.now asked.stream.now (record { rates = asked.params; window = None; proof = false })

-- a form that isn't answered yet
abbrev pub IsLater : Option Form → Type 0
IsLater None = ⊥
IsLater (Some form) = is_answered form ≡ false

-- what a task of the code stands for
abbrev pub AsksFor : Task → Option Form → Type 0
AsksFor (task.Run asked) form = form ≡ Some (run_form asked)
AsksFor (task.Walk graph from to) form = form ≡ Some (Walk graph.now from to)
AsksFor (task.Gen number) form = form ≡ Some (Gen number)
AsksFor task.Later form = IsLater form
AsksFor task.Unknown form = form ≡ None
