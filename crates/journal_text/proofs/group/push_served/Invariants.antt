use Rattle.std.proofs.Common.{◌≡◌, ◌++◌, drop, flat_map}
use Rattle.journal_text.specs.Groups.{served_line}
use Rattle.journal_text.proofs.group.push_served.Given as goal

abbrev pub invariant-loop-no : goal.invariant-loop-no
invariant-loop-no l = l.out.items ++ flat_map served_line (drop l.no-index l.served) ≡ l.fn.out.items ++ flat_map served_line l.served
