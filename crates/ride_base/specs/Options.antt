use Rattle.std.specs.Prelude.{Option, Some, None}

-- what comes of a value, where there is one
abbrev pub and_then : {X Y : Type 0} → Option X → (X → Option Y) → Option Y
and_then None next = None
and_then (Some x) next = next x
