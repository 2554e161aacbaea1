use Rattle.std.specs.Prelude.{Option, Some, None}
use Rattle.ride_base.specs.Reader.{Limit, Long, Large}
use Rattle.ride_base.specs.declared.lines.Limit.{Limit as CodeLimit}
use Rattle.ride_base.specs.declared.lines.Limit.TheVariants.{Long as CodeLong, Large as CodeLarge}

-- what the field of the reader says
abbrev pub shown_limit : Option CodeLimit → Option Limit
shown_limit None = None
shown_limit (Some CodeLong) = Some Long
shown_limit (Some CodeLarge) = Some Large
