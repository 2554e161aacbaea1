use Rattle.std.proofs.Common.{ℕ, List, Option, Some, None, subst}
use Rattle.ride_base.specs.Calls.{IsSoOf}
use Rattle.ride_base.specs.Outside.{Held, Untold, Absent, Text, IsAllOf}
use Rattle.ride_base.specs.Told.{WhereTold}

-- Facts of texts that may not be told.

-- a fact of what is left of it is one of what its name holds
pub of_held : (P : List ℕ → Type 0) (held : Held) (left : Option (List ℕ)) → IsAllOf held left → WhereTold left P → IsSoOf held P
of_held P Untold left b w = tt
of_held P Absent left b w = absurd b
of_held P (Text text) left b w = subst (λ (o : Option (List ℕ)). WhereTold o P) b w

-- a fact that follows from one that is so of a text, where it is told
pub told_so : (P Q : List ℕ → Type 0) (left : Option (List ℕ)) → ((text : List ℕ) → P text → Q text) → WhereTold left P → WhereTold left Q
told_so P Q None f w = tt
told_so P Q (Some text) f w = f text w
