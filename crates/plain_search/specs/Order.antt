use Rattle.std.specs.Prelude.{List, map}
use Rattle.std.specs.declared.cmp.Reverse.{Reverse}
use Rattle.plain_search.specs.declared.nearest.Candidate.{Candidate}

-- the candidates of a heap of reversed ones
abbrev pub held_of : List (Reverse Candidate) → List Candidate
held_of = map (λ (r : Reverse Candidate). r.0)
