use Rattle.std.proofs.Common.{◌≡◌, true, false, Result, Ok, Err, ap}
use Rattle.std.specs.Prelude.{IsErr, IsErrAnd}

-- an error that was handed on
pub handed_on : {T E : Type 0} (result : Result T E) (e : E) → IsErr result × IsErrAnd result (λ x. x ≡ e) → result ≡ Err e
handed_on (Ok t) e h = let bad : false ≡ true = h.0 in cc
handed_on (Err x) e h = ap (λ y. Err y) h.1
