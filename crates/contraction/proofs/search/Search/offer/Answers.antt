use Rattle.std.proofs.Common.{refl}
use Rattle.contraction.proofs.IsSearch.{admitted}
use Rattle.contraction.proofs.search.Search.offer.Goals as goal

pub returns-clause-admits : goal.returns-clause-admits
returns-clause-admits c = admitted c.args.self.now _ c.args.candidate c.requires refl refl refl c.in_ok-push.ensures
