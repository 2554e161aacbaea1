use Rattle.std.proofs.Common.{◌∙◌, sym, ap, slice_get}
use Rattle.version_array.proofs.Levels.{way_to, value_at, in_bottom}
use Rattle.version_array.proofs.versions.VersionArray.get.Goals as goal

pub get-requires-2 : goal.get-requires-2
get-requires-2 g c = in_bottom _ _ _ _ _ (way_to c.self.invariant c.self.view_is c.requires c.get-row.ensures c.get.ensures)

pub returns : goal.returns
returns g c =
    ap (λ values. slice_get values c.args.place) (sym c.self.view_is)
    ∙ value_at _ _ _ _ _ (way_to c.self.invariant c.self.view_is c.requires c.get-row.ensures c.get.ensures)
    ∙ c.get-2.ensures
