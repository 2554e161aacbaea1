use Rattle.std.proofs.Common.{◌≡◌, ◌<◌, ◌++◌, ◌∷◌, [], false, length, rules, refl}
use Rattle.std.specs.Prelude.{slice_get}
use Rattle.ride_base.specs.Stored.{text_of, name_of, held_in, is_listed}
use Rattle.ride_base.proofs.Stored.{can_start, shows, some_within}
use Rattle.ride_base.proofs.memory.MemoryShelfShelf.begin.Goals as goal

pub returns-in-Some-clause-begun : goal.returns-in-Some-clause-begun
returns-in-Some-clause-begun c =
    let texts = c.self.inside.texts in
    let name = c.args.name.now in
    let i = c.in-Some.text in
    let found : text_of (slice_get texts i) ≡ held_in texts name = search rules in
    let within : i < length texts = search rules in
    let named : name_of (slice_get texts i) ≡ name = search rules in
    let listed : is_listed c.self.inside.failing name 0 ≡ false = search rules in
    let names : c.push.new.self ≡ c.self.inside.names ++ name ∷ [] = search rules in
    rw (← c.self.view_is) (
      can_start (slice_get texts i) (held_in texts name) _ found (some_within texts i within) listed,
      rw (names, shows (slice_get texts i) (held_in texts name) name i found (some_within texts i within) named) refl,
    )
