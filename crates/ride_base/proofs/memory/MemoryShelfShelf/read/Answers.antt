use Rattle.std.proofs.Common.{◌≡◌, ◌+◌, ◌<◌, Some, Option, length, ◌∙◌, ap, rules}
use Rattle.std.specs.Prelude.{slice_get}
use Rattle.ride_base.specs.Stored.{left_of, shown, shown_in}
use Rattle.ride_base.specs.declared.memory.Progress.{Progress}
use Rattle.ride_base.specs.declared.memory.StoredText.{StoredText}
use Rattle.ride_base.proofs.Stored.{poured, text_here}
use Rattle.ride_base.proofs.memory.MemoryShelfShelf.read.Goals as goal

pub returns-clause-ok : goal.returns-clause-ok
returns-clause-ok c =
    let text = c.index-as_slice-place.result in
    let place = c.in-Some.place in
    let inside : place.text < length c.self.inside.texts = search rules in
    let found : slice_get c.self.inside.texts place.text ≡ Some text = text_here c.self.inside.texts place.text text inside (search rules) in
    rw (← c.self.view_is) (poured text.bytes c.args.piece.now c.pour-count.new.piece place.at c.pour-count.result c.self.inside.most _ _ c.requires.room c.self.invariant.0 (search rules) (search rules)
    (ap (λ (o : Option Progress). left_of (shown c.self.inside.texts o)) c.in-Some.is ∙ ap (λ (o : Option StoredText). left_of (shown_in place o)) found)
    (ap (λ (o : Option StoredText). left_of (shown_in (record { text = place.text; at = place.at + c.pour-count.result; reads = c.saturating_add-reads.result }) o)) found))
