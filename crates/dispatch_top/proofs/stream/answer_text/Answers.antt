use Rattle.std.proofs.Common.{Err, refl, ap, inl}
use Rattle.dispatch_top.proofs.EndsStream.{ends_stream, ends_unbegun}
use Rattle.dispatch_top.proofs.Moves.{reads_begun, reads_unbegun}
use Rattle.dispatch_top.proofs.stream.answer_text.Goals as goal

pub returns-in-Ok-clause-ends : goal.returns-in-Ok-clause-ends
returns-in-Ok-clause-ends g c = ends_stream _ c.args.name.now _ (g.S.Shelf.seen c.begin.new.self).left c.in-Ok.ensures.all c.answer_stream.ensures.read.begun c.answer_stream.result c.answer_stream.ensures.streamed

pub returns-in-Ok-clause-shelf : goal.returns-in-Ok-clause-shelf
returns-in-Ok-clause-shelf g c = λ h.
    reads_begun c.args.name.now _ (g.S.Shelf.seen c.args.shelf.now) (g.S.Shelf.seen c.begin.new.self) (g.S.Shelf.seen c.answer_stream.new.shelf) (c.in-Ok.ensures.named refl) c.in-Ok.ensures.holds c.in-Ok.ensures.counted c.in-Ok.ensures.sure c.in-Ok.ensures.as_quiet
    (λ s. c.in-Ok.ensures.silent s refl) (λ q. c.in-Ok.ensures.quiet q refl) (c.answer_stream.ensures.shelf h)

pub returns-in-Err-Failed-clause-ends : goal.returns-in-Err-Failed-clause-ends
returns-in-Err-Failed-clause-ends g c = ends_unbegun _ c.args.name.now _ (c.in-Err-Failed.ensures.unbegun (ap (λ x. Err x) c.in-Err-Failed.field-0-is)) refl

pub returns-in-Err-Failed-clause-shelf : goal.returns-in-Err-Failed-clause-shelf
returns-in-Err-Failed-clause-shelf g c = λ h.
    reads_unbegun c.args.name.now _ (g.S.Shelf.seen c.args.shelf.now) (g.S.Shelf.seen c.begin.new.self) refl (c.in-Err-Failed.ensures.failed (ap (λ x. Err x) c.in-Err-Failed.field-0-is)) c.in-Err-Failed.ensures.holds c.in-Err-Failed.ensures.counted c.in-Err-Failed.ensures.sure c.in-Err-Failed.ensures.as_quiet
    (c.in-Err-Failed.ensures.rose (ap (λ x. Err x) c.in-Err-Failed.field-0-is)) (λ s. c.in-Err-Failed.ensures.surely s (ap (λ x. Err x) c.in-Err-Failed.field-0-is))

pub returns-in-Err-NoMemory-clause-ends : goal.returns-in-Err-NoMemory-clause-ends
returns-in-Err-NoMemory-clause-ends g c = inl refl
