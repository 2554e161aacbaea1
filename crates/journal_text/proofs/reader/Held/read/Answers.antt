use Rattle.std.proofs.Common.{sym, subst, ◌∙◌, rules, ℕ, IfSome, Option}
use Rattle.ride_base.proofs.ShelfLaws.{only_read-trans}
use Rattle.journal_text.specs.declared.draft.Draft.{Draft}
use Rattle.journal_text.specs.DraftTexts.{IsDraft}
use Rattle.journal_text.specs.Readers.{IsUntaken}
use Rattle.journal_text.proofs.HeldLines.{drafted_taken, stays_taken, stays_then, untaken, is_untaken, was_taken, never_at_end, leaves_then}
use Rattle.journal_text.proofs.reader.Held.read.Goals as goal

pub lines-init : goal.lines-init
lines-init g c = record {
  drafted = subst (λ (o : Option Draft). IfSome o IsDraft) (sym c.fill.ensures.draft) c.requires.drafted;
  stays = c.fill.ensures.stays;
  behind = c.in_ok-behind.ensures.behind;
  ended = λ d n s o. let t = c.fill.ensures.ended d n s o in (sym c.in_ok-behind.was ∙ t.0, t.1, t.2, t.3, t.4);
  quiet = search rules;
  held = search rules;
  shelf = c.fill.ensures.shelf;
}

pub returns-in_err-take-clause-stays : goal.returns-in_err-take-clause-stays
returns-in_err-take-clause-stays g c = rw c.in_err-take.ensures.err c.lines.invariant.stays

pub returns-in_err-take-clause-ended : goal.returns-in_err-take-clause-ended
returns-in_err-take-clause-ended g c = λ d n s o. never_at_end c.lines.behind c.in_err-take.ensures.next (c.lines.invariant.ended d n s o).0

pub returns-in_err-behind-2-clause-drafted : goal.returns-in_err-behind-2-clause-drafted
returns-in_err-behind-2-clause-drafted g c =
    let t = rw c.if-branch.true at c.in_ok-take.ensures.ok in
    subst (λ (o : Option Draft). IfSome o IsDraft) (sym c.fill-in-lines.ensures.draft) (drafted_taken c.lines.behind c.lines.self c.given.result c.take.new.self c.lines.invariant.drafted t)

pub returns-in_err-behind-2-clause-stays : goal.returns-in_err-behind-2-clause-stays
returns-in_err-behind-2-clause-stays g c =
    let t = rw c.if-branch.true at c.in_ok-take.ensures.ok in
    let i = c.lines.invariant in
    stays_then (stays_taken _ c.lines.behind c.lines.self c.given.result c.take.new.self c.lines.lines (g.S.Shelf.seen c.lines.shelf) c.given.ensures.given i.stays i.behind i.drafted t) c.fill-in-lines.ensures.stays

pub lines-preserved : goal.lines-preserved
lines-preserved g c =
    let t = rw c.if-branch.true at c.in_ok-take.ensures.ok in
    let i = c.lines.invariant in
    let taken = stays_taken _ c.lines.behind c.lines.self c.given.result c.take.new.self c.lines.lines (g.S.Shelf.seen c.lines.shelf) c.given.ensures.given i.stays i.behind i.drafted t in
    record {
      drafted = subst (λ (o : Option Draft). IfSome o IsDraft) (sym c.fill-in-lines.ensures.draft) (drafted_taken c.lines.behind c.lines.self c.given.result c.take.new.self i.drafted t);
      stays = stays_then taken c.fill-in-lines.ensures.stays;
      behind = leaves_then _ _ c.in_ok-behind-2.behind c.fill-in-lines.new.self c.fill-in-lines.new.lines (g.S.Shelf.seen c.fill-in-lines.new.shelf) taken c.in_ok-behind-2.ensures.behind;
      ended = λ d n s o. never_at_end c.lines.behind (was_taken c.lines.behind c.lines.self c.given.result c.take.new.self t).next (i.ended d n s o).0;
      quiet = search rules;
      held = search rules;
      shelf = only_read-trans i.shelf c.fill-in-lines.ensures.shelf;
    }

pub returns-clause-stays : goal.returns-clause-stays
returns-clause-stays g c =
    let t = rw c.if-branch.false at c.in_ok-take.ensures.ok in
    rw (untaken c.lines.behind c.lines.self c.given.result c.take.new.self t) c.lines.invariant.stays

pub returns-clause-behind : goal.returns-clause-behind
returns-clause-behind g c =
    let t = rw c.if-branch.false at c.in_ok-take.ensures.ok in
    rw (untaken c.lines.behind c.lines.self c.given.result c.take.new.self t) c.lines.invariant.behind

pub returns-clause-untaken : goal.returns-clause-untaken
returns-clause-untaken g c =
    let t = rw c.if-branch.false at c.in_ok-take.ensures.ok in
    rw (untaken c.lines.behind c.lines.self c.given.result c.take.new.self t) (subst (λ (n : ℕ). IsUntaken c.lines.behind c.lines.self n) c.given.ensures.given (is_untaken c.lines.behind c.lines.self c.given.result c.take.new.self t))
