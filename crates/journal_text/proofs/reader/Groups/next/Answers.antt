use Rattle.std.proofs.Common.{ap, sym, ◌∙◌, Ok}
use Rattle.journal_text.specs.declared.reader.Held.{Held}
use Rattle.journal_text.specs.Readers.{GroupReader, group_of_held}
use Rattle.journal_text.proofs.NextGroup.{group_answer, bad_answer, nothing_held, empty_reader, never_faulted, came_to_end, over_at_end}
use Rattle.journal_text.proofs.reader.Groups.next.Goals as goal

pub returns-in_err-behind-clause-ended : goal.returns-in_err-behind-clause-ended
returns-in_err-behind-clause-ended g c = λ none held stopped over.
    let n = nothing_held c.self.inside.held c.self.invariant (ap (λ (x : GroupReader). x.held) c.self.view_is ∙ held) in
    never_faulted c.read.result _ c.in_err-behind.was (c.read.ensures.ended n.0 n.1 stopped over).0

pub returns-then-is_over-clause-tells : goal.returns-then-is_over-clause-tells
returns-then-is_over-clause-tells g c = λ reading.
    (group_answer c.args.self.now c.self.inside.held c.self.inside.bad c.args.lines.now _ c.read.new.self c.cut.new.self c.in_ok-behind.behind c.read.new.lines _ c.cut.result c.self.view_is c.in_default.is c.read.ensures.stays c.in_ok-behind.ensures.behind
    c.read.ensures.drafted (sym c.is_over.ensures ∙ c.if-is_over.true) c.cut.ensures.group c.cut.ensures.rest reading).tells

pub returns-then-is_over-clause-counts : goal.returns-then-is_over-clause-counts
returns-then-is_over-clause-counts g c = λ reading.
    (group_answer c.args.self.now c.self.inside.held c.self.inside.bad c.args.lines.now _ c.read.new.self c.cut.new.self c.in_ok-behind.behind c.read.new.lines _ c.cut.result c.self.view_is c.in_default.is c.read.ensures.stays c.in_ok-behind.ensures.behind
    c.read.ensures.drafted (sym c.is_over.ensures ∙ c.if-is_over.true) c.cut.ensures.group c.cut.ensures.rest reading).counts

pub returns-then-is_over-clause-ended : goal.returns-then-is_over-clause-ended
returns-then-is_over-clause-ended g c = λ none held stopped over.
    let n = nothing_held c.self.inside.held c.self.invariant (ap (λ (x : GroupReader). x.held) c.self.view_is ∙ held) in
    let e = c.read.ensures.ended n.0 n.1 stopped over in
    let rest = c.cut.ensures.rest in
    let same = empty_reader c.self.inside.held c.cut.new.self c.self.inside.bad n.0 n.1 (ap (λ (x : Held). x.draft) rest) (ap (λ (x : Held). x.has_line) rest ∙ e.2) ∙ c.self.view_is in
    (ap Ok (c.cut.ensures.group ∙ ap group_of_held e.1), (same, e.3, e.4))

pub returns-clause-tells : goal.returns-clause-tells
returns-clause-tells g c = λ reading.
    (bad_answer c.args.self.now c.self.inside.held c.self.inside.bad c.args.lines.now _ c.read.new.self c.in_ok-behind.behind c.read.new.lines _ c.bad_number-line.result c.self.view_is c.in_default.is c.read.ensures.stays c.in_ok-behind.ensures.behind
    c.read.ensures.drafted c.in_ok-behind.ensures.untaken (sym c.is_over.ensures ∙ c.if-is_over.false) c.bad_number-line.ensures reading).tells

pub returns-clause-reads : goal.returns-clause-reads
returns-clause-reads g c = λ reading.
    (bad_answer c.args.self.now c.self.inside.held c.self.inside.bad c.args.lines.now _ c.read.new.self c.in_ok-behind.behind c.read.new.lines _ c.bad_number-line.result c.self.view_is c.in_default.is c.read.ensures.stays c.in_ok-behind.ensures.behind
    c.read.ensures.drafted c.in_ok-behind.ensures.untaken (sym c.is_over.ensures ∙ c.if-is_over.false) c.bad_number-line.ensures reading).reading

pub returns-clause-ended : goal.returns-clause-ended
returns-clause-ended g c = λ none held stopped over.
    let n = nothing_held c.self.inside.held c.self.invariant (ap (λ (x : GroupReader). x.held) c.self.view_is ∙ held) in
    let e = c.read.ensures.ended n.0 n.1 stopped over in
    over_at_end c.read.new.self c.in_ok-behind.behind e.1 (came_to_end c.read.result c.in_ok-behind.behind c.in_ok-behind.was e.0) (sym c.is_over.ensures ∙ c.if-is_over.false)
