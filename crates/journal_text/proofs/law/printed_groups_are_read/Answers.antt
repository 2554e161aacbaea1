use Rattle.journal_text.proofs.law.printed_groups_are_read.Goals as goal
use Rattle.journal_text.proofs.JournalLaws.{one_next, one_spelling}
use Rattle.journal_text.proofs.RoundTrips.{group_is_next, last_is_next, lines_of_groups}
use Rattle.journal_text.proofs.TextPieces.{groups_pieces}

pub returns : goal.returns
returns c = record {
  next = group_is_next;
  last = last_is_next;
  one = λ next ahead g other rest left n m. let both = one_next next ahead g other rest left n m in (both.groups, both.rests);
  apart = one_spelling;
  parted = groups_pieces;
  all = lines_of_groups;
}
