use Rattle.std.specs.Prelude.{List, map}
use Rattle.road_graph.specs.declared.road.NodeNo.{NodeNo}
use Rattle.road_graph.specs.Paths.{Path}
use Rattle.stop_removal.specs.declared.removal.Removal.{Removal}
use Rattle.insertion_cost.specs.declared.decision.Assigned.{Assigned}
use Rattle.insertion_cost.specs.declared.decision.Decision.{Decision}
use Rattle.insertion_cost.specs.declared.decision.Decision.TheVariants.{Assigned as IsAssigned, Nobody}
use Rattle.board_core.specs.declared.entry.Cancelled.{Cancelled}
use Rattle.board_core.specs.declared.entry.Cancelled.TheVariants.{Removed, Refused as Declined}
use Rattle.board_core.specs.declared.entry.Entry.{Entry}
use Rattle.board_core.specs.declared.entry.Entry.TheVariants.{Submit, Claim, Back, Commit, Advance, Cancel, Shut}
use Rattle.journal_text.specs.declared.text.TextOffer.{TextOffer}
use Rattle.journal_text.specs.declared.text.TextDecision.{TextDecision}
use Rattle.journal_text.specs.declared.text.TextDecision.TheVariants as answer
use Rattle.journal_text.specs.declared.text.TextRemoval.{TextRemoval}
use Rattle.journal_text.specs.declared.text.TextCancelled.{TextCancelled}
use Rattle.journal_text.specs.declared.text.TextCancelled.TheVariants as cancelled
use Rattle.journal_text.specs.declared.text.TextEntry.{TextEntry}
use Rattle.journal_text.specs.declared.text.TextEntry.TheVariants as text

-- the nodes of walks
abbrev pub nodes_of : List Path → List (List NodeNo)
nodes_of walks = map (λ (w : Path). w.nodes) walks

abbrev pub text_offer : Assigned → TextOffer
text_offer a = record { no = a.offer.no; at = a.offer.at; cost = a.offer.cost; leave = a.offer.leave; arrive = a.offer.arrive; walks = nodes_of a.walks }

abbrev pub text_decision : Decision → TextDecision
text_decision (IsAssigned a) = answer.Assigned (text_offer a)
text_decision Nobody = answer.Nobody

abbrev pub text_removal : Removal → TextRemoval
text_removal x = record { no = x.no; pickup = x.pickup; dropoff = x.dropoff; walks = nodes_of x.walks }

abbrev pub text_cancelled : Cancelled → TextCancelled
text_cancelled (Removed x) = cancelled.Removed (text_removal x)
text_cancelled (Declined reason) = cancelled.Refused reason

-- an entry's text form: node lists stand for walks, and the offer has no place
abbrev pub text_entry : Entry → TextEntry
text_entry (Submit r submitted) = text.Submit r submitted
text_entry (Claim number desk) = text.Claim number desk
text_entry (Back number) = text.Back number
text_entry (Commit number decision) = text.Commit number (text_decision decision)
text_entry (Advance now advanced) = text.Advance now advanced
text_entry (Cancel number c) = text.Cancel number (text_cancelled c)
text_entry Shut = text.Shut
