use Rattle.std.proofs.Common.{◌≡◌, ℕ, true, List, [], ◌∷◌, ◌++◌, Option, Some, None, sym, subst}
use Rattle.ride_base.specs.declared.numbers.RequestNo.{RequestNo}
use Rattle.road_graph.specs.Graphs.{IsGraph}
use Rattle.road_graph.specs.Roads.{Roads}
use Rattle.stop_schedule.specs.declared.request.Request.{Request}
use Rattle.stop_removal.specs.Laws.{RemovalsKeepPromises}
use Rattle.insertion_cost.specs.declared.decision.Decision.TheVariants.{Assigned as IsAssigned, Nobody}
use Rattle.board_core.specs.declared.entry.Submitted.TheVariants.{Accepted, Refused}
use Rattle.board_core.specs.declared.entry.Advanced.TheVariants.{Moved, Back as Behind}
use Rattle.board_core.specs.declared.entry.Cancelled.TheVariants.{Removed, Refused as Declined}
use Rattle.board_core.specs.declared.entry.Entry.{Entry}
use Rattle.board_core.specs.declared.entry.Entry.TheVariants.{Submit, Claim, Back, Commit, Advance, Cancel, Shut}
use Rattle.board_core.specs.Boards.{Board, with_holder, with_next_version}
use Rattle.board_core.specs.Histories.{Legal}
use Rattle.board_core.specs.Steps.{refusal, Step}
use Rattle.board_core.proofs.SoundBoards.{IsSoundBoard, next_cars, answered_sound, assigned_sound, removed_sound, later_sound}
use Rattle.board_core.proofs.Consistent.{next_consistent, submitted_consistent, held_consistent}

-- an accepted request leaves the board sound
submitted_sound : (g : Roads) (b : Board) (r : Request) → refusal b r ≡ None → IsSoundBoard g b → IsSoundBoard g (record (with_next_version b) { waiting = b.waiting ++ record { request = r; holder = None } ∷ [] })
submitted_sound g b r h s = record { cars = next_cars g b.fleet s.cars; rising = s.rising; consistent = submitted_consistent b r h s.consistent }

-- so does another holder
held_sound : (g : Roads) (b : Board) (number : RequestNo) (holder : Option ℕ) → IsSoundBoard g b → IsSoundBoard g (record (with_next_version b) { waiting = with_holder number holder b.waiting })
held_sound g b number holder s = record { cars = next_cars g b.fleet s.cars; rising = s.rising; consistent = held_consistent b number holder s.consistent }

-- only the version is raised
next_sound : (g : Roads) (b : Board) → IsSoundBoard g b → IsSoundBoard g (with_next_version b)
next_sound g b h = record { cars = next_cars g b.fleet h.cars; rising = h.rising; consistent = next_consistent b h.consistent }

shut_sound : (g : Roads) (b : Board) → IsSoundBoard g b → IsSoundBoard g (record (with_next_version b) { closed = true })
shut_sound g b h = record { cars = next_cars g b.fleet h.cars; rising = h.rising; consistent = record { planned = h.consistent.planned; waiting = h.consistent.waiting } }

-- each lawful entry leaves the board sound
pub step_sound : RemovalsKeepPromises → (g : Roads) → IsGraph g → (old : Board) (e : Entry) (new : Board) → Step g old e new → IsSoundBoard g old → IsSoundBoard g new
step_sound removals g graph old (Submit r Accepted) new s h = subst (IsSoundBoard g) (sym s.1) (submitted_sound g old r s.0 h)
step_sound removals g graph old (Submit r (Refused reason)) new s h = subst (IsSoundBoard g) (sym s.1) (next_sound g old h)
step_sound removals g graph old (Claim number desk) new s h = subst (IsSoundBoard g) (sym s.3) (held_sound g old number (Some desk) h)
step_sound removals g graph old (Back number) new s h = subst (IsSoundBoard g) (sym s.3) (held_sound g old number None h)
step_sound removals g graph old (Commit number (IsAssigned a)) new s h = assigned_sound g graph old number a new s h
step_sound removals g graph old (Commit number Nobody) new s h = subst (IsSoundBoard g) (sym s.leads_to) (answered_sound g old number Nobody h)
step_sound removals g graph old (Advance now (Moved served)) new s h = subst (IsSoundBoard g) (sym s.2) (later_sound g graph old now h)
step_sound removals g graph old (Advance now (Behind clock)) new s h = subst (IsSoundBoard g) (sym s.2) (next_sound g old h)
step_sound removals g graph old (Cancel number (Removed x)) new s h = removed_sound removals g graph old number x new s h
step_sound removals g graph old (Cancel number (Declined reason)) new s h = subst (IsSoundBoard g) (sym s.1) (next_sound g old h)
step_sound removals g graph old Shut new s h = subst (IsSoundBoard g) (sym s.1) (shut_sound g old h)

-- so does every legal history
pub legal_sound : RemovalsKeepPromises → (g : Roads) → IsGraph g → (first : Board) (entries : List Entry) (last : Board) → Legal g first entries last → IsSoundBoard g first → IsSoundBoard g last
legal_sound removals g graph first [] last l h = subst (IsSoundBoard g) (sym l) h
legal_sound removals g graph first (e ∷ entries) last l h = legal_sound removals g graph l.0 entries last l.2 (step_sound removals g graph first e l.0 l.1 h)
