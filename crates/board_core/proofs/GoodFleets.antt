use Rattle.std.proofs.Common.{ℕ, suc, ◌≤◌, List, [], ◌∷◌, Some, sym, refl, ap, subst, arith}
use Rattle.road_graph.specs.Roads.{Roads}
use Rattle.stop_schedule.specs.Fleets.{Car, IsGoodCar}
use Rattle.stop_schedule.specs.Limits.{latest_moment}
use Rattle.stop_schedule.specs.Rates.{Rates}
use Rattle.stop_removal.specs.Laws.{RemovalsKeepPromises}
use Rattle.insertion_cost.specs.declared.decision.Decision.TheVariants.{Assigned as IsAssigned, Nobody}
use Rattle.board_core.specs.declared.entry.Advanced.TheVariants.{Moved, Back as Behind}
use Rattle.board_core.specs.declared.entry.Cancelled.TheVariants.{Removed, Refused as Declined}
use Rattle.board_core.specs.declared.entry.Submitted.TheVariants.{Accepted, Refused}
use Rattle.board_core.specs.declared.entry.Entry.{Entry}
use Rattle.board_core.specs.declared.entry.Entry.TheVariants.{Submit, Claim, Back, Commit, Advance, Cancel, Shut}
use Rattle.board_core.specs.Boards.{Board, opening_board}
use Rattle.board_core.specs.Histories.{Legal}
use Rattle.board_core.specs.Laws.{HasEarlyMoves, IsEarlyMove, IsGoodBoard, OpeningBoardsAreGood, EntriesLeaveGoodBoards, HistoriesLeaveGoodBoards, LegalHistoriesLeaveGoodFleets}
use Rattle.board_core.specs.Steps.{Step}
use Rattle.board_core.proofs.GoodPlans.{good_plan, good_from}
use Rattle.board_core.proofs.SoundBoards.{IsSoundBoard, IsSoundCar, opening_sound}
use Rattle.board_core.proofs.SoundSteps.{step_sound, legal_sound}

clock_of : Board → ℕ
clock_of b = b.fleet.clock

-- the clock moves by an early move alone
step_early : (g : Roads) (old : Board) (e : Entry) (new : Board) → Step g old e new → IsEarlyMove e → old.fleet.clock ≤ latest_moment → new.fleet.clock ≤ latest_moment
step_early g old (Submit r Accepted) new s early h = subst (λ (b : Board). b.fleet.clock ≤ latest_moment) (sym s.1) h
step_early g old (Submit r (Refused reason)) new s early h = subst (λ (b : Board). b.fleet.clock ≤ latest_moment) (sym s.1) h
step_early g old (Claim number desk) new s early h = subst (λ (b : Board). b.fleet.clock ≤ latest_moment) (sym s.3) h
step_early g old (Back number) new s early h = subst (λ (b : Board). b.fleet.clock ≤ latest_moment) (sym s.3) h
step_early g old (Commit number (IsAssigned a)) new s early h = subst (λ (b : Board). b.fleet.clock ≤ latest_moment) (sym s.leads_to) h
step_early g old (Commit number Nobody) new s early h = subst (λ (b : Board). b.fleet.clock ≤ latest_moment) (sym s.leads_to) h
step_early g old (Advance now (Moved served)) new s early h = subst (λ (b : Board). b.fleet.clock ≤ latest_moment) (sym s.2) (early now (Moved served) refl)
step_early g old (Advance now (Behind clock)) new s early h = subst (λ (b : Board). b.fleet.clock ≤ latest_moment) (sym s.2) h
step_early g old (Cancel number (Removed x)) new s early h = subst (λ (b : Board). b.fleet.clock ≤ latest_moment) (sym s.leads_to) h
step_early g old (Cancel number (Declined reason)) new s early h = subst (λ (b : Board). b.fleet.clock ≤ latest_moment) (sym s.1) h
step_early g old Shut new s early h = subst (λ (b : Board). b.fleet.clock ≤ latest_moment) (sym s.1) h

legal_early : (g : Roads) (first : Board) (entries : List Entry) (last : Board) → Legal g first entries last → HasEarlyMoves entries → first.fleet.clock ≤ latest_moment → last.fleet.clock ≤ latest_moment
legal_early g first [] last l early h = subst (λ (b : Board). b.fleet.clock ≤ latest_moment) (sym l) h
legal_early g first (e ∷ entries) last l early h = legal_early g l.0 entries last l.2 (λ k now advanced x. early (suc k) now advanced x)
    (step_early g first e l.0 l.1 (λ now advanced x. early 0 now advanced (ap (λ (y : Entry). Some y) x)) h)

-- a sound vehicle is good
good_car : (g : Roads) (rates : Rates) (clock version : ℕ) (car : Car) → IsSoundCar g rates clock version car → IsGoodCar g rates clock version car
good_car g rates clock version car x = let p = good_plan g rates clock car.plan x.plan in
    record { stamp = x.stamp; placed = p.placed; proper = p.proper; kept = p.kept; least_walks = p.least_walks; ahead = p.ahead }

-- and the other way round
sound_car : (g : Roads) (rates : Rates) (clock version : ℕ) (car : Car) → IsGoodCar g rates clock version car → IsSoundCar g rates clock version car
sound_car g rates clock version car h = record {
  plan = good_from g rates clock car.plan (record { placed = h.placed; proper = h.proper; kept = h.kept; least_walks = h.least_walks; ahead = h.ahead });
  stamp = h.stamp;
}

-- a sound board is good where its clock isn't too late
good_board : (g : Roads) (b : Board) → b.fleet.clock ≤ latest_moment → IsSoundBoard g b → IsGoodBoard g b
good_board g b early sound = record {
  fleet = record {
    clock = early;
    rising = sound.rising;
    each = λ k car e. good_car g b.fleet.rates b.fleet.clock b.fleet.version car (sound.cars k car e);
  };
  consistent = sound.consistent;
}

-- and the other way round
sound_board : (g : Roads) (b : Board) → IsGoodBoard g b → IsSoundBoard g b
sound_board g b h = record {
  cars = λ k car e. sound_car g b.fleet.rates b.fleet.clock b.fleet.version car (h.fleet.each k car e);
  rising = h.fleet.rising;
  consistent = h.consistent;
}

-- a board before any entry is good
pub opening_good : OpeningBoardsAreGood
opening_good g rates vehicles fleet = good_board g (opening_board g.nodes rates vehicles) (omega arith) (opening_sound g rates vehicles fleet)

-- each lawful entry leaves a good board good
pub entry_good : RemovalsKeepPromises → EntriesLeaveGoodBoards
entry_good removals g old e new graph early s h =
    good_board g new (step_early g old e new s early h.fleet.clock) (step_sound removals g graph old e new s (sound_board g old h))

-- so do lawful entries one after another
pub history_good : RemovalsKeepPromises → HistoriesLeaveGoodBoards
history_good removals g first history last graph early l h =
    good_board g last (legal_early g first history last l early h.fleet.clock) (legal_sound removals g graph first history last l (sound_board g first h))

-- every legal history leaves a good fleet
pub good_fleets : RemovalsKeepPromises → LegalHistoriesLeaveGoodFleets
good_fleets removals g rates vehicles history last graph fleet early l =
    (history_good removals g (opening_board g.nodes rates vehicles) history last graph early l (opening_good g rates vehicles fleet)).fleet
