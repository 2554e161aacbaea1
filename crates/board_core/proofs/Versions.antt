use Rattle.std.proofs.Common.{◌≡◌, ◌+◌, [], ◌∷◌, sym, refl, ◌∙◌, subst, arith}
use Rattle.std.proofs.lemmas.List.{length-map}
use Rattle.road_graph.specs.Roads.{Roads}
use Rattle.insertion_cost.specs.declared.decision.Decision.TheVariants.{Assigned as IsAssigned, Nobody}
use Rattle.board_core.specs.declared.entry.Advanced.TheVariants.{Moved, Back as Behind}
use Rattle.board_core.specs.declared.entry.Cancelled.TheVariants.{Removed, Refused as Declined}
use Rattle.board_core.specs.declared.entry.Submitted.TheVariants.{Accepted, Refused}
use Rattle.board_core.specs.declared.entry.Entry.{Entry}
use Rattle.board_core.specs.declared.entry.Entry.TheVariants.{Submit, Claim, Back, Commit, Advance, Cancel, Shut}
use Rattle.board_core.specs.Boards.{Board}
use Rattle.board_core.specs.Laws.{IsLater, HistoriesRaiseVersions}
use Rattle.board_core.specs.Steps.{Step, moved_car}
use Rattle.board_core.proofs.Opened.{set_length}

-- how a later board is reached
later_by : (old made new : Board) → new ≡ made → IsLater old made 1 → IsLater old new 1
later_by old made new e h = subst (λ (b : Board). IsLater old b 1) (sym e) h

-- each lawful entry raises the version by one
pub step_later : (g : Roads) (old : Board) (e : Entry) (new : Board) → Step g old e new → IsLater old new 1
step_later g old (Submit r Accepted) new s = later_by old _ new s.1 (record { nodes = refl; rates = refl; vehicles = refl; version = refl })
step_later g old (Submit r (Refused reason)) new s = later_by old _ new s.1 (record { nodes = refl; rates = refl; vehicles = refl; version = refl })
step_later g old (Claim number desk) new s = later_by old _ new s.3 (record { nodes = refl; rates = refl; vehicles = refl; version = refl })
step_later g old (Back number) new s = later_by old _ new s.3 (record { nodes = refl; rates = refl; vehicles = refl; version = refl })
step_later g old (Commit number (IsAssigned a)) new s = later_by old _ new s.leads_to (record { nodes = refl; rates = refl; vehicles = set_length old.fleet.cars _ _; version = refl })
step_later g old (Commit number Nobody) new s = later_by old _ new s.leads_to (record { nodes = refl; rates = refl; vehicles = refl; version = refl })
step_later g old (Advance now (Moved served)) new s = later_by old _ new s.2
    (record { nodes = refl; rates = refl; vehicles = length-map old.fleet.cars (moved_car old.fleet.rates (old.fleet.version + 1) now); version = refl })
step_later g old (Advance now (Behind clock)) new s = later_by old _ new s.2 (record { nodes = refl; rates = refl; vehicles = refl; version = refl })
step_later g old (Cancel number (Removed x)) new s = later_by old _ new s.leads_to (record { nodes = refl; rates = refl; vehicles = set_length old.fleet.cars _ _; version = refl })
step_later g old (Cancel number (Declined reason)) new s = later_by old _ new s.1 (record { nodes = refl; rates = refl; vehicles = refl; version = refl })
step_later g old Shut new s = later_by old _ new s.1 (record { nodes = refl; rates = refl; vehicles = refl; version = refl })

-- so does each entry of a legal history
pub versions_rise : HistoriesRaiseVersions
versions_rise g first [] last l = subst (λ (b : Board). IsLater first b 0) (sym l) (record { nodes = refl; rates = refl; vehicles = refl; version = omega arith })
versions_rise g first (e ∷ history) last l =
    let s = step_later g first e l.0 l.1 in
    let r = versions_rise g l.0 history last l.2 in
    record {
      nodes = r.nodes ∙ s.nodes;
      rates = r.rates ∙ s.rates;
      vehicles = r.vehicles ∙ s.vehicles;
      version = (let a = r.version in let b = s.version in omega arith);
    }
