use Rattle.std.proofs.Common.{◌≡◌, ℕ, ◌≤◌, List, [], ◌++◌, refl, sym, ap, subst, ◌∙◌, append-nil, length}
use Rattle.ride_base.specs.Pieces.{largest_text}
use Rattle.road_graph.specs.Roads.{Roads}
use Rattle.stop_schedule.specs.declared.vehicle.Vehicle.{Vehicle}
use Rattle.stop_schedule.specs.Bounds.{AreVehicles}
use Rattle.stop_schedule.specs.Rates.{Rates}
use Rattle.board_core.specs.Boards.{opening_board}
use Rattle.board_core.specs.BoardViews.{board_of}
use Rattle.board_core.specs.Histories.{Event}
use Rattle.dispatch_top.specs.declared.dispatcher.Dispatcher.{Dispatcher}
use Rattle.dispatch_top.specs.Answerers.{GoesOn, HasFew, HasGone}
use Rattle.dispatch_top.specs.Answering.{AreAnswered, IsReady}
use Rattle.dispatch_top.specs.Dispatchers.{HasDispatched, IsOpened}
use Rattle.dispatch_top.specs.Dispatching.{HasAnswered, HistoriesAreGood}
use Rattle.dispatch_top.specs.GenMode.{AreSumsOf}
use Rattle.dispatch_top.specs.Histories.{IsHistoryOf}
use Rattle.dispatch_top.specs.Sums.{AreFew, no_sums}
use Rattle.dispatch_top.proofs.Dispatched.{answered_more, are_sums, is_history, none_yet, ready_on}

-- What an answerer that dispatches did.

abbrev pub holds_none : Dispatcher → List Event
holds_none now = []

-- one that was just made
pub opened : (roads : Roads) (rates : Rates) (vehicles : List Vehicle) (made : Dispatcher) → HistoriesAreGood roads → AreVehicles roads.nodes vehicles → made.graph.now ≡ roads → made.answers.graph.now ≡ roads
    → board_of made.board ≡ opening_board roads.nodes rates vehicles → made.sums ≡ no_sums → IsOpened roads rates vehicles made
opened roads rates vehicles made law good graph prices board sums = record {
  graph = graph;
  board = board;
  fresh = record {
    graph = refl;
    prices = prices ∙ sym graph;
    answered = rw (graph, sums) (none_yet roads law (board_of made.board) rates vehicles good board);
  };
}

-- it is ready for what is said next
pub is_ready : (now : Dispatcher) → HasFew HasDispatched holds_none now → IsReady now.graph.now (board_of now.board)
is_ready now h =
    rw h.has.graph (ready_on h.first.graph.now (board_of h.first.board) (board_of now.board) h.events h.printed now.sums h.has.answered
    (subst (λ (l : List Event). length l ≤ largest_text) (append-nil h.events) h.few))

-- what it counted is no more than its board's entries
pub few_sums : (now : Dispatcher) → HasFew HasDispatched holds_none now → AreFew (board_of now.board).fleet.version now.sums
few_sums now h = h.has.answered.small

-- and prices over its graph
pub prices : (now : Dispatcher) → HasFew HasDispatched holds_none now → now.answers.graph.now ≡ now.graph.now
prices now h = h.has.prices ∙ sym h.has.graph

-- it answered
pub goes_on : (old new : Dispatcher) (more : List Event) (text : List ℕ) → HistoriesAreGood old.graph.now → new.graph.now ≡ old.graph.now → new.answers.graph.now ≡ old.answers.graph.now
    → AreAnswered old.graph.now (board_of old.board) more (board_of new.board) text old.sums new.sums → GoesOn HasDispatched holds_none old more new text
goes_on old new more text law graph priced answered = λ first asked printed h.
    let law_then = subst (λ (g : Roads). HistoriesAreGood g) h.has.graph law in
    let answered_then = subst (λ (g : Roads). AreAnswered g (board_of old.board) more (board_of new.board) text old.sums new.sums) h.has.graph answered in
    record {
      events = h.events ++ more;
      has = record {
        graph = graph ∙ h.has.graph;
        prices = priced ∙ h.has.prices;
        answered = answered_more first.graph.now law_then (board_of first.board) (board_of old.board) (board_of new.board) h.events more printed text old.sums new.sums h.has.answered answered_then;
      };
      asks = append-nil (h.events ++ more) ∙ ap (λ (l : List Event). l ++ more) (sym (append-nil h.events) ∙ h.asks);
    }

-- nothing was held back
pub goes_still : (now : Dispatcher) (text : List ℕ) → text ≡ [] → GoesOn HasDispatched holds_none now [] now text
goes_still now text none = λ first asked printed h. record {
  events = h.events;
  has = subst (λ (l : List ℕ). HasDispatched first now h.events l) (sym (ap (λ (l : List ℕ). printed ++ l) none ∙ append-nil printed)) h.has;
  asks = h.asks ∙ sym (append-nil asked);
}

-- what it answered since its vehicles were at their starts
pub dispatched : (roads : Roads) (rates : Rates) (vehicles : List Vehicle) (first : Dispatcher) → IsOpened roads rates vehicles first → (events : List Event) (printed : List ℕ) → HasGone HasDispatched first events printed
    → IsHistoryOf roads rates vehicles events printed
dispatched roads rates vehicles first o events printed h =
    is_history roads rates vehicles (board_of first.board) (board_of h.0.board) events printed h.0.sums o.board (subst (λ (g : Roads). HasAnswered g (board_of first.board) (board_of h.0.board) events printed h.0.sums) o.graph h.1.answered)

-- and what it counted of that
pub summed : (roads : Roads) (rates : Rates) (vehicles : List Vehicle) (first now : Dispatcher) → IsOpened roads rates vehicles first → (events : List Event) (printed : List ℕ) → HasDispatched first now events printed
    → AreSumsOf roads rates vehicles events now.sums
summed roads rates vehicles first now o events printed h =
    are_sums roads rates vehicles (board_of first.board) (board_of now.board) events printed now.sums o.board (subst (λ (g : Roads). HasAnswered g (board_of first.board) (board_of now.board) events printed now.sums) o.graph h.answered)
