use Rattle.std.proofs.Common.{◌≡◌, ℕ, zero, suc, ◌≤◌, List, [], ◌∷◌, ◌++◌, Some, refl, sym, ap, subst, ◌∙◌, arith, append_assoc, length, length-append, inl, inr, ◌⊎◌}
use Rattle.std.specs.Prelude.{slice_get}
use Rattle.ride_base.specs.Pieces.{largest_text}
use Rattle.road_graph.specs.Roads.{Roads}
use Rattle.stop_schedule.specs.declared.vehicle.Vehicle.{Vehicle}
use Rattle.stop_schedule.specs.Bounds.{AreVehicles}
use Rattle.stop_schedule.specs.Fleets.{IsGoodFleet}
use Rattle.stop_schedule.specs.Limits.{latest_moment}
use Rattle.stop_schedule.specs.Rates.{Rates}
use Rattle.board_core.specs.declared.entry.Advanced.{Advanced}
use Rattle.board_core.specs.declared.entry.Submitted.TheVariants.{Accepted, Refused}
use Rattle.board_core.specs.declared.entry.Entry.{Entry}
use Rattle.board_core.specs.declared.entry.Entry.TheVariants.{Submit, Claim, Back, Commit, Advance, Cancel, Shut}
use Rattle.board_core.specs.Boards.{Board, opening_board}
use Rattle.board_core.specs.Histories.{Legal, Event, Ride, Move, Withdraw, events_in, AreAnsweredAtOnce}
use Rattle.board_core.specs.Laws.{HasEarlyMoves}
use Rattle.board_core.specs.Promises.{KeepsPromises}
use Rattle.board_core.proofs.HistoryLaws.{legal_append}
use Rattle.journal_text.specs.Groups.{group, journal_of}
use Rattle.dispatch_top.specs.Answering.{AreAnswered, IsReady}
use Rattle.dispatch_top.specs.Dispatching.{HasAnswered, HistoriesAreGood}
use Rattle.dispatch_top.specs.declared.sums.Sums.{Sums}
use Rattle.dispatch_top.specs.GenMode.{AreSumsOf}
use Rattle.dispatch_top.specs.Histories.{IsHistoryOf}
use Rattle.dispatch_top.specs.Sums.{counted, counted_on, no_sums}

-- What is answered on a board since its vehicles were at their starts.

-- ---- two histories, one after the other

asked_more : (a b : List Entry) → events_in (a ++ b) ≡ events_in a ++ events_in b
asked_more [] b = refl
asked_more (Submit r s ∷ a) b = ap (λ (l : List Event). Ride r ∷ l) (asked_more a b)
asked_more (Claim n desk ∷ a) b = asked_more a b
asked_more (Back n ∷ a) b = asked_more a b
asked_more (Commit n d ∷ a) b = asked_more a b
asked_more (Advance now s ∷ a) b = ap (λ (l : List Event). Move now ∷ l) (asked_more a b)
asked_more (Cancel n s ∷ a) b = ap (λ (l : List Event). Withdraw n ∷ l) (asked_more a b)
asked_more (Shut ∷ a) b = asked_more a b

at_once_more : (a b : List Entry) → AreAnsweredAtOnce a → AreAnsweredAtOnce b → AreAnsweredAtOnce (a ++ b)
at_once_more [] b h k = k
at_once_more (Submit r Accepted ∷ Commit n d ∷ a) b h k = (h.0, at_once_more a b h.1 k)
at_once_more (Submit r Accepted ∷ []) b h k = absurd h
at_once_more (Submit r Accepted ∷ Submit s t ∷ a) b h k = absurd h
at_once_more (Submit r Accepted ∷ Claim n desk ∷ a) b h k = absurd h
at_once_more (Submit r Accepted ∷ Back n ∷ a) b h k = absurd h
at_once_more (Submit r Accepted ∷ Advance now s ∷ a) b h k = absurd h
at_once_more (Submit r Accepted ∷ Cancel n s ∷ a) b h k = absurd h
at_once_more (Submit r Accepted ∷ Shut ∷ a) b h k = absurd h
at_once_more (Submit r (Refused reason) ∷ a) b h k = at_once_more a b h k
at_once_more (Advance now s ∷ a) b h k = at_once_more a b h k
at_once_more (Cancel n s ∷ a) b h k = at_once_more a b h k
at_once_more (Claim n desk ∷ a) b h k = absurd h
at_once_more (Back n ∷ a) b h k = absurd h
at_once_more (Commit n d ∷ a) b h k = absurd h
at_once_more (Shut ∷ a) b h k = absurd h

pub journal_more : (a b : List Entry) → journal_of (a ++ b) ≡ journal_of a ++ journal_of b
journal_more [] b = refl
journal_more (e ∷ a) b = ap (λ (l : List ℕ). group e ++ l) (journal_more a b) ∙ sym (append_assoc (group e) (journal_of a) (journal_of b))

-- what stands in two lists stands in one of them
in_both : (a b : List Entry) (k : ℕ) (e : Entry) → slice_get (a ++ b) k ≡ Some e → (slice_get a k ≡ Some e) ⊎ ((l : ℕ) × (slice_get b l ≡ Some e))
in_both [] b k e h = inr (k, h)
in_both (x ∷ a) b zero e h = inl h
in_both (x ∷ a) b (suc k) e h = in_both a b k e h

early_more : (a b : List Entry) → HasEarlyMoves a → HasEarlyMoves b → HasEarlyMoves (a ++ b)
early_more a b h k = λ n now advanced e. on n now advanced (in_both a b n (Advance now advanced) e)
  where
    on : (n now : ℕ) (advanced : Advanced) → (slice_get a n ≡ Some (Advance now advanced)) ⊎ ((l : ℕ) × (slice_get b l ≡ Some (Advance now advanced))) → now ≤ latest_moment
    on n now advanced (inl e) = h n now advanced e
    on n now advanced (inr e) = k e.0 now advanced e.1

counted_more : (sums : Sums) (a b : List Entry) → counted_on sums (a ++ b) ≡ counted_on (counted_on sums a) b
counted_more sums [] b = refl
counted_more sums (e ∷ a) b = counted_more (counted e sums) a b

-- ---- since the start

module _ (roads : Roads) (law : HistoriesAreGood roads) (first : Board) where
  -- nothing was answered yet
  pub none_yet : (rates : Rates) (vehicles : List Vehicle) → AreVehicles roads.nodes vehicles → first ≡ opening_board roads.nodes rates vehicles → HasAnswered roads first first [] [] no_sums
  none_yet rates vehicles good is = record {
    opening = record { rates = rates; vehicles = vehicles; good = good; is = is };
    history = [];
    legal = refl;
    asked = refl;
    at_once = tt;
    early = λ k now advanced e. cc;
    kept = subst (λ (b : Board). KeepsPromises roads b []) (sym is) (law.kept rates vehicles [] (opening_board roads.nodes rates vehicles) good refl);
    rendered = refl;
    counts = refl;
    small = record { requests = omega arith; assigned = omega arith; nobody = omega arith; cost = omega arith };
    good = subst (λ (b : Board). IsGoodFleet roads b.fleet) (sym is) (law.good rates vehicles [] (opening_board roads.nodes rates vehicles) good (λ k now advanced e. cc) refl);
    nodes = ap (λ (b : Board). b.nodes) is;
    few = omega (arith, ap (λ (b : Board). b.fleet.version) is);
  }

  -- further events were answered
  pub answered_more : (old new : Board) (events more : List Event) (printed text : List ℕ) (sums sums' : Sums) → HasAnswered roads first old events printed sums → AreAnswered roads old more new text sums sums'
      → HasAnswered roads first new (events ++ more) (printed ++ text) sums'
  answered_more old new events more printed text sums sums' h a =
      let below = h.few in
      let above = a.few in
      let early = early_more h.history a.entries h.early a.early in
      let legal = legal_append roads first h.history a.entries old new h.legal a.legal in
      let from = subst (λ (b : Board). Legal roads b (h.history ++ a.entries) new) h.opening.is legal in
      record {
        opening = h.opening;
        history = h.history ++ a.entries;
        legal = legal;
        asked = asked_more h.history a.entries ∙ ap (λ (l : List Event). l ++ events_in a.entries) h.asked ∙ ap (λ (l : List Event). events ++ l) a.asked;
        at_once = at_once_more h.history a.entries h.at_once a.at_once;
        early = early;
        kept = subst (λ (b : Board). KeepsPromises roads b (h.history ++ a.entries)) (sym h.opening.is) (law.kept h.opening.rates h.opening.vehicles (h.history ++ a.entries) new h.opening.good from);
        rendered = ap (λ (l : List ℕ). l ++ text) h.rendered ∙ ap (λ (l : List ℕ). journal_of h.history ++ l) a.rendered ∙ sym (journal_more h.history a.entries);
        counts = a.counts ∙ ap (λ (x : Sums). counted_on x a.entries) h.counts ∙ sym (counted_more no_sums h.history a.entries);
        small = a.small;
        good = law.good h.opening.rates h.opening.vehicles (h.history ++ a.entries) new h.opening.good early from;
        nodes = a.nodes ∙ h.nodes;
        few = omega (arith, length-append events more);
      }

-- the board is ready for what is asked next
pub ready_on : (roads : Roads) (first now : Board) (events : List Event) (printed : List ℕ) (sums : Sums) → HasAnswered roads first now events printed sums → length events ≤ largest_text → IsReady roads now
ready_on roads first now events printed sums h f = let few = h.few in record { nodes = h.nodes; good = h.good; early = omega arith }

-- what was printed of the history since, and what was counted of it
pub are_sums : (roads : Roads) (rates : Rates) (vehicles : List Vehicle) (first now : Board) (events : List Event) (printed : List ℕ) (sums : Sums) → first ≡ opening_board roads.nodes rates vehicles
    → HasAnswered roads first now events printed sums → AreSumsOf roads rates vehicles events sums
are_sums roads rates vehicles first now events printed sums is h = record {
  printed = printed;
  account = record {
    history = h.history;
    last = now;
    legal = subst (λ (b : Board). Legal roads b h.history now) is h.legal;
    asked = h.asked;
    at_once = h.at_once;
    kept = subst (λ (b : Board). KeepsPromises roads b h.history) is h.kept;
    rendered = h.rendered;
  };
  counts = h.counts;
}

-- what was printed of it
pub is_history : (roads : Roads) (rates : Rates) (vehicles : List Vehicle) (first now : Board) (events : List Event) (printed : List ℕ) (sums : Sums) → first ≡ opening_board roads.nodes rates vehicles → HasAnswered roads first now events printed sums
    → IsHistoryOf roads rates vehicles events printed
is_history roads rates vehicles first now events printed sums is h = record {
  history = h.history;
  last = now;
  legal = subst (λ (b : Board). Legal roads b h.history now) is h.legal;
  asked = h.asked;
  at_once = h.at_once;
  kept = subst (λ (b : Board). KeepsPromises roads b h.history) is h.kept;
  rendered = h.rendered;
}
