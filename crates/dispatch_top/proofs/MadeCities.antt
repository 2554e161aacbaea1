use Rattle.std.proofs.Common.{◌≡◌, ℕ, zero, suc, ◌+◌, ◌*◌, ◌<◌, ◌≤◌, List, [], ◌∷◌, ◌++◌, refl, sym, ap, subst, ◌∙◌, arith, append_assoc, append-nil, take, get_or, length, length-append}
use Rattle.std.proofs.lemmas.List.{take_more, length-take-le}
use Rattle.ride_base.specs.Pieces.{largest_text}
use Rattle.road_graph.specs.Roads.{Roads}
use Rattle.stop_schedule.specs.declared.vehicle.Vehicle.{Vehicle}
use Rattle.stop_schedule.specs.Rates.{Rates}
use Rattle.input_tables.specs.declared.lines.StreamLine.{StreamLine}
use Rattle.input_tables.specs.declared.lines.StreamLine.TheVariants.{Ride, Move, Cancel, Nothing}
use Rattle.city_gen.specs.declared.cities.City.{City}
use Rattle.city_gen.specs.Draws.{draw, after}
use Rattle.city_gen.specs.Streams.{lines_from, ride_count}
use Rattle.city_gen.specs.Cities.{city_of, lines_state}
use Rattle.board_core.specs.Histories.{Event}
use Rattle.dispatch_top.specs.declared.dispatcher.Dispatcher.{Dispatcher}
use Rattle.dispatch_top.specs.Answerers.{GoesOn, HasFew}
use Rattle.dispatch_top.specs.Dispatchers.{HasDispatched, IsOpened}
use Rattle.dispatch_top.specs.GenMode.{AreSumsOf, lines_asked}
use Rattle.dispatch_top.specs.Streams.{events_said}
use Rattle.dispatch_top.proofs.Dispatchers.{holds_none, summed}

-- The lines of a made city, answered one after another.

-- ---- their events

asked_behind : (a b : List StreamLine) → lines_asked (a ++ b) ≡ lines_asked a ++ lines_asked b
asked_behind [] b = refl
asked_behind (said ∷ a) b = ap (λ (l : List Event). events_said said ++ l) (asked_behind a b) ∙ sym (append_assoc (events_said said) (lines_asked a) (lines_asked b))

asked_next : (lines : List StreamLine) (k : ℕ) (d : StreamLine) → k < length lines → lines_asked (take (k + 1) lines) ≡ lines_asked (take k lines) ++ events_said (get_or lines k d)
asked_next lines k d below =
    ap (λ (l : List StreamLine). lines_asked l) (take_more lines k d below) ∙ asked_behind (take k lines) (get_or lines k d ∷ []) ∙ ap (λ (l : List Event). lines_asked (take k lines) ++ l) (append-nil (events_said (get_or lines k d)))

said_few : (said : StreamLine) → length (events_said said) ≤ 1
said_few (Ride r) = omega arith
said_few (Move now) = omega arith
said_few (Cancel number) = omega arith
said_few Nothing = omega arith

asked_few : (lines : List StreamLine) → length (lines_asked lines) ≤ length lines
asked_few [] = omega arith
asked_few (said ∷ lines) = let rest = asked_few lines in let one = said_few said in omega (arith, length-append (events_said said) (lines_asked lines))

-- ---- their answers

-- the first lines were answered since a dispatcher was made
pub record AreFirstAsked (roads : Roads) (rates : Rates) (vehicles : List Vehicle) (lines : List StreamLine) (now : Dispatcher) : Type 0 where
  pub first : Dispatcher
  pub opened : IsOpened roads rates vehicles first
  pub printed : List ℕ
  pub has : HasDispatched first now (lines_asked lines) printed

pub none_asked : (roads : Roads) (rates : Rates) (vehicles : List Vehicle) (made : Dispatcher) → IsOpened roads rates vehicles made → AreFirstAsked roads rates vehicles [] made
none_asked roads rates vehicles made o = record { first = made; opened = o; printed = []; has = o.fresh }

-- it is ready for the next line
pub few_asked : (roads : Roads) (rates : Rates) (vehicles : List Vehicle) (lines : List StreamLine) (k : ℕ) (now : Dispatcher) → k ≤ length lines → length lines ≤ largest_text → AreFirstAsked roads rates vehicles (take k lines) now
    → HasFew HasDispatched holds_none now
few_asked roads rates vehicles lines k now below few a = record {
  first = a.first;
  events = lines_asked (take k lines);
  printed = a.printed;
  has = a.has;
  few = let n = asked_few (take k lines) in omega (arith, length-take-le k lines below, ap (λ (l : List Event). length l) (append-nil (lines_asked (take k lines))));
}

pub next_asked : (roads : Roads) (rates : Rates) (vehicles : List Vehicle) (lines : List StreamLine) (k : ℕ) (d : StreamLine) (old new : Dispatcher) (text : List ℕ) → k < length lines → AreFirstAsked roads rates vehicles (take k lines) old
    → GoesOn HasDispatched holds_none old (events_said (get_or lines k d)) new text → AreFirstAsked roads rates vehicles (take (k + 1) lines) new
next_asked roads rates vehicles lines k d old new text below a goes =
    let h = goes a.first (lines_asked (take k lines)) a.printed (record { events = lines_asked (take k lines); has = a.has; asks = append-nil (lines_asked (take k lines)) }) in
    record {
      first = a.first;
      opened = a.opened;
      printed = a.printed ++ text;
      has = subst (λ (l : List Event). HasDispatched a.first new l (a.printed ++ text)) (sym (append-nil h.events) ∙ h.asks ∙ sym (asked_next lines k d below)) h.has;
    }

pub all_asked : (roads : Roads) (rates : Rates) (vehicles : List Vehicle) (lines : List StreamLine) (now : Dispatcher) → AreFirstAsked roads rates vehicles lines now → AreSumsOf roads rates vehicles (lines_asked lines) now.sums
all_asked roads rates vehicles lines now a = summed roads rates vehicles a.first now a.opened (lines_asked lines) a.printed a.has

-- ---- how many they are

many_lines : (many number time x : ℕ) → length (lines_from many number time x) ≡ 2 * many
unfolding lines_from
many_lines zero number time x = refl
many_lines (suc many) number time x = let rest = many_lines many (number + 1) (time + draw 1 12 x) (after 4 x) in omega arith

pub few_lines : (number : ℕ) (city : City) → city ≡ city_of number → length city.lines ≤ largest_text
few_lines number city is = let e = ap (λ (c : City). length c.lines) is ∙ many_lines ride_count 1 0 (lines_state number) in omega arith
