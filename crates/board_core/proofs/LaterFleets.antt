use Rattle.std.proofs.Common.{◌≡◌, ℕ, zero, suc, ◌+◌, ◌<◌, ◌≤◌, ◌==◌, ◌⊎◌, inl, inr, Bool, true, false, cond, List, [], ◌∷◌, length, Option, Some, None, refl, sym, ap, ◌∙◌, subst, arith}
use Rattle.std.specs.Prelude.{slice_get, slice_set}
use Rattle.std.proofs.lemmas.Bool.{cases_eq, eqb-true}
use Rattle.std.proofs.lemmas.List.{length-map}
use Rattle.road_graph.specs.Graphs.{IsGraph}
use Rattle.road_graph.specs.Roads.{Roads}
use Rattle.stop_schedule.specs.declared.request.Request.{Request}
use Rattle.stop_schedule.specs.Fleets.{Car, Cars, IsGoodFleet}
use Rattle.stop_schedule.specs.Fronts.{front_of}
use Rattle.stop_schedule.specs.Keeping.{HasLeastWalks}
use Rattle.stop_schedule.specs.Plans.{Plan, course_of}
use Rattle.stop_schedule.specs.Rates.{Rates}
use Rattle.stop_schedule.specs.Times.{arrives}
use Rattle.stop_removal.specs.Laws.{RemovalsKeepPromises}
use Rattle.stop_advance.specs.Advance.{reached_by, advanced_in}
use Rattle.insertion_cost.specs.declared.candidates.Candidates.{Candidates}
use Rattle.insertion_cost.specs.declared.decision.Decision.TheVariants.{Assigned as IsAssigned, Nobody}
use Rattle.insertion_cost.specs.declared.offer.Offer.{Offer}
use Rattle.insertion_cost.specs.Candidates.{AreSound}
use Rattle.insertion_cost.specs.Laws.{IsNoCheaper}
use Rattle.insertion_cost.specs.Offers.{IsOffer, IsFirst, IsBestOrNone}
use Rattle.insertion_cost.proofs.CandidateLaws.{settled, no_cheaper-refl, IsLaterFleet, sound_still}
use Rattle.insertion_cost.proofs.OfferLaws.{first_is_best, none_is_none}
use Rattle.insertion_cost.proofs.PriceLaws.{later_fronts}
use Rattle.board_core.specs.declared.entry.Submitted.TheVariants.{Accepted, Refused}
use Rattle.board_core.specs.declared.entry.Advanced.TheVariants.{Moved, Back as Behind}
use Rattle.board_core.specs.declared.entry.Cancelled.TheVariants.{Removed, Refused as Declined}
use Rattle.board_core.specs.declared.entry.Entry.{Entry}
use Rattle.board_core.specs.declared.entry.Entry.TheVariants.{Submit, Claim, Back, Commit, Advance, Cancel, Shut}
use Rattle.board_core.specs.Boards.{Board, opening_board}
use Rattle.board_core.specs.CandidateLaws.{EntriesKeepSoundness, HistoriesKeepSoundness, SoundOnesSettleLater}
use Rattle.board_core.specs.Histories.{Legal}
use Rattle.board_core.specs.Steps.{moved_car, at_clock, taken_on, taken_off, Step}
use Rattle.board_core.proofs.Ahead.{reached_next}
use Rattle.board_core.proofs.GoodPlans.{good_plan}
use Rattle.board_core.proofs.Lookups.{mapped, set_other}
use Rattle.board_core.proofs.SoundBoards.{IsSoundBoard, opening_sound}
use Rattle.board_core.proofs.SoundSteps.{step_sound, legal_sound}

-- what was written is what is read
set_same : {X : Type 0} (xs : List X) (i : ℕ) (x y : X) → slice_get (slice_set xs i x) i ≡ Some y → y ≡ x
set_same [] i x y h = cc
set_same (z ∷ xs) zero x y h = cc
set_same (z ∷ xs) (suc i) x y h = set_same xs i x y h

-- a write leaves as many
set_many : {X : Type 0} (xs : List X) (i : ℕ) (x : X) → length (slice_set xs i x) ≡ length xs
set_many [] i x = refl
set_many (z ∷ xs) zero x = refl
set_many (z ∷ xs) (suc i) x = ap (λ (n : ℕ). suc n) (set_many xs i x)

-- each schedule has a leg to each stop, and its legs are least walks
abbrev pub AreOnWalks : Roads → Cars → Type 0
AreOnWalks g fleet = (place : ℕ) (car : Car) → slice_get fleet.cars place ≡ Some car
    → (length car.plan.legs ≡ length car.plan.stops) × HasLeastWalks g car.plan

good_on_walks : (g : Roads) (fleet : Cars) → IsGoodFleet g fleet → AreOnWalks g fleet
good_on_walks g fleet good place car h = let x = good.each place car h in (x.proper.as_many_legs, x.least_walks)

sound_on_walks : (g : Roads) (b : Board) → IsSoundBoard g b → AreOnWalks g b.fleet
sound_on_walks g b sound place car h = let x = good_plan g b.fleet.rates b.fleet.clock car.plan (sound.cars place car h).plan in
    (x.proper.as_many_legs, x.least_walks)

-- ---- each lawful entry leads to a later fleet

-- the fleet at its next version
next_fleet : (g : Roads) (r : Request) (old : Cars) → IsLaterFleet g r old (record old { version = old.version + 1 })
next_fleet g r old = record {
  rates = refl;
  version = omega arith;
  many = refl;
  each =
      λ place car h. inr (h, no_cheaper-refl g old.rates r car.plan (front_of car.plan old.clock));
}

-- the fleet with another schedule of one vehicle, whose stamp is the new version
changed_fleet : (g : Roads) (r : Request) (old : Cars) (place : ℕ) (car : Car) → old.version < car.stamp
    → IsLaterFleet g r old (record old { version = old.version + 1; cars = slice_set old.cars place car })
changed_fleet g r old place car l = record {
  rates = refl;
  version = omega arith;
  many = set_many old.cars place car;
  each =
      λ k c h. on k c h (cases_eq k place);
} where
  on : (k : ℕ) (c : Car) → slice_get (slice_set old.cars place car) k ≡ Some c → (k ≡ place) ⊎ (k ≡ place → ⊥)
      → (old.version < c.stamp) ⊎ ((slice_get old.cars k ≡ Some c)
      × IsNoCheaper g old.rates r c.plan (front_of c.plan old.clock) (front_of c.plan old.clock))
  on k c h (inl e) = let same = set_same old.cars place car c
      (subst (λ (i : ℕ). slice_get (slice_set old.cars place car) i ≡ Some c) e h) in let stamp = ap (λ (x : Car). x.stamp) same in
      inl (omega arith)
  on k c h (inr n) = inr (sym (set_other old.cars place k car n) ∙ h, no_cheaper-refl g old.rates r c.plan (front_of c.plan old.clock))

-- where no stop is reached, a later clock makes nothing cheaper
unreached : (g : Roads) → IsGraph g → (rates : Rates) (p : Plan) (r : Request) (now later : ℕ) → length p.legs ≡ length p.stops
    → HasLeastWalks g p → now ≤ later → reached_by rates p later ≡ 0
    → IsNoCheaper g rates r p (front_of p now) (front_of p later)
unreached g graph rates p r now later many walks order none = later_fronts g graph rates p r now later many walks order (soon none) where
  soon : reached_by rates p later ≡ 0 → 0 < length p.stops → later ≤ arrives rates.stop (course_of p) 1
  soon none some =
      let next = reached_next rates.stop (course_of p) later (length p.stops) (omega (arith, some, none)) in
      let first : later < arrives rates.stop (course_of p) 1 =
      subst (λ (k : ℕ). later < arrives rates.stop (course_of p) (suc k)) none next in omega arith

module _ (g : Roads) (graph : IsGraph g) (r : Request) where
  -- the fleet at a later clock
  later_fleet : (b : Board) (now : ℕ) → AreOnWalks g b.fleet → b.fleet.clock ≤ now → IsLaterFleet g r b.fleet (at_clock b now).fleet
  later_fleet b now walks order = record {
    rates = refl;
    version = omega arith;
    many =
        length-map b.fleet.cars (moved_car b.fleet.rates (b.fleet.version + 1) now);
    each = each;
  } where
    on : (place : ℕ) (old car : Car) → slice_get b.fleet.cars place ≡ Some old → (none : Bool)
        → (reached_by b.fleet.rates old.plan now == 0) ≡ none
        → car ≡ cond none old (record old { plan = advanced_in b.fleet.rates old.plan now; stamp = b.fleet.version + 1 })
        → (b.fleet.version < car.stamp) ⊎ ((slice_get b.fleet.cars place ≡ Some car)
        × IsNoCheaper g b.fleet.rates r car.plan (front_of car.plan b.fleet.clock) (front_of car.plan now))
    on place old car h true e is = inr (
      h ∙ ap (λ (x : Car). Some x) (sym is),
      subst (λ (x : Car). IsNoCheaper g b.fleet.rates r x.plan (front_of x.plan b.fleet.clock) (front_of x.plan now)) (sym is)
          (unreached g graph b.fleet.rates old.plan r b.fleet.clock now (walks place old h).0 (walks place old h).1 order (eqb-true _ _ e)),
    )
    on place old car h false e is = let stamp = ap (λ (x : Car). x.stamp) is in inl (omega arith)

    each : (place : ℕ) (car : Car) → slice_get (at_clock b now).fleet.cars place ≡ Some car
        → (b.fleet.version < car.stamp) ⊎ ((slice_get b.fleet.cars place ≡ Some car)
        × IsNoCheaper g b.fleet.rates r car.plan (front_of car.plan b.fleet.clock) (front_of car.plan now))
    each place car h = let x = mapped (moved_car b.fleet.rates (b.fleet.version + 1) now) b.fleet.cars place car h in
        on place x.0 car x.1 (reached_by b.fleet.rates x.0.plan now == 0) refl x.2

  abbrev IsLater : Board → Board → Type 0
  IsLater old new = IsLaterFleet g r old.fleet new.fleet

  step_later : (old : Board) (e : Entry) (new : Board) → Step g old e new → AreOnWalks g old.fleet → IsLater old new
  step_later old (Submit q Accepted) new s h = subst (IsLater old) (sym s.1) (next_fleet g r old.fleet)
  step_later old (Submit q (Refused reason)) new s h = subst (IsLater old) (sym s.1) (next_fleet g r old.fleet)
  step_later old (Claim number desk) new s h = subst (IsLater old) (sym s.3) (next_fleet g r old.fleet)
  step_later old (Back number) new s h = subst (IsLater old) (sym s.3) (next_fleet g r old.fleet)
  step_later old (Commit number (IsAssigned a)) new s h = subst (IsLater old) (sym s.leads_to)
      (changed_fleet g r old.fleet a.offer.place (taken_on old s.car s.waits.request s.direct a) (omega arith))
  step_later old (Commit number Nobody) new s h = subst (IsLater old) (sym s.leads_to) (next_fleet g r old.fleet)
  step_later old (Advance now (Moved served)) new s h = subst (IsLater old) (sym s.2) (later_fleet old now h s.0)
  step_later old (Advance now (Behind clock)) new s h = subst (IsLater old) (sym s.2) (next_fleet g r old.fleet)
  step_later old (Cancel number (Removed x)) new s h = subst (IsLater old) (sym s.leads_to)
      (changed_fleet g r old.fleet s.assigned.offer.place (taken_off old s.car x) (omega arith))
  step_later old (Cancel number (Declined reason)) new s h = subst (IsLater old) (sym s.1) (next_fleet g r old.fleet)
  step_later old Shut new s h = subst (IsLater old) (sym s.1) (next_fleet g r old.fleet)

  step_keeps : (c : Candidates) (old : Board) (e : Entry) (new : Board) → Step g old e new → AreOnWalks g old.fleet
      → AreSound g old.fleet r c → AreSound g new.fleet r c
  step_keeps c old e new s h a = sound_still g r old.fleet new.fleet (step_later old e new s h) c a

  -- ---- and a legal history to a later one

  history_keeps : RemovalsKeepPromises → (c : Candidates) (first : Board) (entries : List Entry) (last : Board)
      → Legal g first entries last → IsSoundBoard g first → AreSound g first.fleet r c → AreSound g last.fleet r c
  history_keeps removals c first [] last l h a = subst (λ (b : Board). AreSound g b.fleet r c) (sym l) a
  history_keeps removals c first (e ∷ entries) last l h a =
      history_keeps removals c l.0 entries last l.2 (step_sound removals g graph first e l.0 l.1 h)
      (step_keeps c first e l.0 l.1 (sound_on_walks g first h) a)

-- sound candidates stay so with each lawful entry
pub entries_keep : EntriesKeepSoundness
entries_keep g old e new r c graph good s a = step_keeps g graph r c old e new s (good_on_walks g old.fleet good) a

-- and along each legal history
pub histories_keep : RemovalsKeepPromises → HistoriesKeepSoundness
histories_keep removals g rates vehicles before after board last r c graph fleet l m a =
    history_keeps g graph r removals c board after last m (legal_sound removals g graph (opening_board g.nodes rates vehicles) before board
    l (opening_sound g rates vehicles fleet)) a

-- after which they settle to the best insertion
pub settled_later : RemovalsKeepPromises → SoundOnesSettleLater
settled_later removals g rates vehicles before after board last r c best graph fleet l m a d f =
    best_or_none best (settled g last.fleet r c (histories_keep removals g rates vehicles before after board last r c graph fleet l m a)
    best d f)
  where
    best_or_none : (best : Option Offer) → IsFirst (IsOffer g last.fleet r) best → IsBestOrNone g last.fleet r best
    best_or_none None f = none_is_none g last.fleet r f
    best_or_none (Some o) f = first_is_best g last.fleet r o f
