use Rattle.std.proofs.Common.{◌≡◌, ℕ, List, [], ◌∷◌, ◌++◌, sym, refl, ap, ◌∙◌, subst}
use Rattle.std.specs.Prelude.{slice_get}
use Rattle.std.proofs.lemmas.Option.{same_Some}
use Rattle.ride_base.specs.declared.numbers.RequestNo.{RequestNo}
use Rattle.road_graph.specs.Roads.{Roads}
use Rattle.road_graph.specs.Walks.{IsDist}
use Rattle.stop_schedule.specs.Fleets.{Car}
use Rattle.stop_removal.specs.declared.removal.Removal.{Removal}
use Rattle.insertion_cost.specs.declared.decision.Assigned.{Assigned}
use Rattle.insertion_cost.specs.declared.decision.Decision.{Decision}
use Rattle.insertion_cost.specs.declared.decision.Decision.TheVariants.{Assigned as IsAssigned, Nobody}
use Rattle.board_core.specs.declared.entry.Submitted.TheVariants.{Accepted, Refused}
use Rattle.board_core.specs.declared.entry.Advanced.TheVariants.{Moved, Back as Behind}
use Rattle.board_core.specs.declared.entry.Cancelled.TheVariants.{Removed, Refused as Declined}
use Rattle.board_core.specs.declared.entry.Entry.{Entry}
use Rattle.board_core.specs.declared.entry.Entry.TheVariants.{Submit, Claim, Back, Commit, Advance, Cancel, Shut}
use Rattle.board_core.specs.Boards.{Board, Waiting}
use Rattle.board_core.specs.Histories.{Legal}
use Rattle.board_core.specs.Steps.{answered, taken_on, taken_off, with_car, with_cancelled, IsTaken, IsRemoved, Step}
use Rattle.board_core.proofs.NewLegs.{dist_unique}

-- an entry leads from a board to one board alone
taken_unique : (g : Roads) (old : Board) (number : RequestNo) (a : Assigned) (new other : Board) → IsTaken g old number a new → IsTaken g old number a other → new ≡ other
taken_unique g old number a new other s t = let w : s.waits ≡ t.waits = same_Some _ _ (sym s.waiting ∙ t.waiting) in let c : s.car ≡ t.car = same_Some _ _ (sym s.stands ∙ t.stands) in
    let d : s.direct ≡ t.direct = dist_unique s.direct_way (subst (λ (x : Waiting). IsDist g x.request.pickup x.request.dropoff t.direct) (sym w) t.direct_way) in
    s.leads_to ∙ same s.waits t.waits s.car t.car s.direct t.direct w c d ∙ sym t.leads_to
  where
    same : (v w : Waiting) (c e : Car) (x y : ℕ) → v ≡ w → c ≡ e → x ≡ y
        → with_car (answered old number (IsAssigned a)) a.offer.place (taken_on old c v.request x a) ≡ with_car (answered old number (IsAssigned a)) a.offer.place (taken_on old e w.request y a)
    same v w c e x y p q r = ap (λ (z : Waiting). with_car (answered old number (IsAssigned a)) a.offer.place (taken_on old c z.request x a)) p
        ∙ ap (λ (z : Car). with_car (answered old number (IsAssigned a)) a.offer.place (taken_on old z w.request x a)) q ∙ ap (λ (z : ℕ). with_car (answered old number (IsAssigned a)) a.offer.place (taken_on old e w.request z a)) r

-- so does a removal
removed_unique : (g : Roads) (old : Board) (number : RequestNo) (x : Removal) (new other : Board) → IsRemoved g old number x new → IsRemoved g old number x other → new ≡ other
removed_unique g old number x new other s t =
    let a : s.assigned ≡ t.assigned = ap given (same_Some _ _ (sym s.answer ∙ t.answer)) in
    let p : s.assigned.offer.place ≡ t.assigned.offer.place = ap (λ (a : Assigned). a.offer.place) a in
    let c : s.car ≡ t.car = same_Some _ _ (sym s.stands ∙ ap (slice_get old.fleet.cars) p ∙ t.stands) in
    s.leads_to ∙ ap (λ (k : ℕ). with_car (with_cancelled old number) k (taken_off old s.car x)) p
    ∙ ap (λ (z : Car). with_car (with_cancelled old number) t.assigned.offer.place (taken_off old z x)) c ∙ sym t.leads_to
  where
    given : Decision → Assigned
    given (IsAssigned a) = a
    given Nobody = s.assigned

-- so does each entry
step_unique : (g : Roads) (old : Board) (e : Entry) (new other : Board) → Step g old e new → Step g old e other → new ≡ other
step_unique g old (Submit r Accepted) new other s t = s.1 ∙ sym t.1
step_unique g old (Submit r (Refused reason)) new other s t = s.1 ∙ sym t.1
step_unique g old (Claim number desk) new other s t = s.3 ∙ sym t.3
step_unique g old (Back number) new other s t = s.3 ∙ sym t.3
step_unique g old (Commit number (IsAssigned a)) new other s t = taken_unique g old number a new other s t
step_unique g old (Commit number Nobody) new other s t = s.leads_to ∙ sym t.leads_to
step_unique g old (Advance now (Moved served)) new other s t = s.2 ∙ sym t.2
step_unique g old (Advance now (Behind clock)) new other s t = s.2 ∙ sym t.2
step_unique g old (Cancel number (Removed x)) new other s t = removed_unique g old number x new other s t
step_unique g old (Cancel number (Declined reason)) new other s t = s.1 ∙ sym t.1
step_unique g old Shut new other s t = s.1 ∙ sym t.1

-- so does a history
pub legal_unique : (g : Roads) (first : Board) (entries : List Entry) (last other : Board) → Legal g first entries last → Legal g first entries other → last ≡ other
legal_unique g first [] last other l m = l ∙ sym m
legal_unique g first (e ∷ entries) last other l m = legal_unique g l.0 entries last other l.2
    (subst (λ (b : Board). Legal g b entries other) (step_unique g first e m.0 l.0 m.1 l.1) m.2)

-- a legal history is legal up to each of its entries and from there on
pub legal_split : (g : Roads) (first : Board) (front rest : List Entry) (last : Board) → Legal g first (front ++ rest) last → (b : Board) × Legal g first front b × Legal g b rest last
legal_split g first [] rest last l = (first, refl, l)
legal_split g first (e ∷ front) rest last l = let x = legal_split g l.0 front rest last l.2 in (x.0, (l.0, l.1, x.1), x.2)

-- a legal history that goes on where another one ends makes one with it
pub legal_append : (g : Roads) (first : Board) (front rest : List Entry) (middle last : Board) → Legal g first front middle → Legal g middle rest last → Legal g first (front ++ rest) last
legal_append g first [] rest middle last l m = subst (λ (b : Board). Legal g b rest last) l m
legal_append g first (e ∷ front) rest middle last l m = (l.0, l.1, legal_append g l.0 front rest middle last l.2 m)
