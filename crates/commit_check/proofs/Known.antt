use Rattle.std.proofs.Common.{◌≡◌, ℕ, ◌+◌, ◌<◌, ◌≤◌, ◌==◌, ◌&&◌, ◌⊎◌, inl, inr, List, [], ◌∷◌, ◌++◌, take, length, get_or, Bool, true, false, Option, Some, None, refl, sym, ap, ◌∙◌, subst, arith}
use Rattle.std.proofs.lemmas.Bool.{and_parts, leb-true, cases_lt, eqb-true, cond-false}
use Rattle.std.proofs.lemmas.Bool.Decides.{nat_tests}
use Rattle.std.proofs.lemmas.List.{take_more}
use Rattle.std.proofs.lemmas.Option.{slice_get_within, slice_get-get_or, same_Some}
use Rattle.std.specs.Prelude.{slice_get}
use Rattle.std.specs.declared.cmp.Ordering.TheVariants.{Less}
use Rattle.road_graph.specs.Roads.{Roads}
use Rattle.stop_schedule.specs.declared.request.Request.{Request}
use Rattle.stop_schedule.specs.declared.stop.Front.{Front}
use Rattle.stop_schedule.specs.Fleets.{Car, Cars, OfCar, IsGoodFleet}
use Rattle.stop_schedule.specs.Fronts.{IsAhead, front_of}
use Rattle.stop_schedule.specs.Plans.{Plan}
use Rattle.insertion_cost.specs.declared.candidates.Candidate.{Candidate}
use Rattle.insertion_cost.specs.declared.candidates.Candidates.{Candidates}
use Rattle.insertion_cost.specs.declared.candidates.Floor.{Floor}
use Rattle.insertion_cost.specs.declared.candidates.Floor.TheVariants.{Nothing, Above, All}
use Rattle.insertion_cost.specs.declared.offer.Offer.{Offer}
use Rattle.insertion_cost.specs.Candidates.{entry_of, IsTrueOf, AreSound, IsDecided, is_same_front, Counts, Settles, is_decided}
use Rattle.insertion_cost.specs.OfferOrder.{IsFirstOfTwo}
use Rattle.insertion_cost.specs.Offers.{IsOffer, IsOfferNow, IsOfferFrom, IsFirst, IsBest, NoOffer, IsBestOrNone, offer_cmp}
use Rattle.insertion_cost.specs.Pricers.{IsBestAt}
use Rattle.insertion_cost.proofs.CandidateLaws.{counts_feasible, entry_listed, first_decides}
use Rattle.insertion_cost.proofs.OfferLaws.{first_of_both, offer_now}
use Rattle.commit_check.specs.Settled.{IsOfferChanged, IsOfferUnchanged, IsFirstChanged, IsFirstUnchanged, IsTrueEntry, IsListedAt, IsKnown}

-- what is read past the end of a fleet
no_car : Car
no_car = record {
  no = record { 0 = 0 };
  plan = record { seats = 0; spaces = 0; until = 0; place = record { 0 = 0 }; departure = 0; halt = false; stops = []; legs = [] };
  stamp = 0;
}

-- a vehicle stands in each place
pub car_at : (fleet : Cars) (place : ℕ) → place < length fleet.cars → (car : Car) × (slice_get fleet.cars place ≡ Some car)
car_at fleet place l = (get_or fleet.cars place no_car, slice_get-get_or fleet.cars place no_car l)

-- where a vehicle can turn now, by its schedule and the clock as they were read
pub front_now : (fleet : Cars) (place : ℕ) (p : Plan) (clock : ℕ) (front : Front) → OfCar fleet place (λ (car : Car). p ≡ car.plan)
    → clock ≡ fleet.clock → front ≡ front_of p clock
    → OfCar fleet place (λ (car : Car). front ≡ front_of car.plan fleet.clock)
front_now fleet place p clock front plan time is car h = is ∙ ap (λ (q : Plan). front_of q clock) (plan car h)
    ∙ ap (λ (now : ℕ). front_of car.plan now) time

pub ahead_now : (fleet : Cars) (place : ℕ) (p : Plan) (clock : ℕ) → place < length fleet.cars
    → OfCar fleet place (λ (car : Car). p ≡ car.plan) → clock ≡ fleet.clock → (g : Roads) → IsGoodFleet g fleet → IsAhead p clock
ahead_now fleet place p clock l plan time g good = go (car_at fleet place l) where
  go : (car : Car) × (slice_get fleet.cars place ≡ Some car) → IsAhead p clock
  go c = subst (λ (q : Plan). IsAhead q clock) (sym (plan c.0 c.1))
      (subst (λ (now : ℕ). IsAhead c.0.plan now) (sym time) (good.each place c.0 c.1).ahead)

-- fronts are one where all their parts are
pub same_by_parts : (a b : Front) → ((a.node.0 == b.node.0) && ((a.time == b.time) && (a.offset == b.offset))) ≡ true → a ≡ b
same_by_parts a b h =
    let p = and_parts _ _ h in let q = and_parts _ _ p.1 in
    ap {B = Front} (λ (x : ℕ). record { node = record { 0 = x }; time = a.time; offset = a.offset }) (eqb-true _ _ p.0)
    ∙ ap {B = Front} (λ (x : ℕ). record { node = b.node; time = x; offset = a.offset }) (eqb-true _ _ q.0)
    ∙ ap {B = Front} (λ (x : ℕ). record { node = b.node; time = b.time; offset = x }) (eqb-true _ _ q.1)

pub other_by_parts : (a b : Front) → ((a.node.0 == b.node.0) && ((a.time == b.time) && (a.offset == b.offset))) ≡ false
    → is_same_front a b ≡ false
other_by_parts a b h = by (a.node.0 == b.node.0) (a.time == b.time) (a.offset == b.offset) h where
  by : (x y z : Bool) → (x && (y && z)) ≡ false → ((x && y) && z) ≡ false
  by true true z h = h
  by true false z h = refl
  by false y z h = refl

-- ---- places that are listed

listed_push : (entries : List Candidate) (e : Candidate) (place : ℕ) → IsListedAt (entries ++ e ∷ []) place
    → IsListedAt entries place ⊎ (e.place ≡ place)
listed_push [] e place (inl h) = inr h
listed_push [] e place (inr h) = absurd h
listed_push (x ∷ entries) e place (inl h) = inl (inl h)
listed_push (x ∷ entries) e place (inr h) = on (listed_push entries e place h) where
  on : IsListedAt entries place ⊎ (e.place ≡ place) → IsListedAt (x ∷ entries) place ⊎ (e.place ≡ place)
  on (inl k) = inl (inr k)
  on (inr k) = inr k

listed_before : (entries : List Candidate) (e : Candidate) (place : ℕ) → IsListedAt entries place → IsListedAt (entries ++ e ∷ []) place
listed_before [] e place h = absurd h
listed_before (x ∷ entries) e place (inl h) = inl h
listed_before (x ∷ entries) e place (inr h) = inr (listed_before entries e place h)

listed_last : (entries : List Candidate) (e : Candidate) (place : ℕ) → e.place ≡ place → IsListedAt (entries ++ e ∷ []) place
listed_last [] e place h = inl h
listed_last (x ∷ entries) e place h = inr (listed_last entries e place h)

-- a place is listed, or has no entry
listed_or : (entries : List Candidate) (place : ℕ) → IsListedAt entries place ⊎ (entry_of entries place ≡ None)
listed_or [] place = inr refl
listed_or (x ∷ entries) place = on (x.place == place) refl (listed_or entries place) where
  on : (b : Bool) → (x.place == place) ≡ b → IsListedAt entries place ⊎ (entry_of entries place ≡ None)
      → IsListedAt (x ∷ entries) place ⊎ (entry_of (x ∷ entries) place ≡ None)
  on true e rest = inl (inl (eqb-true _ _ e))
  on false e (inl k) = inl (inr k)
  on false e (inr k) = inr (cond-false _ _ _ e ∙ k)

-- ---- firsts under a condition

pub first_where : (among both : Offer → Type 0) (best : Option Offer) → ((o : Offer) → both o → among o) → ((o : Offer) → among o → both o)
    → IsFirst among best → IsFirst both best
first_where among both None from to f = λ o z. f o (from o z)
first_where among both (Some b) from to f = (to b f.0, λ other z. f.1 other (from other z))

module _ (g : Roads) (fleet : Cars) (r : Request) (base : ℕ) where
  -- a vehicle whose schedule didn't change has no offer that counts as changed
  pub not_changed : (place stamp : ℕ) → OfCar fleet place (λ (car : Car). stamp ≡ car.stamp) → stamp ≤ base
      → IsFirstChanged g fleet r base place None
  not_changed place stamp is l car h o z = let s = is car h in let m = z.0 in omega arith

  -- one whose schedule changed has its best one
  pub is_changed : (place stamp : ℕ) (best : Option Offer) → OfCar fleet place (λ (car : Car). stamp ≡ car.stamp) → (stamp ≤ base → ⊥)
      → IsBestAt g fleet r place best → IsFirstChanged g fleet r base place best
  is_changed place stamp best is n f car h = first_where (IsOfferNow g fleet place car r) (IsOfferChanged g fleet r base place car) best
      (λ o z. z.1)
      (λ o z. (more stamp car.stamp n (is car h), z)) (f car h)
    where
      more : (stamp stamp' : ℕ) → (stamp ≤ base → ⊥) → stamp ≡ stamp' → base < stamp'
      more stamp stamp' n e = on (cases_lt base stamp) where
        on : (base < stamp) ⊎ (stamp ≤ base) → base < stamp'
        on (inl l) = omega arith
        on (inr l) = absurd (n l)

  -- and the other way round
  pub not_unchanged : (place stamp : ℕ) → OfCar fleet place (λ (car : Car). stamp ≡ car.stamp) → base < stamp
      → IsFirstUnchanged g fleet r base place None
  not_unchanged place stamp is l car h o z = let s = is car h in let m = z.0 in omega arith

  pub is_unchanged : (place stamp : ℕ) (best : Option Offer) → OfCar fleet place (λ (car : Car). stamp ≡ car.stamp) → (base < stamp → ⊥)
      → IsBestAt g fleet r place best → IsFirstUnchanged g fleet r base place best
  is_unchanged place stamp best is n f car h = first_where (IsOfferNow g fleet place car r) (IsOfferUnchanged g fleet r base place car)
      best (λ o z. z.1)
      (λ o z. (less stamp car.stamp n (is car h), z)) (f car h)
    where
      less : (stamp stamp' : ℕ) → (base < stamp → ⊥) → stamp ≡ stamp' → stamp' ≤ base
      less stamp stamp' n e = on (cases_lt base stamp) where
        on : (base < stamp) ⊎ (stamp ≤ base) → stamp' ≤ base
        on (inl l) = absurd (n l)
        on (inr l) = omega arith

  -- where it was priced from today's front, what is listed is its best one now
  pub is_listed : (stamp : ℕ) (e : Candidate) (front : Front) → OfCar fleet e.place (λ (car : Car). stamp ≡ car.stamp) → (base < stamp → ⊥)
      → IsTrueEntry g fleet r base e
      → e.front ≡ front → OfCar fleet e.place (λ (car : Car). front ≡ front_of car.plan fleet.clock)
      → IsFirstUnchanged g fleet r base e.place e.best
  is_listed stamp e front is n true_of same now car h = first_where (IsOfferFrom g fleet.rates e.place car e.front r)
      (IsOfferUnchanged g fleet r base e.place car) e.best
      (λ o z. subst (λ (f : Front). IsOfferFrom g fleet.rates e.place car f r o) (sym today) z.1)
      (λ o z. (less, subst (λ (f : Front). IsOfferFrom g fleet.rates e.place car f r o) today z)) (true_of car h less)
    where
      today : e.front ≡ front_of car.plan fleet.clock
      today = same ∙ now car h

      less : car.stamp ≤ base
      less = on (cases_lt base stamp) where
        on : (base < stamp) ⊎ (stamp ≤ base) → car.stamp ≤ base
        on (inl l) = absurd (n l)
        on (inr l) = let s = is car h in omega arith

  -- ---- the vehicles one after another

  abbrev pub IsKnownBelow : ℕ → Offer → Type 0
  IsKnownBelow n o = (z : IsKnown g fleet r base [] o) × (o.place < n)

  pub below_none : IsFirst (IsKnownBelow 0) None
  below_none = λ o z. (let l = z.1 in absurd (omega arith))

  -- a vehicle's place is its own
  moved_to : (place n : ℕ) (c car : Car) (o : Offer) → slice_get fleet.cars place ≡ Some c → slice_get fleet.cars n ≡ Some car → place ≡ n
      → IsOfferNow g fleet place c r o
      → (c ≡ car) × IsOfferNow g fleet n car r o
  moved_to place n c car o h k e f = let same : c ≡ car = same_Some c car (sym h ∙ ap (slice_get fleet.cars) e ∙ k) in
      (same, subst (λ (d : Car). IsOfferNow g fleet n d r o) same (subst (λ (m : ℕ). IsOfferNow g fleet m c r o) e f))

  pub below_more : (n : ℕ) (best at next : Option Offer) → n < length fleet.cars → IsFirst (IsKnownBelow n) best
      → IsFirstChanged g fleet r base n at → IsFirstOfTwo best at next → IsFirst (IsKnownBelow (n + 1)) next
  below_more n best at next l f k s = go (car_at fleet n l) where
    go : (car : Car) × (slice_get fleet.cars n ≡ Some car) → IsFirst (IsKnownBelow (n + 1)) next
    go c = first_of_both (IsKnownBelow n) (IsOfferChanged g fleet r base n c.0) (IsKnownBelow (n + 1)) best at next
        (λ x z. split x z.0 z.1 (cases_lt x.place n)) (λ x z. (z.0, let l = z.1 in omega arith))
        (λ x z. (
          record {
            car = c.0;
            stands = ap (slice_get fleet.cars) z.1.there ∙ c.1;
            known = inl z.0;
            offer = subst (λ (m : ℕ). IsOfferNow g fleet m c.0 r x) (sym z.1.there) z.1;
          },
          let e = z.1.there in omega arith,
        )) f (k c.0 c.1) s
      where
        new : (x : Offer) (z : IsKnown g fleet r base [] x) → (z.car ≡ c.0) × IsOfferNow g fleet n c.0 r x
            → (base < z.car.stamp) ⊎ IsListedAt [] x.place → IsOfferChanged g fleet r base n c.0 x
        new x z m (inl b) = (subst (λ (d : Car). base < d.stamp) m.0 b, m.1)
        new x z m (inr b) = absurd b

        split : (x : Offer) (z : IsKnown g fleet r base [] x) → x.place < n + 1 → (x.place < n) ⊎ (n ≤ x.place)
            → IsKnownBelow n x ⊎ IsOfferChanged g fleet r base n c.0 x
        split x z l (inl b) = inl (z, b)
        split x z l (inr b) = inr (new x z (moved_to x.place n z.car c.0 x z.stands c.1 (omega arith) z.offer) z.known)

  pub below_all : (n : ℕ) (best : Option Offer) → length fleet.cars ≤ n → IsFirst (IsKnownBelow n) best
      → IsFirst (IsKnown g fleet r base []) best
  below_all n best l f = first_where (IsKnownBelow n) (IsKnown g fleet r base []) best
      (λ o z. (z, let w = slice_get_within fleet.cars o.place z.car z.stands in omega arith)) (λ o z. z.0) f

  -- ---- the entries one after another

  listed_next : (entries : List Candidate) (e : Candidate) (best at next : Option Offer) → e.place < length fleet.cars
      → IsFirst (IsKnown g fleet r base entries) best → IsFirstUnchanged g fleet r base e.place at
      → IsFirstOfTwo best at next → IsFirst (IsKnown g fleet r base (entries ++ e ∷ [])) next
  listed_next entries e best at next l f k s = go (car_at fleet e.place l) where
    go : (car : Car) × (slice_get fleet.cars e.place ≡ Some car) → IsFirst (IsKnown g fleet r base (entries ++ e ∷ [])) next
    go c = first_of_both (IsKnown g fleet r base entries) (IsOfferUnchanged g fleet r base e.place c.0)
        (IsKnown g fleet r base (entries ++ e ∷ [])) best at next
        (λ x z. split x z z.known)
        (λ x z. record { car = z.car; stands = z.stands; known = before x z.car z.known; offer = z.offer })
        (λ x z. record {
          car = c.0;
          stands = ap (slice_get fleet.cars) z.1.there ∙ c.1;
          known = inr (listed_last entries e x.place (sym z.1.there));
          offer = subst (λ (m : ℕ). IsOfferNow g fleet m c.0 r x) (sym z.1.there) z.1;
        }) f (k c.0 c.1) s
      where
        before : (x : Offer) (car : Car) → (base < car.stamp) ⊎ IsListedAt entries x.place
            → (base < car.stamp) ⊎ IsListedAt (entries ++ e ∷ []) x.place
        before x car (inl b) = inl b
        before x car (inr b) = inr (listed_before entries e x.place b)

        still : (x : Offer) (z : IsKnown g fleet r base (entries ++ e ∷ []) x) → (base < z.car.stamp) ⊎ IsListedAt entries x.place
            → IsKnown g fleet r base entries x
        still x z k = record { car = z.car; stands = z.stands; known = k; offer = z.offer }

        last : (x : Offer) (z : IsKnown g fleet r base (entries ++ e ∷ []) x) → e.place ≡ x.place
            → (base < z.car.stamp) ⊎ (z.car.stamp ≤ base)
            → IsKnown g fleet r base entries x ⊎ IsOfferUnchanged g fleet r base e.place c.0 x
        last x z h (inl b) = inl (still x z (inl b))
        last x z h (inr b) = let m = moved_to x.place e.place z.car c.0 x z.stands c.1 (sym h) z.offer in
            inr (subst (λ (d : Car). d.stamp ≤ base) m.0 b, m.1)

        listed : (x : Offer) (z : IsKnown g fleet r base (entries ++ e ∷ []) x) → IsListedAt entries x.place ⊎ (e.place ≡ x.place)
            → IsKnown g fleet r base entries x ⊎ IsOfferUnchanged g fleet r base e.place c.0 x
        listed x z (inl b) = inl (still x z (inr b))
        listed x z (inr b) = last x z b (cases_lt base z.car.stamp)

        split : (x : Offer) (z : IsKnown g fleet r base (entries ++ e ∷ []) x)
            → (base < z.car.stamp) ⊎ IsListedAt (entries ++ e ∷ []) x.place
            → IsKnown g fleet r base entries x ⊎ IsOfferUnchanged g fleet r base e.place c.0 x
        split x z (inl b) = inl (still x z (inl b))
        split x z (inr b) = listed x z (listed_push entries e x.place b)

  pub listed_more : (entries : List Candidate) (k : ℕ) (d : Candidate) (best at next : Option Offer) → k < length entries
      → (get_or entries k d).place < length fleet.cars → IsFirst (IsKnown g fleet r base (take k entries)) best
      → IsFirstUnchanged g fleet r base (get_or entries k d).place at → IsFirstOfTwo best at next
      → IsFirst (IsKnown g fleet r base (take (k + 1) entries)) next
  listed_more entries k d best at next l within f a s = subst (λ (es : List Candidate). IsFirst (IsKnown g fleet r base es) next)
      (sym (take_more entries k d l))
      (listed_next (take k entries) (get_or entries k d) best at next within f a s)

-- ---- the best of all

-- what costs more doesn't go before
not_before : (b o : Offer) → b.cost < o.cost → offer_cmp o b ≡ Less → ⊥
not_before b o l h = grind (arith, nat_tests)

module _ (g : Roads) (fleet : Cars) (r : Request) (c : Candidates) (sound : AreSound g fleet r c) where
  -- the entry of a vehicle is true where its schedule didn't change
  pub true_entry : (entries : List Candidate) (k : ℕ) (d : Candidate) → entries ≡ c.entries → k < length entries
      → ((get_or entries k d).place < length fleet.cars) × IsTrueEntry g fleet r c.base (get_or entries k d)
  true_entry entries k d same l = (
    sound.within k e at,
    λ car h l. subst
        (λ (x : Option Candidate). IsTrueOf g fleet r e.place car c.floor x) listed (sound.true_of e.place car h l),
  ) where
    e : Candidate
    e = get_or entries k d

    at : slice_get c.entries k ≡ Some e
    at = ap (λ (es : List Candidate). slice_get es k) (sym same) ∙ slice_get-get_or entries k d l

    listed : entry_of c.entries e.place ≡ Some e
    listed = entry_listed c.entries k e at sound.once

  -- more than the floor is known of an offer's vehicle, or what the floor says is true of it
  known_or : (o : Offer) (h : IsOffer g fleet r o) → IsKnown g fleet r c.base c.entries o ⊎ IsTrueOf g fleet r o.place h.car c.floor None
  known_or o h = by_stamp (cases_lt c.base h.car.stamp) where
    known : (c.base < h.car.stamp) ⊎ IsListedAt c.entries o.place → IsKnown g fleet r c.base c.entries o
    known k = record { car = h.car; stands = h.stands; known = k; offer = offer_now g fleet r o h }

    by_entry : h.car.stamp ≤ c.base → IsListedAt c.entries o.place ⊎ (entry_of c.entries o.place ≡ None)
        → IsKnown g fleet r c.base c.entries o ⊎ IsTrueOf g fleet r o.place h.car c.floor None
    by_entry l (inl k) = inl (known (inr k))
    by_entry l (inr k) = inr (subst (λ (x : Option Candidate). IsTrueOf g fleet r o.place h.car c.floor x) k
        (sound.true_of o.place h.car h.stands l))

    by_stamp : (c.base < h.car.stamp) ⊎ (h.car.stamp ≤ c.base)
        → IsKnown g fleet r c.base c.entries o ⊎ IsTrueOf g fleet r o.place h.car c.floor None
    by_stamp (inl l) = inl (known (inl l))
    by_stamp (inr l) = by_entry l (listed_or c.entries o.place)

  known_feasible : (o : Offer) → IsKnown g fleet r c.base c.entries o → IsOffer g fleet r o
  known_feasible o z = record { car = z.car; stands = z.stands; numbered = z.offer.numbered; price = z.offer.price }

  -- the first of what is known is the best insertion where it decides
  pub decided_best : (best : Option Offer) → IsFirst (IsKnown g fleet r c.base c.entries) best → is_decided c.floor best ≡ true
      → IsBestOrNone g fleet r best
  decided_best None f d = λ o h. none o h c.floor d (known_or o h) where
    none : (o : Offer) (h : IsOffer g fleet r o) (floor : Floor) → is_decided floor None ≡ true
        → IsKnown g fleet r c.base c.entries o ⊎ IsTrueOf g fleet r o.place h.car floor None → ⊥
    none o h floor d (inl k) = f o k
    none o h Nothing d (inr t) = cc
    none o h (Above x) d (inr t) = cc
    none o h All d (inr t) = t o (offer_now g fleet r o h)
  decided_best (Some b) f d = record { feasible = known_feasible b f.0; least = λ o h. least o h c.floor d (known_or o h) } where
    least : (o : Offer) (h : IsOffer g fleet r o) (floor : Floor) → is_decided floor (Some b) ≡ true
        → IsKnown g fleet r c.base c.entries o ⊎ IsTrueOf g fleet r o.place h.car floor None → offer_cmp o b ≡ Less → ⊥
    least o h floor d (inl k) = f.1 o k
    least o h Nothing d (inr t) = cc
    least o h (Above x) d (inr t) = not_before b o (let more = t o (offer_now g fleet r o h) in
        let most = leb-true b.cost x d in omega arith)
    least o h All d (inr t) = absurd (t o (offer_now g fleet r o h))

  -- and it decides where they settle
  pub settles_decides : (best : Option Offer) → IsFirst (IsKnown g fleet r c.base c.entries) best → Settles g fleet r c
      → is_decided c.floor best ≡ true
  settles_decides best f d = first_decides c.floor (IsKnown g fleet r c.base c.entries) best f (on c.floor d (λ o h. known_or o h)) where
    on : (floor : Floor) → IsDecided floor (Counts g fleet r c)
        → ((o : Offer) (h : IsOffer g fleet r o) → IsKnown g fleet r c.base c.entries o ⊎ IsTrueOf g fleet r o.place h.car floor None)
        → IsDecided floor (IsKnown g fleet r c.base c.entries)
    on Nothing d all = absurd d
    on (Above x) d all = (
      d.0,
      cheap d.0 (counts_feasible g fleet r c sound d.0 d.1) d.2
          (all d.0 (counts_feasible g fleet r c sound d.0 d.1)),
      d.2,
    ) where
      cheap : (o : Offer) (h : IsOffer g fleet r o) → o.cost ≤ x
          → IsKnown g fleet r c.base c.entries o ⊎ IsTrueOf g fleet r o.place h.car (Above x) None → IsKnown g fleet r c.base c.entries o
      cheap o h l (inl k) = k
      cheap o h l (inr t) = let more = t o (offer_now g fleet r o h) in absurd (omega arith)
    on All d all = tt

-- ---- the answer

-- nobody
pub decision_none : (g : Roads) (fleet : Cars) (r : Request) (best : Option Offer) → best ≡ None → IsBestOrNone g fleet r best
    → NoOffer g fleet r
decision_none g fleet r best e f = subst (λ (b : Option Offer). IsBestOrNone g fleet r b) e f

pub decision_some : (g : Roads) (fleet : Cars) (r : Request) (best : Option Offer) (o : Offer) → best ≡ Some o
    → IsBestOrNone g fleet r best → IsBest g fleet r o
decision_some g fleet r best o e f = subst (λ (b : Option Offer). IsBestOrNone g fleet r b) e f
