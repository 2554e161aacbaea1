use Rattle.std.proofs.Common.{◌≡◌, ℕ, zero, suc, ◌<◌, ◌≤◌, ◌==◌, ◌⊎◌, inl, inr, List, [], ◌∷◌, cond, not, ◌||◌, length, get_or, Bool, true, false, Option, Some, None, refl, sym, ap, ◌∙◌, subst, arith}
use Rattle.std.proofs.lemmas.Bool.{or_parts, and_parts, eqb-true, ltb-false, not-false, cases_lt, le-leb, leb-true, eq-eqb, ne_eqb, le-ltb, cond-true, cond-false}
use Rattle.std.proofs.lemmas.Bool.Decides.{nat_tests}
use Rattle.std.specs.Prelude.{slice_get}
use Rattle.std.proofs.lemmas.Option.{slice_get_within, slice_get-get_or, same_Some}
use Rattle.std.specs.declared.cmp.Ordering.TheVariants.{Less}
use Rattle.road_graph.specs.declared.road.NodeNo.{NodeNo}
use Rattle.road_graph.specs.Roads.{Roads}
use Rattle.stop_schedule.specs.declared.request.Request.{Request}
use Rattle.stop_schedule.specs.declared.stop.Front.{Front}
use Rattle.stop_schedule.specs.Fleets.{Car, Cars}
use Rattle.stop_schedule.specs.Fronts.{front_of}
use Rattle.insertion_cost.specs.declared.candidates.Candidate.{Candidate}
use Rattle.insertion_cost.specs.declared.candidates.Candidates.{Candidates}
use Rattle.insertion_cost.specs.declared.candidates.Floor.{Floor}
use Rattle.insertion_cost.specs.declared.candidates.Floor.TheVariants.{Nothing, Above, All}
use Rattle.insertion_cost.specs.declared.offer.Offer.{Offer}
use Rattle.insertion_cost.specs.Offers.{IsOffer, IsOfferFrom, IsOfferNow, IsFirst, IsBest, NoOffer, IsBestOrNone, offer_cmp}
use Rattle.insertion_cost.specs.OfferOrder.{IsNotAfter, IsFirstOfTwo}
use Rattle.insertion_cost.specs.Candidates.{entry_of, IsTrueOf, AreSound, AreFresh, IsDecided, IsListed, Decides, is_same_front, has_moved, is_redone, best_in, CountsAs, Counts, Settles, none_at, is_decided}
use Rattle.insertion_cost.proofs.OfferCmp.{offer_cmp-self, IsNotAfter-trans}

-- fronts that pass the test are one
pub same_front : (a b : Front) → is_same_front a b ≡ true → a ≡ b
same_front a b h =
    let p = and_parts _ _ h in let q = and_parts _ _ p.0 in
    one a b (ap {B = NodeNo} (λ (x : ℕ). record { 0 = x }) (eqb-true _ _ q.0)) (eqb-true _ _ q.1) (eqb-true _ _ p.1)
  where
    one : (a b : Front) → a.node ≡ b.node → a.time ≡ b.time → a.offset ≡ b.offset → a ≡ b
    one a b n t o = ap {B = Front} (λ (x : NodeNo). record { node = x; time = a.time; offset = a.offset }) n
        ∙ ap {B = Front} (λ (x : ℕ). record { node = b.node; time = x; offset = a.offset }) t ∙ ap {B = Front} (λ (x : ℕ). record { node = b.node; time = b.time; offset = x }) o

-- an offer of a vehicle from where it can turn now is one of the fleet
pub offer_of : (g : Roads) (fleet : Cars) (r : Request) (place : ℕ) (car : Car) (o : Offer) → slice_get fleet.cars place ≡ Some car → IsOfferNow g fleet place car r o → IsOffer g fleet r o
offer_of g fleet r place car o h f = record { car = car; stands = ap (slice_get fleet.cars) f.there ∙ h; numbered = f.numbered; price = f.price }

-- and the other way round
pub offer_now : (g : Roads) (fleet : Cars) (r : Request) (o : Offer) (f : IsOffer g fleet r o) → IsOfferNow g fleet o.place f.car r o
offer_now g fleet r o f = record { there = refl; numbered = f.numbered; price = f.price }

-- no offer goes before the first
first_leads : (among : Offer → Type 0) (best : Option Offer) (o : Offer) → IsFirst among best → among o → IsNotAfter best (Some o)
first_leads among None o f h = f o h
first_leads among (Some b) o f h = f.1 o h

-- the first is one of them
first_is : (among : Offer → Type 0) (best : Option Offer) (o : Offer) → IsFirst among best → best ≡ Some o → among o
first_is among None o f e = cc
first_is among (Some b) o f e = let same : b ≡ o = cc in subst among same f.0

-- what costs more goes after
dearer : (best : Option Offer) (o other : Offer) → IsNotAfter best (Some o) → o.cost < other.cost → IsNotAfter best (Some other)
dearer best o other h l = IsNotAfter-trans best (Some o) (Some other) h (λ before. grind (arith, nat_tests))

module _ (g : Roads) (fleet : Cars) (r : Request) (c : Candidates) (sound : AreSound g fleet r c) where
  -- a vehicle that isn't priced anew has its old schedule, and the front with which it is listed
  not_redone : (place : ℕ) (car : Car) → slice_get fleet.cars place ≡ Some car → is_redone c fleet.clock place car ≡ false
      → IsTrueOf g fleet r place car c.floor (entry_of c.entries place) × (has_moved (front_of car.plan fleet.clock) (entry_of c.entries place) ≡ false)
  not_redone place car h e = let p = or_parts _ _ e in (sound.true_of place car h (ltb-false c.base car.stamp p.0), p.1)

  -- what is listed with today's front is an offer now
  listed_now : (place : ℕ) (car : Car) (entry : Option Candidate) (o : Offer) → IsTrueOf g fleet r place car c.floor entry → has_moved (front_of car.plan fleet.clock) entry ≡ false → best_in entry ≡ Some o → IsOfferNow g fleet place car r o
  listed_now place car None o t m b = cc
  listed_now place car (Some e) o t m b = subst (λ (f : Front). IsOfferFrom g fleet.rates place car f r o) (same_front e.front (front_of car.plan fleet.clock) (not-false _ m)) (first_is (IsOfferFrom g fleet.rates place car e.front r) e.best o t b)

  -- what counts is feasible
  pub counts_feasible : (o : Offer) → Counts g fleet r c o → IsOffer g fleet r o
  counts_feasible o k = offer_of g fleet r k.place k.car o k.stands (go (is_redone c fleet.clock k.place k.car) refl k.is) where
    go : (b : Bool) → is_redone c fleet.clock k.place k.car ≡ b → CountsAs g fleet r k.place k.car (entry_of c.entries k.place) o b → IsOfferNow g fleet k.place k.car r o
    go true e is = is
    go false e is = let n = not_redone k.place k.car k.stands e in listed_now k.place k.car (entry_of c.entries k.place) o n.0 n.1 is

  -- and no feasible offer goes before the first that counts
  pub counts_all : (best : Option Offer) (o : Offer) → Settles g fleet r c → IsFirst (Counts g fleet r c) best → IsOffer g fleet r o → IsNotAfter best (Some o)
  counts_all best o decided first f = go (is_redone c fleet.clock o.place f.car) refl where
    counts : (b : Offer) (redone : Bool) → is_redone c fleet.clock o.place f.car ≡ redone → CountsAs g fleet r o.place f.car (entry_of c.entries o.place) b redone → IsNotAfter best (Some b)
    counts b redone e is = first_leads (Counts g fleet r c) best b first
        (record { place = o.place; car = f.car; stands = f.stands; is = subst (CountsAs g fleet r o.place f.car (entry_of c.entries o.place) b) (sym e) is })

    listed : (b : Option Offer) → ((x : Offer) → b ≡ Some x → IsNotAfter best (Some x)) → IsNotAfter b (Some o) → IsNotAfter best (Some o)
    listed None all h = absurd h
    listed (Some x) all h = IsNotAfter-trans best (Some x) (Some o) (all x refl) h

    unlisted : (floor : Floor) → IsDecided floor (Counts g fleet r c) → IsTrueOf g fleet r o.place f.car floor None → IsNotAfter best (Some o)
    unlisted Nothing d t = absurd d
    unlisted (Above x) d t = let more = t o (offer_now g fleet r o f) in let at_most = d.2 in dearer best d.0 o (first_leads (Counts g fleet r c) best d.0 first d.1) (omega arith)
    unlisted All d t = absurd (t o (offer_now g fleet r o f))

    by_entry : (entry : Option Candidate) → IsTrueOf g fleet r o.place f.car c.floor entry → has_moved (front_of f.car.plan fleet.clock) entry ≡ false → ((x : Offer) → best_in entry ≡ Some x → IsNotAfter best (Some x)) → IsNotAfter best (Some o)
    by_entry None t m all = unlisted c.floor decided t
    by_entry (Some e) t m all =
        let front : front_of f.car.plan fleet.clock ≡ e.front = sym (same_front e.front (front_of f.car.plan fleet.clock) (not-false _ m)) in
        listed e.best all (first_leads (IsOfferFrom g fleet.rates o.place f.car e.front r) e.best o t
        (subst (λ (x : Front). IsOfferFrom g fleet.rates o.place f.car x r o) front (offer_now g fleet r o f)))

    go : (redone : Bool) → is_redone c fleet.clock o.place f.car ≡ redone → IsNotAfter best (Some o)
    go true e = counts o true e (offer_now g fleet r o f)
    go false e = let n = not_redone o.place f.car f.stands e in by_entry (entry_of c.entries o.place) n.0 n.1 (λ x b. counts x false e b)

  -- Sound candidates settle to the best insertion of the fleet as it is.
  pub settled : (best : Option Offer) → Settles g fleet r c → IsFirst (Counts g fleet r c) best → IsFirst (IsOffer g fleet r) best
  settled None d f = λ o h. counts_all None o d f h
  settled (Some b) d f = (counts_feasible b f.0, λ other h. counts_all (Some b) other d f h)

-- the first offer of a fleet is its best insertion
pub first_is_best : (g : Roads) (fleet : Cars) (r : Request) (o : Offer) → IsFirst (IsOffer g fleet r) (Some o) → IsBest g fleet r o
first_is_best g fleet r o f = record { feasible = f.0; least = f.1 }

-- and where there is none, none is feasible
pub none_is_none : (g : Roads) (fleet : Cars) (r : Request) → IsFirst (IsOffer g fleet r) None → NoOffer g fleet r
none_is_none g fleet r f = f

-- in one word
pub best_or_none : (g : Roads) (fleet : Cars) (r : Request) (best : Option Offer) → IsFirst (IsOffer g fleet r) best → IsBestOrNone g fleet r best
best_or_none g fleet r None f = none_is_none g fleet r f
best_or_none g fleet r (Some o) f = first_is_best g fleet r o f

-- one offer alone is the first of itself
pub first_alone : (b : Option Offer) → IsFirst (λ (o : Offer). b ≡ Some o) b
first_alone None = λ o e. cc
first_alone (Some b) = (refl, λ other e before. (let same : b ≡ other = cc in offer_cmp-self b (subst (λ (x : Offer). offer_cmp x b ≡ Less) (sym same) before)))

-- the sooner of the firsts is the first of both
pub first_of_both : (one two both : Offer → Type 0) (a b o : Option Offer) → ((x : Offer) → both x → one x ⊎ two x) → ((x : Offer) → one x → both x) → ((x : Offer) → two x → both x)
    → IsFirst one a → IsFirst two b → IsFirstOfTwo a b o → IsFirst both o
first_of_both one two both a b o split from_one from_two f g s = go o s.first s.second s.one where
  leads : (o : Option Offer) → IsNotAfter o a → IsNotAfter o b → (x : Offer) → both x → IsNotAfter o (Some x)
  leads o p q x h = on (split x h) where
    on : one x ⊎ two x → IsNotAfter o (Some x)
    on (inl k) = IsNotAfter-trans o a (Some x) p (first_leads one a x f k)
    on (inr k) = IsNotAfter-trans o b (Some x) q (first_leads two b x g k)

  go : (o : Option Offer) → IsNotAfter o a → IsNotAfter o b → (o ≡ a) ⊎ (o ≡ b) → IsFirst both o
  go None p q e = λ x h. leads None p q x h
  go (Some x) p q (inl e) = (from_one x (first_is one a x f (sym e)), λ other h. leads (Some x) p q other h)
  go (Some x) p q (inr e) = (from_two x (first_is two b x g (sym e)), λ other h. leads (Some x) p q other h)

module _ (g : Roads) (fleet : Cars) (r : Request) (c : Candidates) where
  -- the offers of one vehicle that count, and those of the first n vehicles
  abbrev pub CountsAt : ℕ → Car → Offer → Type 0
  CountsAt place car o = CountsAs g fleet r place car (entry_of c.entries place) o (is_redone c fleet.clock place car)

  abbrev pub CountsBelow : ℕ → Offer → Type 0
  CountsBelow n o = (k : Counts g fleet r c o) × (k.place < n)

  -- of a vehicle that isn't priced anew the listed offer is the first
  pub first_listed : (place : ℕ) (car : Car) → is_redone c fleet.clock place car ≡ false → IsFirst (CountsAt place car) (best_in (entry_of c.entries place))
  first_listed place car e = subst (λ (b : Bool). IsFirst (λ (o : Offer). CountsAs g fleet r place car (entry_of c.entries place) o b) (best_in (entry_of c.entries place))) (sym e) (first_alone (best_in (entry_of c.entries place)))

  -- of one that is, its best offer now
  pub first_anew : (place : ℕ) (car : Car) (best : Option Offer) → is_redone c fleet.clock place car ≡ true → IsFirst (IsOfferNow g fleet place car r) best → IsFirst (CountsAt place car) best
  first_anew place car best e f = subst (λ (b : Bool). IsFirst (λ (o : Offer). CountsAs g fleet r place car (entry_of c.entries place) o b) best) (sym e) f

  -- one vehicle more
  pub first_next : (n : ℕ) (car : Car) (best at next : Option Offer) → slice_get fleet.cars n ≡ Some car → IsFirst (CountsBelow n) best → IsFirst (CountsAt n car) at → IsFirstOfTwo best at next → IsFirst (CountsBelow (suc n)) next
  first_next n car best at next h f k s = first_of_both (CountsBelow n) (CountsAt n car) (CountsBelow (suc n)) best at next (λ x z. split x z.0 z.1 (cases_lt z.0.place n)) (λ x z. (z.0, let l = z.1 in omega arith))
      (λ x z. (record { place = n; car = car; stands = h; is = z }, omega arith)) f k s
    where
      split : (x : Offer) (z : Counts g fleet r c x) → z.place < suc n → (z.place < n) ⊎ (n ≤ z.place) → CountsBelow n x ⊎ CountsAt n car x
      split x z l (inl b) = inl (z, b)
      split x z l (inr b) = inr (here z.place z.car (omega arith) z.stands z.is) where
        here : (place : ℕ) (other : Car) → place ≡ n → slice_get fleet.cars place ≡ Some other → CountsAt place other x → CountsAt n car x
        here place other e q i = let q' = subst (λ (k : ℕ). slice_get fleet.cars k ≡ Some other) e q in
            subst (λ (d : Car). CountsAt n d x) (same_Some other car (sym q' ∙ h)) (subst (λ (k : ℕ). CountsAt k other x) e i)

  -- none before the first vehicle
  pub first_none : IsFirst (CountsBelow 0) None
  first_none = λ o z. (let l = z.1 in absurd (omega arith))

  -- and all of them in the end
  pub first_all : (best : Option Offer) → IsFirst (CountsBelow (length fleet.cars)) best → IsFirst (Counts g fleet r c) best
  first_all None f = λ o z. f o (z, slice_get_within fleet.cars z.place z.car z.stands)
  first_all (Some b) f = (f.0.0, λ other z. f.1 other (z, slice_get_within fleet.cars z.place z.car z.stands))

-- some offers are enough exactly where the first of them is
pub decided_by_first : (floor : Floor) (among : Offer → Type 0) (best : Option Offer) → IsFirst among best → is_decided floor best ≡ true → IsDecided floor among
decided_by_first Nothing among best f h = cc
decided_by_first (Above x) among None f h = cc
decided_by_first (Above x) among (Some b) f h = (b, f.0, leb-true b.cost x h)
decided_by_first All among best f h = tt

pub first_decides : (floor : Floor) (among : Offer → Type 0) (best : Option Offer) → IsFirst among best → IsDecided floor among → is_decided floor best ≡ true
first_decides Nothing among best f d = absurd d
first_decides (Above x) among None f d = absurd (f d.0 d.1)
first_decides (Above x) among (Some b) f d = le-leb b.cost x (let first = cost b d.0 (f.1 d.0 d.1) in let l = d.2 in omega arith) where
  cost : (b o : Offer) → (offer_cmp o b ≡ Less → ⊥) → b.cost ≤ o.cost
  cost b o h = grind (arith, nat_tests)
first_decides All among best f d = refl

-- candidates that say nothing are sound at each version from theirs on
pub none_sound : (g : Roads) (fleet : Cars) (r : Request) (base : ℕ) → base ≤ fleet.version → AreSound g fleet r (none_at base)
none_sound g fleet r base l = record {
  base = l;
  within = λ k e h. cc;
  once = λ k m e f h. cc;
  true_of = λ place car h m. tt;
}

-- where none is listed twice, what is listed is the entry of its vehicle
pub entry_listed : (entries : List Candidate) (k : ℕ) (e : Candidate) → slice_get entries k ≡ Some e
    → ((k l : ℕ) (e f : Candidate) → slice_get entries k ≡ Some e → slice_get entries l ≡ Some f → e.place ≡ f.place → k ≡ l) → entry_of entries e.place ≡ Some e
entry_listed [] k e h once = cc
entry_listed (x ∷ entries) zero e h once = let same : x ≡ e = cc in cond-true _ _ _ (eq-eqb x.place e.place (ap (λ (y : Candidate). y.place) same)) ∙ ap (λ (y : Candidate). Some y) same
entry_listed (x ∷ entries) (suc k) e h once = cond-false _ _ _ (ne_eqb x.place e.place (λ same. let bad = once 0 (suc k) x e refl h same in absurd (omega arith)))
    ∙ entry_listed entries k e h (λ m l f h' a b s. (let n = once (suc m) (suc l) f h' a b s in omega arith))

-- the entry of a vehicle is listed
pub entry_found : (entries : List Candidate) (place : ℕ) (x : Candidate) → entry_of entries place ≡ Some x → (k : ℕ) × (slice_get entries k ≡ Some x) × (x.place ≡ place)
entry_found [] place x h = cc
entry_found (y ∷ entries) place x h = on (y.place == place) refl h (entry_found entries place x) where
  on : (b : Bool) → (y.place == place) ≡ b → cond b (Some y) (entry_of entries place) ≡ Some x → (entry_of entries place ≡ Some x → (k : ℕ) × (slice_get entries k ≡ Some x) × (x.place ≡ place))
      → (k : ℕ) × (slice_get (y ∷ entries) k ≡ Some x) × (x.place ≡ place)
  on true e h rest = let q : y ≡ x = cc in (0, h, subst (λ (z : Candidate). z.place ≡ place) q (eqb-true _ _ e))
  on false e h rest = let z = rest h in (suc z.0, z.1, z.2)

-- what is read past the end of a fleet
no_car : Car
no_car = record { no = record { 0 = 0 }; plan = record { seats = 0; spaces = 0; until = 0; place = record { 0 = 0 }; departure = 0; halt = false; stops = []; legs = [] }; stamp = 0 }

-- a front is like itself
front-self : (f : Front) → is_same_front f f ≡ true
front-self f = rw (eq-eqb f.node.0 f.node.0 refl, eq-eqb f.time f.time refl, eq-eqb f.offset f.offset refl) refl

module _ (g : Roads) (fleet : Cars) (r : Request) (c : Candidates) (fresh : AreFresh g fleet r c) (stamps : (place : ℕ) (car : Car) → slice_get fleet.cars place ≡ Some car → car.stamp ≤ fleet.version) where
  -- of fresh candidates no vehicle is priced anew
  pub none_redone : (place : ℕ) (car : Car) → slice_get fleet.cars place ≡ Some car → is_redone c fleet.clock place car ≡ false
  none_redone place car h = both (le-ltb c.base car.stamp (let a = stamps place car h in let b = fresh.version in omega arith)) (still (entry_of c.entries place) refl) where
    both : {a b : Bool} → a ≡ false → b ≡ false → (a || b) ≡ false
    both p q = rw (p, q) refl

    still : (entry : Option Candidate) → entry_of c.entries place ≡ entry → has_moved (front_of car.plan fleet.clock) entry ≡ false
    still None e = refl
    still (Some x) e =
        let at = entry_found c.entries place x e in
        let front = fresh.fronts at.0 x car at.1 (ap (slice_get fleet.cars) at.2 ∙ h) in
        subst (λ (f : Front). not (is_same_front f (front_of car.plan fleet.clock)) ≡ false) (sym front) (ap not (front-self (front_of car.plan fleet.clock)))

  -- what is listed counts
  listed_counts : (o : Offer) → IsListed c.entries o → Counts g fleet r c o
  listed_counts o l = record { place = e.place; car = car; stands = stands; is = subst (CountsAs g fleet r e.place car (entry_of c.entries e.place) o) (sym (none_redone e.place car stands)) is } where
    e : Candidate
    e = l.1

    car : Car
    car = get_or fleet.cars e.place no_car

    stands : slice_get fleet.cars e.place ≡ Some car
    stands = slice_get-get_or fleet.cars e.place no_car (fresh.sound.within l.0 l.1 l.2)

    is : best_in (entry_of c.entries e.place) ≡ Some o
    is = ap best_in (entry_listed c.entries l.0 l.1 l.2 fresh.sound.once) ∙ l.3

  -- and nothing else does
  counted_listed : (o : Offer) → Counts g fleet r c o → IsListed c.entries o
  counted_listed o k = on (entry_of c.entries k.place) refl (subst (CountsAs g fleet r k.place k.car (entry_of c.entries k.place) o) (none_redone k.place k.car k.stands) k.is) where
    on : (entry : Option Candidate) → entry_of c.entries k.place ≡ entry → best_in entry ≡ Some o → IsListed c.entries o
    on None e h = cc
    on (Some x) e h = let at = entry_found c.entries k.place x e in (at.0, x, at.1, h)

  -- Fresh candidates that decide settle.
  pub fresh_settle : Decides c → Settles g fleet r c
  fresh_settle d = on c.floor d where
    on : (floor : Floor) → IsDecided floor (IsListed c.entries) → IsDecided floor (Counts g fleet r c)
    on Nothing d = absurd d
    on (Above x) d = (d.0, listed_counts d.0 d.1, d.2)
    on All d = tt

  -- and the first of what they list is the best insertion
  pub listed_best : (best : Option Offer) → Decides c → IsFirst (IsListed c.entries) best → IsBestOrNone g fleet r best
  listed_best best d f = best_or_none g fleet r best (settled g fleet r c fresh.sound best (fresh_settle d) (counted best f)) where
    counted : (best : Option Offer) → IsFirst (IsListed c.entries) best → IsFirst (Counts g fleet r c) best
    counted None f = λ o k. f o (counted_listed o k)
    counted (Some b) f = (listed_counts b f.0, λ other k. f.1 other (counted_listed other k))
