use Rattle.std.proofs.Common.{◌≡◌, ℕ, suc, ◌+◌, ◌≤◌, ◌&&◌, ◌==◌, nat_le, Bool, true, Option, Some, length, slice_get, refl, sym, ap, ◌∙◌, subst, add-one}
use Rattle.std.proofs.lemmas.Bool.{and_from, le-leb, or_right}
use Rattle.stop_schedule.specs.declared.stop.SeatKind.TheVariants.{Seat, Space}
use Rattle.stop_schedule.specs.declared.stop.Stop.{Stop}
use Rattle.stop_schedule.specs.declared.stop.StopKind.{StopKind}
use Rattle.stop_schedule.specs.declared.stop.StopKind.TheVariants.{Pickup, Dropoff}
use Rattle.stop_schedule.specs.Keeping.{each_below, is_seated, is_in_time, are_in_time, is_over_by, keeps, most_stops}
use Rattle.stop_schedule.specs.Plans.{Plan, Course, course_of}
use Rattle.stop_schedule.specs.Rates.{Rates}
use Rattle.stop_schedule.specs.Times.{departs, arrives, aboard, promised_time, kept_time}

-- a test that one number more passes
pub one_more : (k : ℕ) (test : ℕ → Bool) → each_below k test ≡ true → test k ≡ true → each_below (k + 1) test ≡ true
one_more k test all this = rw (add-one k) (and_from (each_below k test) (test k) all this)

pub seated_at : (p : Plan) (k : ℕ) → aboard Seat p.stops k ≤ p.seats → aboard Space p.stops k ≤ p.spaces → (nat_le (aboard Seat p.stops k) p.seats && nat_le (aboard Space p.stops k) p.spaces) ≡ true
seated_at p k seats spaces = and_from (nat_le (aboard Seat p.stops k) p.seats) (nat_le (aboard Space p.stops k) p.spaces) (le-leb (aboard Seat p.stops k) p.seats seats) (le-leb (aboard Space p.stops k) p.spaces spaces)

-- the promised time of a stop is the one that is kept
promised : (stop : ℕ) (c : Course) (i : ℕ) (kind : StopKind) → promised_time stop c i kind ≡ kept_time kind (arrives stop c i) (departs stop c i)
promised stop c i Pickup = refl
promised stop c i Dropoff = refl

pub in_time_at : (stop : ℕ) (p : Plan) (k arrival departure : ℕ) (s : Stop) → slice_get p.stops k ≡ Some s → arrival ≡ arrives stop (course_of p) (k + 1) → departure ≡ departs stop (course_of p) (k + 1) → kept_time s.kind arrival departure ≤ s.limit
    → is_in_time stop (course_of p) (suc k) (slice_get p.stops k) ≡ true
in_time_at stop p k arrival departure s there reached left l =
    let c = course_of p in
    let at : arrival ≡ arrives stop c (suc k) = reached ∙ ap (arrives stop c) (add-one k) in
    let off : departure ≡ departs stop c (suc k) = left ∙ ap (departs stop c) (add-one k) in
    let same = ap (λ (m : ℕ). kept_time s.kind m departure) at ∙ ap (λ (m : ℕ). kept_time s.kind (arrives stop c (suc k)) m) off ∙ sym (promised stop c (suc k) s.kind) in
    subst (λ (o : Option Stop). is_in_time stop c (suc k) o ≡ true) (sym there)
    (le-leb (promised_time stop c (suc k) s.kind) s.limit (subst (λ (m : ℕ). m ≤ s.limit) same l))

-- with all its parts a list keeps
pub all_kept : (rates : Rates) (p : Plan) → length p.stops ≤ most_stops → is_seated p.seats p.spaces p.stops ≡ true → are_in_time rates.stop (course_of p) ≡ true → departs rates.stop (course_of p) (length p.stops) ≤ p.until → keeps rates p ≡ true
all_kept rates p few seated in_time over =
    let fits = nat_le (length p.stops) most_stops in
    let room = is_seated p.seats p.spaces p.stops in
    let times = are_in_time rates.stop (course_of p) in
    and_from (fits && room && times) (is_over_by rates.stop (course_of p) p.until) (and_from (fits && room) times (and_from fits room (le-leb (length p.stops) most_stops few) seated) in_time)
    (or_right (length p.stops == 0) (nat_le (departs rates.stop (course_of p) (length p.stops)) p.until) (le-leb (departs rates.stop (course_of p) (length p.stops)) p.until over))
