use Rattle.std.proofs.Common.{◌≡◌, ℕ, zero, suc, ◌+◌, ◌-◌, ◌<◌, ◌≤◌, Bool, true, List, [], ◌∷◌, ◌++◌, take, drop, map, length, Option, Some, None, sym, refl, ap, ◌∙◌, subst, arith, max, inl, inr, ◌⊎◌}
use Rattle.std.specs.Prelude.{slice_get, slice_index, sum_by, option_map}
use Rattle.std.proofs.lemmas.Bool.{and_parts, and_from, cases_lt}
use Rattle.std.proofs.lemmas.List.{map-append, drop-map, length-map}
use Rattle.std.proofs.lemmas.Option.{slice_get-map}
use Rattle.std.proofs.lemmas.List.Sums.{sum_by-cons}
use Rattle.road_graph.specs.declared.road.NodeNo.{NodeNo}
use Rattle.stop_schedule.specs.declared.stop.Insertion.{Insertion}
use Rattle.stop_schedule.specs.declared.stop.SeatKind.{SeatKind}
use Rattle.stop_schedule.specs.declared.stop.SeatKind.TheVariants.{Seat, Space}
use Rattle.stop_schedule.specs.declared.stop.Stop.{Stop}
use Rattle.stop_schedule.specs.declared.stop.StopKind.{StopKind}
use Rattle.stop_schedule.specs.declared.stop.StopKind.TheVariants.{Pickup, Dropoff}
use Rattle.stop_schedule.specs.Keeping.{each_below}
use Rattle.stop_schedule.specs.Lists.{with_both}
use Rattle.stop_schedule.specs.Plans.{Course, halt_at}
use Rattle.stop_schedule.specs.Times.{departs, stop_time, halt_time_or, ready_or, getting_on, getting_off, taking, aboard, aboard_before, promised_time}

-- a test that passes below n passes at each number below it, and the other way round
pub each_below_at : (n : ℕ) (test : ℕ → Bool) → each_below n test ≡ true → (k : ℕ) → k < n → test k ≡ true
each_below_at zero test h k l = absurd (omega arith)
each_below_at (suc n) test h k l = let p = and_parts _ _ h in on (cases_lt k n) (λ b. each_below_at n test p.0 k b) p.1
  where
    on : (k < n) ⊎ (n ≤ k) → (k < n → test k ≡ true) → test n ≡ true → test k ≡ true
    on (inl b) before here = before b
    on (inr b) before here = let e : n ≡ k = omega arith in subst (λ (m : ℕ). test m ≡ true) e here

-- the other way round
pub each_below_from : (n : ℕ) (test : ℕ → Bool) → ((k : ℕ) → k < n → test k ≡ true) → each_below n test ≡ true
each_below_from zero test all = refl
each_below_from (suc n) test all = and_from _ _ (each_below_from n test (λ k l. all k (omega arith))) (all n (omega arith))

-- a stop apart from its limit, on which no time hangs
abbrev pub unlimited : Stop → Stop
unlimited s = record s { limit = 0 }

-- two lists of stops are the same but for the limits
abbrev pub AreAlike : List Stop → List Stop → Type 0
AreAlike xs ys = map unlimited xs ≡ map unlimited ys

-- a stop is ready whatever its limit
pub ready_alike : (xs ys : List Stop) (k : ℕ) → AreAlike xs ys → ready_or (slice_get xs k) ≡ ready_or (slice_get ys k)
ready_alike xs ys k h = plain (slice_get xs k) ∙ ap ready_or (sym (slice_get-map unlimited xs k) ∙ ap (λ (l : List Stop). slice_get l k) h ∙ slice_get-map unlimited ys k) ∙ sym (plain (slice_get ys k))
  where
    plain : (o : Option Stop) → ready_or o ≡ ready_or (option_map unlimited o)
    plain None = refl
    plain (Some s) = refl

-- the vehicle halts at the same nodes
pub halt_alike : (c e : Course) → c.halt ≡ e.halt → AreAlike c.stops e.stops → (k : ℕ) → halt_at c k ≡ halt_at e k
halt_alike c e h s zero = h
halt_alike c e h s (suc k) = plain (slice_get c.stops k) ∙ ap (option_map (λ (t : Stop). t.node)) (sym (slice_get-map unlimited c.stops k) ∙ ap (λ (l : List Stop). slice_get l k) s ∙ slice_get-map unlimited e.stops k) ∙ sym (plain (slice_get e.stops k))
  where
    plain : (o : Option Stop) → option_map (λ (t : Stop). t.node) o ≡ option_map (λ (t : Stop). t.node) (option_map unlimited o)
    plain None = refl
    plain (Some t) = refl

-- and stops as long
pub stop_time_alike : (stop : ℕ) (c e : Course) → c.halt ≡ e.halt → AreAlike c.stops e.stops → (k : ℕ) → stop_time stop c k ≡ stop_time stop e k
stop_time_alike stop c e h s zero = refl
stop_time_alike stop c e h s (suc k) =
    ap (λ (o : Option NodeNo). halt_time_or stop o (slice_get c.stops k)) (halt_alike c e h s k)
    ∙ plain (slice_get c.stops k) ∙ ap (halt_time_or stop (halt_at e k)) (sym (slice_get-map unlimited c.stops k) ∙ ap (λ (l : List Stop). slice_get l k) s ∙ slice_get-map unlimited e.stops k) ∙ sym (plain (slice_get e.stops k))
  where
    plain : (o : Option Stop) → halt_time_or stop (halt_at e k) o ≡ halt_time_or stop (halt_at e k) (option_map unlimited o)
    plain None = refl
    plain (Some t) = refl

-- two courses that are the same but for the limits of their stops
pub record IsLike (c e : Course) : Type 0 where
  pub halt : c.halt ≡ e.halt
  pub departure : c.departure ≡ e.departure
  pub lengths : c.lengths ≡ e.lengths
  pub stops : AreAlike c.stops e.stops

-- they have the same times
pub departs_alike : (stop : ℕ) (c e : Course) → IsLike c e → (k : ℕ) → departs stop c k ≡ departs stop e k
departs_alike stop c e l zero = l.departure
departs_alike stop c e l (suc k) = let before = departs_alike stop c e l k in let ready = ready_alike c.stops e.stops k l.stops in let takes = stop_time_alike stop c e l.halt l.stops (suc k) in
    let long : slice_index c.lengths k ≡ slice_index e.lengths k = ap (λ (x : List ℕ). slice_index x k) l.lengths in one _ _ _ _ _ _ _ _ before long takes ready
  where
    one : (a a' b b' c c' d d' : ℕ) → a ≡ a' → b ≡ b' → c ≡ c' → d ≡ d' → max (a + b + c) d ≡ max (a' + b' + c') d'
    one a a' b b' c c' d d' p q r s = cc

-- so do the promised times
pub promised_alike : (stop : ℕ) (c e : Course) → IsLike c e → (k : ℕ) (kind : StopKind) → promised_time stop c (suc k) kind ≡ promised_time stop e (suc k) kind
promised_alike stop c e l k Pickup = departs_alike stop c e l (suc k)
promised_alike stop c e l k Dropoff = let before = departs_alike stop c e l k in
    let long : slice_index c.lengths k ≡ slice_index e.lengths k = ap (λ (x : List ℕ). slice_index x k) l.lengths in cc

-- so do the riders aboard
sums_alike : (f : Stop → ℕ) → ((s : Stop) → f (unlimited s) ≡ f s) → (xs : List Stop) → sum_by f (map unlimited xs) ≡ sum_by f xs
sums_alike f e [] = refl
sums_alike f e (x ∷ xs) = sum_by-cons f (unlimited x) (map unlimited xs) ∙ ap (λ (n : ℕ). n + sum_by f (map unlimited xs)) (e x) ∙ ap (λ (n : ℕ). f x + n) (sums_alike f e xs) ∙ sym (sum_by-cons f x xs)

takes : (s : Stop) (seat : SeatKind) → taking seat (unlimited s) ≡ taking seat s
takes s Seat = refl
takes s Space = refl

-- limits make no difference to who is aboard
aboard_unlimited : (seat : SeatKind) (xs : List Stop) (i : ℕ) → aboard seat (map unlimited xs) i ≡ aboard seat xs i
aboard_unlimited seat xs i = ap (aboard_before seat) (drop-map unlimited i xs) ∙ less _ _ _ _ (sums_alike (λ (s : Stop). getting_off seat s s.kind) (λ s. off s s.kind) (drop i xs)) (sums_alike (λ (s : Stop). getting_on seat s s.kind) (λ s. on s s.kind) (drop i xs))
  where
    less : (a b c d : ℕ) → a ≡ b → c ≡ d → a - c ≡ b - d
    less a b c d h k = cc

    off : (s : Stop) (kind : StopKind) → getting_off seat (unlimited s) kind ≡ getting_off seat s kind
    off s Pickup = refl
    off s Dropoff = takes s seat

    on : (s : Stop) (kind : StopKind) → getting_on seat (unlimited s) kind ≡ getting_on seat s kind
    on s Pickup = takes s seat
    on s Dropoff = refl

-- the same riders are aboard on each leg
pub aboard_alike : (seat : SeatKind) (xs ys : List Stop) (i : ℕ) → AreAlike xs ys → aboard seat xs i ≡ aboard seat ys i
aboard_alike seat xs ys i h = sym (aboard_unlimited seat xs i) ∙ ap (λ (l : List Stop). aboard seat l i) h ∙ aboard_unlimited seat ys i

-- the lists are as long
pub length_alike : (xs ys : List Stop) → AreAlike xs ys → length xs ≡ length ys
length_alike xs ys h = sym (length-map xs unlimited) ∙ ap length h ∙ length-map ys unlimited

-- the new stops' limits make no other difference
pub with_both_alike : (stops : List Stop) (at : Insertion) (p d q e : Stop) → unlimited p ≡ unlimited q → unlimited d ≡ unlimited e → AreAlike (with_both stops at p d) (with_both stops at q e)
with_both_alike stops at p d q e hp hd = put p d ∙ ap2 (unlimited p) (unlimited q) (unlimited d) (unlimited e) hp hd ∙ sym (put q e)
  where
    put : (p d : Stop)
        → map unlimited (with_both stops at p d) ≡ map unlimited (take at.i stops) ++ unlimited p ∷ map unlimited (take (at.j - at.i) (drop at.i stops)) ++ unlimited d ∷ map unlimited (drop at.j stops)
    put p d = simp map-append

    ap2 : (a b c f : Stop) → a ≡ b → c ≡ f → map unlimited (take at.i stops) ++ a ∷ map unlimited (take (at.j - at.i) (drop at.i stops)) ++ c ∷ map unlimited (drop at.j stops)
        ≡ map unlimited (take at.i stops) ++ b ∷ map unlimited (take (at.j - at.i) (drop at.i stops)) ++ f ∷ map unlimited (drop at.j stops)
    ap2 a b c f h k = cc
