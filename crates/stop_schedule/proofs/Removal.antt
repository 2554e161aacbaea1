use Rattle.std.proofs.Common.{◌≡◌, ℕ, zero, suc, ◌+◌, ◌<◌, ◌≤◌, max, List, [], ◌∷◌, length, Option, Some, refl, subst, arith}
use Rattle.std.specs.Prelude.{slice_index}
use Rattle.std.specs.List.{insert}
use Rattle.road_graph.specs.declared.road.NodeNo.{NodeNo}
use Rattle.stop_schedule.specs.declared.stop.Stop.{Stop}
use Rattle.stop_schedule.specs.declared.stop.StopKind.TheVariants.{Dropoff}
use Rattle.stop_schedule.specs.Plans.{Course}
use Rattle.stop_schedule.specs.Times.{departs, arrives, halt_time}
use Rattle.stop_schedule.proofs.Holds.{Holds}
use Rattle.stop_schedule.proofs.IsKept.{course, departs_shift, promised_shift}
use Rattle.stop_schedule.proofs.OneMore.{split, holds_without}
use Rattle.stop_schedule.proofs.OneLess.{StartsAt, without_first, length-put, length-split}
use Rattle.stop_schedule.proofs.IsSooner.{departs_sooner, no_sooner, past}

-- What holds with both stops of a rider holds without them, over ways that are no longer: a removal breaks no promise.
pub removal_holds : (stop until i j : ℕ) (halt halt' : Option NodeNo) (left left' x y u v : ℕ) (p d : Stop) (stops : List Stop) (lengths : List ℕ) → length lengths ≡ length stops → i ≤ j → j ≤ length stops
    → StartsAt stop i p.node halt halt' left left' → (0 < i → slice_index (split j u v lengths) i ≤ x + y) → (i ≡ 0 → left + slice_index (split j u v lengths) 0 ≤ left' + x + y) → (j < length stops → slice_index lengths j ≤ u + v)
    → Holds stop until halt' left' (insert (insert stops j d) i p) (split i x y (split j u v lengths)) → Holds stop until halt left stops lengths
removal_holds stop until i j halt halt' left left' x y u v p d stops lengths many o l start near first far old =
    let more = length-put j d stops l in
    let ways_more = length-split j u v lengths (omega arith) in
    holds_without stop until j halt left u v d stops lengths many l far
    (without_first stop until i halt halt' left left' x y p (insert stops j d) (split j u v lengths) (omega arith) (omega arith) (omega arith) start (λ a b. near a) first old)

-- no stop of one course is reached or left later than the one that stands for it in the other
abbrev pub IsNoLater : ℕ → Course → Course → ℕ → ℕ → Type 0
IsNoLater stop c e k l = (arrives stop c (suc k) ≤ arrives stop e (suc l)) × (departs stop c (suc k) ≤ departs stop e (suc l))

-- one stop less makes no other stop later, also where the list then starts from another place
pub no_sooner_from : (stop n : ℕ) (halt halt' : Option NodeNo) (left left' x y : ℕ) (t : Stop) (stops : List Stop) (lengths : List ℕ) → length lengths ≡ length stops → StartsAt stop n t.node halt halt' left left'
    → (0 < n → n < length stops → slice_index lengths n ≤ x + y) → (n ≡ 0 → left + slice_index lengths 0 ≤ left' + x + y) → (k : ℕ) → k < length stops
    → IsNoLater stop (course halt left stops lengths) (course halt' left' (insert stops n t) (split n x y lengths)) k (past n k)
no_sooner_from stop n halt halt' left left' x y t [] lengths many start near first k l = absurd (omega arith)
no_sooner_from stop n halt halt' left left' x y t (s ∷ stops) [] many start near first k l = absurd (omega arith)
no_sooner_from stop zero halt halt' left left' x y t (s ∷ stops) (z ∷ lengths) many start near first k l =
    let shorter = first refl in
    let next = max (left' + x + halt_time stop halt' t.node) t.ready in
    let sooner = departs_sooner stop halt (Some t.node) left next z y (s ∷ stops) lengths lengths
    (record { first = omega arith; halts = λ m. let e = start.first refl m in omega arith; legs = λ m. omega arith }) k in
    let shift = departs_shift stop halt' left' x t (s ∷ stops) (y ∷ lengths) (suc k) in
    let arrive = promised_shift stop halt' left' x t (s ∷ stops) (y ∷ lengths) k Dropoff in
    (omega (arith, arrive, sooner), omega (arith, shift, sooner))
no_sooner_from stop (suc n) halt halt' left left' x y t (s ∷ stops) (z ∷ lengths) many start near first k l =
    let old = course halt left (s ∷ stops) (z ∷ lengths) in
    let more = insert (s ∷ stops) (suc n) t in
    let ways = split (suc n) x y (z ∷ lengths) in
    subst (λ (h : Option NodeNo). IsNoLater stop old (course h left' more ways) k (past (suc n) k)) (start.halts (omega arith))
    (subst (λ (m : ℕ). IsNoLater stop old (course halt m more ways) k (past (suc n) k)) (start.leaves (omega arith))
    (no_sooner stop (suc n) halt left x y t (s ∷ stops) (z ∷ lengths) many (λ m. near (omega arith) m) k l))

past_within : (j k m : ℕ) → j ≤ m → k < m → past j k < m + 1
past_within zero k m l h = omega arith
past_within (suc j) zero m l h = omega arith
past_within (suc j) (suc k) zero l h = absurd (omega arith)
past_within (suc j) (suc k) (suc m) l h = let more = past_within j k m (omega arith) (omega arith) in omega arith

-- A removal makes no other stop later.
pub none_later : (stop i j : ℕ) (halt halt' : Option NodeNo) (left left' x y u v : ℕ) (p d : Stop) (stops : List Stop) (lengths : List ℕ) → length lengths ≡ length stops → i ≤ j → j ≤ length stops
    → StartsAt stop i p.node halt halt' left left' → (0 < i → slice_index (split j u v lengths) i ≤ x + y) → (i ≡ 0 → left + slice_index (split j u v lengths) 0 ≤ left' + x + y) → (j < length stops → slice_index lengths j ≤ u + v)
    → (k : ℕ) → k < length stops → IsNoLater stop (course halt left stops lengths) (course halt' left' (insert (insert stops j d) i p) (split i x y (split j u v lengths))) k (past i (past j k))
none_later stop i j halt halt' left left' x y u v p d stops lengths many o l start near first far k h =
    let more = length-put j d stops l in
    let ways_more = length-split j u v lengths (omega arith) in
    let inner = no_sooner stop j halt left u v d stops lengths many far k h in
    let there = past_within j k (length stops) l h in
    let outer = no_sooner_from stop i halt halt' left left' x y p (insert stops j d) (split j u v lengths) (omega arith) start (λ a b. near a) first (past j k) (omega arith) in
    (omega (arith, inner, outer), omega (arith, inner, outer))
