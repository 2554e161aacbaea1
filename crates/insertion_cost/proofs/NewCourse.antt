use Rattle.std.proofs.Common.{◌≡◌, ℕ, zero, suc, ◌+◌, ◌-◌, ◌<◌, ◌≤◌, ◌==◌, ◌↔◌, nat_lt, cond, max, List, [], ◌∷◌, ◌++◌, take, drop, length, Option, Some, refl, sym, ap, ◌∙◌, arith, append_assoc, ⊎_elim}
use Rattle.std.specs.List.{insert}
use Rattle.std.proofs.lemmas.Bool.{cases_lt, cond-true, cond-false, eq-eqb, ne_eqb, lt-ltb, le-ltb}
use Rattle.std.proofs.lemmas.List.{drop-drop}
use Rattle.std.proofs.lemmas.List.Sums.{sum_by-cons}
use Rattle.road_graph.specs.declared.road.NodeNo.{NodeNo}
use Rattle.stop_schedule.specs.declared.stop.Insertion.{Insertion}
use Rattle.stop_schedule.specs.declared.stop.Stop.{Stop}
use Rattle.stop_schedule.specs.Lists.{with_both, with_legs}
use Rattle.stop_schedule.specs.Plans.{halt_at}
use Rattle.stop_schedule.specs.Times.{departs, arrives, halt_time, stop_times}
use Rattle.stop_schedule.proofs.ListLaws.{split, behind_split, shape_together, shape_apart}
use Rattle.stop_schedule.proofs.TimeLaws.{Holds, course, whole, behind, halt_shift, departs_shift, promised_shift}
use Rattle.stop_schedule.specs.declared.stop.StopKind.TheVariants.{Dropoff}
use Rattle.insertion_cost.specs.Behind.{busy_along, busy_behind}
use Rattle.insertion_cost.specs.OnWays.{out_of, by_way, changed}
use Rattle.insertion_cost.specs.Prices.{busy_time}

-- the stops of a new list: those up to stop i, the pickup, and the rest with the dropoff among them
pub stops_are : (stops : List Stop) (at : Insertion) (n : ℕ) (p d : Stop) → at.j ≡ at.i + n → with_both stops at p d ≡ take at.i stops ++ p ∷ insert (drop at.i stops) n d
stops_are stops at n p d e =
    let far : at.j - at.i ≡ n = omega arith in
    let rest : drop n (drop at.i stops) ≡ drop at.j stops = drop-drop n at.i stops ∙ ap (λ (m : ℕ). drop m stops) (omega arith) in
    append_assoc (take at.i stops) (p ∷ take (at.j - at.i) (drop at.i stops)) (d ∷ drop at.j stops)
    ∙ ap (λ (m : ℕ). take at.i stops ++ (p ∷ take m (drop at.i stops) ++ d ∷ drop at.j stops)) far
    ∙ ap (λ (l : List Stop). take at.i stops ++ (p ∷ take n (drop at.i stops) ++ d ∷ l)) (sym rest)

split_is : (n u v : ℕ) (zs : List ℕ) → split n u v zs ≡ by_way n u v zs
split_is zero u v [] = refl
split_is zero u v (z ∷ zs) = refl
split_is (suc n) u v [] = refl
split_is (suc n) u v (z ∷ zs) = ap (λ (l : List ℕ). z ∷ l) (split_is n u v zs)

together : (i x y u w v : ℕ) (zs : List ℕ) → i ≤ length zs → split i x u (split i w v zs) ≡ take i zs ++ x ∷ by_way 0 u v (out_of y (drop i zs))
together zero x y u w v [] l = refl
together zero x y u w v (z ∷ zs) l = refl
together (suc i) x y u w v [] l = absurd (omega arith)
together (suc i) x y u w v (z ∷ zs) l = ap (λ (m : List ℕ). z ∷ m) (together i x y u w v zs (omega arith))

apart : (i j n x y u v : ℕ) (zs : List ℕ) → j ≡ suc (i + n) → j ≤ length zs → split i x y (split j u v zs) ≡ take i zs ++ x ∷ by_way (suc n) u v (out_of y (drop i zs))
apart i zero n x y u v zs e l = absurd (omega arith)
apart i (suc j) n x y u v [] e l = absurd (omega arith)
apart zero (suc j) n x y u v (z ∷ zs) e l = let same : j ≡ n = omega arith in rw (sym same) (ap (λ (m : List ℕ). x ∷ y ∷ m) (split_is j u v zs))
apart (suc i) (suc j) n x y u v (z ∷ zs) e l = ap (λ (m : List ℕ). z ∷ m) (apart i j n x y u v zs (omega arith) (omega arith))

last_in : (j v : ℕ) (zs : List ℕ) → j < length zs → behind_split j v zs ≡ v ∷ []
last_in j v [] l = absurd (omega arith)
last_in zero v (z ∷ zs) l = refl
last_in (suc j) v (z ∷ zs) l = last_in j v zs (omega arith)

last_out : (j v : ℕ) (zs : List ℕ) → length zs ≤ j → behind_split j v zs ≡ []
last_out j v [] l = refl
last_out zero v (z ∷ zs) l = absurd (omega arith)
last_out (suc j) v (z ∷ zs) l = last_out j v zs (omega arith)

last_of : (j v : ℕ) (zs : List ℕ) → cond (nat_lt j (length zs)) (v ∷ []) [] ≡ behind_split j v zs
last_of j v zs = ⊎_elim
    (λ (l : j < length zs). cond-true (nat_lt j (length zs)) (v ∷ []) [] (lt-ltb j (length zs) l) ∙ sym (last_in j v zs l))
    (λ (l : length zs ≤ j). cond-false (nat_lt j (length zs)) (v ∷ []) [] (le-ltb j (length zs) l) ∙ sym (last_out j v zs l))
    (cases_lt j (length zs))

-- the lengths of a new list, in the same way
pub lengths_are : (zs : List ℕ) (at : Insertion) (n x y u v : ℕ) → at.j ≡ at.i + n → at.j ≤ length zs
    → with_legs zs at (changed at.i at.j (length zs) x y u v) ≡ take at.i zs ++ x ∷ by_way n u v (out_of y (drop at.i zs))
lengths_are zs at zero x y u v e l =
    let same : at.i ≡ at.j = omega arith in
    ap (λ (m : List ℕ). with_legs zs at (x ∷ m ++ cond (nat_lt at.j (length zs)) (v ∷ []) [])) (cond-true (at.i == at.j) (u ∷ []) (y ∷ u ∷ []) (eq-eqb at.i at.j same))
    ∙ ap (λ (m : List ℕ). with_legs zs at (x ∷ u ∷ m)) (last_of at.j v zs)
    ∙ shape_together zs at x u u v same l
    ∙ ap (λ (m : ℕ). split at.i x u (split m u v zs)) (sym same)
    ∙ together at.i x y u u v zs (omega arith)
lengths_are zs at (suc n) x y u v e l =
    ap (λ (m : List ℕ). with_legs zs at (x ∷ m ++ cond (nat_lt at.j (length zs)) (v ∷ []) [])) (cond-false (at.i == at.j) (u ∷ []) (y ∷ u ∷ []) (ne_eqb at.i at.j (λ same. omega arith)))
    ∙ ap (λ (m : List ℕ). with_legs zs at (x ∷ y ∷ u ∷ m)) (last_of at.j v zs)
    ∙ shape_apart zs at x y u v (omega arith) l
    ∙ apart at.i at.j n x y u v zs (omega arith) l

module _ (stop until : ℕ) where
  -- a first part that is that of a course which holds is kept
  pub holds_past : (i : ℕ) (halt : Option NodeNo) (left : ℕ) (stops : List Stop) (zs : List ℕ) (more : List Stop) (ways : List ℕ) → i ≤ length stops → (0 < i → Holds stop until halt left stops zs)
      → let c = course halt left stops zs in Holds stop until halt left (take i stops ++ more) (take i zs ++ ways) ↔ Holds stop until (halt_at c i) (departs stop c i) more ways
  holds_past zero halt left stops zs more ways l old = (λ h. h, λ h. h)
  holds_past (suc i) halt left [] zs more ways l old = absurd (omega arith)
  holds_past (suc i) halt left (s ∷ stops) [] more ways l old = absurd (old (omega arith))
  holds_past (suc i) halt left (s ∷ stops) (z ∷ zs) more ways l old =
      let h = old (omega arith) in
      let ahead = holds_past i (Some s.node) _ stops zs more ways (omega arith) (λ _. h.1) in
      rw (halt_shift stop halt left z s stops zs i, departs_shift stop halt left z s stops zs i) (λ k. ahead.0 k.1, λ k. (h.0, ahead.1 k))

  -- a vehicle that goes on leaves before the end of service
  pub holds_left : (halt : Option NodeNo) (left : ℕ) (stops : List Stop) (lengths : List ℕ) → Holds stop until halt left stops lengths → left ≤ until
  holds_left halt left [] lengths h = h
  holds_left halt left (s ∷ stops) [] h = absurd h
  holds_left halt left (s ∷ stops) (x ∷ lengths) h = let ahead = holds_left (Some s.node) _ stops lengths h.1 in omega arith

module _ (stop : ℕ) where
  -- and takes as long
  pub busy_past : (i : ℕ) (halt : Option NodeNo) (left : ℕ) (stops : List Stop) (zs : List ℕ) (more : List Stop) (ways : List ℕ) → i ≤ length stops → length zs ≡ length stops
      → let c = course halt left stops zs in busy_along stop halt (take i stops ++ more) (take i zs ++ ways) + busy_behind stop c i ≡ busy_along stop halt stops zs + busy_along stop (halt_at c i) more ways
  busy_past zero halt left stops zs more ways l many = omega arith
  busy_past (suc i) halt left [] zs more ways l many = absurd (omega arith)
  busy_past (suc i) halt left (s ∷ stops) [] more ways l many = absurd (omega arith)
  busy_past (suc i) halt left (s ∷ stops) (z ∷ zs) more ways l many =
      let ahead = busy_past i (Some s.node) (max (left + z + halt_time stop halt s.node) s.ready) stops zs more ways (omega arith) (omega arith) in
      let same = halt_shift stop halt left z s stops zs i in
      rw same (omega arith)

  -- the times behind it
  pub departs_past : (i l k : ℕ) (halt : Option NodeNo) (left : ℕ) (stops : List Stop) (zs : List ℕ) (more : List Stop) (ways : List ℕ) → l ≡ i + k → i ≤ length stops → length zs ≡ length stops
      → let c = course halt left stops zs in departs stop (course halt left (take i stops ++ more) (take i zs ++ ways)) l ≡ departs stop (course (halt_at c i) (departs stop c i) more ways) k
  departs_past zero l k halt left stops zs more ways e w many = let same : l ≡ k = omega arith in ap (departs stop (course halt left more ways)) same
  departs_past (suc i) zero k halt left stops zs more ways e w many = absurd (omega arith)
  departs_past (suc i) (suc l) k halt left [] zs more ways e w many = absurd (omega arith)
  departs_past (suc i) (suc l) k halt left (s ∷ stops) [] more ways e w many = absurd (omega arith)
  departs_past (suc i) (suc l) k halt left (s ∷ stops) (z ∷ zs) more ways e w many =
      departs_shift stop halt left z s (take i stops ++ more) (take i zs ++ ways) l
      ∙ rw (halt_shift stop halt left z s stops zs i, departs_shift stop halt left z s stops zs i) (departs_past i l k (Some s.node) _ stops zs more ways (omega arith) (omega arith) (omega arith))

  pub arrives_past : (i l k : ℕ) (halt : Option NodeNo) (left : ℕ) (stops : List Stop) (zs : List ℕ) (more : List Stop) (ways : List ℕ) → l ≡ i + k → i ≤ length stops → length zs ≡ length stops
      → let c = course halt left stops zs in arrives stop (course halt left (take i stops ++ more) (take i zs ++ ways)) (suc l) ≡ arrives stop (course (halt_at c i) (departs stop c i) more ways) (suc k)
  arrives_past zero l k halt left stops zs more ways e w many = let same : l ≡ k = omega arith in ap (λ (m : ℕ). arrives stop (course halt left more ways) (suc m)) same
  arrives_past (suc i) zero k halt left stops zs more ways e w many = absurd (omega arith)
  arrives_past (suc i) (suc l) k halt left [] zs more ways e w many = absurd (omega arith)
  arrives_past (suc i) (suc l) k halt left (s ∷ stops) [] more ways e w many = absurd (omega arith)
  arrives_past (suc i) (suc l) k halt left (s ∷ stops) (z ∷ zs) more ways e w many =
      promised_shift stop halt left z s (take i stops ++ more) (take i zs ++ ways) l Dropoff
      ∙ rw (halt_shift stop halt left z s stops zs i, departs_shift stop halt left z s stops zs i) (arrives_past i l k (Some s.node) _ stops zs more ways (omega arith) (omega arith) (omega arith))

  stop_times_shift : (halt : Option NodeNo) (left z : ℕ) (s : Stop) (stops : List Stop) (zs : List ℕ) (k : ℕ)
      → stop_times stop (whole stop halt left z s stops zs) (suc k) ≡ halt_time stop halt s.node + stop_times stop (behind stop halt left z s stops zs) k
  stop_times_shift halt left z s stops zs zero = omega arith
  stop_times_shift halt left z s stops zs (suc k) = let before = stop_times_shift halt left z s stops zs k in let same = halt_shift stop halt left z s stops zs k in rw (before, same) (omega arith)

  -- the busy time of a course is that along its stops
  pub busy_is : (halt : Option NodeNo) (left : ℕ) (stops : List Stop) (zs : List ℕ) → length zs ≡ length stops → busy_time stop (course halt left stops zs) ≡ busy_along stop halt stops zs
  busy_is halt left [] [] many = refl
  busy_is halt left [] (z ∷ zs) many = absurd (omega arith)
  busy_is halt left (s ∷ stops) [] many = absurd (omega arith)
  busy_is halt left (s ∷ stops) (z ∷ zs) many =
      let ahead = busy_is (Some s.node) (max (left + z + halt_time stop halt s.node) s.ready) stops zs (omega arith) in
      let shift = stop_times_shift halt left z s stops zs (length stops) in
      let ways = sum_by-cons (λ (n : ℕ). n) z zs in
      omega arith
