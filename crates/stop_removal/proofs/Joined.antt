use Rattle.std.proofs.Common.{◌≡◌, ℕ, zero, suc, ◌+◌, ◌<◌, ◌≤◌, List, [], ◌∷◌, length, Some, refl, sym, ap, ◌∙◌, arith, subst}
use Rattle.std.specs.Prelude.{slice_get, slice_index}
use Rattle.std.specs.List.{insert}
use Rattle.road_graph.specs.declared.road.NodeNo.{NodeNo}
use Rattle.road_graph.specs.Graphs.{IsGraph}
use Rattle.road_graph.specs.Paths.{Path}
use Rattle.road_graph.specs.Roads.{Roads}
use Rattle.road_graph.specs.Walks.{IsDist}
use Rattle.road_graph.proofs.WalkLaws.{one_distance, triangle}
use Rattle.stop_schedule.specs.declared.stop.Stop.{Stop}
use Rattle.stop_schedule.specs.Lists.{node_or}
use Rattle.stop_schedule.proofs.TimeLaws.{past}
use Rattle.stop_removal.proofs.Chained.{Chained, node_from, chained_dist}
use Rattle.stop_removal.proofs.PutBack.{insert_there, insert_past, past_before, past_from}
use Rattle.stop_removal.proofs.Ways.{ways}

-- an element that stays is found where the two that go leave it
module _ {X : Type 0} (left : List X) (i j : ℕ) (p d : X) (order : i ≤ j) (within : j ≤ length left) where
  abbrev old : List X
  old = insert (insert left j d) i p

  inner : (xs : List X) (n : ℕ) (x : X) → n ≤ length xs → length (insert xs n x) ≡ length xs + 1
  inner xs zero x l = omega arith
  inner [] (suc n) x l = absurd (omega arith)
  inner (y ∷ xs) (suc n) x l = let more = inner xs n x (omega arith) in omega arith

  outer : (k : ℕ) → slice_get old (past i k) ≡ slice_get (insert left j d) k
  outer k = insert_past (insert left j d) i p k (omega (arith, inner left j d within))

  pub pickup_stands : slice_get old i ≡ Some p
  pickup_stands = insert_there (insert left j d) i p (omega (arith, inner left j d within))

  pub dropoff_stands : slice_get old (suc j) ≡ Some d
  dropoff_stands = ap (slice_get old) (sym (past_from i j order)) ∙ outer j ∙ insert_there left j d within

  pub stands_before : (k : ℕ) → k < i → slice_get old k ≡ slice_get left k
  stands_before k l = ap (slice_get old) (sym (past_before i k l)) ∙ outer k ∙ ap (slice_get (insert left j d)) (sym (past_before j k (omega arith))) ∙ insert_past left j d k within

  pub stands_between : (k : ℕ) → i ≤ k → k < j → slice_get old (suc k) ≡ slice_get left k
  stands_between k l h = ap (slice_get old) (sym (past_from i k l)) ∙ outer k ∙ ap (slice_get (insert left j d)) (sym (past_before j k h)) ∙ insert_past left j d k within

  pub stands_behind : (k : ℕ) → j ≤ k → slice_get old (suc (suc k)) ≡ slice_get left k
  stands_behind k l = ap (slice_get old) (sym (past_from i (suc k) (omega arith))) ∙ outer (suc k) ∙ ap (slice_get (insert left j d)) (sym (past_from j k l)) ∙ insert_past left j d k within

  -- each by its place in the shorter list
  pub stays_at : (k : ℕ) → slice_get old (past i (past j k)) ≡ slice_get left k
  stays_at k = outer (past j k) ∙ insert_past left j d k within

-- a place of a list holds an element
pub held : {X : Type 0} (xs : List X) (k : ℕ) → k < length xs → (x : X) × (slice_get xs k ≡ Some x)
held [] k l = absurd (omega arith)
held (x ∷ xs) zero l = (x, refl)
held (x ∷ xs) (suc k) l = held xs k (omega arith)

module _ (g : Roads) (lawful : IsGraph g) where
  -- a distance is no longer than two ways one after the other, or three
  over_two : (a b c : NodeNo) (x y z : ℕ) → IsDist g a b x → IsDist g b c y → IsDist g a c z → z ≤ x + y
  over_two a b c x y z p q r = let t = triangle g lawful a b c x y p q in let e = one_distance g a c z t.0 r t.1 in let l = t.2 in omega arith

  over_three : (a b c d : NodeNo) (x y z w : ℕ) → IsDist g a b x → IsDist g b c y → IsDist g c d z → IsDist g a d w → w ≤ x + y + z
  over_three a b c d x y z w p q r s = let t = triangle g lawful a b c x y p q in let l = t.2 in let m = over_two a c d t.0 z w t.1 r s in omega arith

  module _ (place u : NodeNo) (stops left : List Stop) (old_legs legs : List Path) (i j : ℕ) (p d : Stop) (order : i ≤ j) (within : j ≤ length left) (are : stops ≡ insert (insert left j d) i p)
      (old_chain : Chained g place stops old_legs) (chain : Chained g u left legs)
    where
      -- the stop before a place is the same one up to the pickup
      same_from : (k : ℕ) → k ≤ i → node_from u u left k ≡ node_from u u stops k
      same_from zero l = refl
      same_from (suc k) l = ap (node_or u) (sym (ap (λ (xs : List Stop). slice_get xs k) are ∙ stands_before left i j p d order within k (omega arith)))

      at_pickup : node_from u place stops (suc i) ≡ p.node
      at_pickup = ap (node_or u) (ap (λ (xs : List Stop). slice_get xs i) are ∙ pickup_stands left i j p d order within)

      at_dropoff : node_from u place stops (suc (suc j)) ≡ d.node
      at_dropoff = ap (node_or u) (ap (λ (xs : List Stop). slice_get xs (suc j)) are ∙ dropoff_stands left i j p d order within)

      -- the distance on an old leg
      old_dist : (k : ℕ) (n : NodeNo) (s : Stop) → node_from u place stops k ≡ n → slice_get stops k ≡ Some s → IsDist g n s.node (slice_index (ways old_legs) k)
      old_dist k n s e h = subst (λ (m : NodeNo). IsDist g m s.node (slice_index (ways old_legs) k)) e (chained_dist g u place stops old_legs old_chain k s h)

      next_of_pickup : i < j → (s : Stop) → slice_get left i ≡ Some s → slice_get stops (suc i) ≡ Some s
      next_of_pickup l s h = ap (λ (xs : List Stop). slice_get xs (suc i)) are ∙ stands_between left i j p d order within i (omega arith) l ∙ h

      next_of_dropoff : (s : Stop) → slice_get left j ≡ Some s → slice_get stops (suc (suc j)) ≡ Some s
      next_of_dropoff s h = ap (λ (xs : List Stop). slice_get xs (suc (suc j))) are ∙ stands_behind left i j p d order within j (omega arith) ∙ h

      dropoff_there : slice_get stops (suc j) ≡ Some d
      dropoff_there = ap (λ (xs : List Stop). slice_get xs (suc j)) are ∙ dropoff_stands left i j p d order within

      -- the leg over the pickup alone
      pub over_pickup : (rest : ℕ) → IsDist g (node_from u u stops i) p.node rest → i < j → slice_index (ways legs) i ≤ rest + slice_index (ways old_legs) (suc i)
      over_pickup rest way l =
          let s = held left i (omega arith) in
          let joined = subst (λ (m : NodeNo). IsDist g m s.0.node (slice_index (ways legs) i)) (same_from i (omega arith)) (chained_dist g u u left legs chain i s.0 s.1) in
          over_two (node_from u u stops i) p.node s.0.node rest (slice_index (ways old_legs) (suc i)) (slice_index (ways legs) i) way (old_dist (suc i) p.node s.0 at_pickup (next_of_pickup l s.0 s.1)) joined

      -- the leg over both
      pub over_both_stops : (rest : ℕ) → IsDist g (node_from u u stops i) p.node rest → i ≡ j → j < length left → slice_index (ways legs) j ≤ rest + slice_index (ways old_legs) (suc i) + slice_index (ways old_legs) (suc (suc j))
      over_both_stops rest way e l =
          let s = held left j l in
          let joined = subst (λ (m : NodeNo). IsDist g m s.0.node (slice_index (ways legs) i)) (same_from i (omega arith)) (chained_dist g u u left legs chain i s.0 (ap (slice_get left) e ∙ s.1)) in
          let to_dropoff = old_dist (suc i) p.node d at_pickup (ap (λ (k : ℕ). slice_get stops (suc k)) e ∙ dropoff_there) in
          subst (λ (k : ℕ). slice_index (ways legs) k ≤ rest + slice_index (ways old_legs) (suc i) + slice_index (ways old_legs) (suc (suc j))) e
          (over_three (node_from u u stops i) p.node d.node s.0.node rest (slice_index (ways old_legs) (suc i)) (slice_index (ways old_legs) (suc (suc j))) (slice_index (ways legs) i) way to_dropoff (old_dist (suc (suc j)) d.node s.0 at_dropoff (next_of_dropoff s.0 s.1)) joined)

      -- the leg over the dropoff alone
      pub over_dropoff : i < j → j < length left → slice_index (ways legs) j ≤ slice_index (ways old_legs) (suc j) + slice_index (ways old_legs) (suc (suc j))
      over_dropoff o l = go j refl where
        go : (k : ℕ) → k ≡ j → slice_index (ways legs) j ≤ slice_index (ways old_legs) (suc j) + slice_index (ways old_legs) (suc (suc j))
        go zero e = absurd (omega arith)
        go (suc k) e =
            let s = held left j l in
            let from : node_from u place stops (suc j) ≡ node_from u u left j =
            ap (node_or u) (ap (λ (m : ℕ). slice_get stops m) (sym e) ∙ ap (λ (xs : List Stop). slice_get xs (suc k)) are ∙ stands_between left i j p d order within k (omega arith) (omega arith)) ∙ ap (node_from u u left) e in
            over_two (node_from u u left j) d.node s.0.node (slice_index (ways old_legs) (suc j)) (slice_index (ways old_legs) (suc (suc j))) (slice_index (ways legs) j)
            (old_dist (suc j) (node_from u u left j) d from dropoff_there) (old_dist (suc (suc j)) d.node s.0 at_dropoff (next_of_dropoff s.0 s.1)) (chained_dist g u u left legs chain j s.0 s.1)
