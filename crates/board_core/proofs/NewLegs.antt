use Rattle.std.proofs.Common.{◌≡◌, ℕ, zero, suc, ◌+◌, ◌-◌, ◌<◌, ◌≤◌, ◌==◌, Bool, true, false, cond, List, [], ◌∷◌, ◌++◌, take, drop, map, length, sym, refl, ap, ◌∙◌, subst, arith, add-one, inl, inr, ◌⊎◌}
use Rattle.std.specs.Prelude.{slice_get, nat_lt}
use Rattle.std.specs.List.{insert}
use Rattle.std.proofs.lemmas.Bool.{ne_eqb, eq-eqb, lt-ltb, le-ltb, cases_lt, cond-true, cond-false}
use Rattle.std.proofs.lemmas.Bool.Decides.{nat_tests}
use Rattle.std.proofs.lemmas.List.{map-append, take-map, drop-map}
use Rattle.road_graph.specs.declared.road.NodeNo.{NodeNo}
use Rattle.road_graph.specs.Paths.{Path, length_of}
use Rattle.road_graph.specs.Roads.{Roads}
use Rattle.road_graph.specs.Walks.{IsDist}
use Rattle.stop_schedule.specs.declared.request.Request.{Request}
use Rattle.stop_schedule.specs.declared.stop.Front.{Front}
use Rattle.stop_schedule.specs.declared.stop.Insertion.{Insertion}
use Rattle.stop_schedule.specs.declared.stop.Promise.{Promise}
use Rattle.stop_schedule.specs.declared.stop.Stop.{Stop}
use Rattle.stop_schedule.specs.Lists.{pickup_of, dropoff_of, with_both, with_legs, start_of, node_or, node_at, changed_ends}
use Rattle.stop_schedule.specs.Plans.{Plan}
use Rattle.stop_schedule.specs.Distances.{AreDistances, AreLeastWalks}
use Rattle.board_core.proofs.Inserts.{with_both_is}
use Rattle.board_core.proofs.Chains.{Chained, node_from, node_from_is, out_of, chained_same, chained_apart}

-- a distance is one
pub dist_unique : {g : Roads} {u v : NodeNo} {x y : ℕ} → IsDist g u v x → IsDist g u v y → x ≡ y
dist_unique {x = x} {y = y} a b = let p = a.reached in let q = b.reached in let l : x ≤ y = a.least q.0 y q.1 in let m : y ≤ x = b.least p.0 x p.1 in omega arith

-- the distances of the changed legs are the lengths of their least walks
pub lengths_unique : (g : Roads) (ends : List (NodeNo × NodeNo)) (lengths : List ℕ) (walks : List Path) → AreDistances g ends lengths → AreLeastWalks g ends walks → lengths ≡ map length_of walks
lengths_unique g [] lengths walks d w = d ∙ sym (ap (map length_of) w)
lengths_unique g (e ∷ ends) [] walks d w = absurd d
lengths_unique g (e ∷ ends) (x ∷ lengths) [] d w = absurd w
lengths_unique g (e ∷ ends) (x ∷ lengths) (v ∷ walks) d w = let first : x ≡ length_of v = dist_unique d.0 w.0.least in let rest = lengths_unique g ends lengths walks d.1 w.1 in cc

-- the lengths of the new legs
pub with_legs-map : (legs walks : List Path) (at : Insertion) → map length_of (with_legs legs at walks) ≡ with_legs (map length_of legs) at (map length_of walks)
with_legs-map legs walks at = on (at.i == at.j)
  where
    on : (b : Bool)
        → map length_of (cond b (take at.i legs ++ walks ++ drop (at.i + 1) legs) (take at.i legs ++ take 2 walks ++ take (at.j - at.i - 1) (drop (at.i + 1) legs) ++ drop 2 walks ++ drop (at.j + 1) legs))
        ≡ cond b (take at.i (map length_of legs) ++ map length_of walks ++ drop (at.i + 1) (map length_of legs))
        (take at.i (map length_of legs) ++ take 2 (map length_of walks) ++ take (at.j - at.i - 1) (drop (at.i + 1) (map length_of legs)) ++ drop 2 (map length_of walks) ++ drop (at.j + 1) (map length_of legs))
    on true = simp (map-append, take-map, drop-map)
    on false = simp (map-append, take-map, drop-map)

-- the order of two numbers is that of the next ones
lt-suc : (j n : ℕ) → nat_lt (suc j) (suc n) ≡ nat_lt j n
lt-suc j n = grind (arith, nat_tests)

-- the changed ends, by the nodes from the start of the new schedule on
out_is : (v d : NodeNo) (stops : List Stop) (j : ℕ) → cond (nat_lt j (length stops)) ((v, node_or d (slice_get stops j)) ∷ []) [] ≡ out_of v stops j
out_is v d [] j = cond-false _ _ _ (le-ltb j 0 (omega arith))
out_is v d (s ∷ stops) zero = cond-true _ _ _ (lt-ltb 0 (suc (length stops)) (omega arith))
out_is v d (s ∷ stops) (suc j) = ap (λ (b : Bool). cond b ((v, node_or d (slice_get stops j)) ∷ []) []) (lt-suc j (length stops)) ∙ out_is v d stops j

-- a stop has its node whatever the front
later_node : (front : Front) (stops : List Stop) (k : ℕ) → node_at front stops (k + 1) ≡ node_or front.node (slice_get stops k)
later_node front stops k = rw add-one (node_from_is front.node front.node stops (suc k))

-- where the pickup comes first the new schedule starts from the front
start_node : (front : Front) (place : NodeNo) (stops : List Stop) (at : Insertion) (k : ℕ) → k ≡ at.i → node_at front stops k ≡ node_from front.node (start_of at front.node place) stops k
start_node front place stops at zero h = sym (cond-true _ _ _ (eq-eqb _ _ (sym h)))
start_node front place stops at (suc k) h = node_from_is front.node front.node stops (suc k)

-- the changed ends by their nodes
abbrev ends_as : Request → Bool → NodeNo → NodeNo → NodeNo → List (NodeNo × NodeNo) → List (NodeNo × NodeNo)
ends_as r b n m k out = (n, r.pickup) ∷ cond b ((r.pickup, r.dropoff) ∷ []) ((r.pickup, m) ∷ (k, r.dropoff) ∷ []) ++ out

-- equal nodes give equal ends
ends_like : (r : Request) (b c : Bool) (n n' m m' k k' : NodeNo) (o o' : List (NodeNo × NodeNo)) → b ≡ c → n ≡ n' → m ≡ m' → k ≡ k' → o ≡ o' → ends_as r b n m k o ≡ ends_as r c n' m' k' o'
ends_like r b c n n' m m' k k' o o' p q s t u = cc

-- the end out of the dropoff
out_of_ends : (stops : List Stop) (front : Front) (r : Request) (j : ℕ) → cond (nat_lt j (length stops)) ((r.dropoff, node_at front stops (j + 1)) ∷ []) [] ≡ out_of r.dropoff stops j
out_of_ends stops front r j = ap (λ (n : NodeNo). cond (nat_lt j (length stops)) ((r.dropoff, n) ∷ []) []) (later_node front stops j) ∙ out_is r.dropoff front.node stops j

-- the changed ends, where both stops stand after one stop
ends_same : (stops : List Stop) (front : Front) (place : NodeNo) (r : Request) (at : Insertion) → at.i ≡ at.j
    → changed_ends stops front r at ≡ (node_from front.node (start_of at front.node place) stops at.i, r.pickup) ∷ (r.pickup, r.dropoff) ∷ out_of r.dropoff stops at.i
ends_same stops front place r at e = ends_like r (at.i == at.j) true _ _ _ _ _ _ _ _ (eq-eqb _ _ e) (start_node front place stops at at.i refl) refl refl (out_of_ends stops front r at.j ∙ ap (out_of r.dropoff stops) (sym e))

-- the changed ends, where the dropoff stands after a later stop
ends_apart : (stops : List Stop) (front : Front) (place : NodeNo) (r : Request) (at : Insertion) → at.i < at.j
    → changed_ends stops front r at ≡ (node_from front.node (start_of at front.node place) stops at.i, r.pickup) ∷ (r.pickup, node_from front.node (start_of at front.node place) stops (suc at.i))
    ∷ (node_from front.node (start_of at front.node place) stops at.j, r.dropoff) ∷ out_of r.dropoff stops at.j
ends_apart stops front place r at b = ends_like r (at.i == at.j) false _ _ _ _ _ _ _ _ (ne_eqb _ _ (λ (h : at.i ≡ at.j). omega arith)) (start_node front place stops at at.i refl)
    (later_node front stops at.i) (later at.j b) (out_of_ends stops front r at.j)
  where
    later : (k : ℕ) → at.i < k → node_at front stops k ≡ node_from front.node (start_of at front.node place) stops k
    later zero h = absurd (omega arith)
    later (suc k) h = node_from_is front.node front.node stops (suc k)

-- the new legs, where both stops stand after one stop, and where they don't
legs_same : (legs walks : List Path) (at : Insertion) → at.i ≡ at.j → with_legs legs at walks ≡ take at.i legs ++ walks ++ drop (suc at.i) legs
legs_same legs walks at e = cond-true _ _ _ (eq-eqb at.i at.j e) ∙ ap (λ (k : ℕ). take at.i legs ++ walks ++ drop k legs) (add-one at.i)

-- the new legs, where the dropoff stands after a later stop
legs_apart : (legs walks : List Path) (at : Insertion) → at.i < at.j
    → with_legs legs at walks ≡ take at.i legs ++ take 2 walks ++ take (at.j - at.i - 1) (drop (suc at.i) legs) ++ drop 2 walks ++ drop (suc at.j) legs
legs_apart legs walks at b = cond-false _ _ _ (ne_eqb at.i at.j (λ (h : at.i ≡ at.j). omega arith))
    ∙ ap (λ (k : ℕ). take at.i legs ++ take 2 walks ++ take (at.j - at.i - 1) (drop k legs) ++ drop 2 walks ++ drop (at.j + 1) legs) (add-one at.i)
    ∙ ap (λ (k : ℕ). take at.i legs ++ take 2 walks ++ take (at.j - at.i - 1) (drop (suc at.i) legs) ++ drop 2 walks ++ drop k legs) (add-one at.j)

-- the new schedule's legs are least walks from stop to stop
pub chained_new : (g : Roads) (p : Plan) (front : Front) (r : Request) (at : Insertion) (promise : Promise) (walks : List Path) → Chained g p.place p.stops p.legs → at.i ≤ at.j → at.j ≤ length p.stops
    → AreLeastWalks g (changed_ends p.stops front r at) walks
    → Chained g (start_of at front.node p.place) (with_both p.stops at (pickup_of r promise) (dropoff_of r promise)) (with_legs p.legs at walks)
chained_new g p front r at promise walks c h l w = subst (λ (stops : List Stop). Chained g (start_of at front.node p.place) stops (with_legs p.legs at walks)) (sym (with_both_is p.stops at (pickup_of r promise) (dropoff_of r promise) h l))
    (on (cases_lt at.i at.j))
  where
    kept : 0 < at.i → p.place ≡ start_of at front.node p.place
    kept b = sym (cond-false _ _ _ (ne_eqb at.i 0 (λ (e : at.i ≡ 0). omega arith)))

    on : (at.i < at.j) ⊎ (at.j ≤ at.i) → Chained g (start_of at front.node p.place) (insert (insert p.stops at.j (dropoff_of r promise)) at.i (pickup_of r promise)) (with_legs p.legs at walks)
    on (inl b) = subst (λ (legs : List Path). Chained g (start_of at front.node p.place) (insert (insert p.stops at.j (dropoff_of r promise)) at.i (pickup_of r promise)) legs) (sym (legs_apart p.legs walks at b))
        (chained_apart g front.node p.place (start_of at front.node p.place) p.stops p.legs at.i (at.j - at.i - 1) at.j (pickup_of r promise) (dropoff_of r promise) walks (omega arith) c kept l
        (subst (λ (ends : List (NodeNo × NodeNo)). AreLeastWalks g ends walks) (ends_apart p.stops front p.place r at b) w))
    on (inr b) = let e : at.i ≡ at.j = omega arith in
        subst (λ (legs : List Path). Chained g (start_of at front.node p.place) (insert (insert p.stops at.j (dropoff_of r promise)) at.i (pickup_of r promise)) legs) (sym (legs_same p.legs walks at e))
        (subst (λ (j : ℕ). Chained g (start_of at front.node p.place) (insert (insert p.stops j (dropoff_of r promise)) at.i (pickup_of r promise)) (take at.i p.legs ++ walks ++ drop (suc at.i) p.legs)) e
        (chained_same g front.node p.place (start_of at front.node p.place) p.stops p.legs at.i (pickup_of r promise) (dropoff_of r promise) walks c kept (omega arith)
        (subst (λ (ends : List (NodeNo × NodeNo)). AreLeastWalks g ends walks) (ends_same p.stops front p.place r at e) w)))
