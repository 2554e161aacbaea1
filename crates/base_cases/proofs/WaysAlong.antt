use Rattle.std.proofs.Common.{◌≡◌, ℕ, zero, suc, ◌+◌, List, [], ◌∷◌, ◌++◌, length, Option, Some, ◌⊎◌, inl, inr, ⊎_elim, refl, sym, ap, ◌∙◌, subst, arith, length-append}
use Rattle.std.specs.Prelude.{slice_get}
use Rattle.std.proofs.lemmas.Option.{same_Some}
use Rattle.road_graph.specs.Graphs.{IsGraph}
use Rattle.road_graph.specs.Roads.{Roads}
use Rattle.stop_schedule.specs.declared.request.Request.{Request}
use Rattle.stop_schedule.specs.declared.stop.Front.{Front}
use Rattle.stop_schedule.specs.declared.stop.Stop.{Stop}
use Rattle.stop_schedule.specs.Lists.{node_at}
use Rattle.insertion_cost.specs.declared.node_ways.NodeWays.{NodeWays}
use Rattle.insertion_cost.specs.NodeWays.{AreWaysOf, AreWaysTo, AreWaysAlong, IsDistOrNone}

-- what stands in a list with one item more
push_cases : {X : Type 0} → (xs : List X) (last x : X) (k : ℕ) → slice_get (xs ++ last ∷ []) k ≡ Some x → (slice_get xs k ≡ Some x) ⊎ ((k ≡ length xs) × (last ≡ x))
push_cases [] last x zero h = inr (refl, same_Some last x h)
push_cases [] last x (suc k) h = cc
push_cases (y ∷ ys) last x zero h = inl h
push_cases (y ∷ ys) last x (suc k) h = ⊎_elim (λ a. inl a) (λ b. inr (ap (λ (n : ℕ). suc n) b.0, b.1)) (push_cases ys last x k h)

-- the distances of one node more
pub ways_more : (g : Roads) (r : Request) (front : Front) (stops : List Stop) (k : ℕ) (old new : List NodeWays) (w : NodeWays) → AreWaysTo g r front stops k old → AreWaysOf g r (node_at front stops k) w → new ≡ old ++ w ∷ [] → AreWaysTo g r front stops (k + 1) new
ways_more g r front stops k old new w are is e = subst (λ (ws : List NodeWays). AreWaysTo g r front stops (k + 1) ws) (sym e) (record {
  many = (let n = length-append old (w ∷ []) in let m = are.many in omega arith);
  each = λ m v i. ⊎_elim (λ before. are.each m v before)
      (λ last. subst (λ (x : NodeWays). AreWaysOf g r (node_at front stops m) x) last.1
      (subst (λ (n : ℕ). AreWaysOf g r (node_at front stops n) w) (let i = last.0 in let j = are.many in let z : k ≡ m = omega arith in z) is))
      (push_cases old w v m i);
})

-- all of them, with the direct way
pub along : (g : Roads) (r : Request) (front : Front) (stops : List Stop) (direct : ℕ) (way : Option ℕ) (items ways : List NodeWays) → IsGraph g → IsDistOrNone g r.pickup r.dropoff way → way ≡ Some direct
    → AreWaysTo g r front stops (length stops + 1) items → ways ≡ items → AreWaysAlong g r front stops direct ways
along g r front stops direct way items ways lawful d there are e = subst (λ (ws : List NodeWays). AreWaysAlong g r front stops direct ws) (sym e)
    (record { graph = lawful; direct_way = subst (λ (o : Option ℕ). IsDistOrNone g r.pickup r.dropoff o) there d; many = are.many; each = are.each })
