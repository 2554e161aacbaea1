use Rattle.std.proofs.Common.{◌≡◌, ℕ, ◌+◌, ◌≤◌, ◌⊎◌, inl, inr, List, [], ◌∷◌, Option, Some, None, sym, ap, ◌∙◌, arith, refl, subst}
use Rattle.std.specs.Prelude.{slice_get, All}
use Rattle.std.proofs.lemmas.List.Elements.{All-contains}
use Rattle.road_graph.specs.declared.road.NodeNo.{NodeNo}
use Rattle.road_graph.specs.Roads.{Roads, ins, least_weight}
use Rattle.road_graph.specs.Walks.{walk_length, last_of}
use Rattle.plain_search.specs.declared.nearest.Candidate.{Candidate}
use Rattle.plain_search.specs.declared.reached.Reached.{Reached}
use Rattle.plain_search.specs.declared.reached.Mark.{Mark}
use Rattle.plain_search.specs.declared.reached.Mark.TheVariants.{Unseen, Seen, Settled}
use Rattle.plain_search.specs.Marking.{mark_of}
use Rattle.plain_search.specs.Reaching.{IsInside, IsOutside}
use Rattle.plain_search.specs.Searching.{IsSearch, IsSettled, IsOffered, AllOffered}
use Rattle.road_graph.proofs.WalkLaws.{step_of}
use Rattle.road_graph.proofs.WalkLaws.{in_ins}

-- a node is settled or isn't
pub settled_cases : (m : Mark) → ((k : ℕ) × (m ≡ Settled k)) ⊎ ((k : ℕ) → m ≡ Settled k → ⊥)
settled_cases Unseen = inr (λ k e. cc)
settled_cases (Seen x) = inr (λ k e. cc)
settled_cases (Settled k) = inl (k, refl)

pub outside_more : (radius : Option ℕ) (x y : ℕ) → x ≤ y → IsOutside radius x → IsOutside radius y
outside_more None x y le out = out
outside_more (Some r) x y le out = omega arith

pub inside_less : (radius : Option ℕ) (x y : ℕ) → IsInside radius x → IsOutside radius y → x ≤ y
inside_less None x y i o = absurd o
inside_less (Some r) x y i o = omega arith

-- what bounds each candidate, and what is outside, bounds an offer of a node that isn't settled
bounded_offer : (radius : Option ℕ) (marks : List Mark) (open' : List Candidate) (Bound : ℕ → Type 0) → ((x y : ℕ) → x ≤ y → Bound x → Bound y)
    → All (λ (c : Candidate). Bound c.distance) open' → ((x : ℕ) → IsOutside radius x → Bound x)
    → (n : NodeNo) (x : ℕ) → IsOffered radius marks open' n x → (IsSettled marks n → ⊥) → Bound x
bounded_offer radius marks open' Bound up all out n x (inl s) un = absurd (un s)
bounded_offer radius marks open' Bound up all out n x (inr (inl o)) un = out x o
bounded_offer radius marks open' Bound up all out n x (inr (inr w)) un = up w.candidate.distance x w.near (All-contains (λ (c : Candidate). Bound c.distance) open' w.candidate all w.waits)

-- it bounds each walk from a node that isn't settled to the start
pub bounded_walk : (h : Roads) (start : NodeNo) (radius : Option ℕ) (done : List Reached) (marks : List Mark) (open' : List Candidate)
    → IsSearch h start radius done marks open' → AllOffered h radius done marks open'
    → (Bound : ℕ → Type 0) → ((x y : ℕ) → x ≤ y → Bound x → Bound y) → All (λ (c : Candidate). Bound c.distance) open' → ((x : ℕ) → IsOutside radius x → Bound x)
    → (u : NodeNo) (more : List NodeNo) (x : ℕ) → last_of u more ≡ start → walk_length h (u ∷ more) ≡ Some x → (IsSettled marks u → ⊥) → Bound x
bounded_walk h start radius done marks open' s offered Bound up all out u [] x l e un =
    up 0 x (omega arith) (bounded_offer radius marks open' Bound up all out start 0 s.begun (subst (λ (n : NodeNo). IsSettled marks n → ⊥) l un))
bounded_walk h start radius done marks open' s offered Bound up all out u (v ∷ vs) x l e un =
    let p = step_of h u v vs x e in
    go p.weight p.rest p.road p.walk p.sum (bounded_walk h start radius done marks open' s offered Bound up all out v vs p.rest l p.walk) (settled_cases (mark_of marks v))
  where
    go : (w y : ℕ) → ◌≡◌ {A = Option ℕ} (least_weight h.roads u v) (Some w) → walk_length h (v ∷ vs) ≡ Some y → w + y ≡ x → ((IsSettled marks v → ⊥) → Bound y)
        → ((k : ℕ) × (mark_of marks v ≡ Settled k)) ⊎ ((k : ℕ) → mark_of marks v ≡ Settled k → ⊥) → Bound x
    go w y road walk sum ih (inr never) = up y x (omega arith) (ih (λ q. never q.0 q.1))
    go w y road walk sum ih (inl (k, m)) =
        let r = s.places.stands v k m in
        let d = s.exact k r.0 r.1 in
        let near = d.least (v ∷ vs) y ((sym r.2, l), walk) in
        let i = in_ins h u v w road in
        let there : slice_get (ins h r.0.node) i.0 ≡ Some (u, w) = ap (λ (n : NodeNo). slice_get (ins h n) i.0) r.2 ∙ i.1 in
        up (r.0.distance + w) x (omega arith) (bounded_offer radius marks open' Bound up all out u (r.0.distance + w) (offered k r.0 r.1 i.0 (u, w) there) un)
