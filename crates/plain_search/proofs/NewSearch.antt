use Rattle.std.proofs.Common.{◌≡◌, ◌≢◌, ℕ, ◌+◌, ◌<◌, ◌≤◌, ◌⊎◌, inl, inr, List, [], ◌∷◌, length, get_or, set, replicate, Option, Some, None, sym, ap, ◌∙◌, arith, refl, length-set, get_or-set_same, get_or-set_other}
use Rattle.std.specs.Prelude.{Contains, IsPermutation}
use Rattle.std.proofs.lemmas.Bool.{cases_eq, cases_lt}
use Rattle.std.proofs.lemmas.List.{get_or-replicate, get_or_past, length-replicate}
use Rattle.std.proofs.lemmas.List.Elements.{All-cons, All-nil}
use Rattle.std.proofs.lemmas.List.Sorted.{All-permutation, Contains-permutation, IsNonDecreasingBy-short}
use Rattle.road_graph.specs.declared.road.NodeNo.{NodeNo}
use Rattle.road_graph.specs.Roads.{Roads, IsNode}
use Rattle.road_graph.specs.Graphs.{IsGraph}
use Rattle.plain_search.specs.declared.nearest.Candidate.{Candidate}
use Rattle.plain_search.specs.declared.reached.Reached.{Reached}
use Rattle.plain_search.specs.declared.reached.Mark.{Mark}
use Rattle.plain_search.specs.declared.reached.Mark.TheVariants.{Unseen, Seen, Settled}
use Rattle.plain_search.specs.Marking.{mark_of}
use Rattle.plain_search.specs.Reaching.{IsInside}
use Rattle.plain_search.specs.Searching.{IsSearch, IsCandidate, Waits}
use Rattle.road_graph.proofs.WalkLaws.{same_node}
use Rattle.plain_search.proofs.Lists.{in-first}

zero_inside : (radius : Option ℕ) → IsInside radius 0
zero_inside None = tt
zero_inside (Some r) = omega arith

-- the start as a candidate
abbrev pub first_of : NodeNo → Candidate
first_of start = record { distance = 0; node = start; parent = record { 0 = 0 } }

module _ (h : Roads) (lawful : IsGraph h) (start : NodeNo) (its : IsNode h start) (radius : Option ℕ) (clean : List Mark) (is : clean ≡ replicate (h.nodes + 1) Unseen) where
  -- only the start is marked
  unseen : (n : ℕ) → get_or clean n Unseen ≡ Unseen
  unseen n = ap (λ ms. get_or ms n Unseen) is ∙ at (cases_lt n (h.nodes + 1))
    where
      at : (n < h.nodes + 1) ⊎ (h.nodes + 1 ≤ n) → get_or (replicate (h.nodes + 1) Unseen) n Unseen ≡ Unseen
      at (inl lt) = get_or-replicate (h.nodes + 1) n Unseen Unseen lt
      at (inr ge) = get_or_past (replicate (h.nodes + 1) Unseen) n Unseen (let l = length-replicate (h.nodes + 1) Unseen in omega arith)

  many : length clean ≡ h.nodes + 1
  many = ap length is ∙ length-replicate (h.nodes + 1) Unseen

  marks_of : (n : NodeNo) → ((n ≡ start) × (mark_of (set clean start.0 (Seen 0)) n ≡ Seen 0)) ⊎ (mark_of (set clean start.0 (Seen 0)) n ≡ Unseen)
  marks_of n = at (cases_eq n.0 start.0)
    where
      at : (n.0 ≡ start.0) ⊎ (n.0 ≢ start.0) → ((n ≡ start) × (mark_of (set clean start.0 (Seen 0)) n ≡ Seen 0)) ⊎ (mark_of (set clean start.0 (Seen 0)) n ≡ Unseen)
      at (inl e) = inl (same_node e, ap (λ i. get_or (set clean start.0 (Seen 0)) i Unseen) e ∙ get_or-set_same clean start.0 (Seen 0) Unseen (let m = many in let l = its.1 in omega arith))
      at (inr ne) = inr (get_or-set_other clean start.0 n.0 (Seen 0) Unseen ne ∙ unseen n.0)

  pub begun : (open' : List Candidate) → IsPermutation (first_of start ∷ []) open' → IsSearch h start radius [] (set clean start.0 (Seen 0)) open'
  begun open' p = record {
    graph = lawful;
    places = record { stands = λ n k e. absurd (never n k e (marks_of n)); marked = λ k r at. cc };
    many = length-set clean start.0 (Seen 0) ∙ many;
    node = its;
    exact = λ k r at. cc;
    inside = λ k r at. cc;
    rising = IsNonDecreasingBy-short (λ (r : Reached). r.distance) [] (omega arith);
    back = λ k r at. cc;
    candidates = All-permutation (IsCandidate h start radius []) (first_of start ∷ []) open' p
        (All-cons (IsCandidate h start radius []) (first_of start) [] (record { node = its; inside = zero_inside radius; found = (refl, refl) }) (All-nil (IsCandidate h start radius [])));
    above = λ k r at. cc;
    seen = λ n x e. waits_at n x e (marks_of n);
    begun = inr (inr (record { candidate = first_of start; waits = first_waits; is = refl; near = omega arith }));
  }
    where
      first_waits : Contains open' (first_of start)
      first_waits = Contains-permutation (first_of start ∷ []) open' (first_of start) p (in-first (first_of start) [])

      never : (n : NodeNo) (k : ℕ) → mark_of (set clean start.0 (Seen 0)) n ≡ Settled k → ((n ≡ start) × (mark_of (set clean start.0 (Seen 0)) n ≡ Seen 0)) ⊎ (mark_of (set clean start.0 (Seen 0)) n ≡ Unseen) → ⊥
      never n k e (inl q) = let a = q.1 in cc
      never n k e (inr q) = cc

      waits_at : (n : NodeNo) (x : ℕ) → mark_of (set clean start.0 (Seen 0)) n ≡ Seen x → ((n ≡ start) × (mark_of (set clean start.0 (Seen 0)) n ≡ Seen 0)) ⊎ (mark_of (set clean start.0 (Seen 0)) n ≡ Unseen) → Waits open' n x
      waits_at n x e (inl q) = record { candidate = first_of start; waits = first_waits; is = sym q.0; near = omega arith }
      waits_at n x e (inr q) = cc
