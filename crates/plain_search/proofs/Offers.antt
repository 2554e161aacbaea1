use Rattle.std.proofs.Common.{◌≡◌, ◌≢◌, ℕ, ◌+◌, ◌-◌, ◌<◌, ◌≤◌, ◌⊎◌, inl, inr, ⊎_elim, List, ◌∷◌, length, set, Option, Some, sym, ap, ◌∙◌, arith, refl, subst, length-set, get_or-set_same, get_or-set_other}
use Rattle.std.specs.Prelude.{slice_get, IsPermutation}
use Rattle.std.proofs.lemmas.Bool.{cases_eq}
use Rattle.std.proofs.lemmas.List.Elements.{All-cons}
use Rattle.std.proofs.lemmas.List.Sorted.{All-permutation, Contains-permutation}
use Rattle.std.proofs.lemmas.Option.{slice_get_within}
use Rattle.road_graph.specs.declared.road.NodeNo.{NodeNo}
use Rattle.road_graph.specs.Roads.{Roads, ins}
use Rattle.plain_search.specs.declared.nearest.Candidate.{Candidate}
use Rattle.plain_search.specs.declared.reached.Reached.{Reached}
use Rattle.plain_search.specs.declared.reached.Mark.{Mark}
use Rattle.plain_search.specs.declared.reached.Mark.TheVariants.{Unseen, Seen, Settled}
use Rattle.plain_search.specs.Marking.{mark_of}
use Rattle.plain_search.specs.Reaching.{IsInside}
use Rattle.plain_search.specs.Searching.{IsSearch, IsSettled, IsOffered, AllOffered, AreOffered, Waits, IsCandidate, IsKnownBy, Offers}
use Rattle.road_graph.proofs.WalkLaws.{same_node}
use Rattle.plain_search.proofs.Lists.{in-more, in-first}

module _ (h : Roads) (start : NodeNo) (radius : Option ℕ) (done : List Reached) (marks : List Mark) (old : List Candidate) (s : IsSearch h start radius done marks old) (c : Candidate) where
  module _ (new : List Candidate) (its : IsCandidate h start radius done c) (above : (k : ℕ) (r : Reached) → slice_get done k ≡ Some r → r.distance ≤ c.distance)
      (un : IsSettled marks c.node → ⊥) (waits : IsPermutation (c ∷ old) new) where
    abbrev marked : List Mark
    marked = set marks c.node.0 (Seen c.distance)

    fits : c.node.0 < length marks
    fits = let m = s.many in let n = its.node.1 in omega arith

    mark_here : mark_of marked c.node ≡ Seen c.distance
    mark_here = get_or-set_same marks c.node.0 (Seen c.distance) Unseen fits

    mark_there : (n : NodeNo) → n.0 ≢ c.node.0 → mark_of marked n ≡ mark_of marks n
    mark_there n ne = get_or-set_other marks c.node.0 n.0 (Seen c.distance) Unseen ne

    here_or_there : (n : NodeNo) → (n ≡ c.node) ⊎ (n.0 ≢ c.node.0)
    here_or_there n = ⊎_elim (λ e. inl (same_node e)) (λ ne. inr ne) (cases_eq n.0 c.node.0)

    -- marks of settled nodes stay
    settled_stays : (n : NodeNo) (k : ℕ) → mark_of marks n ≡ Settled k → mark_of marked n ≡ Settled k
    settled_stays n k e = at (here_or_there n)
      where
        at : (n ≡ c.node) ⊎ (n.0 ≢ c.node.0) → mark_of marked n ≡ Settled k
        at (inl q) = absurd (un (k, ap (mark_of marks) (sym q) ∙ e))
        at (inr ne) = mark_there n ne ∙ e

    was_settled : (n : NodeNo) (k : ℕ) → mark_of marked n ≡ Settled k → mark_of marks n ≡ Settled k
    was_settled n k e = at (here_or_there n)
      where
        at : (n ≡ c.node) ⊎ (n.0 ≢ c.node.0) → mark_of marks n ≡ Settled k
        at (inl q) = let m = ap (mark_of marked) q in cc (mark_here, m, e)
        at (inr ne) = sym (mark_there n ne) ∙ e

    still_waits : (n : NodeNo) (x : ℕ) → Waits old n x → Waits new n x
    still_waits n x w = record { candidate = w.candidate; waits = Contains-permutation (c ∷ old) new w.candidate waits (in-more c old w.candidate w.waits); is = w.is; near = w.near }

    now_waits : Waits new c.node c.distance
    now_waits = record { candidate = c; waits = Contains-permutation (c ∷ old) new c waits (in-first c old); is = refl; near = omega arith }

    added_offers : (n : NodeNo) (x : ℕ) → IsOffered radius marks old n x → IsOffered radius marked new n x
    added_offers n x (inl q) = inl (q.0, settled_stays n q.0 q.1)
    added_offers n x (inr (inl out)) = inr (inl out)
    added_offers n x (inr (inr w)) = inr (inr (still_waits n x w))

    seen_now : (n : NodeNo) (x : ℕ) → mark_of marked n ≡ Seen x → (n ≡ c.node) ⊎ (n.0 ≢ c.node.0) → Waits new n x
    unfolding now_waits
    seen_now n x e (inl q) =
        let m = ap (mark_of marked) q in
        let is : c.distance ≡ x = cc (mark_here, m, e) in
        record { candidate = c; waits = now_waits.waits; is = sym q; near = omega arith }
    seen_now n x e (inr ne) = still_waits n x (s.seen n x (sym (mark_there n ne) ∙ e))

    added_search : IsSearch h start radius done marked new
    added_search = record {
      graph = s.graph;
      places = record {
        stands = λ n k e. s.places.stands n k (was_settled n k e);
        marked = λ k r at. settled_stays r.node k (s.places.marked k r at);
      };
      many = added_many;
      node = s.node;
      exact = s.exact;
      inside = s.inside;
      rising = s.rising;
      back = s.back;
      candidates = All-permutation (IsCandidate h start radius done) (c ∷ old) new waits (All-cons (IsCandidate h start radius done) c old its s.candidates);
      above = λ k r at. All-permutation (λ (o : Candidate). r.distance ≤ o.distance) (c ∷ old) new waits (All-cons (λ (o : Candidate). r.distance ≤ o.distance) c old (above k r at) (s.above k r at));
      seen = λ n x e. seen_now n x e (here_or_there n);
      begun = added_offers start 0 s.begun;
    }
      where
        added_many : length marked ≡ h.nodes + 1
        added_many = length-set marks c.node.0 (Seen c.distance) ∙ s.many

  -- what an offer leaves
  pub record IsMore (marked : List Mark) (new : List Candidate) : Type 0 where
    pub search : IsSearch h start radius done marked new
    pub offers : (n : NodeNo) (x : ℕ) → IsOffered radius marks old n x → IsOffered radius marked new n x
    pub here : IsOffered radius marked new c.node c.distance

  known : IsKnownBy radius (mark_of marks c.node) c.distance → IsOffered radius marks old c.node c.distance
  known (inl q) = inl q
  known (inr (inl out)) = inr (inl out)
  known (inr (inr (y, e, le))) = let w = s.seen c.node y e in inr (inr (record { candidate = w.candidate; waits = w.waits; is = w.is; near = (let a = w.near in omega arith) }))

  pub offered_more : (marked : List Mark) (new : List Candidate) → Offers radius marks marked old new c
      → (IsInside radius c.distance → IsCandidate h start radius done c) → ((k : ℕ) (r : Reached) → slice_get done k ≡ Some r → r.distance ≤ c.distance) → IsMore marked new
  offered_more marked' new (inl (k, em, eo)) its above =
      subst (λ (ms : List Mark). IsMore ms new) (sym em) (subst (λ (o : List Candidate). IsMore marks o) (sym eo) (record { search = s; offers = λ n x q. q; here = known k }))
  offered_more marked' new (inr a) its above = subst (λ (ms : List Mark). IsMore ms new) (sym a.is) put
    where
      put : IsMore (set marks c.node.0 (Seen c.distance)) new
      put = record {
        search = added_search new (its a.inside) above a.unsettled a.waits;
        offers = added_offers new (its a.inside) above a.unsettled a.waits;
        here = inr (inr (now_waits new (its a.inside) above a.unsettled a.waits));
      }

-- one road more is offered
pub one_more : (h : Roads) (radius : Option ℕ) (done : List Reached) (marks marked : List Mark) (old new : List Candidate) (i : ℕ) (last : Reached) (road : NodeNo × ℕ)
    → AreOffered h radius done marks old i → ((n : NodeNo) (x : ℕ) → IsOffered radius marks old n x → IsOffered radius marked new n x)
    → slice_get done (length done - 1) ≡ Some last → slice_get (ins h last.node) i ≡ Some road → IsOffered radius marked new road.0 (last.distance + road.1)
    → AreOffered h radius done marked new (i + 1)
one_more h radius done marks marked old new i last road all keeps stands there here k r at j road' at' low = side low
  where
    last_one : k + 1 ≡ length done → r ≡ last
    last_one e = let is : k ≡ length done - 1 = omega arith in let q : slice_get done k ≡ Some last = ap (slice_get done) is ∙ stands in cc

    now : r ≡ last → j ≡ i → IsOffered radius marked new road'.0 (r.distance + road'.1)
    now er ej =
        let a : slice_get (ins h last.node) i ≡ Some road' = ap (λ (o : Reached). slice_get (ins h o.node) i) (sym er) ∙ ap (slice_get (ins h r.node)) (sym ej) ∙ at' in
        let same : road ≡ road' = cc in
        subst (λ (q : NodeNo × ℕ). IsOffered radius marked new q.0 (r.distance + q.1)) same (subst (λ (o : Reached). IsOffered radius marked new road.0 (o.distance + road.1)) (sym er) here)

    side : (k + 1 < length done) ⊎ (j < i + 1) → IsOffered radius marked new road'.0 (r.distance + road'.1)
    side (inl lt) = keeps road'.0 (r.distance + road'.1) (all k r at j road' at' (inl lt))
    side (inr lt) = ⊎_elim (λ e. last_or (cases_eq (k + 1) (length done)) e) (λ ne. keeps road'.0 (r.distance + road'.1) (all k r at j road' at' (inr (omega arith)))) (cases_eq j i)
      where
        last_or : (k + 1 ≡ length done) ⊎ (k + 1 ≢ length done) → j ≡ i → IsOffered radius marked new road'.0 (r.distance + road'.1)
        last_or (inl e) ej = now (last_one e) ej
        last_or (inr ne) ej = let w = slice_get_within done k r at in keeps road'.0 (r.distance + road'.1) (all k r at j road' at' (inl (omega arith)))

-- all roads are offered
pub all_offered : (h : Roads) (radius : Option ℕ) (done : List Reached) (marks : List Mark) (open' : List Candidate) (i : ℕ) (last : Reached)
    → slice_get done (length done - 1) ≡ Some last → length (ins h last.node) ≤ i → AreOffered h radius done marks open' i → AllOffered h radius done marks open'
all_offered h radius done marks open' i last stands many all k r at j road there = side (cases_eq (k + 1) (length done))
  where
    side : (k + 1 ≡ length done) ⊎ (k + 1 ≢ length done) → IsOffered radius marks open' road.0 (r.distance + road.1)
    side (inr ne) = let w = slice_get_within done k r at in all k r at j road there (inl (omega arith))
    side (inl e) =
        let is : k ≡ length done - 1 = omega arith in
        let q : slice_get done k ≡ Some last = ap (slice_get done) is ∙ stands in
        let same : r ≡ last = cc in
        let n : length (ins h r.node) ≡ length (ins h last.node) = ap (λ (o : Reached). length (ins h o.node)) same in
        let w = slice_get_within (ins h r.node) j road there in
        all k r at j road there (inr (omega arith))
