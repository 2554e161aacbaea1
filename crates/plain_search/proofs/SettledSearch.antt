use Rattle.std.proofs.Common.{◌≡◌, ◌≢◌, ℕ, zero, suc, ◌+◌, ◌-◌, ◌<◌, ◌≤◌, ◌⊎◌, inl, inr, ⊎_elim, cond, List, [], ◌∷◌, ◌++◌, length, get_or, set, Option, Some, None, sym, ap, ◌∙◌, arith, refl, subst, ap₂, length-append, length-set, get_or-set_same, get_or-set_other}
use Rattle.std.specs.Prelude.{slice_get, All, Contains, IsPermutation}
use Rattle.std.proofs.lemmas.Bool.{cases_eq}
use Rattle.std.proofs.lemmas.List.Elements.{All-head, All-tail, All-weaker, All-cons}
use Rattle.std.proofs.lemmas.List.Sorted.{All-permutation, IsPermutation-sym, IsNonDecreasingBy-push}
use Rattle.std.proofs.lemmas.Option.{slice_get_within, slice_get-get_or}
use Rattle.road_graph.specs.declared.road.NodeNo.{NodeNo}
use Rattle.road_graph.specs.Roads.{Roads, least_weight}
use Rattle.road_graph.specs.Walks.{IsWalk, IsDist}
use Rattle.plain_search.specs.declared.nearest.Candidate.{Candidate}
use Rattle.plain_search.specs.declared.reached.Reached.{Reached}
use Rattle.plain_search.specs.declared.reached.Way.TheVariants.{To}
use Rattle.plain_search.specs.declared.reached.Mark.{Mark}
use Rattle.plain_search.specs.declared.reached.Mark.TheVariants.{Unseen, Seen, Settled}
use Rattle.plain_search.specs.Marking.{mark_of, ArePlaces}
use Rattle.plain_search.specs.Reaching.{IsInside, HasWayBack}
use Rattle.plain_search.specs.Searching.{parent_in, IsSearch, IsSettled, IsOffered, AllOffered, AreOffered, Waits, IsCandidate, IsFound, IsFoundFrom, reached_by}
use Rattle.road_graph.proofs.WalkLaws.{same_node, test_from_node, walk_over, weight_of_in}
use Rattle.plain_search.proofs.Lists.{at-push, at-append, at-last, in-taken}
use Rattle.plain_search.proofs.BoundedWalk.{bounded_walk, inside_less}

-- a walk of a candidate's distance, and the least weight of its last road
record Found (h : Roads) (start : NodeNo) (done : List Reached) (c : Candidate) (p : NodeNo) : Type 0 where
  place : ℕ
  parent : Reached
  stands : slice_get done place ≡ Some parent
  named : parent.node ≡ p
  weight : ℕ
  road : least_weight h.roads c.node p ≡ Some weight
  light : parent.distance + weight ≤ c.distance

found_from : (h : Roads) (start : NodeNo) (done : List Reached) (c : Candidate) (p : NodeNo) → IsFoundFrom h done c p → Found h start done c p
found_from h start done c p f =
    let l = weight_of_in h p f.index c.node f.weight f.road in
    let sum = f.sum in
    let le = l.2 in
    record { place = f.place; parent = f.parent; stands = f.stands; named = f.named; weight = l.0; road = l.1; light = omega arith }

-- the nearest candidate that isn't settled is at its distance
record IsNearest (h : Roads) (start : NodeNo) (done : List Reached) (c : Candidate) : Type 0 where
  dist : IsDist h c.node start c.distance
  back : (p : NodeNo) → parent_in c.parent ≡ Some p → (f : Found h start done c p) × (f.parent.distance + f.weight ≡ c.distance)

module _ (h : Roads) (start : NodeNo) (radius : Option ℕ) (done : List Reached) (marks : List Mark) (old new : List Candidate)
    (s : IsSearch h start radius done marks old) (offered : AllOffered h radius done marks old)
    (c : Candidate) (taken : IsPermutation old (c ∷ new)) (nearest : All (λ (o : Candidate). c.distance ≤ o.distance) new) where
  its : IsCandidate h start radius done c
  its = All-head (IsCandidate h start radius done) c new (All-permutation (IsCandidate h start radius done) old (c ∷ new) taken s.candidates)

  all_far : All (λ (o : Candidate). c.distance ≤ o.distance) old
  all_far = All-permutation (λ (o : Candidate). c.distance ≤ o.distance) (c ∷ new) old (IsPermutation-sym old (c ∷ new) taken) (All-cons (λ (o : Candidate). c.distance ≤ o.distance) c new (omega arith) nearest)

  far : (IsSettled marks c.node → ⊥) → (nodes : List NodeNo) (x : ℕ) → IsWalk h c.node start nodes x → c.distance ≤ x
  far un [] x w = absurd w.0
  far un (v ∷ more) x w =
      bounded_walk h start radius done marks old s offered (λ y. c.distance ≤ y) (λ a b le bound. omega arith) all_far (λ y out. inside_less radius c.distance y its.inside out)
      v more x w.0.1 w.1 (subst (λ (n : NodeNo). IsSettled marks n → ⊥) (sym w.0.0) un)

  near_by : (IsSettled marks c.node → ⊥) → (o : Option NodeNo) → parent_in c.parent ≡ o → IsFound h start done c o → IsNearest h start done c
  near_by un None e f = record {
    dist = record {
      reached = (c.node ∷ [], ((refl, f.0), ap (λ t. cond t (Some 0) None) (test_from_node h c.node its.node) ∙ ap Some (sym f.1)));
      least = far un;
    };
    back = λ p q. cc;
  }
  near_by un (Some p) e f =
      let l = found_from h start done c p f in
      let d = s.exact l.place l.parent l.stands in
      let w = walk_over h c.node l.parent.node start l.weight l.parent.distance (ap (least_weight h.roads c.node) l.named ∙ l.road) d.reached.0 d.reached.1 in
      let low = far un (c.node ∷ d.reached.0) (l.weight + l.parent.distance) w in
      let le = l.light in
      let is : l.parent.distance + l.weight ≡ c.distance = omega arith in
      let sum : l.weight + l.parent.distance ≡ c.distance = omega arith in
      record {
        dist = record { reached = (c.node ∷ d.reached.0, (w.0, w.1 ∙ ap Some sum)); least = far un };
        back = λ q eq. let same : p ≡ q = cc in subst (λ (n : NodeNo). (g : Found h start done c n) × (g.parent.distance + g.weight ≡ c.distance)) same (l, is);
      }

  nearest_is : (IsSettled marks c.node → ⊥) → IsNearest h start done c
  nearest_is un = near_by un (parent_in c.parent) refl its.found

  -- what a candidate that was taken leaves to the others
  kept_waits : (n : NodeNo) (x : ℕ) → Waits old n x → (c.node ≡ n) ⊎ Waits new n x
  kept_waits n x w = at (in-taken old new c w.candidate taken w.waits)
    where
      at : (c ≡ w.candidate) ⊎ Contains new w.candidate → (c.node ≡ n) ⊎ Waits new n x
      at (inl e) = inl (ap (λ (o : Candidate). o.node) e ∙ w.is)
      at (inr q) = inr (record { candidate = w.candidate; waits = q; is = w.is; near = w.near })

  -- a candidate that is settled is passed over
  kept_offers : IsSettled marks c.node → (n : NodeNo) (x : ℕ) → IsOffered radius marks old n x → IsOffered radius marks new n x
  kept_offers is n x (inl q) = inl q
  kept_offers is n x (inr (inl out)) = inr (inl out)
  kept_offers is n x (inr (inr w)) = at (kept_waits n x w)
    where
      at : (c.node ≡ n) ⊎ Waits new n x → IsOffered radius marks new n x
      at (inl e) = inl (subst (IsSettled marks) e is)
      at (inr q) = inr (inr q)

  pub passed_search : IsSettled marks c.node → IsSearch h start radius done marks new
  passed_search is = record {
    graph = s.graph;
    places = s.places;
    many = s.many;
    node = s.node;
    exact = s.exact;
    inside = s.inside;
    rising = s.rising;
    back = s.back;
    candidates = All-tail (IsCandidate h start radius done) c new (All-permutation (IsCandidate h start radius done) old (c ∷ new) taken s.candidates);
    above = λ k r at. All-tail (λ (o : Candidate). r.distance ≤ o.distance) c new (All-permutation (λ (o : Candidate). r.distance ≤ o.distance) old (c ∷ new) taken (s.above k r at));
    seen = λ n x e. ⊎_elim (λ q. absurd (apart n x e q)) (λ w. w) (kept_waits n x (s.seen n x e));
    begun = kept_offers is start 0 s.begun;
  }
    where
      apart : (n : NodeNo) (x : ℕ) → mark_of marks n ≡ Seen x → c.node ≡ n → ⊥
      apart n x e q = let m = ap (mark_of marks) q in let k = is.1 in cc

  pub passed_offers : IsSettled marks c.node → AllOffered h radius done marks new
  passed_offers is k r at j road there = kept_offers is road.0 (r.distance + road.1) (offered k r at j road there)

  -- one that isn't is settled: it goes to the end of the list, and its mark tells its place there
  more : List Reached
  more = done ++ reached_by c ∷ []

  marked : List Mark
  marked = set marks c.node.0 (Settled (length done))

  fits : c.node.0 < length marks
  fits = let m = s.many in let n = its.node.1 in omega arith

  mark_here : mark_of marked c.node ≡ Settled (length done)
  unfolding marked
  mark_here = get_or-set_same marks c.node.0 (Settled (length done)) Unseen fits

  mark_there : (n : NodeNo) → n.0 ≢ c.node.0 → mark_of marked n ≡ mark_of marks n
  unfolding marked
  mark_there n ne = get_or-set_other marks c.node.0 n.0 (Settled (length done)) Unseen ne

  here_or_there : (n : NodeNo) → (n ≡ c.node) ⊎ (n.0 ≢ c.node.0)
  here_or_there n = ⊎_elim (λ e. inl (same_node e)) (λ ne. inr ne) (cases_eq n.0 c.node.0)

  module _ (un : IsSettled marks c.node → ⊥) where
    now_settled : (n : NodeNo) → IsSettled marks n → IsSettled marked n
    now_settled n q = at (here_or_there n)
      where
        at : (n ≡ c.node) ⊎ (n.0 ≢ c.node.0) → IsSettled marked n
        at (inl e) = absurd (un (subst (IsSettled marks) e q))
        at (inr ne) = (q.0, mark_there n ne ∙ q.1)

    now_offers : (n : NodeNo) (x : ℕ) → IsOffered radius marks old n x → IsOffered radius marked new n x
    now_offers n x (inl q) = inl (now_settled n q)
    now_offers n x (inr (inl out)) = inr (inl out)
    now_offers n x (inr (inr w)) = at (kept_waits n x w)
      where
        at : (c.node ≡ n) ⊎ Waits new n x → IsOffered radius marked new n x
        at (inl e) = inl (subst (IsSettled marked) e (length done, mark_here))
        at (inr q) = inr (inr q)

    places_now : ArePlaces more marked
    unfolding more
    places_now = record { stands = stands_now; marked = marked_now }
      where
        stands_now : (n : NodeNo) (k : ℕ) → mark_of marked n ≡ Settled k → (r : Reached) × (slice_get (done ++ reached_by c ∷ []) k ≡ Some r) × (r.node ≡ n)
        stands_now n k e = at (here_or_there n)
          where
            at : (n ≡ c.node) ⊎ (n.0 ≢ c.node.0) → (r : Reached) × (slice_get (done ++ reached_by c ∷ []) k ≡ Some r) × (r.node ≡ n)
            at (inl q) = let m = ap (mark_of marked) q in let is : length done ≡ k = cc (mark_here, m, e) in (reached_by c, ap (slice_get (done ++ reached_by c ∷ [])) (sym is) ∙ at-last done (reached_by c), sym q)
            at (inr ne) = let o = s.places.stands n k (sym (mark_there n ne) ∙ e) in (o.0, at-append done (reached_by c ∷ []) k o.0 o.1, o.2)

        marked_now : (k : ℕ) (r : Reached) → slice_get (done ++ reached_by c ∷ []) k ≡ Some r → mark_of marked r.node ≡ Settled k
        marked_now k r e = at (at-push done (reached_by c) k r e)
          where
            at : ((k < length done) × (slice_get done k ≡ Some r)) ⊎ ((k ≡ length done) × (reached_by c ≡ r)) → mark_of marked r.node ≡ Settled k
            at (inl (lt, q)) = mark_there r.node (λ same. un (k, ap (mark_of marks) (same_node (sym same)) ∙ s.places.marked k r q)) ∙ s.places.marked k r q
            at (inr (is, q)) = ap (λ (o : Reached). mark_of marked o.node) (sym q) ∙ mark_here ∙ ap Settled (sym is)

    -- what holds of the list holds of the longer one, where it holds of the last
    each_now : (P : ℕ → Reached → Type 0) → ((k : ℕ) (r : Reached) → slice_get done k ≡ Some r → P k r) → P (length done) (reached_by c) → (k : ℕ) (r : Reached) → slice_get (done ++ reached_by c ∷ []) k ≡ Some r → P k r
    each_now P all last k r e = at (at-push done (reached_by c) k r e)
      where
        at : ((k < length done) × (slice_get done k ≡ Some r)) ⊎ ((k ≡ length done) × (reached_by c ≡ r)) → P k r
        at (inl (lt, q)) = all k r q
        at (inr (is, q)) = subst (λ (o : Reached). P k o) q (subst (λ i. P i (reached_by c)) (sym is) last)

    back_more : (k : ℕ) (r : Reached) → HasWayBack To h start done k r → HasWayBack To h start (done ++ reached_by c ∷ []) k r
    back_more zero r b = b
    back_more (suc k) r b = record { place = b.place; before = b.before; parent = b.parent; stands = at-append done (reached_by c ∷ []) b.place b.parent b.stands; named = b.named; weight = b.weight; road = b.road; sum = b.sum }

    found_more : (o : Candidate) → (p : Option NodeNo) → IsFound h start done o p → IsFound h start (done ++ reached_by c ∷ []) o p
    found_more o None f = f
    found_more o (Some p) f = record { place = f.place; parent = f.parent; stands = at-append done (reached_by c ∷ []) f.place f.parent f.stands; named = f.named; index = f.index; weight = f.weight; road = f.road; sum = f.sum }

    candidate_more : (o : Candidate) → IsCandidate h start radius done o → IsCandidate h start radius (done ++ reached_by c ∷ []) o
    candidate_more o i = record { node = i.node; inside = i.inside; found = found_more o (parent_in o.parent) i.found }

    -- the first in the list is the start
    back_now : (p : Option NodeNo) → parent_in c.parent ≡ p → IsFound h start done c p → (k : ℕ) → k ≡ length done → HasWayBack To h start (done ++ reached_by c ∷ []) k (reached_by c)
    back_now None e f zero is = ap₂ (λ (n : NodeNo) (x : ℕ). let r : Reached = record { node = n; distance = x; parent = parent_in c.parent } in r) f.0 f.1 ∙ ap (λ (p : Option NodeNo). let r : Reached = record { node = start; distance = 0; parent = p } in r) e
    back_now (Some p) e f zero is = let l = slice_get_within done f.place f.parent f.stands in absurd (omega arith)
    back_now None e f (suc k) is =
        let first : Reached = get_or done 0 (reached_by c) in
        let at : slice_get done 0 ≡ Some first = slice_get-get_or done 0 (reached_by c) (omega arith) in
        let b : first ≡ record { node = start; distance = 0; parent = None } = s.back 0 first at in
        let m : mark_of marks first.node ≡ Settled 0 = s.places.marked 0 first at in
        let n : first.node ≡ c.node = ap (λ (r : Reached). r.node) b ∙ sym f.0 in
        absurd (un (0, ap (mark_of marks) (sym n) ∙ m))
    back_now (Some p) e f (suc k) is =
        let b = (nearest_is un).back p e in
        let l = slice_get_within done b.0.place b.0.parent b.0.stands in
        record {
          place = b.0.place;
          before = omega arith;
          parent = b.0.parent;
          stands = at-append done (reached_by c ∷ []) b.0.place b.0.parent b.0.stands;
          named = e ∙ ap Some (sym b.0.named);
          weight = b.0.weight;
          road = ap (least_weight h.roads c.node) b.0.named ∙ b.0.road;
          sum = b.1;
        }

    pub settled_search : IsSearch h start radius (done ++ reached_by c ∷ []) (set marks c.node.0 (Settled (length done))) new
    unfolding marked more
    settled_search = record {
      graph = s.graph;
      places = places_now;
      many = length-set marks c.node.0 (Settled (length done)) ∙ s.many;
      node = s.node;
      exact = each_now (λ k r. IsDist h r.node start r.distance) s.exact (nearest_is un).dist;
      inside = each_now (λ k r. IsInside radius r.distance) s.inside its.inside;
      rising = IsNonDecreasingBy-push (λ (r : Reached). r.distance) done (reached_by c) s.rising
          (λ d some. (let at = slice_get-get_or done (length done - 1) d (omega arith) in All-head (λ (o : Candidate). (get_or done (length done - 1) d).distance ≤ o.distance) c new (All-permutation (λ (o : Candidate). (get_or done (length done - 1) d).distance ≤ o.distance) old (c ∷ new) taken (s.above (length done - 1) _ at))));
      back = each_now (λ k r. HasWayBack To h start (done ++ reached_by c ∷ []) k r) (λ k r at. back_more k r (s.back k r at)) (back_now (parent_in c.parent) refl its.found (length done) refl);
      candidates = All-weaker (IsCandidate h start radius done) (IsCandidate h start radius (done ++ reached_by c ∷ [])) candidate_more new
          (All-tail (IsCandidate h start radius done) c new (All-permutation (IsCandidate h start radius done) old (c ∷ new) taken s.candidates));
      above = each_now (λ k r. All (λ (o : Candidate). r.distance ≤ o.distance) new) (passed_above) nearest;
      seen = λ n x e. seen_now n x e (here_or_there n);
      begun = now_offers start 0 s.begun;
    }
      where
        passed_above : (k : ℕ) (r : Reached) → slice_get done k ≡ Some r → All (λ (o : Candidate). r.distance ≤ o.distance) new
        passed_above k r at = All-tail (λ (o : Candidate). r.distance ≤ o.distance) c new (All-permutation (λ (o : Candidate). r.distance ≤ o.distance) old (c ∷ new) taken (s.above k r at))

        seen_now : (n : NodeNo) (x : ℕ) → mark_of marked n ≡ Seen x → (n ≡ c.node) ⊎ (n.0 ≢ c.node.0) → Waits new n x
        seen_now n x e (inl q) = let m = ap (mark_of marked) q in cc (mark_here, m, e)
        seen_now n x e (inr ne) = ⊎_elim (λ q. absurd (ne (ap (λ (m : NodeNo). m.0) (sym q)))) (λ w. w) (kept_waits n x (s.seen n x (sym (mark_there n ne) ∙ e)))

    pub settled_offers : AreOffered h radius (done ++ reached_by c ∷ []) (set marks c.node.0 (Settled (length done))) new 0
    unfolding marked more
    settled_offers k r at j road there low = here (at-push done (reached_by c) k r at) low
      where
        here : ((k < length done) × (slice_get done k ≡ Some r)) ⊎ ((k ≡ length done) × (reached_by c ≡ r)) → (k + 1 < length (done ++ reached_by c ∷ [])) ⊎ (j < 0) → IsOffered radius marked new road.0 (r.distance + road.1)
        here (inl (lt, q)) low = now_offers road.0 (r.distance + road.1) (offered k r q j road there)
        here (inr (is, q)) (inl lt) = let n = length-append done (reached_by c ∷ []) in absurd (omega arith)
        here (inr (is, q)) (inr no') = absurd (omega arith)
