use Rattle.std.proofs.Common.{◌≡◌, ℕ, ◌+◌, ◌-◌, ◌<◌, ◌≤◌, ◌++◌, List, [], ◌∷◌, length, cond, ne_eqb, Option, Some, None, sym, ap, ◌∙◌, arith, refl, subst, length-append}
use Rattle.std.specs.Prelude.{slice_get, slice_set, All, IsPermutation, true, false, IsTrue, ◌↔◌}
use Rattle.std.proofs.lemmas.List.Elements.{All-head}
use Rattle.std.proofs.lemmas.List.Sorted.{All-permutation}
use Rattle.std.proofs.lemmas.Option.{slice_get_within, get_or_from_slice_get}
use Rattle.road_graph.specs.declared.road.NodeNo.{NodeNo}
use Rattle.road_graph.specs.Limits.{far}
use Rattle.road_graph.specs.Roads.{Roads, IsNode, ins}
use Rattle.road_graph.specs.Walks.{IsWalk}
use Rattle.plain_search.specs.declared.nearest.Candidate.{Candidate}
use Rattle.plain_search.specs.declared.reached.Reached.{Reached}
use Rattle.plain_search.specs.declared.reached.Mark.{Mark}
use Rattle.plain_search.specs.declared.reached.Mark.TheVariants.{Settled}
use Rattle.plain_search.specs.declared.search.Search.{Search}
use Rattle.plain_search.specs.Searching.{parent_in, IsFound, IsSearch, IsSearchOf, IsSettled, IsCandidate, AllOfferedIn, AreOffered, Offers, IsSameSearch, reached_by}
use Rattle.plain_search.proofs.ArePlaces.{few_listed}
use Rattle.plain_search.proofs.Lists.{at-last}
use Rattle.road_graph.proofs.WalkLaws.{first_is_node, dist_short}
use Rattle.plain_search.proofs.Offers.{offered_more, one_more, all_offered}
use Rattle.plain_search.proofs.SettledSearch.{settled_search, settled_offers}

-- a listed node is a node of the graph, and its distance is short
pub listed_node : (h : Roads) (start : NodeNo) (radius : Option ℕ) (done : List Reached) (marks : List Mark) (open' : List Candidate)
    → IsSearch h start radius done marks open' → (k : ℕ) (r : Reached) → slice_get done k ≡ Some r → IsNode h r.node
listed_node h start radius done marks open' s k r at = of_walk d.0 d.1
  where
    d : (nodes : List NodeNo) × IsWalk h r.node start nodes r.distance
    d = (s.exact k r at).reached

    of_walk : (nodes : List NodeNo) → IsWalk h r.node start nodes r.distance → IsNode h r.node
    of_walk [] w = absurd w.0
    of_walk (u ∷ more) w = subst (IsNode h) w.0.0 (first_is_node h s.graph u more r.distance w.1)

pub listed_short : (h : Roads) (start : NodeNo) (radius : Option ℕ) (done : List Reached) (marks : List Mark) (open' : List Candidate)
    → IsSearch h start radius done marks open' → (k : ℕ) (r : Reached) → slice_get done k ≡ Some r → r.distance < far
listed_short h start radius done marks open' s k r at = dist_short h s.graph r.node start r.distance (s.exact k r at)

-- none is farther than the last
no_farther : (h : Roads) (start : NodeNo) (radius : Option ℕ) (done : List Reached) (marks : List Mark) (open' : List Candidate) → IsSearch h start radius done marks open'
    → (last : Reached) → slice_get done (length done - 1) ≡ Some last → (k : ℕ) (r : Reached) → slice_get done k ≡ Some r → r.distance ≤ last.distance
no_farther h start radius done marks open' s last stands k r at =
    let lt = slice_get_within done k r at in
    let up = s.rising k (length done - 1) r (omega arith) (omega arith) in
    let a = ap (λ (o : Reached). o.distance) (get_or_from_slice_get done k r r at) in
    let b = ap (λ (o : Reached). o.distance) (get_or_from_slice_get done (length done - 1) last r stands) in
    omega arith

-- a search with equal parts
moved : (h : Roads) (a a' : NodeNo) (r r' : Option ℕ) (d d' : List Reached) (marks : List Mark) (open' : List Candidate) → a' ≡ a → r' ≡ r → d' ≡ d → IsSearch h a r d marks open' → IsSearch h a' r' d' marks open'
moved h a a' r r' d d' marks open' ea er ed s =
    subst (λ (x : NodeNo). IsSearch h x r' d' marks open') (sym ea) (subst (λ (x : Option ℕ). IsSearch h a x d' marks open') (sym er) (subst (λ (x : List Reached). IsSearch h a r x marks open') (sym ed) s))

moved_offers : (h : Roads) (r r' : Option ℕ) (d d' : List Reached) (marks : List Mark) (open' : List Candidate) (i : ℕ) → r' ≡ r → d' ≡ d → AreOffered h r d marks open' i → AreOffered h r' d' marks open' i
moved_offers h r r' d d' marks open' i er ed s =
    subst (λ (x : Option ℕ). AreOffered h x d' marks open' i) (sym er) (subst (λ (x : List Reached). AreOffered h r x marks open' i) (sym ed) s)

-- a node of the graph is named as a parent by its number
pub named_parent : (h : Roads) (n : NodeNo) → IsNode h n → parent_in n ≡ Some n
named_parent h n its = ap (λ b. cond b None (Some n)) (ne_eqb n.0 0 (λ e. let l = its.0 in omega arith))

-- one road of the last node is offered
pub record OneOffered (h : Roads) (s : Search) (i : ℕ) : Type 0 where
  pub search : IsSearchOf h s
  pub offered : AreOffered h s.radius s.reached s.marks s.waiting i

pub after_offer : (h : Roads) (old new : Search) (i : ℕ) (last : Candidate) (node : NodeNo) (weight : ℕ)
    → IsSearchOf h old → AreOffered h old.radius old.reached old.marks old.waiting i
    → slice_get old.reached (length old.reached - 1) ≡ Some (reached_by last) → slice_get (ins h last.node) i ≡ Some (node, weight) → IsNode h node
    → IsSameSearch old new → new.reached ≡ old.reached
    → Offers old.radius old.marks new.marks old.waiting new.waiting (record { distance = last.distance + weight; node = node; parent = last.node })
    → OneOffered h new (i + 1)
after_offer h old new i last node weight s all stands road its same reached offers =
    let m = offered_more h old.start old.radius old.reached old.marks old.waiting s (record { distance = last.distance + weight; node = node; parent = last.node }) new.marks new.waiting offers
    (λ inside. record { node = its; inside = inside; found = found })
    (λ k r at. let le = no_farther h old.start old.radius old.reached old.marks old.waiting s (reached_by last) stands k r at in omega arith) in
    let more = one_more h old.radius old.reached old.marks new.marks old.waiting new.waiting i (reached_by last) (node, weight) all m.offers stands road m.here in
    record {
      search = moved h old.start new.start old.radius new.radius old.reached new.reached new.marks new.waiting same.start same.radius reached m.search;
      offered = moved_offers h old.radius new.radius old.reached new.reached new.marks new.waiting (i + 1) same.radius reached more;
    }
  where
    found : IsFound h old.start old.reached (record { distance = last.distance + weight; node = node; parent = last.node }) (parent_in last.node)
    found = subst (IsFound h old.start old.reached (record { distance = last.distance + weight; node = node; parent = last.node }))
        (sym (named_parent h last.node (listed_node h old.start old.radius old.reached old.marks old.waiting s _ _ stands)))
        (record { place = length old.reached - 1; parent = reached_by last; stands = stands; named = refl; index = i; weight = weight; road = road; sum = refl })

pub after_offers : (h : Roads) (s : Search) (i : ℕ) (last : Candidate) → AreOffered h s.radius s.reached s.marks s.waiting i
    → slice_get s.reached (length s.reached - 1) ≡ Some (reached_by last) → length (ins h last.node) ≤ i → AllOfferedIn h s
after_offers h s i last all stands many = all_offered h s.radius s.reached s.marks s.waiting i (reached_by last) stands many all

pub same-then : {a b c : Search} → IsSameSearch b c → IsSameSearch a b → IsSameSearch a c
same-then new old = record { way = new.way ∙ old.way; start = new.start ∙ old.start; radius = new.radius ∙ old.radius }

-- the nearest candidate is settled, and its roads are to be offered
pub after_settling : (h : Roads) (s mid : Search) (open' : List Candidate) (c : Candidate)
    → IsSearchOf h s → AllOfferedIn h s → IsPermutation s.waiting (c ∷ open') → All (λ (o : Candidate). c.distance ≤ o.distance) open' → (IsSettled s.marks c.node → ⊥)
    → IsSameSearch s mid → mid.reached ≡ s.reached ++ reached_by c ∷ [] → mid.marks ≡ slice_set s.marks c.node.0 (Settled (length s.reached)) → mid.waiting ≡ open'
    → OneOffered h mid 0
after_settling h s mid open' c search all taken nearest un same reached marks waiting =
    let a = settled_search h s.start s.radius s.reached s.marks s.waiting open' search all c taken nearest un in
    let b = settled_offers h s.start s.radius s.reached s.marks s.waiting open' search all c taken nearest un in
    record {
      search = moved h s.start mid.start s.radius mid.radius (s.reached ++ reached_by c ∷ []) mid.reached mid.marks mid.waiting same.start same.radius reached
          (subst (λ (ms : List Mark). IsSearch h s.start s.radius (s.reached ++ reached_by c ∷ []) ms mid.waiting) (sym marks)
          (subst (λ (o : List Candidate). IsSearch h s.start s.radius (s.reached ++ reached_by c ∷ []) (slice_set s.marks c.node.0 (Settled (length s.reached))) o) (sym waiting) a));
      offered = moved_offers h s.radius mid.radius (s.reached ++ reached_by c ∷ []) mid.reached mid.marks mid.waiting 0 same.radius reached
          (subst (λ (ms : List Mark). AreOffered h s.radius (s.reached ++ reached_by c ∷ []) ms mid.waiting 0) (sym marks)
          (subst (λ (o : List Candidate). AreOffered h s.radius (s.reached ++ reached_by c ∷ []) (slice_set s.marks c.node.0 (Settled (length s.reached))) o 0) (sym waiting) b));
    }

-- the last of the list is the one that was settled
pub last_settled : (s mid : Search) (c : Candidate) → mid.reached ≡ s.reached ++ reached_by c ∷ [] → slice_get mid.reached (length mid.reached - 1) ≡ Some (reached_by c)
last_settled s mid c e =
    let n = length-append s.reached (reached_by c ∷ []) in
    let m = ap length e in
    let k : length mid.reached - 1 ≡ length s.reached = omega arith in
    ap (slice_get mid.reached) k ∙ ap (λ (rs : List Reached). slice_get rs (length s.reached)) e ∙ at-last s.reached (reached_by c)

-- a candidate that was taken fits the marks
pub taken_fits : (h : Roads) (s : Search) (open' : List Candidate) (c : Candidate) → IsSearchOf h s → IsPermutation s.waiting (c ∷ open') → c.node.0 < length s.marks
taken_fits h s open' c search taken =
    let its = All-head (IsCandidate h s.start s.radius s.reached) c open' (All-permutation (IsCandidate h s.start s.radius s.reached) s.waiting (c ∷ open') taken search.candidates) in
    let n = its.node.1 in
    let m = search.many in
    omega arith

-- no more nodes are listed than there are
pub few_in_search : (h : Roads) (s : Search) → IsSearchOf h s → length s.reached ≤ h.nodes + 1
few_in_search h s search = few_listed s.reached s.marks (h.nodes + 1) search.places (λ k r at. let n = (listed_node h s.start s.radius s.reached s.marks s.waiting search k r at).1 in omega arith)

-- what a test of a mark tells
pub unsettled : (marks : List Mark) (n : NodeNo) → (IsTrue false ↔ IsSettled marks n) → IsSettled marks n → ⊥
unsettled marks n tells q = let e = tells.1 q in cc

pub settled_by : (marks : List Mark) (n : NodeNo) → (IsTrue true ↔ IsSettled marks n) → IsSettled marks n
settled_by marks n tells = tells.0 refl
