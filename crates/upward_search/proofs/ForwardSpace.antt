use Rattle.std.proofs.Common.{◌≡◌, ℕ, zero, suc, ◌+◌, ◌<◌, ◌≤◌, ◌^◌, inl, inr, List, [], ◌∷◌, length, map, get_or, Some, sym, ap, ◌∙◌, arith, refl, subst}
use Rattle.std.specs.Prelude.{slice_get, slice_index, Contains}
use Rattle.std.specs.List.Sorted.{IsStrictlyIncreasing}
use Rattle.std.proofs.lemmas.List.{length-map}
use Rattle.std.proofs.lemmas.Option.{slice_get_within}
use Rattle.road_graph.specs.declared.road.NodeNo.{NodeNo}
use Rattle.upward_search.specs.declared.slope.Arc.{Arc}
use Rattle.upward_search.specs.declared.slope.Label.{Label}
use Rattle.upward_search.specs.Climbs.{IsIn, IsClimb, climb_length, IsClimbDist, IsRisingWithin, IsSpace, work}
use Rattle.upward_search.specs.Ladders.{Ladder, IsLadder, IsAt, AreApart, ArePlaces}
use Rattle.upward_search.specs.Names.{AreListed, AreRising, label_by}
use Rattle.upward_search.specs.Chains.{IsLeastChain}
use Rattle.upward_search.specs.Fitting.{rank_of}
use Rattle.upward_search.specs.Hierarchies.{HasRank, node_at, ranking_of}
use Rattle.upward_search.specs.Spaces.{AreRisingRanks, AreRankedNodes, IsForwardSpace, IsBackwardSpace, climbing_arcs, falling_arcs}
use Rattle.upward_search.proofs.RankingOf.{Has, has_in, in_has, has_map, map_has, contains_in, in_contains, at_node, climb_low, fall_low, climb_chain, fall_chain, chain_up, chain_down, same_at}
use Rattle.upward_search.proofs.ArcsOut.{climbing_work, falling_work}

-- a list of labels that rise
rising_next : (low high : ℕ) (rs : List Label) (k : ℕ) → IsRisingWithin low high rs → k + 1 < length (map (λ (r : Label). r.place) rs) → get_or (map (λ (r : Label). r.place) rs) k 0 < get_or (map (λ (r : Label). r.place) rs) (k + 1) 0
rising_next low high [] k h lt = absurd (omega arith)
rising_next low high (r ∷ []) k h lt = absurd (omega arith)
rising_next low high (r ∷ s ∷ rs) zero h lt = let q = h.1.0 in omega arith
rising_next low high (r ∷ s ∷ rs) (suc k) h lt =
    let ih = rising_next (suc r.place) high (s ∷ rs) k h.1 (omega arith) in
    let e : suc k + 1 ≡ suc (k + 1) = omega arith in
    subst (λ n. get_or (map (λ (o : Label). o.place) (s ∷ rs)) k 0 < get_or (map (λ (o : Label). o.place) (r ∷ s ∷ rs)) n 0) (sym e) ih

within_of : (low high : ℕ) (rs : List Label) → ((k : ℕ) → k + 1 < length rs → (get_or (map (λ (r : Label). r.place) rs) k 0) < (get_or (map (λ (r : Label). r.place) rs) (k + 1) 0)) → ((r : Label) → IsIn rs r → r.place < high) → low ≤ high
    → ((r : Label) → slice_get rs 0 ≡ Some r → low ≤ r.place) → IsRisingWithin low high rs
within_of low high [] up below le first = le
within_of low high (r ∷ []) up below le first = (first r refl, (let b = below r (0, refl) in omega arith))
within_of low high (r ∷ s ∷ rs) up below le first = (
  first r refl,
  within_of (suc r.place) high (s ∷ rs)
      (λ k lt. let h = up (suc k) (omega arith) in let e : suc k + 1 ≡ suc (k + 1) = omega arith in subst (λ n. get_or (map (λ (o : Label). o.place) (s ∷ rs)) k 0 < get_or (map (λ (o : Label). o.place) (r ∷ s ∷ rs)) n 0) e h)
      (λ o i. below o (suc i.0, i.1)) (let b = below r (0, refl) in omega arith) (λ o e. let h = up 0 (omega arith) in let is : s ≡ o = cc in let p = ap (λ (t : Label). t.place) is in omega arith),
)

module _ (l : Ladder) (lad : IsLadder l) (apart : AreApart l) (placed : ArePlaces l.nodes l.places) where
  least_up : (p q : ℕ) (u v : NodeNo) (x : ℕ) → IsAt l p u → IsAt l q v → IsClimbDist l.climbs p q x → IsLeastChain (ranking_of l).climbing u v x
  least_up p q u v x a b d =
      let c = chain_up l lad d.reached.0 p q u v d.reached.1 a b in
      record {
        chain = c.0;
        reached = record { leads = c.1.leads; all = c.1.all; sum = c.1.sum ∙ d.reached.2 };
        least = λ other y o. (let e = climb_chain l lad apart other u v o.leads o.all p a in let same = apart e.end q v e.ends b in
            let low = d.least e.arcs (subst (λ n. IsClimb l.climbs p n e.arcs) same e.climb) in let m = e.long in let s = o.sum in omega arith);
      }

  least_down : (p q : ℕ) (v u : NodeNo) (x : ℕ) → IsAt l p v → IsAt l q u → IsClimbDist l.falls p q x → IsLeastChain (ranking_of l).falling u v x
  least_down p q v u x a b d =
      let c = chain_down l lad d.reached.0 p q v u d.reached.1 a b in
      record {
        chain = c.0;
        reached = record { leads = c.1.leads; all = c.1.all; sum = c.1.sum ∙ d.reached.2 };
        least = λ other y o. (let e = fall_chain l lad apart other u v o.leads o.all p a in let same = apart e.end q u e.ends b in
            let low = d.least e.arcs (subst (λ n. IsClimb l.falls p n e.arcs) same e.climb) in let m = e.long in let s = o.sum in omega arith);
      }

  climb_least : (p q : ℕ) (u v : NodeNo) (x : ℕ) → IsAt l p u → IsAt l q v → IsLeastChain (ranking_of l).climbing u v x → IsClimbDist l.climbs p q x
  climb_least p q u v x a b c =
      let e = climb_chain l lad apart c.chain u v c.reached.leads c.reached.all p a in
      let same = apart e.end q v e.ends b in
      record {
        reached = (e.arcs, subst (λ n. IsClimb l.climbs p n e.arcs) same e.climb, e.long ∙ c.reached.sum);
        least = λ arcs o. (let d = chain_up l lad arcs p q u v o a b in c.least d.0 (climb_length arcs) d.1);
      }

  fall_least : (p q : ℕ) (v u : NodeNo) (x : ℕ) → IsAt l p v → IsAt l q u → IsLeastChain (ranking_of l).falling u v x → IsClimbDist l.falls p q x
  fall_least p q v u x a b c =
      let e = fall_chain l lad apart c.chain u v c.reached.leads c.reached.all p a in
      let same = apart e.end q u e.ends b in
      record {
        reached = (e.arcs, subst (λ n. IsClimb l.falls p n e.arcs) same e.climb, e.long ∙ c.reached.sum);
        least = λ arcs o. (let d = chain_down l lad arcs p q v u o a b in c.least d.0 (climb_length arcs) d.1);
      }

  -- a listed node is that of a label, and the other way round
  listed_label : (labels : List Label) (listed : List (NodeNo × ℕ)) → AreListed l.nodes labels listed → (k : ℕ) (n : NodeNo) (x : ℕ) → slice_get listed k ≡ Some (n, x) → (r : Label) × IsIn labels r × IsAt l r.place n × (r.length ≡ x)
  listed_label [] [] a k n x e = cc
  listed_label [] (m ∷ ms) a k n x e = absurd a
  listed_label (r ∷ rs) [] a k n x e = absurd a
  listed_label (r ∷ rs) (m ∷ ms) a zero n x e =
      let is : m ≡ (n, x) = cc in
      (r, (0, refl), subst (IsAt l r.place) (ap (λ (o : NodeNo × ℕ). o.0) is) a.0, sym a.1 ∙ ap (λ (o : NodeNo × ℕ). o.1) is)
  listed_label (r ∷ rs) (m ∷ ms) a (suc k) n x e = let t = listed_label rs ms a.2 k n x e in (t.0, (suc t.1.0, t.1.1), t.2, t.3)

  label_listed : (labels : List Label) (listed : List (NodeNo × ℕ)) → AreListed l.nodes labels listed → (k : ℕ) (r : Label) → slice_get labels k ≡ Some r → (n : NodeNo) → IsAt l r.place n → IsIn listed (n, r.length)
  label_listed [] [] a k r e n at = cc
  label_listed [] (m ∷ ms) a k r e n at = absurd a
  label_listed (s ∷ rs) [] a k r e n at = absurd a
  label_listed (s ∷ rs) (m ∷ ms) a zero r e n at =
      let is : s ≡ r = cc in
      let one : m.0 ≡ n = same_at l s.place r.place m.0 n a.0 at (ap (λ (o : Label). o.place) is) in
      let long : m.1 ≡ r.length = a.1 ∙ ap (λ (o : Label). o.length) is in
      (0, ap (λ (o : NodeNo). let y : NodeNo × ℕ = (o, m.1) in Some y) one ∙ ap (λ (z : ℕ). let y : NodeNo × ℕ = (n, z) in Some y) long)
  label_listed (s ∷ rs) (m ∷ ms) a (suc k) r e n at = let t = label_listed rs ms a.2 k r e n at in (suc t.0, t.1)

  ranks_are : (labels : List Label) (listed : List (NodeNo × ℕ)) → AreListed l.nodes labels listed → map (λ (n : NodeNo × ℕ). rank_of l.places n.0) listed ≡ map (λ (r : Label). r.place) labels
  ranks_are [] [] a = refl
  ranks_are [] (m ∷ ms) a = absurd a
  ranks_are (r ∷ rs) [] a = absurd a
  ranks_are (r ∷ rs) (m ∷ ms) a =
      ap (λ (k : ℕ). k ∷ map (λ (n : NodeNo × ℕ). rank_of l.places n.0) ms) (placed.back r.place m.0 a.0) ∙ ap (λ (ks : List ℕ). r.place ∷ ks) (ranks_are rs ms a.2)

  ranks_rise : (high : ℕ) (labels : List Label) (listed : List (NodeNo × ℕ)) → AreListed l.nodes labels listed → IsRisingWithin 0 high labels → AreRisingRanks (ranking_of l) listed
  ranks_rise high labels listed a up = subst IsStrictlyIncreasing (sym (ranks_are labels listed a)) (λ k lt. rising_next 0 high labels k up lt)

  ranked_node : (labels : List Label) (listed : List (NodeNo × ℕ)) → AreListed l.nodes labels listed → (n : NodeNo) (x : ℕ) → Contains listed (n, x) → HasRank (ranking_of l) n
  ranked_node labels listed a n x c = let i = contains_in listed (n, x) c in let t = listed_label labels listed a i.0 n x i.1 in (placed.some t.0.place n t.2, placed.inside t.0.place n t.2)

  -- what a search of places lists is the space between nodes
  pub forward_is : (p : ℕ) (u : NodeNo) → IsAt l p u → (labels : List Label) → IsSpace l.climbs p labels → (listed : List (NodeNo × ℕ)) → AreListed l.nodes labels listed → IsForwardSpace (ranking_of l) u listed
  forward_is p u at labels space listed a = record {
    nodes = record { rising = ranks_rise (length l.climbs) labels listed a space.rising; ranked = λ n x c. ranked_node labels listed a n x c };
    exact = λ n x c. (let i = contains_in listed (n, x) c in let t = listed_label labels listed a i.0 n x i.1 in let s = space.exact t.0 t.1 in
        (subst (IsLeastChain (ranking_of l).climbing u n) t.3 (least_up p t.0.place u n t.0.length at t.2 s.0), (let e = t.3 in let m = s.1 in omega arith)));
    whole = λ n chain x c lt. (let e = climb_chain l lad apart chain u n c.leads c.all p at in
        let h = space.whole e.end e.arcs e.climb (let m = e.long in let t = c.sum in omega arith) in
        (h.label.length, in_contains listed (n, h.label.length) (label_listed labels listed a h.stands.0 h.label h.stands.1 n (subst (λ k. IsAt l k n) (sym h.is) e.ends))));
  }

  pub backward_is : (p : ℕ) (v : NodeNo) → IsAt l p v → (labels : List Label) → IsSpace l.falls p labels → (listed : List (NodeNo × ℕ)) → AreListed l.nodes labels listed → IsBackwardSpace (ranking_of l) v listed
  backward_is p v at labels space listed a = record {
    nodes = record { rising = ranks_rise (length l.falls) labels listed a space.rising; ranked = λ n x c. ranked_node labels listed a n x c };
    exact = λ n x c. (let i = contains_in listed (n, x) c in let t = listed_label labels listed a i.0 n x i.1 in let s = space.exact t.0 t.1 in
        (subst (IsLeastChain (ranking_of l).falling n v) t.3 (least_down p t.0.place v n t.0.length at t.2 s.0), (let e = t.3 in let m = s.1 in omega arith)));
    whole = λ n chain x c lt. (let e = fall_chain l lad apart chain n v c.leads c.all p at in
        let h = space.whole e.end e.arcs e.climb (let m = e.long in let t = c.sum in omega arith) in
        (h.label.length, in_contains listed (n, h.label.length) (label_listed labels listed a h.stands.0 h.label h.stands.1 n (subst (λ k. IsAt l k n) (sym h.is) e.ends))));
  }

  -- and the other way round: the labels of such a space
  are_listed : (space : List (NodeNo × ℕ)) → ((n : NodeNo × ℕ) → Has space n → IsAt l (slice_index l.places n.0.0) n.0) → AreListed l.nodes (map (label_by l.places) space) space
  are_listed [] at = tt
  are_listed (n ∷ space) at = (at n (inl refl), refl, are_listed space (λ m h. at m (inr h)))

  climb_end : (arcs : List Arc) (p q : ℕ) → IsClimb l.climbs p q arcs → p < length l.nodes → q < length l.nodes
  climb_end [] p q c lt = let e : p ≡ q = c in omega arith
  climb_end (a ∷ arcs) p q c lt = climb_end arcs a.to q c.1 (climb_low l lad p a c.0).1

  fall_end : (arcs : List Arc) (p q : ℕ) → IsClimb l.falls p q arcs → p < length l.nodes → q < length l.nodes
  fall_end [] p q c lt = let e : p ≡ q = c in omega arith
  fall_end (a ∷ arcs) p q c lt = fall_end arcs a.to q c.1 (fall_low l lad p a c.0).1

  -- what is read of nodes with places that rise is the space of places
  labels_rise : (high : ℕ) → length l.nodes ≤ high → (space : List (NodeNo × ℕ)) → AreRisingRanks (ranking_of l) space → ((n : NodeNo × ℕ) → Has space n → IsAt l (slice_index l.places n.0.0) n.0) → IsRisingWithin 0 high (map (label_by l.places) space)
  labels_rise high le space up at = within_of 0 high (map (label_by l.places) space)
      (λ k lt. subst (λ (ks : List ℕ). get_or ks k 0 < get_or ks (k + 1) 0) (ranks_are (map (label_by l.places) space) space (are_listed space at))
      (up k (let a = length-map space (label_by l.places) in let b = length-map space (λ (n : NodeNo × ℕ). rank_of l.places n.0) in omega arith)))
      (λ r i. (let m = map_has (label_by l.places) space r (in_has (map (label_by l.places) space) i.0 r i.1) in
      let lt = slice_get_within l.nodes (slice_index l.places m.0.0.0) m.0.0 (at m.0 m.1) in let e = ap (λ (o : Label). o.place) m.2 in omega arith))
      (omega arith)
      (λ r e. omega arith)

  pub forward_labels : (p : ℕ) (u : NodeNo) → IsAt l p u → (space : List (NodeNo × ℕ)) → IsForwardSpace (ranking_of l) u space → (labels : List Label) × IsSpace l.climbs p labels × (work l.climbs labels ≡ climbing_arcs (ranking_of l) space)
  forward_labels p u at space f = (map (label_by l.places) space, is, sym (climbing_work l apart lad.climbs_many (map (label_by l.places) space) space (are_listed space there)))
    where
      there : (n : NodeNo × ℕ) → Has space n → IsAt l (slice_index l.places n.0.0) n.0
      there n h =
          let c = (f.exact n.0 n.1 (in_contains space n (has_in space n h))).0 in
          let e = climb_chain l lad apart c.chain u n.0 c.reached.leads c.reached.all p at in
          subst (λ k. IsAt l k n.0) (sym (placed.back e.end n.0 e.ends)) e.ends

      is : IsSpace l.climbs p (map (label_by l.places) space)
      is = record {
        rising = labels_rise (length l.climbs) (let m = lad.climbs_many in omega arith) space f.nodes.rising there;
        exact = λ r i. (let m = map_has (label_by l.places) space r (in_has (map (label_by l.places) space) i.0 r i.1) in
            let x = f.exact m.0.0 m.0.1 (in_contains space m.0 (has_in space m.0 m.1)) in
            let d = climb_least p (slice_index l.places m.0.0.0) u m.0.0 m.0.1 at (there m.0 m.1) x.0 in
            subst (λ (o : Label). IsClimbDist l.climbs p o.place o.length × (o.length < 2 ^ 53)) m.2 (d, x.1));
        whole = λ q arcs c lt. (let high = climb_end arcs p q c (slice_get_within l.nodes p u at) in
            let a = at_node l q high in
            let d = chain_up l lad arcs p q u (node_at l.nodes q) c at a in
            let w = f.whole (node_at l.nodes q) d.0 (climb_length arcs) d.1 lt in
            let i = contains_in space (node_at l.nodes q, w.0) w.1 in
            let h = has_map (label_by l.places) space (node_at l.nodes q, w.0) (in_has space i.0 (node_at l.nodes q, w.0) i.1) in
            record { label = label_by l.places (node_at l.nodes q, w.0); stands = has_in (map (label_by l.places) space) (label_by l.places (node_at l.nodes q, w.0)) h; is = placed.back q (node_at l.nodes q) a });
      }

  pub backward_labels : (p : ℕ) (v : NodeNo) → IsAt l p v → (space : List (NodeNo × ℕ)) → IsBackwardSpace (ranking_of l) v space → (labels : List Label) × IsSpace l.falls p labels × (work l.falls labels ≡ falling_arcs (ranking_of l) space)
  backward_labels p v at space f = (map (label_by l.places) space, is, sym (falling_work l apart lad.falls_many (map (label_by l.places) space) space (are_listed space there)))
    where
      there : (n : NodeNo × ℕ) → Has space n → IsAt l (slice_index l.places n.0.0) n.0
      there n h =
          let c = (f.exact n.0 n.1 (in_contains space n (has_in space n h))).0 in
          let e = fall_chain l lad apart c.chain n.0 v c.reached.leads c.reached.all p at in
          subst (λ k. IsAt l k n.0) (sym (placed.back e.end n.0 e.ends)) e.ends

      is : IsSpace l.falls p (map (label_by l.places) space)
      is = record {
        rising = labels_rise (length l.falls) (let m = lad.falls_many in omega arith) space f.nodes.rising there;
        exact = λ r i. (let m = map_has (label_by l.places) space r (in_has (map (label_by l.places) space) i.0 r i.1) in
            let x = f.exact m.0.0 m.0.1 (in_contains space m.0 (has_in space m.0 m.1)) in
            let d = fall_least p (slice_index l.places m.0.0.0) v m.0.0 m.0.1 at (there m.0 m.1) x.0 in
            subst (λ (o : Label). IsClimbDist l.falls p o.place o.length × (o.length < 2 ^ 53)) m.2 (d, x.1));
        whole = λ q arcs c lt. (let high = fall_end arcs p q c (slice_get_within l.nodes p v at) in
            let a = at_node l q high in
            let d = chain_down l lad arcs p q v (node_at l.nodes q) c at a in
            let w = f.whole (node_at l.nodes q) d.0 (climb_length arcs) d.1 lt in
            let i = contains_in space (node_at l.nodes q, w.0) w.1 in
            let h = has_map (label_by l.places) space (node_at l.nodes q, w.0) (in_has space i.0 (node_at l.nodes q, w.0) i.1) in
            record { label = label_by l.places (node_at l.nodes q, w.0); stands = has_in (map (label_by l.places) space) (label_by l.places (node_at l.nodes q, w.0)) h; is = placed.back q (node_at l.nodes q) a });
      }

  -- listed nodes with ranks that rise have places that rise
  pub rising_places : (space : List (NodeNo × ℕ)) → AreRankedNodes (ranking_of l) space → AreRising l space
  rising_places space f = record { labels = map (label_by l.places) space; are = are_listed space there; rise = labels_rise (length l.nodes) (omega arith) space f.rising there }
    where
      there : (n : NodeNo × ℕ) → Has space n → IsAt l (slice_index l.places n.0.0) n.0
      there n h = let r = f.ranked n.0 n.1 (in_contains space n (has_in space n h)) in let m = placed.many in let high = r.1 in placed.each n.0 r.0 (omega arith)
