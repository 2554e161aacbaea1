use Rattle.std.proofs.Common.{◌≡◌, ℕ, ◌+◌, ◌<◌, ◌≤◌, ◌^◌, ◌⊎◌, inl, inr, List, [], ◌∷◌, length, sym, ap, ◌∙◌, arith, refl, subst}
use Rattle.std.specs.Prelude.{Contains, IsPermutation}
use Rattle.std.proofs.lemmas.Bool.{cases_lt}
use Rattle.std.proofs.lemmas.List.Sorted.{Contains-permutation, IsPermutation-sym, IsPermutation-trans, IsPermutation-map, length_permutation}
use Rattle.road_graph.specs.declared.road.NodeNo.{NodeNo}
use Rattle.road_graph.specs.Roads.{Roads, IsNode}
use Rattle.road_graph.specs.Graphs.{IsGraph}
use Rattle.road_graph.proofs.WalkLaws.{same_node, dist_short}
use Rattle.upward_search.specs.Fitting.{rank_of, IsFitting}
use Rattle.contraction.specs.declared.queue.Candidate.{Candidate}
use Rattle.contraction.specs.declared.work.Work.{Work}
use Rattle.contraction.specs.Queues.{AreBelow, nodes_of}
use Rattle.contraction.specs.Rows.{Stands}
use Rattle.contraction.specs.Working.{IsWork, AllDone, AreNumbers, IsNext, AreWaiting, AreRows}
use Rattle.contraction.proofs.Contains.{in_cons, in_more, in_first}
use Rattle.contraction.proofs.IsFitting.{contracted}
use Rattle.contraction.proofs.IsWork.{rows_of_work}

-- one number more
pub numbers_more : (i : ℕ) (old new : List NodeNo) (m : NodeNo) → AreNumbers i old → m.0 ≡ i + 1 → IsPermutation (m ∷ old) new → AreNumbers (i + 1) new
numbers_more i old new m a is p = record { many = (let l = length_permutation (m ∷ old) new p in let k = a.many in omega arith); each = each; within = λ n h. within n (in_cons m old n (Contains-permutation new (m ∷ old) n (IsPermutation-sym (m ∷ old) new p) h)) }
  where
    each : (n : NodeNo) → 1 ≤ n.0 → n.0 ≤ i + 1 → Contains new n
    each n low high = Contains-permutation (m ∷ old) new n p (at (cases_lt n.0 (i + 1)))
      where
        at : (n.0 < i + 1) ⊎ (i + 1 ≤ n.0) → Contains (m ∷ old) n
        at (inl lt) = in_more m old n (a.each n low (omega arith))
        at (inr ge) = subst (λ (k : NodeNo). Contains (m ∷ old) k) (same_node (omega arith)) (in_first m old)

    within : (n : NodeNo) → (m ≡ n) ⊎ Contains old n → (1 ≤ n.0) × (n.0 ≤ i + 1)
    within n (inr h) = let w = a.within n h in (w.0, (let x = w.1 in omega arith))
    within n (inl s) = let t = ap (λ (k : NodeNo). k.0) s in (omega arith, omega arith)

-- all nodes wait at first
pub all_wait : (g : Roads) (w : Work) (waiting : List NodeNo) → AreNumbers g.nodes waiting → AreWaiting g w 0 waiting
all_wait g w waiting a = record { few = (let m = a.many in omega arith); nodes = λ n h. a.within n h; each = λ n h. inr (a.each n h.0 h.1) }

-- one that was taken is a node, and not all are removed
pub first_waits : (g : Roads) (w : Work) (count : ℕ) (waiting rest : List NodeNo) (m : NodeNo) → AreWaiting g w count waiting → IsPermutation waiting (m ∷ rest) → IsNode g m × (count < g.nodes)
first_waits g w count waiting rest m a p =
    (a.nodes m (Contains-permutation (m ∷ rest) waiting m (IsPermutation-sym waiting (m ∷ rest) p) (in_first m rest)), (let f = a.few in let l = length_permutation waiting (m ∷ rest) p in omega arith))

-- one waits no more
pub fewer_wait : (g : Roads) (old new : Work) (count next : ℕ) (waiting rest : List NodeNo) (m : NodeNo) → AreWaiting g old count waiting → IsPermutation waiting (m ∷ rest) → IsNext g old new m count next → AreWaiting g new next rest
fewer_wait g old new count next waiting rest m a p s = record {
  few = (let f = a.few in let l = length_permutation waiting (m ∷ rest) p in let t = s.few in omega arith);
  nodes = λ n h. a.nodes n (Contains-permutation (m ∷ rest) waiting n (IsPermutation-sym waiting (m ∷ rest) p) (in_more m rest n h));
  each = λ n h. at n h (a.each n h);
}
  where
    by : (n : NodeNo) → (m ≡ n) ⊎ Contains rest n → (rank_of new.ranks.items n < next) ⊎ Contains rest n
    by n (inr h) = inr h
    by n (inl is) = inl (subst (λ (k : NodeNo). rank_of new.ranks.items k < next) is s.done)

    at : (n : NodeNo) → IsNode g n → (rank_of old.ranks.items n < count) ⊎ Contains waiting n → (rank_of new.ranks.items n < next) ⊎ Contains rest n
    at n h (inl lt) = inl (s.kept n h lt)
    at n h (inr c) = by n (in_cons m rest n (Contains-permutation waiting (m ∷ rest) n p c))

-- where none waits all are done
pub none_waits : (g : Roads) (w : Work) (count : ℕ) (waiting : List NodeNo) → AreWaiting g w count waiting → length waiting ≡ 0 → AllDone g w count
none_waits g w count waiting a e n h = at (a.each n h)
  where
    at : (rank_of w.ranks.items n < count) ⊎ Contains waiting n → rank_of w.ranks.items n < count
    at (inl lt) = lt
    at (inr c) = absurd (let l = c.1 in omega arith)

-- the work when all are removed
pub work_fits : (g : Roads) → IsGraph g → (w : Work) (count : ℕ) → IsWork g count w → AllDone g w count → IsFitting g w.ranks.items w.climbing.items w.falling.items
work_fits g lawful w count s all = contracted g lawful (2 ^ 53) w.ranks.items w.climbing.items (Stands w.outs.items) w.falling.items count s.state all (dist_short g lawful)

-- the nodes of candidates of which one is taken first
pub taken_first : (old mid : List Candidate) (first : Candidate) (new : List Candidate) → IsPermutation (nodes_of old) (nodes_of mid) → IsPermutation mid (first ∷ new) → IsPermutation (nodes_of old) (first.node ∷ nodes_of new)
taken_first old mid first new p q = IsPermutation-trans (nodes_of old) (nodes_of mid) (first.node ∷ nodes_of new) p (IsPermutation-map (λ (c : Candidate). c.node) mid (first ∷ new) q)

-- one that was taken waits again, by another key
pub put_back : (old : List Candidate) (first : Candidate) (mid : List Candidate) (key : ℕ) (new : List Candidate) → IsPermutation (nodes_of old) (first.node ∷ nodes_of mid) → IsPermutation (record { key = key; node = first.node } ∷ mid) new → IsPermutation (nodes_of old) (nodes_of new)
put_back old first mid key new p q = IsPermutation-trans (nodes_of old) (first.node ∷ nodes_of mid) (nodes_of new) p (IsPermutation-map (λ (c : Candidate). c.node) (record { key = key; node = first.node } ∷ mid) new q)

-- where none waits, none waited
pub none_taken : (old mid : List Candidate) → IsPermutation (nodes_of old) (nodes_of mid) → mid ≡ [] → old ≡ []
none_taken old mid p e = empty old (sym (length_permutation (nodes_of old) (nodes_of mid) p) ∙ ap (λ (cs : List Candidate). length (nodes_of cs)) e)
  where
    empty : (cs : List Candidate) → length (nodes_of cs) ≡ 0 → cs ≡ []
    empty [] l = refl
    empty (c ∷ cs) l = absurd (omega arith)

-- one that was taken is below a number that all are below
pub taken_below : (count : ℕ) (old mid : List Candidate) (first : Candidate) (new : List Candidate) → IsPermutation (nodes_of old) (nodes_of mid) → IsPermutation mid (first ∷ new) → AreBelow count (nodes_of old) → first.node.0 < count
taken_below count old mid first new p q b =
    b first.node (Contains-permutation (first.node ∷ nodes_of new) (nodes_of old) first.node (IsPermutation-sym (nodes_of old) (first.node ∷ nodes_of new) (taken_first old mid first new p q)) (in_first first.node (nodes_of new)))

-- nodes that wait are below the number of rows
pub waiting_below : (g : Roads) (w : Work) (count : ℕ) (waiting : List NodeNo) → AreWaiting g w count waiting → AreBelow (g.nodes + 1) waiting
waiting_below g w count waiting a n h = let l = (a.nodes n h).1 in omega arith

-- the rows of the work, for as many depths
pub rows_for : (g : Roads) (w : Work) (count many : ℕ) → IsWork g count w → many ≡ g.nodes + 1 → AreRows many w
rows_for g w count many s e = subst (λ (n : ℕ). AreRows n w) (sym e) (rows_of_work g w count s)
