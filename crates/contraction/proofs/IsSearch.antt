use Rattle.std.proofs.Common.{◌≡◌, ◌≢◌, ℕ, ◌+◌, ◌^◌, ◌<◌, ◌≤◌, ◌⊎◌, inl, inr, List, [], ◌∷◌, length, get_or, set, sym, ap, ◌∙◌, arith, refl, subst}
use Rattle.std.specs.Prelude.{Contains, IsPermutation}
use Rattle.std.proofs.lemmas.List.{get_or-set_same, get_or-set_other, length-set}
use Rattle.std.proofs.lemmas.List.Elements.{Contains-get_or}
use Rattle.std.proofs.lemmas.List.Sorted.{Contains-permutation, IsPermutation-sym}
use Rattle.road_graph.specs.declared.road.NodeNo.{NodeNo}
use Rattle.road_graph.proofs.WalkLaws.{same_node}
use Rattle.upward_search.specs.declared.arc.RankArc.{RankArc}
use Rattle.contraction.specs.declared.queue.Candidate.{Candidate}
use Rattle.contraction.specs.declared.rows.End.TheVariants.{From}
use Rattle.contraction.specs.declared.search.Mark.{Mark}
use Rattle.contraction.specs.declared.search.Search.{Search}
use Rattle.contraction.specs.Removing.{HasChain}
use Rattle.contraction.specs.Rows.{row_of, Stands, AreSound}
use Rattle.contraction.specs.Searching.{mark_of, IsUnmarked, IsLed, IsSearch, IsReached, Admits}
use Rattle.contraction.proofs.HasChain.{no_arc, same_or_not, has_none, has_one, has_append}
use Rattle.contraction.proofs.Contains.{in_cons, in_more, in_first}

-- one mark written
mark_set : (marks : List Mark) (p : NodeNo) (m : Mark) → p.0 < length marks → (n : NodeNo) → ((n ≡ p) × (mark_of (set marks p.0 m) n ≡ m)) ⊎ ((n ≢ p) × (mark_of (set marks p.0 m) n ≡ mark_of marks n))
mark_set marks p m lt n = at (same_or_not n p)
  where
    at : (n ≡ p) ⊎ (n ≢ p) → ((n ≡ p) × (mark_of (set marks p.0 m) n ≡ m)) ⊎ ((n ≢ p) × (mark_of (set marks p.0 m) n ≡ mark_of marks n))
    at (inl e) = inl (e, ap (mark_of (set marks p.0 m)) e ∙ get_or-set_same marks p.0 m (record { stamp = 0; length = 0 }) lt)
    at (inr ne) = inr (ne, get_or-set_other marks p.0 n.0 m (record { stamp = 0; length = 0 }) (λ e. ne (same_node e)))

-- a search without marks and candidates
pub unmarked_search : (rows : List (List RankArc)) (s : Search) (count : ℕ) → length rows ≡ count → IsUnmarked count s → s.waiting ≡ [] → IsSearch rows s
unmarked_search rows s count e u w = record {
  marked = record { many = u.many ∙ sym e; old = λ n lt. (let o = u.older n (omega arith) in omega arith) };
  real = λ n lt is. absurd (let o = u.older n (omega arith) in omega arith);
  waiting = λ c h. absurd (none c h);
}
  where
    none : (c : Candidate) → Contains s.waiting c → ⊥
    none c h = let l = h.1 in let z = ap length w in omega arith

-- the start is led to by no arc
pub led_none : (rows : List (List RankArc)) (u v : NodeNo) → v ≡ u → u.0 < length rows → IsLed rows v (record { key = 0; node = u })
led_none rows u v e lt = record { within = lt; chain = has_none v u 0 e }

-- one arc further
pub led_on : (rows : List (List RankArc)) (u : NodeNo) (c : Candidate) (row : List RankArc) (i : ℕ) → AreSound From rows → IsLed rows u c → row ≡ row_of rows c.node → i < length row → IsLed rows u (record { key = c.key + (get_or row i no_arc).length; node = (get_or row i no_arc).to })
led_on rows u c row i sound led is lt =
    let arc = get_or row i no_arc in
    let there : Contains (row_of rows c.node) arc = subst (λ (r : List RankArc). Contains r arc) is (Contains-get_or row i no_arc lt) in
    let s = sound c.node arc there in
    let one = has_one {Kind = Stands rows} arc c.node arc.to arc.length (subst (λ (n : NodeNo). Contains (row_of rows n) arc) (sym s.1) there) s.1 refl (omega arith) in
    record { within = s.0.to; chain = has_append u c.node arc.to c.key arc.length (c.key + arc.length) led.chain one (omega arith) }

-- an arc of a row that was read is short
pub light_at : (rows : List (List RankArc)) (c : NodeNo) (row : List RankArc) (i : ℕ) → AreSound From rows → row ≡ row_of rows c → i < length row → (get_or row i no_arc).length < 2 ^ 53
light_at rows c row i sound is in' =
    (sound c (get_or row i no_arc) (subst (λ (r : List RankArc). Contains r (get_or row i no_arc)) is (Contains-get_or row i no_arc in'))).0.light

-- a candidate waits, and its node is marked
pub admitted : (old new : Search) (c : Candidate) → c.node.0 < length old.marks.items → new.start ≡ old.start → new.stamp ≡ old.stamp → new.marks.items ≡ set old.marks.items c.node.0 (record { stamp = old.stamp; length = c.key })
    → IsPermutation (c ∷ old.waiting) new.waiting → Admits old c new
admitted old new c lt start stamp marks p rows s led = record {
  marked = record {
    many = ap length marks ∙ length-set old.marks.items c.node.0 mark ∙ s.marked.many;
    old = λ n h. older n h (mark_set old.marks.items c.node mark lt n);
  };
  real = λ n h is. real n h is (mark_set old.marks.items c.node mark lt n);
  waiting = λ d h. subst (λ (u : NodeNo). IsLed rows u d) (sym start) (waits d (in_cons c old.waiting d (Contains-permutation new.waiting (c ∷ old.waiting) d (IsPermutation-sym (c ∷ old.waiting) new.waiting p) h)));
}
  where
    mark : Mark
    mark = record { stamp = old.stamp; length = c.key }

    set-marks : List Mark
    set-marks = set old.marks.items c.node.0 mark

    now : (n : NodeNo) → mark_of new.marks.items n ≡ mark_of set-marks n
    now n = ap (λ (ms : List Mark). mark_of ms n) marks

    older : (n : NodeNo) → n.0 < length rows → ((n ≡ c.node) × (mark_of set-marks n ≡ mark)) ⊎ ((n ≢ c.node) × (mark_of set-marks n ≡ mark_of old.marks.items n)) → (mark_of new.marks.items n).stamp ≤ new.stamp
    older n h (inl q) = let e = ap (λ (m : Mark). m.stamp) (now n ∙ q.1) in let t = stamp in omega arith
    older n h (inr q) = let e = ap (λ (m : Mark). m.stamp) (now n ∙ q.1) in let o = s.marked.old n h in let t = stamp in omega arith

    real : (n : NodeNo) → n.0 < length rows → (mark_of new.marks.items n).stamp ≡ new.stamp → ((n ≡ c.node) × (mark_of set-marks n ≡ mark)) ⊎ ((n ≢ c.node) × (mark_of set-marks n ≡ mark_of old.marks.items n))
        → HasChain (Stands rows) new.start n (mark_of new.marks.items n).length
    real n h is (inl q) =
        let e = ap (λ (m : Mark). m.length) (now n ∙ q.1) in
        subst (λ (u : NodeNo). HasChain (Stands rows) u n (mark_of new.marks.items n).length) (sym start)
        (subst (λ (x : ℕ). HasChain (Stands rows) old.start n x) (sym e) (subst (λ (m : NodeNo). HasChain (Stands rows) old.start m c.key) (sym q.0) led.chain))
    real n h is (inr q) =
        let e = ap (λ (m : Mark). m.length) (now n ∙ q.1) in
        let f = ap (λ (m : Mark). m.stamp) (now n ∙ q.1) in
        subst (λ (u : NodeNo). HasChain (Stands rows) u n (mark_of new.marks.items n).length) (sym start)
        (subst (λ (x : ℕ). HasChain (Stands rows) old.start n x) (sym e) (s.real n h (sym f ∙ is ∙ stamp)))

    waits : (d : Candidate) → (c ≡ d) ⊎ Contains old.waiting d → IsLed rows old.start d
    waits d (inl e) = subst (λ (x : Candidate). IsLed rows old.start x) e led
    waits d (inr h) = s.waiting d h

-- a search that changed nothing
pub admitted_not : (old new : Search) (c : Candidate) → new.start ≡ old.start → new.stamp ≡ old.stamp → new.marks.items ≡ old.marks.items → new.waiting ≡ old.waiting → Admits old c new
admitted_not old new c start stamp marks waiting rows s led = record {
  marked = record { many = ap length marks ∙ s.marked.many; old = λ n h. (let e = ap (λ (ms : List Mark). (mark_of ms n).stamp) marks in let o = s.marked.old n h in let t = stamp in omega arith) };
  real = λ n h is. subst (λ (u : NodeNo). HasChain (Stands rows) u n (mark_of new.marks.items n).length) (sym start)
      (subst (λ (ms : List Mark). HasChain (Stands rows) old.start n (mark_of ms n).length) (sym marks) (s.real n h (ap (λ (ms : List Mark). (mark_of ms n).stamp) (sym marks) ∙ is ∙ stamp)));
  waiting = λ d h. subst (λ (u : NodeNo). IsLed rows u d) (sym start) (s.waiting d (subst (λ (ds : List Candidate). Contains ds d) waiting h));
}

-- one candidate less waits
pub popped : (rows : List (List RankArc)) (old new : Search) (c : Candidate) → new.start ≡ old.start → new.stamp ≡ old.stamp → new.marks.items ≡ old.marks.items → IsPermutation old.waiting (c ∷ new.waiting) → IsSearch rows old → IsSearch rows new × IsLed rows new.start c
popped rows old new c start stamp marks p s = (
  record {
    marked = record { many = ap length marks ∙ s.marked.many; old = λ n h. (let e = ap (λ (ms : List Mark). (mark_of ms n).stamp) marks in let o = s.marked.old n h in let t = stamp in omega arith) };
    real = λ n h is. subst (λ (u : NodeNo). HasChain (Stands rows) u n (mark_of new.marks.items n).length) (sym start)
        (subst (λ (ms : List Mark). HasChain (Stands rows) old.start n (mark_of ms n).length) (sym marks) (s.real n h (ap (λ (ms : List Mark). (mark_of ms n).stamp) (sym marks) ∙ is ∙ stamp)));
    waiting = λ d h. waits d (in_more c new.waiting d h);
  },
  waits c (in_first c new.waiting),
)
  where
    waits : (d : Candidate) → Contains (c ∷ new.waiting) d → IsLed rows new.start d
    waits d h = subst (λ (u : NodeNo). IsLed rows u d) (sym start) (s.waiting d (Contains-permutation (c ∷ new.waiting) old.waiting d (IsPermutation-sym old.waiting (c ∷ new.waiting) p) h))

-- where none waits
pub popped_none : (rows : List (List RankArc)) (old new : Search) → new.start ≡ old.start → new.stamp ≡ old.stamp → new.marks.items ≡ old.marks.items → new.waiting ≡ [] → IsSearch rows old → IsSearch rows new
popped_none rows old new start stamp marks none s = record {
  marked = record { many = ap length marks ∙ s.marked.many; old = λ n h. (let e = ap (λ (ms : List Mark). (mark_of ms n).stamp) marks in let o = s.marked.old n h in let t = stamp in omega arith) };
  real = λ n h is. subst (λ (u : NodeNo). HasChain (Stands rows) u n (mark_of new.marks.items n).length) (sym start)
      (subst (λ (ms : List Mark). HasChain (Stands rows) old.start n (mark_of ms n).length) (sym marks) (s.real n h (ap (λ (ms : List Mark). (mark_of ms n).stamp) (sym marks) ∙ is ∙ stamp)));
  waiting = λ d h. absurd (let l = h.1 in let z = ap length none in omega arith);
}

-- what a search reached is the length of arcs
pub reached_chain : (rows : List (List RankArc)) (s : Search) (u n : NodeNo) (x : ℕ) → IsSearch rows s → s.start ≡ u → n.0 < length rows → IsReached s n x → HasChain (Stands rows) u n x
reached_chain rows s u n x h e lt r =
    let c = h.real n lt r.0 in
    let d : HasChain (Stands rows) s.start n x = record { chain = c.chain; long = c.long; is = c.is; less = (let p = c.less in let q = r.1 in omega arith) } in
    subst (λ (v : NodeNo). HasChain (Stands rows) v n x) e d
