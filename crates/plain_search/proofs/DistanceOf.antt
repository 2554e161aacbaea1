use Rattle.std.proofs.Common.{◌≡◌, ℕ, zero, suc, ◌==◌, Bool, true, false, cond, eqb-true, eq-eqb, get_or, List, [], ◌∷◌, Option, Some, None, sym, ap, ◌∙◌, refl}
use Rattle.std.specs.Prelude.{slice_get, MatchOption}
use Rattle.std.proofs.lemmas.Option.{get_or_from_slice_get}
use Rattle.road_graph.specs.declared.road.NodeNo.{NodeNo}
use Rattle.plain_search.specs.declared.reached.Reached.{Reached}
use Rattle.plain_search.specs.declared.reached.Mark.{Mark}
use Rattle.plain_search.specs.declared.reached.Mark.TheVariants.{Settled}
use Rattle.plain_search.specs.Marking.{mark_of, ArePlaces}
use Rattle.plain_search.specs.Reaching.{distance_of, StandsAt}
use Rattle.road_graph.proofs.WalkLaws.{same_node}

-- the node of a distance that is listed stands at some place
pub found : (rs : List Reached) (n : NodeNo) (x : ℕ) → distance_of rs n ≡ Some x → (k : ℕ) × (r : Reached) × (slice_get rs k ≡ Some r) × (r.node ≡ n) × (r.distance ≡ x)
found [] n x e = cc
found (r ∷ rs) n x e = at (r.node.0 == n.0) refl e (λ q. let f = found rs n x q in (suc f.0, f.1, f.2, f.3, f.4))
  where
    at : (b : Bool) → (r.node.0 == n.0) ≡ b → cond b (Some r.distance) (distance_of rs n) ≡ Some x → (distance_of rs n ≡ Some x → (k : ℕ) × (o : Reached) × (slice_get (r ∷ rs) k ≡ Some o) × (o.node ≡ n) × (o.distance ≡ x))
        → (k : ℕ) × (o : Reached) × (slice_get (r ∷ rs) k ≡ Some o) × (o.node ≡ n) × (o.distance ≡ x)
    at true h q rest = (0, r, refl, same_node (eqb-true _ _ h), cc)
    at false h q rest = rest q

-- a node that stands in the list has a distance there
pub missing : (rs : List Reached) (n : NodeNo) → distance_of rs n ≡ None → (k : ℕ) (r : Reached) → slice_get rs k ≡ Some r → r.node ≡ n → ⊥
missing [] n e k r at is = cc
missing (o ∷ rs) n e zero r at is =
    let same : o ≡ r = cc in
    let b : (o.node.0 == n.0) ≡ true = eq-eqb _ _ (ap (λ (x : Reached). x.node.0) same ∙ ap (λ (m : NodeNo). m.0) is) in
    let q = ap (λ t. cond t (Some o.distance) (distance_of rs n)) b in
    cc
missing (o ∷ rs) n e (suc k) r at is = further (o.node.0 == n.0) e (λ q. missing rs n q k r at is)
  where
    further : (b : Bool) → cond b (Some o.distance) (distance_of rs n) ≡ None → (distance_of rs n ≡ None → ⊥) → ⊥
    further true q rest = cc
    further false q rest = rest q

-- at one place only
pub same_place : (rs : List Reached) (marks : List Mark) → ArePlaces rs marks → (n : NodeNo) (i j : ℕ) → (a : StandsAt rs n i) (b : StandsAt rs n j) → (i ≡ j) × (a.0 ≡ b.0)
same_place rs marks p n i j a b =
    let ma = p.marked i a.0 a.1 in
    let mb = p.marked j b.0 b.1 in
    let e = ap (mark_of marks) (a.2 ∙ sym b.2) in
    let is : i ≡ j = cc in
    let at = ap (slice_get rs) is in
    let ra = a.1 in
    let rb = b.1 in
    (is, cc)

pub stands_distance : (rs : List Reached) (marks : List Mark) → ArePlaces rs marks → (n : NodeNo) (k : ℕ) (a : StandsAt rs n k) → distance_of rs n ≡ Some a.0.distance
stands_distance rs marks p n k a = at (distance_of rs n) refl
  where
    at : (o : Option ℕ) → distance_of rs n ≡ o → distance_of rs n ≡ Some a.0.distance
    at None e = absurd (missing rs n e k a.0 a.1 a.2)
    at (Some x) e =
        let f = found rs n x e in
        let s = same_place rs marks p n f.0 k (f.1, f.2, f.3) a in
        let d = ap (λ (r : Reached). r.distance) s.1 in
        e ∙ ap Some (sym f.4 ∙ d)

-- a node whose mark tells no place isn't listed
pub unlisted : (rs : List Reached) (marks : List Mark) → ArePlaces rs marks → (n : NodeNo) → ((k : ℕ) → mark_of marks n ≡ Settled k → ⊥) → distance_of rs n ≡ None
unlisted rs marks p n never = at (distance_of rs n) refl
  where
    at : (o : Option ℕ) → distance_of rs n ≡ o → distance_of rs n ≡ None
    at None e = e
    at (Some x) e = let f = found rs n x e in absurd (never f.0 (ap (mark_of marks) (sym f.3) ∙ p.marked f.0 f.1 f.2))

-- what a mark's place tells of the list
pub place_tells : (rs : List Reached) (marks : List Mark) → ArePlaces rs marks → (n : NodeNo) (m : Mark) (o : Option ℕ) → m ≡ mark_of marks n
    → MatchOption o ((k : ℕ) → m ≡ Settled k → ⊥) (λ k. m ≡ Settled k) → MatchOption o (distance_of rs n ≡ None) (StandsAt rs n)
place_tells rs marks p n m None e never = unlisted rs marks p n (λ k q. never k (e ∙ q))
place_tells rs marks p n m (Some k) e is = p.stands n k (sym e ∙ is)

-- the distance that is read at a node's place is the one that is listed
pub read_distance : (rs read : List Reached) (marks : List Mark) → ArePlaces rs marks → (n : NodeNo) (k : ℕ) (a : StandsAt rs n k) (d : Reached) → read ≡ rs → Some (get_or read k d).distance ≡ distance_of rs n
read_distance rs read marks p n k a d same =
    ap (λ (xs : List Reached). Some (get_or xs k d).distance) same ∙ ap (λ (r : Reached). Some r.distance) (get_or_from_slice_get rs k a.0 d a.1) ∙ sym (stands_distance rs marks p n k a)
