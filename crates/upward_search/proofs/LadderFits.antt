use Rattle.std.proofs.Common.{◌≡◌, ℕ, zero, suc, ◌+◌, ◌<◌, ◌≤◌, ◌^◌, ◌⊎◌, inl, inr, List, [], ◌∷◌, length, get_or, Option, Some, None, sym, ap, ◌∙◌, arith, refl, subst}
use Rattle.std.specs.Prelude.{slice_get, MatchOption, Result, Ok, Err, IfOk}
use Rattle.road_graph.specs.declared.road.NodeNo.{NodeNo}
use Rattle.road_graph.specs.Roads.{Roads}
use Rattle.road_graph.specs.Walks.{IsDist}
use Rattle.std.proofs.lemmas.Bool.{cases_lt}
use Rattle.std.proofs.lemmas.Option.{slice_get_within, slice_get-get_or}
use Rattle.road_graph.proofs.WalkLaws.{dist_short, has_distance}
use Rattle.upward_search.specs.declared.slope.Arc.{Arc}
use Rattle.upward_search.specs.declared.slope.Label.{Label}
use Rattle.upward_search.specs.Climbs.{IsIn, IsClimb, climb_length, IsRisingWithin, IsSpace, work}
use Rattle.upward_search.specs.Sums.{AreShort, Common, HasNoCommon, IsLeastSum}
use Rattle.upward_search.proofs.IsSearch.{one_work}
use Rattle.upward_search.proofs.ChainLaws.{HasWalk, meeting_walk}
use Rattle.upward_search.proofs.RankingOf.{chain_up, chain_down}
use Rattle.upward_search.specs.Ladders.{Ladder, IsLadder, IsAt, IsTop, IsLeastTop, IsAnswer}
use Rattle.upward_search.specs.Hierarchies.{ranking_of, LadderFits}

-- the node at a place
node_at : (h : Ladder) (p : ℕ) → p < length h.nodes → (n : NodeNo) × IsAt h p n
node_at h p lt = (get_or h.nodes p (record { 0 = 0 }), slice_get-get_or h.nodes p (record { 0 = 0 }) lt)

pub below_high : (low high : ℕ) (space : List Label) (t : Label) (k : ℕ) → IsRisingWithin low high space → slice_get space k ≡ Some t → t.place < high
below_high low high [] t k h e = cc
below_high low high (s ∷ space) t zero h e = let is : s ≡ t = cc in let p = ap (λ (o : Label). o.place) is in let l = low_high (suc s.place) high space h.1 in omega arith
  where
    low_high : (low high : ℕ) (space : List Label) → IsRisingWithin low high space → low ≤ high
    low_high low high [] h = h
    low_high low high (s ∷ space) h = let ih = low_high (suc s.place) high space h.1 in let l = h.0 in omega arith
below_high low high (s ∷ space) t (suc k) h e = below_high (suc s.place) high space t k h.1 e

-- the least sum over two spaces is the least over all ways
pub least_top : (h : Ladder) (p q : ℕ) (left right : List Label) → IsSpace h.climbs p left → IsSpace h.falls q right → (o : Option ℕ) → MatchOption o (HasNoCommon left right) (IsLeastSum left right) → IsLeastTop h p q o
least_top h p q left right s t o m = at o m
  where
    common_of : (x : ℕ) → IsTop h p q x → x < 2 ^ 53 → (y : ℕ) × Common left right y × (y ≤ x)
    common_of x top short =
        let sum = top.sum in
        let r = s.whole top.top top.up top.climbs (omega arith) in
        let k = t.whole top.top top.down top.falls (omega arith) in
        let low = (s.exact r.label r.stands).0.least top.up (subst (λ n. IsClimb h.climbs p n top.up) (sym r.is) top.climbs) in
        let low' = (t.exact k.label k.stands).0.least top.down (subst (λ n. IsClimb h.falls q n top.down) (sym k.is) top.falls) in
        (r.label.length + k.label.length, record { r = r.label; t = k.label; left_has = r.stands; right_has = k.stands; same = r.is ∙ sym k.is; sum = refl }, omega arith)

    top_of : (x : ℕ) → Common left right x → IsTop h p q x
    top_of x c =
        let r = (s.exact c.r c.left_has).0.reached in
        let k = (t.exact c.t c.right_has).0.reached in
        record { top = c.t.place; up = r.0; climbs = subst (λ n. IsClimb h.climbs p n r.0) c.same r.1; down = k.0; falls = k.1; sum = (let d = r.2 in let e = k.2 in let z = c.sum in omega arith) }

    at : (o : Option ℕ) → MatchOption o (HasNoCommon left right) (IsLeastSum left right) → IsLeastTop h p q o
    at None none = λ x top. far x top (cases_lt x (2 ^ 53))
      where
        far : (x : ℕ) → IsTop h p q x → (x < 2 ^ 53) ⊎ (2 ^ 53 ≤ x) → 2 ^ 53 ≤ x
        far x top (inl short) = let c = common_of x top short in absurd (none c.0 c.1)
        far x top (inr le) = le
    at (Some y) least = (top_of y least.reached, λ x top. below x top (cases_lt x (2 ^ 53)))
      where
        below : (x : ℕ) → IsTop h p q x → (x < 2 ^ 53) ⊎ (2 ^ 53 ≤ x) → (y ≤ x) ⊎ (2 ^ 53 ≤ x)
        below x top (inl short) = let c = common_of x top short in let m = least.least c.0 c.1 in let n = c.2 in inl (omega arith)
        below x top (inr le) = inr le

module _ (g : Roads) (h : Ladder) (f : LadderFits g h) (l : IsLadder h) (p q : ℕ) (u v : NodeNo) (a : IsAt h p u) (b : IsAt h q v) where
  top_goes : (x : ℕ) → IsTop h p q x → HasWalk g u v x
  top_goes x t =
      let w = node_at h t.top (within t.down q (slice_get_within h.nodes q v b) t.falls) in
      let r = ranking_of h in
      let up = chain_up h l t.up p t.top u w.0 t.climbs a w.1 in
      let down = chain_down h l t.down q t.top v w.0 t.falls b w.1 in
      subst (HasWalk g u v) t.sum (meeting_walk g f.graph r.ranks r.climbing r.falling f.arcs u w.0 v up.0 down.0 (climb_length t.up) (climb_length t.down) (f.nodes p u a) up.1 down.1)
    where
      within : (arcs : List Arc) (from : ℕ) → from < length h.nodes → IsClimb h.falls from t.top arcs → t.top < length h.nodes
      within [] from low c = omega arith
      within (arc ∷ arcs) from low c = within arcs arc.to (let up = (l.falls_up.up from c.0.0 arc c.0.1).1 in let m = l.falls_many in omega arith) c.1

  -- the least over all ways is the distance
  pub answer_is : (o : Option ℕ) → IsLeastTop h p q o → IsAnswer g u v o
  answer_is None none = λ nodes x w.
      let d = has_distance g f.graph u v nodes x w in
      let short = dist_short g f.graph u v d.0 d.1 in
      let far = none d.0 (f.covers p q u v d.0 a b d.1) in
      absurd (omega arith)
  answer_is (Some x) (reached, least) =
      let w = top_goes x reached in
      record { reached = w; least = λ nodes y walk. bound (has_distance g f.graph u v nodes y walk) }
    where
      bound : {y : ℕ} → (z : ℕ) × IsDist g u v z × (z ≤ y) → x ≤ y
      bound {y} (z, d, le) = at (least z (f.covers p q u v z a b d))
        where
          at : (x ≤ z) ⊎ (2 ^ 53 ≤ z) → x ≤ y
          at (inl m) = omega arith
          at (inr far) = let short = dist_short g f.graph u v z d in absurd (omega arith)

-- the same from what calls say
pub answer_of : (h : Ladder) → IsLadder h → (p q : ℕ) (u v : NodeNo) → IsAt h p u → IsAt h q v → {E : Type 0} (r : Result (Option ℕ) E) → IfOk r (IsLeastTop h p q) → IfOk r (λ o. (g : Roads) → LadderFits g h → IsAnswer g u v o)
answer_of h l p q u v a b (Ok o) least = λ g f. answer_is g h f l p q u v a b o least
answer_of h l p q u v a b (Err e) least = least

pub short_in : (rows : List (List Arc)) (start : ℕ) (space read : List Label) → IsSpace rows start space → read ≡ space → AreShort read
short_in rows start space read s e r i = (s.exact r (subst (λ (xs : List Label). IsIn xs r) e i)).1

module _ (h : Ladder) (climbs falls : List (List Arc)) (e : climbs ≡ h.climbs) (e' : falls ≡ h.falls) (p q : ℕ) (l r : List Label) (s : IsSpace climbs p l) (t : IsSpace falls q r) where
  up : IsSpace h.climbs p l
  up = subst (λ (rows : List (List Arc)). IsSpace rows p l) e s

  down : IsSpace h.falls q r
  down = subst (λ (rows : List (List Arc)). IsSpace rows q r) e' t

  pub between_least : (left right : List Label) → left ≡ l → right ≡ r → (o : Option ℕ) → MatchOption o (HasNoCommon left right) (IsLeastSum left right) → IsLeastTop h p q o
  between_least left right is is' o m =
      least_top h p q left right (subst (λ (xs : List Label). IsSpace h.climbs p xs) (sym is) up) (subst (λ (xs : List Label). IsSpace h.falls q xs) (sym is') down) o m

  pub two_works : (left right : List Label) → IsSpace h.climbs p left → IsSpace h.falls q right → work climbs l + work falls r ≡ work h.climbs left + work h.falls right
  two_works left right a b =
      let x = one_work h.climbs p l left up a in
      let y = one_work h.falls q r right down b in
      let z : work climbs l ≡ work h.climbs l = ap (λ (rows : List (List Arc)). work rows l) e in
      let w : work falls r ≡ work h.falls r = ap (λ (rows : List (List Arc)). work rows r) e' in
      omega arith
