use Rattle.std.proofs.Common.{◌≡◌, ℕ, ◌+◌, ◌-◌, ◌<◌, ◌≤◌, ◌⊎◌, inl, inr, List, [], ◌∷◌, ◌++◌, length, get_or, Some, sym, ap, ◌∙◌, arith, refl, subst}
use Rattle.std.specs.Prelude.{slice_get}
use Rattle.std.proofs.lemmas.Bool.{cases_lt}
use Rattle.std.proofs.lemmas.List.Sums.{sum_by_push}
use Rattle.std.proofs.lemmas.Option.{slice_get_within, slice_get-get_or, get_or_from_slice_get}
use Rattle.upward_search.specs.declared.slope.Arc.{Arc}
use Rattle.upward_search.specs.declared.slope.Label.{Label}
use Rattle.upward_search.specs.declared.backing.Rung.{Rung}
use Rattle.upward_search.specs.Rows.{row, IsUpward}
use Rattle.upward_search.specs.Climbs.{IsIn, IsClimb, climb_length, IsRisingWithin, IsSpace}
use Rattle.upward_search.specs.WaysBack.{LacksArc, IsArcBetween, AreRungs, IsWayBack, IsBack}
use Rattle.upward_search.proofs.LeastSum.{rising_order}
use Rattle.upward_search.proofs.LadderFits.{below_high}
use Rattle.upward_search.proofs.IsSearch.{climb-push, climb_length-push}

rungs_push : (rows : List (List Arc)) (p q : ℕ) (gs : List Rung) (g : Rung) → AreRungs rows p q gs → g.arc.to ≡ p → IsIn (row rows g.low) g.arc → AreRungs rows g.low q (gs ++ g ∷ [])
rungs_push rows p q [] g l e i = (e ∙ l, i, refl)
rungs_push rows p q (f ∷ gs) g (e', i', rest) e i = (e', i', rungs_push rows p f.low gs g rest e i)

pub begin_back : (rows : List (List Arc)) (space : List Label) (top : ℕ) (d : Label) → top < length space → IsBack rows space (get_or space top d) top (get_or space top d) []
begin_back rows space top d lt = record {
  place = top;
  stands = slice_get-get_or space top d lt;
  after = omega arith;
  none = λ k r le lt' e. absurd (omega arith);
  leads = refl;
  long = omega arith;
}

-- one label lower, which has no arc
pub back_on : (rows : List (List Arc)) (space : List Label) (top : Label) (i : ℕ) (d at : Label) (rungs : List Rung) → IsBack rows space top i at rungs → 0 < i → i - 1 < length space
    → LacksArc (row rows (get_or space (i - 1) d).place) (get_or space (i - 1) d) at (length (row rows (get_or space (i - 1) d).place)) → IsBack rows space top (i - 1) at rungs
back_on rows space top i d at rungs b some lt lacks = record {
  place = b.place;
  stands = b.stands;
  after = (let a = b.after in omega arith);
  none = λ k r le lt' e. here k r le lt' e (cases_lt k i);
  leads = b.leads;
  long = b.long;
}
  where
    here : (k : ℕ) (r : Label) → i - 1 ≤ k → k < b.place → slice_get space k ≡ Some r → (k < i) ⊎ (i ≤ k) → LacksArc (row rows r.place) r at (length (row rows r.place))
    here k r le lt' e (inr ge) = b.none k r ge lt' e
    here k r le lt' e (inl low) =
        let is : k ≡ i - 1 = omega arith in
        let there = ap (slice_get space) is in
        let stands = slice_get-get_or space (i - 1) d lt in
        let same : get_or space (i - 1) d ≡ r = cc in
        subst (λ (s : Label). LacksArc (row rows s.place) s at (length (row rows s.place))) same lacks

-- or has one
pub back_over : (rows : List (List Arc)) (space : List Label) (top : Label) (i : ℕ) (d at : Label) (rungs : List Rung) (a : Arc) → IsBack rows space top i at rungs → 0 < i → i - 1 < length space
    → IsArcBetween (row rows (get_or space (i - 1) d).place) (get_or space (i - 1) d) at a → IsBack rows space top (i - 1) (get_or space (i - 1) d) (rungs ++ record { low = (get_or space (i - 1) d).place; arc = a } ∷ [])
back_over rows space top i d at rungs a b some lt between =
    let g : Rung = record { low = (get_or space (i - 1) d).place; arc = a } in
    record {
      place = i - 1;
      stands = slice_get-get_or space (i - 1) d lt;
      after = omega arith;
      none = λ k r le lt' e. absurd (omega arith);
      leads = rungs_push rows at.place top.place rungs g b.leads between.ends between.stands;
      long = (let e = sum_by_push (λ (g : Rung). g.arc.length) rungs g in let s = between.sum in let l = b.long in omega arith);
    }

-- the last arc of a climb that has one
record Last (rows : List (List Arc)) (p q x : ℕ) : Type 0 where
  front : List Arc
  here : ℕ
  arc : Arc
  climbs : IsClimb rows p here front
  stands : IsIn (row rows here) arc
  ends : arc.to ≡ q
  sum : climb_length front + arc.length ≡ x

last_of_climb : (rows : List (List Arc)) (p q : ℕ) (a : Arc) (arcs : List Arc) → IsClimb rows p q (a ∷ arcs) → Last rows p q (climb_length (a ∷ arcs))
last_of_climb rows p q a [] c = record { front = []; here = p; arc = a; climbs = refl; stands = c.0; ends = c.1; sum = omega arith }
last_of_climb rows p q a (b ∷ arcs) c =
    let l = last_of_climb rows a.to q b arcs c.1 in
    record { front = a ∷ l.front; here = l.here; arc = l.arc; climbs = (c.0, l.climbs); stands = l.stands; ends = l.ends; sum = (let s = l.sum in omega arith) }

-- a label that no label is before is the start
module _ (rows : List (List Arc)) (up : IsUpward rows) (start : ℕ) (space : List Label) (s : IsSpace rows start space) (top : Label) (at : Label) (rungs : List Rung) (b : IsBack rows space top 0 at rungs) where
  first_is : (arcs : List Arc) → IsClimb rows start at.place arcs → climb_length arcs ≡ at.length → at.place ≡ start
  first_is [] c e = sym c
  first_is (a ∷ arcs) c e =
      let l = last_of_climb rows start at.place a arcs c in
      let exact = s.exact at (b.place, b.stands) in
      let sum = l.sum in
      let short = exact.1 in
      let h = s.whole l.here l.front l.climbs (omega arith) in
      let exact' = s.exact h.label h.stands in
      let low = exact'.0.least l.front (subst (λ n. IsClimb rows start n l.front) (sym h.is) l.climbs) in
      let r = exact'.0.reached in
      let arc_in : IsIn (row rows h.label.place) l.arc = subst (λ n. IsIn (row rows n) l.arc) (sym h.is) l.stands in
      let over = exact.0.least (r.0 ++ l.arc ∷ []) (subst (λ n. IsClimb rows start n (r.0 ++ l.arc ∷ [])) l.ends (climb-push rows r.0 start h.label.place l.arc r.1 arc_in)) in
      let long = climb_length-push r.0 l.arc in
      let same = r.2 in
      let total : h.label.length + l.arc.length ≡ at.length = omega arith in
      let higher = (up.up h.label.place arc_in.0 l.arc arc_in.1).0 in
      let ends = l.ends in
      absurd (b.none h.stands.0 h.label (omega arith) (before h.stands.0 h.label h.stands.1 (omega arith) (cases_lt h.stands.0 b.place)) h.stands.1 arc_in.0 l.arc (slice_get_within (row rows h.label.place) arc_in.0 l.arc arc_in.1) arc_in.1 l.ends total)
    where
      before : (k : ℕ) (r : Label) → slice_get space k ≡ Some r → r.place < at.place → (k < b.place) ⊎ (b.place ≤ k) → k < b.place
      before k r e lt (inl l) = l
      before k r e lt (inr ge) = let o = rising_order 0 (length rows) space at r b.place k s.rising b.stands e ge in absurd (omega arith)

  pub way_back : IsWayBack rows start top rungs
  way_back =
      let exact = s.exact at (b.place, b.stands) in
      let r = exact.0.reached in
      let is = first_is r.0 r.1 r.2 in
      let none = exact.0.least [] (sym is) in
      record { leads = subst (λ n. AreRungs rows n top.place rungs) is b.leads; long = (let l = b.long in omega arith) }

pub way_back_from : (rows : List (List Arc)) → IsUpward rows → (space : List Label) (top : ℕ) (d at : Label) (rungs : List Rung) → top < length space → IsBack rows space (get_or space top d) 0 at rungs
    → (start : ℕ) (e : Label) → IsSpace rows start space → IsWayBack rows start (get_or space top e) rungs
way_back_from rows up space top d at rungs lt b start e s =
    let same : get_or space top d ≡ get_or space top e = get_or_from_slice_get space top (get_or space top e) d (slice_get-get_or space top e lt) in
    subst (λ (t : Label). IsWayBack rows start t rungs) same (way_back rows up start space s (get_or space top d) at rungs b)

pub back_place : (high : ℕ) (space : List Label) (i : ℕ) (d : Label) → IsRisingWithin 0 high space → i < length space → (get_or space i d).place < high
back_place high space i d up lt = below_high 0 high space (get_or space i d) i up (slice_get-get_or space i d lt)
