use Rattle.std.proofs.Common.{◌≡◌, ◌≢◌, ℕ, ◌+◌, ◌-◌, ◌<◌, ◌≤◌, ◌^◌, ◌⊎◌, inl, inr, ⊎_elim, List, [], ◌∷◌, length, get_or, set, length-set, get_or-set_same, get_or-set_other, min, Option, Some, None, sym, ap, ◌∙◌, arith, refl, subst}
use Rattle.std.specs.Prelude.{slice_get, MatchOption}
use Rattle.std.proofs.lemmas.Bool.{cases_lt, cases_eq}
use Rattle.std.proofs.lemmas.Option.{slice_get_within, slice_get-get_or, get_or_from_slice_get}
use Rattle.upward_search.specs.declared.slope.Arc.{Arc}
use Rattle.upward_search.specs.declared.slope.Label.{Label}
use Rattle.upward_search.specs.Rows.{row}
use Rattle.upward_search.specs.Climbs.{IsIn, IsClimb, climb_length, IsRisingWithin, IsSpace}
use Rattle.upward_search.proofs.LeastSum.{rising_order}
use Rattle.upward_search.proofs.LadderFits.{below_high}
use Rattle.upward_search.specs.Places.{LacksPlace, HasPlaceAt, HasLength}
use Rattle.upward_search.specs.Sums.{lesser_of}
use Rattle.upward_search.specs.Ladders.{Ladder, IsLadder, IsTop, IsLeastTop}
use Rattle.upward_search.specs.Rests.{AreRests, BeginsBelow, IsLeastBelow, IsOverArc}

-- a way with no arc up is a fall alone
pub begin_rest : (h : Ladder) (p q : ℕ) (down : List Label) → IsSpace h.falls q down → (o : Option ℕ) → MatchOption o (LacksPlace down p) (HasLength down p) → IsLeastBelow h p q 0 o
begin_rest h p q down s None lacks = λ x t b. far x t t.up refl b
  where
    far : (x : ℕ) (t : IsTop h p q x) (up : List Arc) → t.up ≡ up → BeginsBelow (row h.climbs p) 0 up → 2 ^ 53 ≤ x
    far x t [] e b = at (cases_lt x (2 ^ 53))
      where
        at : (x < 2 ^ 53) ⊎ (2 ^ 53 ≤ x) → 2 ^ 53 ≤ x
        at (inl short) =
            let c : p ≡ t.top = subst (λ (arcs : List Arc). IsClimb h.climbs p t.top arcs) e t.climbs in
            let sum = t.sum in
            let label = s.whole t.top t.down t.falls (omega arith) in
            absurd (lacks label.label label.stands (label.is ∙ sym c))
        at (inr le) = le
    far x t (a ∷ up) e b = let l = b.1 in absurd (omega arith)
begin_rest h p q down s (Some y) (r, i, e, l) =
    let d = (s.exact r i).0.reached in
    (record { top = p; up = []; climbs = refl; down = d.0; falls = subst (λ n. IsClimb h.falls q n d.0) e d.1; sum = (let z = d.2 in omega arith) }, λ x t b. below x t t.up refl b)
  where
    below : (x : ℕ) (t : IsTop h p q x) (up : List Arc) → t.up ≡ up → BeginsBelow (row h.climbs p) 0 up → (y ≤ x) ⊎ (2 ^ 53 ≤ x)
    below x t [] is b =
        let c : p ≡ t.top = subst (λ (arcs : List Arc). IsClimb h.climbs p t.top arcs) is t.climbs in
        let low = (s.exact r i).0.least t.down (subst (λ n. IsClimb h.falls q n t.down) (sym c ∙ sym e) t.falls) in
        let sum = t.sum in
        inl (omega arith)
    below x t (a ∷ up) is b = let m = b.1 in absurd (omega arith)

-- the way after its first arc
after_first : (h : Ladder) (p q x : ℕ) (t : IsTop h p q x) (a : Arc) (up : List Arc) → t.up ≡ a ∷ up → (y : ℕ) × IsTop h a.to q y × (a.length + y ≡ x)
after_first h p q x t a up e =
    let c : IsClimb h.climbs p t.top (a ∷ up) = subst (λ (arcs : List Arc). IsClimb h.climbs p t.top arcs) e t.climbs in
    let long = ap climb_length e in
    let sum = t.sum in
    (climb_length up + climb_length t.down, record { top = t.top; up = up; climbs = c.1; down = t.down; falls = t.falls; sum = refl }, omega arith)

-- a way with an arc before it
before_way : (h : Ladder) (p q y : ℕ) (a : Arc) → IsIn (row h.climbs p) a → IsTop h a.to q y → IsTop h p q (a.length + y)
before_way h p q y a i t = record { top = t.top; up = a ∷ t.up; climbs = (i, t.climbs); down = t.down; falls = t.falls; sum = (let s = t.sum in omega arith) }

lesser_old : (least : Option ℕ) (y x : ℕ) → lesser_of least y ≤ y
lesser_old None y x = omega arith
lesser_old (Some z) y x = omega arith

module _ (h : Ladder) (p q i : ℕ) (a : Arc) (at : slice_get (row h.climbs p) i ≡ Some a) where
  -- a way that begins below the next index begins below this one, or with this arc
  cases_below : (up : List Arc) → BeginsBelow (row h.climbs p) (i + 1) up → BeginsBelow (row h.climbs p) i up ⊎ ((more : List Arc) × (up ≡ a ∷ more))
  cases_below [] b = inl tt
  cases_below (b ∷ more) (k, lt, e) = here (cases_lt k i)
    where
      here : (k < i) ⊎ (i ≤ k) → BeginsBelow (row h.climbs p) i (b ∷ more) ⊎ ((more' : List Arc) × (b ∷ more ≡ a ∷ more'))
      here (inl l) = inl (k, l, e)
      here (inr ge) = let same : k ≡ i = omega arith in let s = ap (slice_get (row h.climbs p)) same in let is : b ≡ a = cc (at, e, s) in inr (more, ap (λ (c : Arc). c ∷ more) is)

  -- what bounds the ways so far, and those over this arc, bounds the ways with one arc more
  Bounds : (ℕ → Type 0) → ℕ → Type 0
  Bounds B n = (x : ℕ) (t : IsTop h p q x) → BeginsBelow (row h.climbs p) n t.up → B x

  bound_more : (B : ℕ → Type 0) → ((x : ℕ) (t : IsTop h p q x) → BeginsBelow (row h.climbs p) i t.up → B x) → ((y : ℕ) → IsTop h a.to q y → B (a.length + y)) → (x : ℕ) (t : IsTop h p q x) → BeginsBelow (row h.climbs p) (i + 1) t.up → B x
  bound_more B old new x t b = here (cases_below t.up b)
    where
      here : BeginsBelow (row h.climbs p) i t.up ⊎ ((more : List Arc) × (t.up ≡ a ∷ more)) → B x
      here (inl l) = old x t l
      here (inr (more, e)) = let r = after_first h p q x t a more e in subst B r.2 (new r.0 r.1)

  pub rest_more : (least far new : Option ℕ) → IsLeastBelow h p q i least → IsLeastTop h a.to q far → IsOverArc least a far new → IsLeastBelow h p q (i + 1) new
  rest_more None None new l f e = subst (λ (o : Option ℕ). IsLeastBelow h p q (i + 1) o) (sym e) (bound_more (λ x. 2 ^ 53 ≤ x) l (λ y t. let m = f y t in omega arith))
  rest_more (Some z) None new l f e = subst (λ (o : Option ℕ). IsLeastBelow h p q (i + 1) o) (sym e) (l.0, bound_more (λ x. (z ≤ x) ⊎ (2 ^ 53 ≤ x)) l.1 (λ y t. inr (let m = f y t in omega arith)))
  rest_more None (Some w) new l f (inl (long, e)) = subst (λ (o : Option ℕ). IsLeastBelow h p q (i + 1) o) (sym e) (bound_more (λ x. 2 ^ 53 ≤ x) l (λ y t. ⊎_elim (λ m. omega arith) (λ m. omega arith) (f.1 y t)))
  rest_more (Some z) (Some w) new l f (inl (long, e)) = subst (λ (o : Option ℕ). IsLeastBelow h p q (i + 1) o) (sym e) (l.0, bound_more (λ x. (z ≤ x) ⊎ (2 ^ 53 ≤ x)) l.1 (λ y t. ⊎_elim (λ m. inr (omega arith)) (λ m. inr (omega arith)) (f.1 y t)))
  rest_more None (Some w) new l f (inr (short, e)) = subst (λ (o : Option ℕ). IsLeastBelow h p q (i + 1) o) (sym e)
      (before_way h p q w a (i, at) f.0, bound_more (λ x. (a.length + w ≤ x) ⊎ (2 ^ 53 ≤ x)) (λ x t b. inr (l x t b)) (λ y t. ⊎_elim (λ m. inl (omega arith)) (λ m. inr (omega arith)) (f.1 y t)))
  rest_more (Some z) (Some w) new l f (inr (short, e)) = subst (λ (o : Option ℕ). IsLeastBelow h p q (i + 1) o) (sym e)
      (reached (cases_lt z (a.length + w)), bound_more (λ x. (min z (a.length + w) ≤ x) ⊎ (2 ^ 53 ≤ x)) (λ x t b. ⊎_elim (λ m. inl (omega arith)) (λ m. inr m) (l.1 x t b)) (λ y t. ⊎_elim (λ m. inl (omega arith)) (λ m. inr (omega arith)) (f.1 y t)))
    where
      reached : (z < a.length + w) ⊎ (a.length + w ≤ z) → IsTop h p q (min z (a.length + w))
      reached (inl lt) = let m : z ≡ min z (a.length + w) = omega arith in subst (IsTop h p q) m l.0
      reached (inr le) = let m : a.length + w ≡ min z (a.length + w) = omega arith in subst (IsTop h p q) m (before_way h p q w a (i, at) f.0)

-- all ways begin so at the end of the row
begins_all : (h : Ladder) (p top : ℕ) (up : List Arc) (n : ℕ) → IsClimb h.climbs p top up → length (row h.climbs p) ≤ n → BeginsBelow (row h.climbs p) n up
begins_all h p top [] n c le = tt
begins_all h p top (a ∷ up) n c le = let i = c.0 in (i.0, (let l = slice_get_within (row h.climbs p) i.0 a i.1 in omega arith), i.1)

pub rest_all : (h : Ladder) (p q i : ℕ) (o : Option ℕ) → length (row h.climbs p) ≤ i → IsLeastBelow h p q i o → IsLeastTop h p q o
rest_all h p q i None le l = λ x t. l x t (begins_all h p t.top t.up i t.climbs le)
rest_all h p q i (Some y) le l = (l.0, λ x t. l.1 x t (begins_all h p t.top t.up i t.climbs le))

-- an arc of a place's row ends at a place that stands after it, and its rest is known
pub rest_known : (h : Ladder) (q high : ℕ) (space : List Label) (rests : List (Option ℕ)) (index end at : ℕ) (d : Label) → IsRisingWithin 0 high space → index < length space → (get_or space index d).place < end
    → AreRests h q space rests (index + 1) → HasPlaceAt space end at → IsLeastTop h end q (get_or rests at None)
rest_known h q high space rests index end at d up lt higher known (r, stands, is) =
    subst (λ n. IsLeastTop h n q (get_or rests at None)) is (known.each at r (later (cases_lt index at)) stands)
  where
    later : (index < at) ⊎ (at ≤ index) → index + 1 ≤ at
    later (inl l) = omega arith
    later (inr le) = let o = rising_order 0 high space r (get_or space index d) at index up stands (slice_get-get_or space index d lt) le in absurd (omega arith)

pub place_below : (high : ℕ) (space : List Label) (index : ℕ) (d : Label) → IsRisingWithin 0 high space → index < length space → (get_or space index d).place < high
place_below high space index d up lt = below_high 0 high space (get_or space index d) index up (slice_get-get_or space index d lt)

-- one rest more is known
pub rests_more : (h : Ladder) (q : ℕ) (space : List Label) (rests : List (Option ℕ)) (index : ℕ) (o : Option ℕ) → AreRests h q space rests (index + 1) → index < length space → ((d : Label) → IsLeastTop h (get_or space index d).place q o)
    → AreRests h q space (set rests index o) index
rests_more h q space rests index o known lt here = record {
  many = length-set rests index o ∙ known.many;
  each = λ k r le stands. each_now k r le stands (cases_eq k index);
}
  where
    each_now : (k : ℕ) (r : Label) → index ≤ k → slice_get space k ≡ Some r → (k ≡ index) ⊎ (k ≢ index) → IsLeastTop h r.place q (get_or (set rests index o) k None)
    each_now k r le stands (inl e) =
        let same : get_or space k r ≡ r = get_or_from_slice_get space k r r stands in
        let w : index < length rests = (let m = known.many in omega arith) in
        let value : o ≡ get_or (set rests index o) k None = sym (ap (λ n. get_or (set rests index o) n None) e ∙ get_or-set_same rests index o None w) in
        let place : (get_or space index r).place ≡ r.place = ap (λ n. (get_or space n r).place) (sym e) ∙ ap (λ (t : Label). t.place) same in
        subst (IsLeastTop h r.place q) value (subst (λ n. IsLeastTop h n q o) place (here r))
    each_now k r le stands (inr ne) = subst (IsLeastTop h r.place q) (sym (get_or-set_other rests index k o None ne)) (known.each k r (omega arith) stands)

pub rests_next : (h : Ladder) (q : ℕ) (space : List Label) (rests : List (Option ℕ)) (index : ℕ) (o : Option ℕ) → AreRests h q space rests index → 0 < index → index - 1 < length space → ((d : Label) → IsLeastTop h (get_or space (index - 1) d).place q o)
    → AreRests h q space (set rests (index - 1) o) (index - 1)
rests_next h q space rests index o known some lt here = let e : index ≡ (index - 1) + 1 = omega arith in rests_more h q space rests (index - 1) o (subst (AreRests h q space rests) e known) lt here

-- an element read with one default or another
any_default : {X : Type 0} (xs : List X) (i : ℕ) (d e : X) → i < length xs → get_or xs i d ≡ get_or xs i e
any_default xs i d e lt = get_or_from_slice_get xs i (get_or xs i e) d (slice_get-get_or xs i e lt)

-- the arc of a row that was read
pub arc_read : (arcs items : List Arc) (i : ℕ) (d : Arc) → items ≡ arcs → i < length items → slice_get arcs i ≡ Some (get_or items i d)
arc_read arcs items i d e lt = ap (λ (xs : List Arc). slice_get xs i) (sym e) ∙ slice_get-get_or items i d lt

pub end_higher : (h : Ladder) → IsLadder h → (space : List Label) (index : ℕ) (s : Label) → index < length space → (items : List Arc) (i : ℕ) (d : Arc) → items ≡ row h.climbs (get_or space index s).place → i < length items
    → (t : Label) → (get_or space index t).place < (get_or items i d).to
end_higher h l space index s lt items i d e lt' t =
    let up = (l.climbs_up.up (get_or space index s).place i (get_or items i d) (arc_read (row h.climbs (get_or space index s).place) items i d e lt')).0 in
    subst (λ n. n < (get_or items i d).to) (ap (λ (r : Label). r.place) (any_default space index s t lt)) up

pub end_low : (h : Ladder) → IsLadder h → (p : ℕ) (items : List Arc) (i : ℕ) (d : Arc) → items ≡ row h.climbs p → i < length items → (get_or items i d).to < length h.nodes
end_low h l p items i d e lt = let up = (l.climbs_up.up p i (get_or items i d) (arc_read (row h.climbs p) items i d e lt)).1 in let m = l.climbs_many in omega arith

pub rest_read : (h : Ladder) (q : ℕ) (space : List Label) (index : ℕ) (s : Label) → index < length space → (o : Option ℕ) → IsLeastTop h (get_or space index s).place q o → (d : Label) → IsLeastTop h (get_or space index d).place q o
rest_read h q space index s lt o l d = subst (λ n. IsLeastTop h n q o) (ap (λ (r : Label). r.place) (any_default space index s d lt)) l
