use Rattle.std.proofs.Common.{◌≡◌, ℕ, ◌+◌, ◌<◌, ◌≤◌, List, [], ◌∷◌, ◌++◌, length, drop, get_or, sym, ap, ◌∙◌, arith, refl, subst, inl, inr}
use Rattle.std.proofs.lemmas.List.{drop_more, drop_all}
use Rattle.std.proofs.lemmas.List.Sums.{sum_by_push, sum_by-cons}
use Rattle.upward_search.specs.declared.slope.Arc.{Arc}
use Rattle.upward_search.specs.declared.slope.Label.{Label}
use Rattle.upward_search.specs.declared.backing.Rung.{Rung}
use Rattle.upward_search.specs.declared.unpacking.Part.{Part}
use Rattle.upward_search.specs.Rows.{row}
use Rattle.upward_search.specs.Climbs.{IsIn}
use Rattle.upward_search.specs.Ladders.{Ladder, IsLadder, IsOverPlace}
use Rattle.upward_search.specs.WaysBack.{AreRungs, rungs_length, IsWayBack}
use Rattle.upward_search.specs.Joints.{IsTopAt}
use Rattle.std.proofs.lemmas.Option.{get_or_from_slice_get}
use Rattle.upward_search.specs.Parts.{IsRoad, HasMiddle, IsClimbPart, IsFallPart, IsRoadPart, AreWaiting, parts_length, IsUnpacking}
use Rattle.upward_search.specs.Lines.{IsLine}
use Rattle.upward_search.specs.Stacks.{AreStacked, AreFalling, AreClimbing, IsLineTo, IsOnWay}
use Rattle.upward_search.proofs.IsUnpacking.{waiting_push, waiting_pop, over_middle, unpack_road, unpack_over, weights}

rungs_pop : (rows : List (List Arc)) (p q : ℕ) (gs : List Rung) (g : Rung) → AreRungs rows p q (gs ++ g ∷ []) → (g.low ≡ p) × IsIn (row rows g.low) g.arc × AreRungs rows g.arc.to q gs
rungs_pop rows p q [] g l = (sym l.2, l.1, l.0)
rungs_pop rows p q (f ∷ gs) g l = let r = rungs_pop rows p f.low gs g l.2 in (r.0, r.1, (l.0, l.1, r.2))

pub falling_none : (down : List Rung) → AreFalling down down []
falling_none down = record { leads = λ h q top l. (q, refl, l); long = omega arith }

pub falling_more : (down left : List Rung) (g : Rung) (parts : List Part) → AreFalling down (left ++ g ∷ []) parts → AreFalling down left (parts ++ record { from = g.arc.to; to = g.low; length = g.arc.length; middle = g.arc.middle } ∷ [])
falling_more down left g parts f = record {
  leads = λ h q top l. (
      let w = f.leads h q top l in
      let r = rungs_pop h.falls w.0 top left g w.2 in
      (g.arc.to, waiting_push h q parts part (subst (λ n. AreWaiting h n q parts) (sym r.0) w.1) (inr r.1), r.2));
  long = (let a = sum_by_push (λ (x : Part). x.length) parts part in let b = sum_by_push (λ (g : Rung). g.arc.length) left g in let c = f.long in omega arith);
}
  where
    part : Part
    part = record { from = g.arc.to; to = g.low; length = g.arc.length; middle = g.arc.middle }

pub falling_all : (down : List Rung) (parts : List Part) → AreFalling down [] parts → AreStacked [] down parts
falling_all down parts f = record {
  leads = λ h p q top up l. (let w = f.leads h q top l in subst (λ n. AreWaiting h n q parts) (w.2 ∙ sym up) w.1);
  long = (let l = f.long in omega arith);
}

pub climbing_none : (up down : List Rung) (parts : List Part) → AreStacked [] down parts → AreClimbing up down up parts
climbing_none up down parts s = record { leads = λ h p q top u l. (top, s.leads h top q top refl l, u); long = (let m = s.long in omega arith) }

pub climbing_more : (up down : List Rung) (i : ℕ) (d : Rung) (parts : List Part) → i < length up → AreClimbing up down (drop i up) parts
    → AreClimbing up down (drop (i + 1) up) (parts ++ record { from = (get_or up i d).low; to = (get_or up i d).arc.to; length = (get_or up i d).arc.length; middle = (get_or up i d).arc.middle } ∷ [])
climbing_more up down i d parts lt c = record {
  leads = λ h p q top u l. (
      let w = c.leads h p q top u l in
      let r = subst (AreRungs h.climbs p w.0) (drop_more up i d lt) w.2 in
      ((get_or up i d).low, waiting_push h q parts part (subst (λ n. AreWaiting h n q parts) (sym r.0) w.1) (inl r.1), r.2));
  long = (
      let a = sum_by_push (λ (x : Part). x.length) parts part in
      let b = ap rungs_length (drop_more up i d lt) ∙ sum_by-cons (λ (g : Rung). g.arc.length) (get_or up i d) (drop (i + 1) up) in
      let m = c.long in
      omega arith);
}
  where
    part : Part
    part = record { from = (get_or up i d).low; to = (get_or up i d).arc.to; length = (get_or up i d).arc.length; middle = (get_or up i d).arc.middle }

pub climbing_all : (up down : List Rung) (i : ℕ) (parts : List Part) → length up ≤ i → AreClimbing up down (drop i up) parts → AreStacked up down parts
climbing_all up down i parts le c = record {
  leads = λ h p q top u l. (let w = c.leads h p q top u l in let e = subst (AreRungs h.climbs p w.0) (drop_all i up le) w.2 in subst (λ n. AreWaiting h n q parts) (sym e) w.1);
  long = (let m = c.long in let e = ap rungs_length (drop_all i up le) in omega arith);
}

pub begin_way : (h : Ladder) (p q : ℕ) (line : List Label) (run : ℕ) (parts : List Part) → IsLine h p line run p 0 → AreWaiting h p q parts → IsOnWay h p q (parts_length parts) line run parts
begin_way h p q line run parts l w = record { here = p; length = 0; is = l; waits = w; short = omega arith }

-- parts alone, as an unpacking that has begun
as_unpacking : (h : Ladder) (here q : ℕ) (parts : List Part) → AreWaiting h here q parts → IsUnpacking h (record { from = here; to = q; length = parts_length parts; middle = 0 }) [] parts
as_unpacking h here q parts w = record { here = here; leads = refl; waits = w; short = omega arith }

pub way_over_middle : (h : Ladder) → IsLadder h → (p q most : ℕ) (line : List Label) (run : ℕ) (parts : List Part) (y : Part) → IsOnWay h p q most line run (parts ++ y ∷ []) → HasMiddle y → IsOverPlace h y.from y.to y.middle y.length × (y.middle < length h.nodes)
way_over_middle h l p q most line run parts y w e =
    over_middle h l (record { from = w.here; to = q; length = parts_length (parts ++ y ∷ []); middle = 0 }) [] parts y (as_unpacking h w.here q (parts ++ y ∷ []) w.waits) e

-- a road goes on to the line
pub way_road : (h : Ladder) (p q most : ℕ) (line line' : List Label) (run run' : ℕ) (parts : List Part) (y : Part) → IsOnWay h p q most line run (parts ++ y ∷ []) → IsRoad y
    → ((p q x : ℕ) → IsLine h p line run q x → IsRoadPart h q y.to y.length → IsLine h p line' run' y.to (x + y.length))
    → IsOnWay h p q most line' run' parts × (weights parts < weights (parts ++ y ∷ []))
way_road h p q most line line' run run' parts y w e on =
    let v = waiting_pop h w.here q parts y w.waits in
    let u = unpack_road h (record { from = w.here; to = q; length = parts_length (parts ++ y ∷ []); middle = 0 }) [] parts y (as_unpacking h w.here q (parts ++ y ∷ []) w.waits) e in
    let road : IsRoadPart h w.here y.to y.length = record { part = y; is = v.1; starts = v.0; ends = refl; long = refl; road = e } in
    let sum = sum_by_push (λ (x : Part). x.length) parts y in
    (record { here = y.to; length = w.length + y.length; is = on p w.here w.length w.is road; waits = v.2; short = (let s = w.short in omega arith) }, u.1)

pub way_over : (h : Ladder) → IsLadder h → (p q most : ℕ) (line : List Label) (run : ℕ) (parts : List Part) (y : Part) → IsOnWay h p q most line run (parts ++ y ∷ []) → HasMiddle y
    → (c f : Part) → IsClimbPart h y.middle y.to c → IsFallPart h y.from y.middle f
    → IsOnWay h p q most line run ((parts ++ c ∷ []) ++ f ∷ []) × (weights ((parts ++ c ∷ []) ++ f ∷ []) < weights (parts ++ y ∷ []))
way_over h l p q most line run parts y w e c f up down =
    let u = unpack_over h l (record { from = w.here; to = q; length = parts_length (parts ++ y ∷ []); middle = 0 }) [] parts y (as_unpacking h w.here q (parts ++ y ∷ []) w.waits) e c f up down in
    let short = u.0.short in
    (record { here = w.here; length = w.length; is = w.is; waits = subst (λ n. AreWaiting h n q ((parts ++ c ∷ []) ++ f ∷ [])) (sym u.0.leads) u.0.waits; short = (let s = w.short in omega arith) }, u.1)

pub way_all : (h : Ladder) (p q most : ℕ) (line : List Label) (run : ℕ) → IsOnWay h p q most line run [] → IsLineTo h p q most line run
way_all h p q most line run w = record { length = w.length; is = subst (λ n. IsLine h p line run n w.length) w.waits w.is; short = (let s = w.short in omega arith) }

-- what was found is a least way
pub stacked_way : (h : Ladder) (p q i j total : ℕ) (d e : Label) (left right : List Label) (at : IsTopAt left right total (i, j)) (up down : List Rung) (parts : List Part)
    → IsWayBack h.climbs p (get_or left i d) up → IsWayBack h.falls q (get_or right j e) down → AreStacked up down parts → AreWaiting h p q parts × (parts_length parts ≡ total)
stacked_way h p q i j total d e left right at up down parts u v s =
    let r = get_or_from_slice_get left i at.r d at.stands in
    let t = get_or_from_slice_get right j at.joint.label e at.joint.stands in
    let place = ap (λ (o : Label). o.place) r in
    let place' = ap (λ (o : Label). o.place) t ∙ at.joint.same in
    let length' = ap (λ (o : Label). o.length) r in
    let length'' = ap (λ (o : Label). o.length) t in
    let sum = at.joint.sum in
    let long = u.long in
    let long' = v.long in
    let all = s.long in
    (s.leads h p q at.r.place (subst (λ n. AreRungs h.climbs p n up) place u.leads) (subst (λ n. AreRungs h.falls q n down) place' v.leads), omega arith)
