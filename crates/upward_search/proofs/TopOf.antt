use Rattle.std.proofs.Common.{◌≡◌, ◌≢◌, ℕ, ◌+◌, ◌<◌, ◌≤◌, ◌^◌, ◌⊎◌, inl, inr, List, length, get_or, sym, ap, ◌∙◌, arith, subst}
use Rattle.std.specs.Prelude.{slice_get}
use Rattle.std.proofs.lemmas.Bool.{cases_lt}
use Rattle.std.proofs.lemmas.Option.{slice_get_within, slice_get-get_or, get_or_from_slice_get}
use Rattle.upward_search.specs.declared.slope.Label.{Label}
use Rattle.upward_search.specs.Climbs.{IsRising}
use Rattle.upward_search.specs.Places.{LacksPlace, HasPlaceAt}
use Rattle.upward_search.specs.Sums.{AreShort, Common}
use Rattle.upward_search.specs.Joints.{LacksJoint, IsJoint, IsTopAt, LackJoints}
use Rattle.upward_search.proofs.IsSearch.{one_label}

pub joint_none : (right : List Label) (r : Label) (total : ℕ) → LacksPlace right r.place → LacksJoint right r total
joint_none right r total lacks t i e sum = lacks t i e

pub joint_other : (right : List Label) (r : Label) (total k : ℕ) (d : Label) → IsRising right → HasPlaceAt right r.place k → r.length + (get_or right k d).length ≢ total → LacksJoint right r total
joint_other right r total k d up (s, at, is) ne t i e sum =
    let same = one_label 0 up.0 right s t k i.0 up.1 at i.1 (is ∙ sym e) in
    let read = get_or_from_slice_get right k s d at in
    let l = ap (λ (o : Label). o.length) (read ∙ same) in
    ne (omega arith)

pub joint_is : (right : List Label) (r : Label) (total k : ℕ) (d : Label) → HasPlaceAt right r.place k → r.length + (get_or right k d).length ≡ total → IsJoint right r total k
joint_is right r total k d (s, at, is) e = record { label = s; stands = at; same = is; sum = (let l = ap (λ (o : Label). o.length) (get_or_from_slice_get right k s d at) in omega arith) }

pub joints_more : (left right : List Label) (total i : ℕ) (d : Label) → LackJoints left right total i → i < length left → LacksJoint right (get_or left i d) total → LackJoints left right total (i + 1)
joints_more left right total i d l lt lacks k r lt' e = at (cases_lt k i)
  where
    at : (k < i) ⊎ (i ≤ k) → LacksJoint right r total
    at (inl low) = l k r low e
    at (inr ge) = let is : k ≡ i = omega arith in let here = slice_get-get_or left i d lt in let there = ap (slice_get left) is in let same : get_or left i d ≡ r = cc in subst (λ (o : Label). LacksJoint right o total) same lacks

pub top_none : (left right : List Label) (total i : ℕ) → LackJoints left right total i → length left ≤ i → Common left right total → ⊥
top_none left right total i l le c = l c.left_has.0 c.r (let w = slice_get_within left c.left_has.0 c.r c.left_has.1 in omega arith) c.left_has.1 c.t c.right_has (sym c.same) c.sum

pub top_is : (left right : List Label) (total i j : ℕ) (d : Label) → i < length left → IsJoint right (get_or left i d) total j → IsTopAt left right total (i, j)
top_is left right total i j d lt joint = record { r = get_or left i d; stands = slice_get-get_or left i d lt; joint = joint }

pub joint_short : (right : List Label) (p k : ℕ) (d : Label) → AreShort right → HasPlaceAt right p k → (get_or right k d).length < 2 ^ 53
joint_short right p k d short (s, at, is) = let l = ap (λ (o : Label). o.length) (get_or_from_slice_get right k s d at) in let m = short s (k, at) in omega arith
