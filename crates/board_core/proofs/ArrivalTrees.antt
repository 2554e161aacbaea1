use Rattle.std.proofs.Common.{◌≡◌, ℕ, zero, suc, ◌+◌, ◌*◌, ◌-◌, ◌/◌, ◌<◌, ◌≤◌, List, length, set, get_or, arith, inl, inr, ◌⊎◌, sym, ap, ◌∙◌, refl, drop, take, ◌++◌, below_more, add-one, length-take, length-drop, replicate, Some, None}
use Rattle.std.proofs.lemmas.List.{get_or-set_other, get_or-set_same, get_or-drop, get_or-take, get_or-replicate, length-replicate, take-set-le, ext_get_or}
use Rattle.std.proofs.Math.Seq.{take-append_seam}
use Rattle.board_core.specs.Arrivals.{HasLeast, HaveLeast, IsTree, above, IsDue, PassesNone, IsFirstBy}

-- half of twice a number
pub half_of : (n m : ℕ) → n ≡ 2 * m → n / 2 ≡ m
half_of n m e = grind arith

half : (a : ℕ) → (a ≡ 2 * (a / 2)) ⊎ (a ≡ 2 * (a / 2) + 1)
half a = grind arith

pub above-le : (height k : ℕ) → above height k ≤ k
above-le zero k = omega arith
above-le (suc height) k = grind (arith, above-le height k)

-- a node's moment is at most that of each leaf below it
pub least_below : (leaves : ℕ) (tree : List ℕ) → HaveLeast leaves tree → (height k : ℕ) → k < 2 * leaves → 1 ≤ above height k → get_or tree (above height k) 0 ≤ get_or tree k 0
least_below leaves tree t zero k lt some = omega arith
least_below leaves tree t (suc height) k lt some =
    let low : above height k ≤ k = above-le height k in
    let least : HasLeast tree (above height k / 2) = t (above height k / 2) some (grind (arith, low, lt)) in
    let below : get_or tree (above height k) 0 ≤ get_or tree k 0 = least_below leaves tree t height k lt (grind (arith, some)) in
    elim (half (above height k)) [
      | inl e ↦ let e' : get_or tree (above height k) 0 ≡ get_or tree (2 * (above height k / 2)) 0 = ap (λ (i : ℕ). get_or tree i 0) e in omega (arith, e', least, below)
      | inr e ↦ let e' : get_or tree (above height k) 0 ≡ get_or tree (2 * (above height k / 2) + 1) 0 = ap (λ (i : ℕ). get_or tree i 0) e in omega (arith, e', least, below)
    ]

tall : (height k : ℕ) → 2 ≤ above height k → above height k + 2 * height ≤ k
tall zero k some = omega arith
tall (suc height) k some = grind (arith, tall height k)

-- a node is no further above the leaves than half of their numbers
pub height-le : (height k : ℕ) → 1 ≤ above height k → 2 * height ≤ k
height-le zero k some = omega arith
height-le (suc height) k some = grind (arith, tall height k)

pub written : (new old : List ℕ) (n : ℕ) → n ≡ length new → take n (new ++ drop (length new) old) ≡ new
written new old n e = rw e (take-append_seam new (drop (length new) old))

-- a step to the right, past a node whose leaves are all later than now
pub passed_more : (leaves : ℕ) (tree : List ℕ) → IsTree leaves tree → (leaf now node height : ℕ) → 1 ≤ node → now < get_or tree node 0 → PassesNone leaves tree leaf now node height → PassesNone leaves tree leaf now (node + 1) height
passed_more leaves tree t leaf now node height some more a = record {
  passed = λ k from lt low. below_more (λ (j : ℕ). above height k ≡ j → now < get_or tree k 0) node
      (λ j below e. a.passed k from lt (omega (arith, below, e)))
      (λ e. let least : get_or tree (above height k) 0 ≤ get_or tree k 0 = least_below leaves tree t.least height k lt (omega (arith, e, some)) in
      let same : get_or tree (above height k) 0 ≡ get_or tree node 0 = ap (λ (i : ℕ). get_or tree i 0) e in omega (arith, least, same, more))
      (above height k) low refl;
  later = λ k low. a.later k (omega (arith, low));
}

-- a step up from a left child
pub lifted : (leaves : ℕ) (tree : List ℕ) (leaf now node height : ℕ) → node ≡ 2 * (node / 2) → PassesNone leaves tree leaf now node height → PassesNone leaves tree leaf now (node / 2) (height + 1)
lifted leaves tree leaf now node height e a = rw (add-one height) (record {
  passed = λ k from lt low. a.passed k from lt (grind (arith, low, e));
  later = λ k low. a.later k (grind (arith, low, e));
})

-- a step down to the left child
pub lowered : (leaves : ℕ) (tree : List ℕ) (leaf now node height : ℕ) → 0 < height → PassesNone leaves tree leaf now node height → PassesNone leaves tree leaf now (2 * node) (height - 1)
lowered leaves tree leaf now node zero some a = absurd (omega (arith, some))
lowered leaves tree leaf now node (suc height) some a = let e : suc height - 1 ≡ height = omega arith in rw e (record {
  passed = λ k from lt low. a.passed k from lt (grind (arith, low));
  later = λ k low. a.later k (grind (arith, low));
})

-- where a node is past, the last leaf stands behind it
pub sentinel : (leaves : ℕ) (tree : List ℕ) → IsTree leaves tree → (now node height : ℕ) → 1 ≤ node → node ≤ above height (2 * leaves - 1) → now < get_or tree node 0 → node + 1 ≤ above height (2 * leaves - 1)
sentinel leaves tree t now node height some within more =
    let least : get_or tree (above height (2 * leaves - 1)) 0 ≤ get_or tree (2 * leaves - 1) 0 = least_below leaves tree t.least height (2 * leaves - 1) (omega (arith, t.some)) (omega (arith, some, within)) in
    let last : get_or tree (2 * leaves - 1) 0 ≡ 0 = t.last in
    below_more (λ (j : ℕ). node ≡ j → node + 1 ≤ above height (2 * leaves - 1)) (above height (2 * leaves - 1))
    (λ j below e. omega (arith, below, e))
    (λ e. let same : get_or tree node 0 ≡ get_or tree (above height (2 * leaves - 1)) 0 = ap (λ (i : ℕ). get_or tree i 0) e in absurd (omega (arith, same, least, last, more)))
    node (omega (arith, within)) refl

halves : (a b : ℕ) → a ≤ b → a / 2 ≤ b / 2
halves a b h = grind arith

pub within_above : (node height last : ℕ) → node ≤ above height last → node / 2 ≤ above (height + 1) last
within_above node height last h = rw (add-one height) (halves node (above height last) h)

-- a node above the leaves is an inner one
pub inner : (leaves height node : ℕ) → 0 < leaves → 0 < height → node ≤ above height (2 * leaves - 1) → node < leaves
inner leaves zero node some high h = absurd (omega (arith, high))
inner leaves (suc height) node some high h = let low : above height (2 * leaves - 1) ≤ 2 * leaves - 1 = above-le height (2 * leaves - 1) in grind (arith, low, h, some)

below_node : (leaves height node : ℕ) → 0 < height → node ≤ above height (2 * leaves - 1) → 2 * node ≤ above (height - 1) (2 * leaves - 1)
below_node leaves zero node high h = absurd (omega (arith, high))
below_node leaves (suc height) node high h = let e : suc height - 1 ≡ height = omega arith in rw e (grind (arith, h))

pub left_reached : (leaves : ℕ) (tree : List ℕ) (now node height : ℕ) → 0 < height → IsDue leaves tree now node height → get_or tree (2 * node) 0 ≤ now → IsDue leaves tree now (2 * node) (height - 1)
left_reached leaves tree now node height high r least = record {
  some = omega (arith, r.some);
  within = below_node leaves height node high r.within;
  due = least;
}

pub right_reached : (leaves : ℕ) (tree : List ℕ) → IsTree leaves tree → (now node height : ℕ) → 0 < height → IsDue leaves tree now node height → now < get_or tree (2 * node) 0 → IsDue leaves tree now (2 * node + 1) (height - 1)
right_reached leaves tree t now node height high r more = record {
  some = omega arith;
  within = sentinel leaves tree t now (2 * node) (height - 1) (omega (arith, r.some)) (below_node leaves height node high r.within) more;
  due = let least : HasLeast tree node = t.least node r.some (inner leaves height node t.some high r.within) in omega (arith, least, r.due, more);
}

-- the last leaf, and those of the places
last_leaf : (leaves : ℕ) (tree : List ℕ) → 0 < leaves → get_or tree (2 * leaves - 1) 0 ≡ get_or (drop leaves tree) (leaves - 1) 0
last_leaf leaves tree some = let e : 2 * leaves - 1 ≡ leaves + (leaves - 1) = omega arith in ap (λ (i : ℕ). get_or tree i 0) e ∙ sym (get_or-drop leaves tree (leaves - 1) 0)

place_leaf : (places : ℕ) (tree : List ℕ) (k : ℕ) → k < places → get_or (take places (drop (places + 1) tree)) k 0 ≡ get_or tree (places + 1 + k) 0
place_leaf places tree k lt = get_or-take places (drop (places + 1) tree) k 0 lt ∙ get_or-drop (places + 1) tree k 0

pub places_long : (places : ℕ) (tree : List ℕ) → length tree ≡ 2 * (places + 1) → length (take places (drop (places + 1) tree)) ≡ places
places_long places tree many = omega (arith, length-take places (drop (places + 1) tree), length-drop (places + 1) tree)

pub set_tree : (places : ℕ) (old new : List ℕ) (place moment : ℕ) → IsTree (places + 1) old → length new ≡ length old → HaveLeast (places + 1) new → drop (places + 1) new ≡ set (drop (places + 1) old) place moment → place < places → IsTree (places + 1) new
set_tree places old new place moment t many least leaves lt = record {
  many = many ∙ t.many;
  some = omega arith;
  least = least;
  last = last_leaf (places + 1) new (omega arith) ∙ ap (λ (xs : List ℕ). get_or xs (places + 1 - 1) 0) leaves
      ∙ get_or-set_other (drop (places + 1) old) place (places + 1 - 1) moment 0 (λ e. omega (arith, e, lt)) ∙ sym (last_leaf (places + 1) old (omega arith)) ∙ t.last;
}

pub first_tree : (places never : ℕ) (new : List ℕ) → length new ≡ 2 * places + 2 → HaveLeast (places + 1) new → drop (places + 1) new ≡ set (drop (places + 1) (replicate (2 * places + 2) never)) places 0 → IsTree (places + 1) new
first_tree places never new many least leaves = record {
  many = omega (arith, many);
  some = omega arith;
  least = least;
  last = last_leaf (places + 1) new (omega arith) ∙ (let e : places + 1 - 1 ≡ places = omega arith in rw (e, leaves)
      (get_or-set_same (drop (places + 1) (replicate (2 * places + 2) never)) places 0 0 (omega (arith, length-drop (places + 1) (replicate (2 * places + 2) never), length-replicate (2 * places + 2) never))));
}

pub first_places : (places never : ℕ) (new : List ℕ) → drop (places + 1) new ≡ set (drop (places + 1) (replicate (2 * places + 2) never)) places 0 → take places (drop (places + 1) new) ≡ replicate places never
first_places places never new leaves = rw leaves (take-set-le places (drop (places + 1) (replicate (2 * places + 2) never)) places 0 (omega arith)
    ∙ ext_get_or 0 _ _ (places_long places (replicate (2 * places + 2) never) (omega (arith, length-replicate (2 * places + 2) never)) ∙ sym (length-replicate places never))
    (λ k lt. let below : k < places = omega (arith, lt, places_long places (replicate (2 * places + 2) never) (omega (arith, length-replicate (2 * places + 2) never))) in
    place_leaf places (replicate (2 * places + 2) never) k below ∙ get_or-replicate (2 * places + 2) (places + 1 + k) never 0 (omega arith) ∙ sym (get_or-replicate places k never 0 below)))

pub found_place : (places : ℕ) (tree : List ℕ) → length tree ≡ 2 * (places + 1) → (place now leaf : ℕ) → PassesNone (places + 1) tree (places + 1 + place) now leaf 0 → IsDue (places + 1) tree now leaf 0 → leaf - (places + 1) < places → IsFirstBy (take places (drop (places + 1) tree)) place now (Some (leaf - (places + 1)))
found_place places tree many place now leaf a r lt =
    let from : places + 1 + place ≤ leaf = a.later leaf (omega arith) in
    let e : places + 1 + (leaf - (places + 1)) ≡ leaf = omega arith in (
      omega arith,
      omega (arith, places_long places tree many, lt),
      rw (place_leaf places tree (leaf - (places + 1)) lt, e) r.due,
      λ k low high. rw (place_leaf places tree k (omega arith)) (a.passed (places + 1 + k) (omega arith) (omega arith) (omega arith)),
    )

pub none_found : (places : ℕ) (tree : List ℕ) → length tree ≡ 2 * (places + 1) → (place now leaf : ℕ) → PassesNone (places + 1) tree (places + 1 + place) now leaf 0 → places ≤ leaf - (places + 1) → IsFirstBy (take places (drop (places + 1) tree)) place now None
none_found places tree many place now leaf a le k low high =
    let below : k < places = omega (arith, places_long places tree many, high) in
    rw (place_leaf places tree k below) (a.passed (places + 1 + k) (omega arith) (omega arith) (omega (arith, le)))
