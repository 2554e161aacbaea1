use Rattle.std.proofs.Common.{◌≡◌, ℕ, zero, suc, ◌-◌, ◌<◌, ◌%◌, ◌==◌, Bool, true, false, cond, List, [], ◌∷◌, ◌++◌, length, get_or, set, slice_get, Option, Some, None, option_map, Result, Ok, Err, IfOk, OnOk, IsSome, refl, sym, ap, ◌∙◌, subst, arith}
use Rattle.road_graph.specs.declared.road.NodeNo.{NodeNo}
use Rattle.plain_search.specs.declared.potential.Potential.{Potential}
use Rattle.journal_text.specs.declared.draft.Direct.{Direct}
use Rattle.journal_text.specs.declared.draft.Direct.TheVariants.{Walk}
use Rattle.journal_text.specs.declared.draft.Draft.{Draft}
use Rattle.journal_text.specs.TextGroups.{last_walk}
use Rattle.journal_text.specs.LineParts.{and_then}
use Rattle.journal_text.specs.LineRuns.{nodes_of_line}
use Rattle.journal_text.specs.Drafts.{Takes, replaced_last, lengthened, longer_walks, last_listed, last_node_of, with_pairs, with_direct, walk_direct, longer_direct_in, longer_direct_step, longer_by_line, longer_step, open_leg_of, behind_the}

-- The last item of a list as it is read and written at its index.

pub walk_at : (walks : List (List NodeNo)) (n : ℕ) (walk : List NodeNo) → suc n ≡ length walks → slice_get walks n ≡ Some walk → walk ≡ last_walk walks
walk_at [] n walk e got = absurd (omega (arith, e))
walk_at (w ∷ []) zero walk e got = same got
  where
    same : Some w ≡ Some walk → walk ≡ w
    same f = cc
walk_at (w ∷ []) (suc n) walk e got = absurd (omega (arith, e))
walk_at (w ∷ next ∷ more) zero walk e got = absurd (omega (arith, e))
walk_at (w ∷ next ∷ more) (suc n) walk e got = walk_at (next ∷ more) n walk (omega (arith, e)) got

pub last_walk_got : (walks : List (List NodeNo)) (walk : List NodeNo) → slice_get walks (length walks - 1) ≡ Some walk → walk ≡ last_walk walks
last_walk_got [] walk got = absurd cc
last_walk_got (w ∷ more) walk got = walk_at (w ∷ more) (length (w ∷ more) - 1) walk (omega arith) got

pub no_walk_got : (walks : List (List NodeNo)) → slice_get walks (length walks - 1) ≡ None → [] ≡ last_walk walks
no_walk_got [] got = refl
no_walk_got (w ∷ more) got = at (w ∷ more) (length (w ∷ more) - 1) (omega arith) got
  where
    at : (walks : List (List NodeNo)) (n : ℕ) → suc n ≡ length walks → slice_get walks n ≡ None → [] ≡ last_walk walks
    at [] n e got = refl
    at (w ∷ more) zero e got = absurd cc
    at (w ∷ []) (suc n) e got = absurd (omega (arith, e))
    at (w ∷ next ∷ more) (suc n) e got = at (next ∷ more) n (omega (arith, e)) got

pub listed_at : (ps : List Potential) (n : ℕ) (p : Potential) → suc n ≡ length ps → slice_get ps n ≡ Some p → p.listed ≡ last_listed ps
listed_at [] n p e got = absurd (omega (arith, e))
listed_at (q ∷ []) zero p e got = same got
  where
    same : Some q ≡ Some p → p.listed ≡ q.listed
    same f = let g : q ≡ p = cc in ap (λ (x : Potential). x.listed) (sym g)
listed_at (q ∷ []) (suc n) p e got = absurd (omega (arith, e))
listed_at (q ∷ next ∷ more) zero p e got = absurd (omega (arith, e))
listed_at (q ∷ next ∷ more) (suc n) p e got = listed_at (next ∷ more) n p (omega (arith, e)) got

pub last_listed_got : (ps : List Potential) (p : Potential) → slice_get ps (length ps - 1) ≡ Some p → p.listed ≡ last_listed ps
last_listed_got [] p got = absurd cc
last_listed_got (q ∷ more) p got = listed_at (q ∷ more) (length (q ∷ more) - 1) p (omega arith) got

pub none_listed_got : (ps : List Potential) → slice_get ps (length ps - 1) ≡ None → [] ≡ last_listed ps
none_listed_got [] got = refl
none_listed_got (q ∷ more) got = at (q ∷ more) (length (q ∷ more) - 1) (omega arith) got
  where
    at : (ps : List Potential) (n : ℕ) → suc n ≡ length ps → slice_get ps n ≡ None → [] ≡ last_listed ps
    at [] n e got = refl
    at (q ∷ more) zero e got = absurd cc
    at (q ∷ []) (suc n) e got = absurd (omega (arith, e))
    at (q ∷ next ∷ more) (suc n) e got = at (next ∷ more) n (omega (arith, e)) got

abbrev pub node_of : NodeNo × ℕ → NodeNo
node_of pair = pair.0

pub last_node_got : (pairs : List (NodeNo × ℕ)) (o : Option (NodeNo × ℕ)) → o ≡ slice_get pairs (length pairs - 1) → option_map node_of o ≡ last_node_of pairs
last_node_got [] o e = ap (option_map node_of) e
last_node_got (p ∷ more) o e = ap (option_map node_of) e ∙ at (p ∷ more) (length (p ∷ more) - 1) (omega arith)
  where
    at : (pairs : List (NodeNo × ℕ)) (n : ℕ) → suc n ≡ length pairs → option_map node_of (slice_get pairs n) ≡ last_node_of pairs
    at [] n e = absurd (omega (arith, e))
    at (p ∷ []) zero e = refl
    at (p ∷ []) (suc n) e = absurd (omega (arith, e))
    at (p ∷ next ∷ more) zero e = absurd (omega (arith, e))
    at (p ∷ next ∷ more) (suc n) e = at (next ∷ more) n (omega (arith, e))

set_at : {X : Type 0} → (xs : List X) (n : ℕ) (x : X) → suc n ≡ length xs → set xs n x ≡ replaced_last xs x
set_at [] n x e = absurd (omega (arith, e))
set_at (y ∷ []) zero x e = refl
set_at (y ∷ []) (suc n) x e = absurd (omega (arith, e))
set_at (y ∷ next ∷ more) zero x e = absurd (omega (arith, e))
set_at (y ∷ next ∷ more) (suc n) x e = ap (λ l. y ∷ l) (set_at (next ∷ more) n x (omega (arith, e)))

index_at : (walks : List (List NodeNo)) (n : ℕ) (d : List NodeNo) → suc n ≡ length walks → get_or walks n d ≡ last_walk walks
index_at [] n d e = absurd (omega (arith, e))
index_at (w ∷ []) zero d e = refl
index_at (w ∷ []) (suc n) d e = absurd (omega (arith, e))
index_at (w ∷ next ∷ more) zero d e = absurd (omega (arith, e))
index_at (w ∷ next ∷ more) (suc n) d e = index_at (next ∷ more) n d (omega (arith, e))

-- the last walk with more nodes, written in its place
pub longer_written : {E : Type 0} → (walks : List (List NodeNo)) (old nodes new : List NodeNo) (r : Result Bool E) → 0 < length walks → old ≡ get_or walks (length walks - 1) old
    → IfOk r (λ taken. Takes (lengthened old nodes) old taken new) → IfOk r (λ taken. Takes (longer_walks walks nodes) walks taken (set walks (length walks - 1) new))
longer_written walks old nodes new (Err e) some at h = tt
longer_written walks old nodes new (Ok taken) some at h = by (lengthened (last_walk walks) nodes) (subst (λ (w : List NodeNo). Takes (lengthened w nodes) w taken new) is h)
  where
    index : suc (length walks - 1) ≡ length walks
    index = omega (arith, some)

    is : old ≡ last_walk walks
    is = at ∙ index_at walks (length walks - 1) old index

    stays : (walks : List (List NodeNo)) → replaced_last walks (last_walk walks) ≡ walks
    stays [] = refl
    stays (w ∷ []) = refl
    stays (w ∷ next ∷ more) = ap (λ l. w ∷ l) (stays (next ∷ more))

    by : (o : Option (List NodeNo)) → Takes o (last_walk walks) taken new
        → Takes (and_then o (λ (walk : List NodeNo). Some (replaced_last walks walk))) walks taken (set walks (length walks - 1) new)
    by None t = (t.0, set_at walks (length walks - 1) new index ∙ ap (replaced_last walks) t.1 ∙ stays walks)
    by (Some w) t = (t.0, set_at walks (length walks - 1) new index ∙ ap (replaced_last walks) t.1)

-- the same in a list that equals the walks
pub longer_put : {E : Type 0} → (walks held : List (List NodeNo)) (old nodes new : List NodeNo) (n : ℕ) (result : List (List NodeNo)) (r : Result Bool E) → held ≡ walks → n ≡ length held → 0 < length walks
    → old ≡ get_or held (n - 1) old → result ≡ set held (n - 1) new → IfOk r (λ taken. Takes (lengthened old nodes) old taken new) → IfOk r (λ taken. Takes (longer_walks walks nodes) walks taken result)
longer_put walks held old nodes new n result r same count some at put h =
    let index : n - 1 ≡ length walks - 1 = ap (λ m. m - 1) count ∙ ap (λ (l : List (List NodeNo)). length l - 1) same in
    subst (λ (x : List (List NodeNo)). IfOk r (λ taken. Takes (longer_walks walks nodes) walks taken x))
    (sym (put ∙ ap (λ (l : List (List NodeNo)). set l (n - 1) new) same ∙ ap (λ i. set walks i new) index))
    (longer_written walks old nodes new r some (at ∙ ap (λ (l : List (List NodeNo)). get_or l (n - 1) old) same ∙ ap (λ i. get_or walks i old) index) h)

-- the pairs of the last potential with more of them, written in their place
pub pairs_written : (ps : List Potential) (p : Potential) (pairs listed : List (NodeNo × ℕ)) → 0 < length ps → p ≡ get_or ps (length ps - 1) p → listed ≡ p.listed ++ pairs
    → set ps (length ps - 1) (record { listed = listed; rest = p.rest }) ≡ with_pairs ps pairs
pairs_written ps p pairs listed some at is =
    ap (λ (l : List (NodeNo × ℕ)). set ps (length ps - 1) (record { listed = l; rest = p.rest })) is ∙ by ps (length ps - 1) (omega (arith, some)) at
  where
    by : (qs : List Potential) (n : ℕ) → suc n ≡ length qs → p ≡ get_or qs n p → set qs n (record { listed = p.listed ++ pairs; rest = p.rest }) ≡ with_pairs qs pairs
    by [] n e at = absurd (omega (arith, e))
    by (q ∷ []) zero e at = ap (λ (x : Potential). record { listed = x.listed ++ pairs; rest = x.rest } ∷ []) at
    by (q ∷ []) (suc n) e at = absurd (omega (arith, e))
    by (q ∷ next ∷ more) zero e at = absurd (omega (arith, e))
    by (q ∷ next ∷ more) (suc n) e at = ap (λ l. q ∷ l) (by (next ∷ more) n (omega (arith, e)) at)

pub pairs_put : {E : Type 0} → (ps held : List Potential) (p : Potential) (pairs listed : List (NodeNo × ℕ)) (n : ℕ) (result : List Potential) (r : Result (Unit {0}) E) → held ≡ ps → n ≡ length held → 0 < length ps
    → p ≡ get_or held (n - 1) p → result ≡ set held (n - 1) (record { listed = listed; rest = p.rest }) → OnOk r (listed ≡ p.listed ++ pairs) → OnOk r (result ≡ with_pairs ps pairs)
pairs_put ps held p pairs listed n result (Err e) same count some at put h = tt
pairs_put ps held p pairs listed n result (Ok x) same count some at put h =
    let index : n - 1 ≡ length ps - 1 = ap (λ m. m - 1) count ∙ ap (λ (l : List Potential). length l - 1) same in
    let new : Potential = record { listed = listed; rest = p.rest } in
    put ∙ ap (λ (l : List Potential). set l (n - 1) new) same ∙ ap (λ i. set ps i new) index
    ∙ pairs_written ps p pairs listed some (at ∙ ap (λ (l : List Potential). get_or l (n - 1) p) same ∙ ap (λ i. get_or ps i p) index) h

-- A direct walk with more nodes.

walk_by_line : (nodes : List NodeNo) (rest : List ℕ) → longer_direct_in (Walk nodes) rest ≡ walk_direct (longer_by_line nodes rest)
walk_by_line nodes rest = by (length nodes % 64 == 0)
  where
    line : (o : Option (List NodeNo)) → and_then o (λ (run : List NodeNo). walk_direct (lengthened nodes run)) ≡ walk_direct (and_then o (λ (run : List NodeNo). lengthened nodes run))
    line None = refl
    line (Some run) = refl

    by : (t : Bool) → cond t (and_then (nodes_of_line rest) (λ (run : List NodeNo). walk_direct (lengthened nodes run))) None ≡ walk_direct (cond t (and_then (nodes_of_line rest) (λ (run : List NodeNo). lengthened nodes run)) None)
    by true = line (nodes_of_line rest)
    by false = refl

pub takes_direct : {E : Type 0} → (d : Draft) (nodes new : List NodeNo) (rest : List ℕ) (r : Result Bool E) → d.direct ≡ Walk nodes
    → IfOk r (λ taken. Takes (longer_by_line nodes rest) nodes taken new) → IfOk r (λ taken. Takes (longer_direct_step d rest) d taken (record d { direct = Walk new }))
takes_direct d nodes new rest (Err e) is h = tt
takes_direct d nodes new rest (Ok taken) is h =
    subst (λ (o : Option Direct). Takes (with_direct d o) d taken (record d { direct = Walk new })) (sym (ap (λ (x : Direct). longer_direct_in x rest) is ∙ walk_by_line nodes rest)) (by (longer_by_line nodes rest) h)
  where
    by : (o : Option (List NodeNo)) → Takes o nodes taken new → Takes (with_direct d (walk_direct o)) d taken (record d { direct = Walk new })
    by None t = (t.0, ap (λ (x : Direct). record d { direct = x }) (ap Walk t.1 ∙ sym is))
    by (Some w) t = (t.0, ap (λ (x : List NodeNo). record d { direct = Walk x }) t.1)

-- A walk with the nodes of a line.

abbrev pub nodes_found : Option ℕ → List ℕ → Option (List NodeNo)
nodes_found leg rest = and_then leg (λ (leg : ℕ). and_then (behind_the rest leg) (λ (text : List ℕ). nodes_of_line text))

pub found_leg : (leg : Option ℕ) (rest : List ℕ) (run : List NodeNo) → nodes_found leg rest ≡ Some run → IsSome leg
found_leg None rest run e = absurd cc
found_leg (Some leg) rest run e = refl

abbrev lengthened_by : Draft → List NodeNo → Option Draft
lengthened_by d nodes = and_then (lengthened (last_walk d.walks) nodes) (λ (walk : List NodeNo). Some (record d { walks = replaced_last d.walks walk }))

longer_found : (d : Draft) (rest : List ℕ) → longer_step d rest ≡ and_then (nodes_found (open_leg_of d) rest) (lengthened_by d)
longer_found d rest = by (open_leg_of d)
  where
    line : (o : Option (List ℕ)) → and_then o (λ (text : List ℕ). and_then (nodes_of_line text) (lengthened_by d)) ≡ and_then (and_then o (λ (text : List ℕ). nodes_of_line text)) (lengthened_by d)
    line None = refl
    line (Some text) = refl

    by : (o : Option ℕ) → and_then o (λ (leg : ℕ). and_then (behind_the rest leg) (λ (text : List ℕ). and_then (nodes_of_line text) (lengthened_by d))) ≡ and_then (nodes_found o rest) (lengthened_by d)
    by None = refl
    by (Some leg) = line (behind_the rest leg)

pub takes_longer : {E : Type 0} → (d : Draft) (rest : List ℕ) (run : List NodeNo) (new : List (List NodeNo)) (r : Result Bool E) → nodes_found (open_leg_of d) rest ≡ Some run
    → IfOk r (λ taken. Takes (longer_walks d.walks run) d.walks taken new) → IfOk r (λ taken. Takes (longer_step d rest) d taken (record d { walks = new }))
takes_longer d rest run new (Err e) found h = tt
takes_longer d rest run new (Ok taken) found h =
    subst (λ (o : Option Draft). Takes o d taken (record d { walks = new })) (sym (longer_found d rest ∙ ap (λ (o : Option (List NodeNo)). and_then o (lengthened_by d)) found)) (by (lengthened (last_walk d.walks) run) h)
  where
    by : (o : Option (List NodeNo)) → Takes (and_then o (λ (walk : List NodeNo). Some (replaced_last d.walks walk))) d.walks taken new
        → Takes (and_then o (λ (walk : List NodeNo). Some (record d { walks = replaced_last d.walks walk }))) d taken (record d { walks = new })
    by None t = (t.0, ap (λ (x : List (List NodeNo)). record d { walks = x }) t.1)
    by (Some w) t = (t.0, ap (λ (x : List (List NodeNo)). record d { walks = x }) t.1)

pub takes_none_longer : (d : Draft) (rest : List ℕ) → nodes_found (open_leg_of d) rest ≡ None → longer_step d rest ≡ None
takes_none_longer d rest found = longer_found d rest ∙ ap (λ (o : Option (List NodeNo)). and_then o (lengthened_by d)) found
