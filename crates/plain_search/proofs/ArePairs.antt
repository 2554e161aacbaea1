use Rattle.std.proofs.Common.{◌≡◌, ◌≢◌, ℕ, ◌+◌, ◌<◌, ◌≤◌, ⊎_elim, ◌==◌, Bool, true, false, cond, eq-eqb, ne_eqb, List, [], ◌∷◌, ◌++◌, length, map, get_or, Some, None, sym, ap, ◌∙◌, arith, refl, subst}
use Rattle.std.proofs.lemmas.Bool.{cases_lt}
use Rattle.std.proofs.lemmas.List.{get_or_past, length_push, map_push, get_or_append_left, get_or_push}
use Rattle.std.proofs.lemmas.Option.{slice_get_within, get_or_from_slice_get}
use Rattle.road_graph.specs.declared.road.NodeNo.{NodeNo}
use Rattle.plain_search.specs.declared.reached.Reached.{Reached}
use Rattle.plain_search.specs.declared.reached.Mark.{Mark}
use Rattle.plain_search.specs.declared.reached.Mark.TheVariants.{Unseen, Settled}
use Rattle.plain_search.specs.Marking.{ArePlaces}
use Rattle.plain_search.specs.Reaching.{distance_of}
use Rattle.plain_search.specs.Valuing.{listed_value, IsRising}
use Rattle.road_graph.proofs.WalkLaws.{same_node}
use Rattle.plain_search.proofs.DistanceOf.{stands_distance, unlisted}

abbrev number_of : NodeNo × ℕ → ℕ
number_of pair = pair.0.0

-- the pairs of the listed nodes with numbers below i
pub record ArePairs (listed : List Reached) (pairs : List (NodeNo × ℕ)) (i : ℕ) : Type 0 where
  pub low : (n : NodeNo) → n.0 < i → listed_value pairs n ≡ distance_of listed n
  pub high : (n : NodeNo) → i ≤ n.0 → listed_value pairs n ≡ None
  pub below : (k d : ℕ) → k < length (map number_of pairs) → get_or (map number_of pairs) k d < i
  pub rising : IsRising pairs

-- the value of a node in a list with one more pair
value-push : (pairs : List (NodeNo × ℕ)) (pair : NodeNo × ℕ) (n : NodeNo) → listed_value pairs n ≡ None → listed_value (pairs ++ pair ∷ []) n ≡ cond (pair.0.0 == n.0) (Some pair.1) None
value-push [] pair n e = refl
value-push (p ∷ ps) pair n e = at (p.0.0 == n.0) e (λ q. value-push ps pair n q)
  where
    at : (b : Bool) → cond b (Some p.1) (listed_value ps n) ≡ None → (listed_value ps n ≡ None → listed_value (ps ++ pair ∷ []) n ≡ cond (pair.0.0 == n.0) (Some pair.1) None)
        → cond b (Some p.1) (listed_value (ps ++ pair ∷ []) n) ≡ cond (pair.0.0 == n.0) (Some pair.1) None
    at true q rest = cc
    at false q rest = rest q

value-other : (pairs : List (NodeNo × ℕ)) (pair : NodeNo × ℕ) (n : NodeNo) → pair.0.0 ≢ n.0 → listed_value (pairs ++ pair ∷ []) n ≡ listed_value pairs n
value-other [] pair n ne = ap (λ b. cond b (Some pair.1) None) (ne_eqb _ _ ne)
value-other (p ∷ ps) pair n ne = ap (λ o. cond (p.0.0 == n.0) (Some p.1) o) (value-other ps pair n ne)

pub no_pairs : (listed : List Reached) → ArePairs listed [] 0
no_pairs listed = record { low = λ n lt. absurd (omega arith); high = λ n le. refl; below = λ k d lt. absurd (omega arith); rising = λ k lt. absurd (omega arith) }

-- the number of a node that isn't listed is passed over
pub pass_pair : (listed : List Reached) (pairs : List (NodeNo × ℕ)) (i : ℕ) → ArePairs listed pairs i → ((n : NodeNo) → n.0 ≡ i → distance_of listed n ≡ None) → ArePairs listed pairs (i + 1)
pass_pair listed pairs i p none = record {
  low = λ n lt. ⊎_elim (λ a. p.low n a) (λ b. let e : n.0 ≡ i = omega arith in p.high n (omega arith) ∙ sym (none n e)) (cases_lt n.0 i);
  high = λ n le. p.high n (omega arith);
  below = λ k d lt. let b = p.below k d lt in omega arith;
  rising = p.rising;
}

-- that of one that is gets its distance
pub push_pair : (listed : List Reached) (pairs : List (NodeNo × ℕ)) (i : ℕ) → ArePairs listed pairs i → (pair : NodeNo × ℕ) → pair.0.0 ≡ i → distance_of listed pair.0 ≡ Some pair.1 → ArePairs listed (pairs ++ pair ∷ []) (i + 1)
push_pair listed pairs i p pair at has = record {
  low = λ n lt. ⊎_elim (λ a. value-other pairs pair n (λ e. let q : n.0 < i = a in absurd (omega arith)) ∙ p.low n a)
      (λ b. let e : pair.0.0 ≡ n.0 = omega arith in value-push pairs pair n (p.high n b) ∙ ap (λ t. cond t (Some pair.1) None) (eq-eqb _ _ e) ∙ sym has ∙ ap (distance_of listed) (same_node e)) (cases_lt n.0 i);
  high = λ n le. value-other pairs pair n (λ e. absurd (omega arith)) ∙ p.high n (omega arith);
  below = λ k d lt. below_now k d lt;
  rising = rising_now;
}
  where
    same : map number_of (pairs ++ pair ∷ []) ≡ map number_of pairs ++ pair.0.0 ∷ []
    same = map_push number_of pairs pair

    many : length (map number_of (pairs ++ pair ∷ [])) ≡ length (map number_of pairs) + 1
    many = ap length same ∙ length_push (map number_of pairs) pair.0.0

    old_at : (k d : ℕ) → k < length (map number_of pairs) → get_or (map number_of (pairs ++ pair ∷ [])) k d ≡ get_or (map number_of pairs) k d
    old_at k d lt = ap (λ ns. get_or ns k d) same ∙ get_or_append_left (map number_of pairs) (pair.0.0 ∷ []) d k lt

    new_at : (k d : ℕ) → length (map number_of pairs) ≡ k → get_or (map number_of (pairs ++ pair ∷ [])) k d ≡ pair.0.0
    new_at k d e = ap (λ ns. get_or ns k d) same ∙ get_or_push (map number_of pairs) pair.0.0 d k e

    below_now : (k d : ℕ) → k < length (map number_of (pairs ++ pair ∷ [])) → get_or (map number_of (pairs ++ pair ∷ [])) k d < i + 1
    below_now k d lt = ⊎_elim (λ a. let b = p.below k d a in let e = old_at k d a in omega arith) (λ b. let m = many in let e = new_at k d (omega arith) in omega arith) (cases_lt k (length (map number_of pairs)))

    rising_now : IsRising (pairs ++ pair ∷ [])
    rising_now k lt = ⊎_elim
        (λ a. let r = p.rising k a in let x = old_at k 0 (omega arith) in let y = old_at (k + 1) 0 a in omega arith)
        (λ b. let m = many in let x = old_at k 0 (omega arith) in let y = new_at (k + 1) 0 (omega arith) in let z = p.below k 0 (omega arith) in omega arith)
        (cases_lt (k + 1) (length (map number_of pairs)))

-- at the end each node has its distance
pub all_pairs : (listed : List Reached) (marks : List Mark) → ArePlaces listed marks → (pairs : List (NodeNo × ℕ)) (i : ℕ) → length marks ≤ i → ArePairs listed pairs i → (n : NodeNo) → listed_value pairs n ≡ distance_of listed n
all_pairs listed marks places pairs i end p n = ⊎_elim (p.low n) (λ b. p.high n b ∙ sym (unlisted listed marks places n (λ k e. (let q = get_or_past marks n.0 Unseen (omega arith) in cc)))) (cases_lt n.0 i)

-- the place that a mark tells is one of the list
pub place_within : (listed read : List Reached) (marks : List Mark) → ArePlaces listed marks → read ≡ listed → (i k : ℕ) → get_or marks i Unseen ≡ Settled k → k < length read
place_within listed read marks places er i k e =
    let st = places.stands (record { 0 = i }) k e in
    let w = slice_get_within listed k st.0 st.1 in
    let l = ap length er in
    omega arith

-- a step of the loop that takes the pairs from the marks
pub more_pairs : (listed read : List Reached) (marks : List Mark) → ArePlaces listed marks → read ≡ listed → (pairs new : List (NodeNo × ℕ)) (i k : ℕ) (d : Reached) → ArePairs listed pairs i
    → get_or marks i Unseen ≡ Settled k → new ≡ pairs ++ ((get_or read k d).node, (get_or read k d).distance) ∷ [] → ArePairs listed new (i + 1)
more_pairs listed read marks places er pairs new i k d p e made =
    let st = places.stands (record { 0 = i }) k e in
    let here : get_or read k d ≡ st.0 = ap (λ (rs : List Reached). get_or rs k d) er ∙ get_or_from_slice_get listed k st.0 d st.1 in
    let number : (get_or read k d).node.0 ≡ i = ap (λ (r : Reached). r.node.0) here ∙ ap (λ (n : NodeNo). n.0) st.2 in
    let has : distance_of listed (get_or read k d).node ≡ Some (get_or read k d).distance = stands_distance listed marks places (get_or read k d).node k (get_or read k d, st.1 ∙ ap Some (sym here), refl) in
    subst (λ (ps : List (NodeNo × ℕ)). ArePairs listed ps (i + 1)) (sym made) (push_pair listed pairs i p ((get_or read k d).node, (get_or read k d).distance) number has)

pub same_pairs : (listed : List Reached) (marks : List Mark) → ArePlaces listed marks → (pairs new : List (NodeNo × ℕ)) (i : ℕ) → ArePairs listed pairs i
    → ((k : ℕ) → get_or marks i Unseen ≡ Settled k → ⊥) → new ≡ pairs → ArePairs listed new (i + 1)
same_pairs listed marks places pairs new i p never made =
    subst (λ (ps : List (NodeNo × ℕ)). ArePairs listed ps (i + 1)) (sym made)
    (pass_pair listed pairs i p (λ n e. unlisted listed marks places n (λ k m. never k (ap (λ j. get_or marks j Unseen) (sym e) ∙ m))))
