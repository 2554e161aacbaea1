use Rattle.std.proofs.Common.{◌≡◌, ℕ, ◌+◌, ◌<◌, ◌≤◌, ◌^◌, List, [], ◌∷◌, ◌++◌, length, Option, Some, None, refl, subst, sym, ap, ◌∙◌, inl, inr, ◌⊎◌, get_or, arith}
use Rattle.std.specs.Prelude.{option_to_list, IfSome}
use Rattle.std.proofs.lemmas.Option.{slice_get-get_or}
use Rattle.std.proofs.lemmas.Bool.{cases_eq}
use Rattle.road_graph.specs.declared.road.NodeNo.{NodeNo}
use Rattle.road_graph.specs.Graphs.{IsGraph}
use Rattle.road_graph.specs.Roads.{Roads}
use Rattle.road_graph.specs.Walks.{IsDist, NoWalk}
use Rattle.road_graph.proofs.WalkLaws.{dist_short}
use Rattle.stop_schedule.specs.declared.request.Request.{Request}
use Rattle.stop_schedule.specs.declared.stop.Front.{Front}
use Rattle.stop_schedule.specs.declared.stop.Insertion.{Insertion}
use Rattle.stop_schedule.specs.declared.stop.Stop.{Stop}
use Rattle.stop_schedule.specs.Lists.{node_at, changed_ends}
use Rattle.insertion_cost.specs.declared.spans.Spans.{Spans}
use Rattle.stop_schedule.specs.Distances.{AreDistances}
use Rattle.insertion_cost.specs.Spans.{AreSpans, lengths_of}
use Rattle.insertion_cost.specs.declared.node_ways.NodeWays.{NodeWays}
use Rattle.insertion_cost.specs.NodeWays.{AreSpansOf, AreWaysAlong, AreWaysOf, HaveShape, IsDistOrNone}
use Rattle.insertion_cost.proofs.ChangedEnds.{ends_behind, ends_together, ends_apart, one_behind, none_behind}

-- with no walk for the first pair there are no distances
pub no_first : (g : Roads) (ends : NodeNo × NodeNo) (more : List (NodeNo × NodeNo)) → NoWalk g ends.0 ends.1 → (lengths : List ℕ) → AreDistances g (ends ∷ more) lengths → ⊥
no_first g ends more lacks [] d = d
no_first g ends more lacks (x ∷ lengths) d = lacks d.0.reached.0 x d.0.reached.1

pub no_later : (g : Roads) (ends : NodeNo × NodeNo) (more : List (NodeNo × NodeNo)) → ((lengths : List ℕ) → AreDistances g more lengths → ⊥) → (lengths : List ℕ) → AreDistances g (ends ∷ more) lengths → ⊥
no_later g ends more lacks [] d = d
no_later g ends more lacks (x ∷ lengths) d = lacks lengths d.1

-- an insertion has no distances, where there is no walk out of the pickup
pub no_way_on : (g : Roads) (stops : List Stop) (front : Front) (r : Request) (at : Insertion) → (at.i ≡ at.j → ⊥) → NoWalk g r.pickup (node_at front stops (at.i + 1))
    → (lengths : List ℕ) → AreDistances g (changed_ends stops front r at) lengths → ⊥
no_way_on g stops front r at apart lacks lengths d =
    let a : NodeNo × NodeNo = (node_at front stops at.i, r.pickup) in
    let on : NodeNo × NodeNo = (r.pickup, node_at front stops (at.i + 1)) in
    let more : List (NodeNo × NodeNo) = (node_at front stops at.j, r.dropoff) ∷ ends_behind stops front r at in
    no_later g a (on ∷ more) (no_first g on more lacks) lengths (subst (λ (ends : List (NodeNo × NodeNo)). AreDistances g ends lengths) (ends_apart stops front r at apart) d)

-- into the dropoff
pub no_way_in : (g : Roads) (stops : List Stop) (front : Front) (r : Request) (at : Insertion) → (at.i ≡ at.j → ⊥) → NoWalk g (node_at front stops at.j) r.dropoff
    → (lengths : List ℕ) → AreDistances g (changed_ends stops front r at) lengths → ⊥
no_way_in g stops front r at apart lacks lengths d =
    let a : NodeNo × NodeNo = (node_at front stops at.i, r.pickup) in
    let on : NodeNo × NodeNo = (r.pickup, node_at front stops (at.i + 1)) in
    let in_ : NodeNo × NodeNo = (node_at front stops at.j, r.dropoff) in
    let more = ends_behind stops front r at in
    no_later g a (on ∷ in_ ∷ more) (no_later g on (in_ ∷ more) (no_first g in_ more lacks)) lengths (subst (λ (ends : List (NodeNo × NodeNo)). AreDistances g ends lengths) (ends_apart stops front r at apart) d)

-- or out of the dropoff
pub no_way_out : (g : Roads) (stops : List Stop) (front : Front) (r : Request) (at : Insertion) → at.j < length stops → NoWalk g r.dropoff (node_at front stops (at.j + 1))
    → (lengths : List ℕ) → AreDistances g (changed_ends stops front r at) lengths → ⊥
no_way_out g stops front r at follows lacks lengths d = on (cases_eq at.i at.j)
  where
    a : NodeNo × NodeNo
    a = (node_at front stops at.i, r.pickup)

    out : NodeNo × NodeNo
    out = (r.dropoff, node_at front stops (at.j + 1))

    on : (at.i ≡ at.j) ⊎ (at.i ≡ at.j → ⊥) → ⊥
    on (inl same) =
        let b : NodeNo × NodeNo = (r.pickup, r.dropoff) in
        let all : changed_ends stops front r at ≡ a ∷ b ∷ out ∷ [] = ends_together stops front r at same ∙ ap (λ (l : List (NodeNo × NodeNo)). a ∷ b ∷ l) (one_behind stops front r at follows) in
        no_later g a (b ∷ out ∷ []) (no_later g b (out ∷ []) (no_first g out [] lacks)) lengths (subst (λ (ends : List (NodeNo × NodeNo)). AreDistances g ends lengths) all d)
    on (inr apart) =
        let b : NodeNo × NodeNo = (r.pickup, node_at front stops (at.i + 1)) in
        let c : NodeNo × NodeNo = (node_at front stops at.j, r.dropoff) in
        let all : changed_ends stops front r at ≡ a ∷ b ∷ c ∷ out ∷ [] = ends_apart stops front r at apart ∙ ap (λ (l : List (NodeNo × NodeNo)). a ∷ b ∷ c ∷ l) (one_behind stops front r at follows) in
        no_later g a (b ∷ c ∷ out ∷ []) (no_later g b (c ∷ out ∷ []) (no_later g c (out ∷ []) (no_first g out [] lacks))) lengths (subst (λ (ends : List (NodeNo × NodeNo)). AreDistances g ends lengths) all d)

-- the distance behind the dropoff, where a stop follows
abbrev pub IsOut : Roads → List Stop → Front → Request → Insertion → Option ℕ → Type 0
IsOut g stops front r at o = AreDistances g (ends_behind stops front r at) (option_to_list o)

pub some_out : (g : Roads) (stops : List Stop) (front : Front) (r : Request) (at : Insertion) (x : ℕ) → at.j < length stops → IsDist g r.dropoff (node_at front stops (at.j + 1)) x → IsOut g stops front r at (Some x)
some_out g stops front r at x follows d = subst (λ (ends : List (NodeNo × NodeNo)). AreDistances g ends (x ∷ [])) (sym (one_behind stops front r at follows)) (d, refl)

pub none_out : (g : Roads) (stops : List Stop) (front : Front) (r : Request) (at : Insertion) → length stops ≤ at.j → IsOut g stops front r at None
none_out g stops front r at last = subst (λ (ends : List (NodeNo × NodeNo)). AreDistances g ends []) (sym (none_behind stops front r at last)) refl

pub ways_together : (g : Roads) (stops : List Stop) (front : Front) (r : Request) (at : Insertion) (x y : ℕ) (o : Option ℕ) → at.i ≡ at.j
    → IsDist g (node_at front stops at.i) r.pickup x → IsDist g r.pickup r.dropoff y → IsOut g stops front r at o → AreDistances g (changed_ends stops front r at) (x ∷ y ∷ option_to_list o)
ways_together g stops front r at x y o same first middle out = subst (λ (ends : List (NodeNo × NodeNo)). AreDistances g ends (x ∷ y ∷ option_to_list o)) (sym (ends_together stops front r at same)) (first, (middle, out))

pub ways_apart : (g : Roads) (stops : List Stop) (front : Front) (r : Request) (at : Insertion) (x y z : ℕ) (o : Option ℕ) → (at.i ≡ at.j → ⊥)
    → IsDist g (node_at front stops at.i) r.pickup x → IsDist g r.pickup (node_at front stops (at.i + 1)) y → IsDist g (node_at front stops at.j) r.dropoff z → IsOut g stops front r at o
    → AreDistances g (changed_ends stops front r at) (x ∷ y ∷ z ∷ option_to_list o)
ways_apart g stops front r at x y z o apart first second third out =
    subst (λ (ends : List (NodeNo × NodeNo)). AreDistances g ends (x ∷ y ∷ z ∷ option_to_list o)) (sym (ends_apart stops front r at apart)) (first, (second, (third, out)))

abbrev AreShort : List ℕ → Type 0
AreShort [] = Unit {0}
AreShort (x ∷ xs) = (x < 2 ^ 53) × AreShort xs

all_short : (g : Roads) → IsGraph g → (ends : List (NodeNo × NodeNo)) (lengths : List ℕ) → AreDistances g ends lengths → AreShort lengths
all_short g lawful [] lengths d = subst (λ (xs : List ℕ). AreShort xs) (sym d) tt
all_short g lawful (e ∷ ends) [] d = tt
all_short g lawful (e ∷ ends) (x ∷ lengths) d = (dist_short g lawful e.0 e.1 x d.0, all_short g lawful ends lengths d.1)

short_first : (x : ℕ) (xs : List ℕ) → AreShort (x ∷ xs) → x < 2 ^ 53
short_first x xs s = s.0

short_rest : (x : ℕ) (xs : List ℕ) → AreShort (x ∷ xs) → AreShort xs
short_rest x xs s = s.1

short_options : (o p : Option ℕ) → AreShort (option_to_list o ++ option_to_list p) → IfSome o (λ x. x < 2 ^ 53) × IfSome p (λ x. x < 2 ^ 53)
short_options None None s = (tt, tt)
short_options None (Some y) s = (tt, s.0)
short_options (Some x) None s = (s.0, tt)
short_options (Some x) (Some y) s = (s.0, short_first y [] (short_rest x (y ∷ []) s))

-- distances of a graph are short enough to reckon with
pub spans_short : (g : Roads) → IsGraph g → (ends : List (NodeNo × NodeNo)) (stops : ℕ) (at : Insertion) (s : Spans) → HaveShape stops at s → AreDistances g ends (lengths_of s) → AreSpans stops at s
spans_short g lawful ends stops at s shape d =
    let others = option_to_list s.before_dropoff ++ option_to_list s.after_dropoff in
    let short = all_short g lawful ends (lengths_of s) d in
    let rest = short_rest s.before_pickup (s.after_pickup ∷ others) short in
    let options = short_options s.before_dropoff s.after_dropoff (short_rest s.after_pickup others rest) in
    record {
      between = shape.0;
      behind = shape.1;
      before_pickup = short_first s.before_pickup (s.after_pickup ∷ others) short;
      after_pickup = short_first s.after_pickup others rest;
      before_dropoff = options.0;
      after_dropoff = options.1;
    }

abbrev pub no_ways : NodeWays
no_ways = record { to_pickup = None; from_pickup = None; to_dropoff = None; from_dropoff = None }

is_none : (g : Roads) (u v : NodeNo) (o : Option ℕ) → IsDistOrNone g u v o → o ≡ None → NoWalk g u v
is_none g u v o d e = subst (λ (x : Option ℕ). IsDistOrNone g u v x) e d

pub is_some : (g : Roads) (u v : NodeNo) (o : Option ℕ) (x : ℕ) → IsDistOrNone g u v o → o ≡ Some x → IsDist g u v x
is_some g u v o x d e = subst (λ (y : Option ℕ). IsDistOrNone g u v y) e d

-- what the distances along a vehicle's list come to for one pair of places
module _ (g : Roads) (r : Request) (front : Front) (stops : List Stop) (direct : ℕ) (ways : List NodeWays) (at : Insertion) (along : AreWaysAlong g r front stops direct ways) (order : at.i ≤ at.j) (within : at.j + 1 ≤ length ways) where
  pub at_node : (k : ℕ) → k < length ways → AreWaysOf g r (node_at front stops k) (get_or ways k no_ways)
  at_node k l = along.each k (get_or ways k no_ways) (slice_get-get_or ways k no_ways l)

  pub not_into : (get_or ways at.i no_ways).to_pickup ≡ None → AreSpansOf g (changed_ends stops front r at) None
  not_into e = no_first g (node_at front stops at.i, r.pickup) _ (is_none g _ _ _ (at_node at.i (omega arith)).to_pickup e)

  pub not_out : at.j + 1 < length ways → (get_or ways (at.j + 1) no_ways).from_dropoff ≡ None → AreSpansOf g (changed_ends stops front r at) None
  not_out l e = let many = along.many in no_way_out g stops front r at (omega arith) (is_none g _ _ _ (at_node (at.j + 1) l).from_dropoff e)

  pub not_on : (at.i ≡ at.j → ⊥) → (get_or ways (at.i + 1) no_ways).from_pickup ≡ None → AreSpansOf g (changed_ends stops front r at) None
  not_on apart e = no_way_on g stops front r at apart (is_none g _ _ _ (at_node (at.i + 1) (near apart)).from_pickup e) where
    near : (at.i ≡ at.j → ⊥) → at.i + 1 < length ways
    near apart = omega arith

  pub not_in : (at.i ≡ at.j → ⊥) → (get_or ways at.j no_ways).to_dropoff ≡ None → AreSpansOf g (changed_ends stops front r at) None
  not_in apart e = no_way_in g stops front r at apart (is_none g _ _ _ (at_node at.j (omega arith)).to_dropoff e)

  pub out_some : (x : ℕ) → at.j + 1 < length ways → (get_or ways (at.j + 1) no_ways).from_dropoff ≡ Some x → IsOut g stops front r at (Some x)
  out_some x l e = let many = along.many in some_out g stops front r at x (omega arith) (is_some g _ _ _ x (at_node (at.j + 1) l).from_dropoff e)

  pub out_none : length ways ≤ at.j + 1 → IsOut g stops front r at None
  out_none l = let many = along.many in none_out g stops front r at (omega arith)

  pub spans_together : (x : ℕ) (o : Option ℕ) → at.i ≡ at.j → (get_or ways at.i no_ways).to_pickup ≡ Some x → IsOut g stops front r at o
      → AreSpansOf g (changed_ends stops front r at) (Some (record { before_pickup = x; after_pickup = direct; before_dropoff = None; after_dropoff = o }))
  spans_together x o same e out = ways_together g stops front r at x direct o same (is_some g _ _ _ x (at_node at.i (omega arith)).to_pickup e) along.direct_way out

  pub spans_apart : (x y z : ℕ) (o : Option ℕ) → (at.i ≡ at.j → ⊥) → (get_or ways at.i no_ways).to_pickup ≡ Some x → (get_or ways (at.i + 1) no_ways).from_pickup ≡ Some y → (get_or ways at.j no_ways).to_dropoff ≡ Some z → IsOut g stops front r at o
      → AreSpansOf g (changed_ends stops front r at) (Some (record { before_pickup = x; after_pickup = y; before_dropoff = Some z; after_dropoff = o }))
  spans_apart x y z o apart e f h out =
      ways_apart g stops front r at x y z o apart (is_some g _ _ _ x (at_node at.i (omega arith)).to_pickup e) (is_some g _ _ _ y (at_node (at.i + 1) (near apart)).from_pickup f) (is_some g _ _ _ z (at_node at.j (omega arith)).to_dropoff h) out
    where
      near : (at.i ≡ at.j → ⊥) → at.i + 1 < length ways
      near apart = omega arith
