use Rattle.std.proofs.Common.{◌≡◌, ℕ, zero, suc, ◌+◌, ◌-◌, ◌<◌, ◌≤◌, ◌==◌, ◌||◌, ◌⊎◌, inl, inr, Bool, true, false, cond, List, [], ◌∷◌, ◌++◌, map, length, get_or, Option, Some, None, sym, refl, ap, ◌∙◌, subst, arith}
use Rattle.std.specs.Prelude.{slice_get, slice_index}
use Rattle.std.specs.List.{list_any}
use Rattle.std.proofs.lemmas.Bool.{cases_eq, and_parts, eqb-true}
use Rattle.std.proofs.lemmas.Option.{slice_get_within, get_or_from_slice_get}
use Rattle.ride_base.specs.declared.numbers.RequestNo.{RequestNo}
use Rattle.road_graph.specs.declared.road.NodeNo.{NodeNo}
use Rattle.road_graph.specs.Graphs.{IsGraph}
use Rattle.road_graph.specs.Paths.{Path, length_of}
use Rattle.road_graph.specs.Roads.{Roads, IsNode}
use Rattle.road_graph.specs.Walks.{IsWalk, IsLeastWalk}
use Rattle.road_graph.proofs.WalkLaws.{dist_short, each_is_node, has_distance, triangle, walk_after}
use Rattle.stop_schedule.specs.declared.stop.Front.{Front}
use Rattle.stop_schedule.specs.declared.stop.Stop.{Stop}
use Rattle.stop_schedule.specs.declared.stop.StopKind.{StopKind}
use Rattle.stop_schedule.specs.declared.stop.StopKind.TheVariants.{Pickup, Dropoff}
use Rattle.stop_schedule.specs.Distances.{AreLeastWalks}
use Rattle.stop_schedule.specs.Fronts.{IsAhead, front_of}
use Rattle.stop_schedule.specs.Keeping.{IsProper, HasLeastWalks, is_pickup, picks_up}
use Rattle.stop_schedule.specs.Lists.{node_at, node_or}
use Rattle.stop_schedule.specs.Plans.{Plan}
use Rattle.stop_schedule.proofs.FrontLaws.{on_leg}
use Rattle.stop_removal.specs.Removals.{joint_ends, joint_over, leg_to}
use Rattle.board_core.specs.BoardCalls.{AreWaysBetween}
use Rattle.board_core.specs.Changes.{AreJoinable, IsGraphOf, IsNextStop}
use Rattle.board_core.proofs.Chains.{node_from_is}
use Rattle.board_core.proofs.Inserts.{within}

-- The stops of a number in a list, and walks over them.

-- one of a list that passes
any_found : {X : Type 0} (test : X → Bool) (xs : List X) → list_any test xs ≡ true → (k : ℕ) × (x : X) × (slice_get xs k ≡ Some x) × (test x ≡ true)
any_found test [] h = absurd (let bad : false ≡ true = h in cc)
any_found {X = X} test (y ∷ xs) h = on (test y) refl h (any_found test xs)
  where
    on : (b : Bool) → test y ≡ b → (b || list_any test xs) ≡ true → (list_any test xs ≡ true → (k : ℕ) × (x : X) × (slice_get xs k ≡ Some x) × (test x ≡ true))
        → (k : ℕ) × (x : X) × (slice_get (y ∷ xs) k ≡ Some x) × (test x ≡ true)
    on true e h rest = (0, y, refl, e)
    on false e h rest = let r = rest h in (suc r.0, r.1, r.2, r.3)

pub kind_of : (kind : StopKind) → is_pickup kind ≡ true → kind ≡ Pickup
kind_of Pickup h = refl
kind_of Dropoff h = absurd (let bad : false ≡ true = h in cc)

number_of : (a b : RequestNo) → (a.0 == b.0) ≡ true → a ≡ b
number_of a b h = ap (λ (k : ℕ). let r : RequestNo = record { 0 = k } in r) (eqb-true a.0 b.0 h)

-- the pickup of a number
pub next_pickup : (number : RequestNo) (stops : List Stop) → list_any (picks_up number) stops ≡ true → (at : ℕ) × IsNextStop stops Pickup number 0 at
next_pickup number stops h = let f = any_found (picks_up number) stops h in let p = and_parts _ _ f.3 in let e : suc f.0 - 1 ≡ f.0 = omega arith in
    (suc f.0, record { stop = f.1; behind = omega arith; stands = ap (slice_get stops) e ∙ f.2; is_kind = kind_of f.1.kind p.0; is_number = number_of f.1.no number p.1 })

-- and the dropoff behind it
pub next_dropoff : (p : Plan) (number : RequestNo) (from : ℕ) → IsProper p → IsNextStop p.stops Pickup number 0 from → (at : ℕ) × IsNextStop p.stops Dropoff number from at
next_dropoff p number from proper n = let d = proper.dropped_off_later (from - 1) n.stop n.stands n.is_kind in let e : suc d.0 - 1 ≡ d.0 = omega arith in
    (suc d.0, record { stop = d.1; behind = (let l = d.2 in let b = n.behind in omega arith); stands = ap (slice_get p.stops) e ∙ d.3; is_kind = d.4; is_number = d.5 ∙ n.is_number })

-- a stop that isn't one is passed over
pub next_not : (stops : List Stop) (kind : StopKind) (number : RequestNo) (from at k : ℕ) (s : Stop) (is : Bool) → IsNextStop stops kind number from at → k < at
    → (((get_or stops k s).kind ≡ kind) × ((get_or stops k s).no ≡ number) → is ≡ true) → is ≡ false → k + 1 < at
next_not stops kind number from at k s is n l told h = on (cases_eq at (k + 1))
  where
    on : (at ≡ k + 1) ⊎ (at ≡ k + 1 → ⊥) → k + 1 < at
    on (inl e) = let i : k ≡ at - 1 = omega arith in let x : get_or stops k s ≡ n.stop = get_or_from_slice_get stops k n.stop s (ap (slice_get stops) i ∙ n.stands) in
        absurd (let bad : false ≡ true = sym h ∙ told (ap (λ (t : Stop). t.kind) x ∙ n.is_kind, ap (λ (t : Stop). t.no) x ∙ n.is_number) in cc)
    on (inr e) = omega arith

-- ---- walks along a schedule

abbrev Way : Roads → NodeNo → NodeNo → Type 0
Way g u v = (nodes : List NodeNo) × (x : ℕ) × IsWalk g u v nodes x

way_on : (g : Roads) (u v w : NodeNo) → Way g u v → Way g v w → Way g u w
way_on g u v w a b = let c = walk_after g a.0 u v w a.1 a.2 b.0 b.1 b.2 in (c.0, a.1 + b.1, c.1)

-- what is so of a schedule at a clock
pub record IsDriven (g : Roads) (clock : ℕ) (p : Plan) : Type 0 where
  pub proper : IsProper p
  pub least : HasLeastWalks g p
  pub ahead : IsAhead p clock

-- the node of a stop
stop_node : (front : Front) (stops : List Stop) (k : ℕ) (s : Stop) → slice_get stops k ≡ Some s → node_at front stops (suc k) ≡ s.node
stop_node front stops k s e = node_from_is front.node front.node stops (suc k) ∙ ap (node_or front.node) e

-- from one stop, or from the front, to the next one
step_way : (g : Roads) → IsGraph g → (clock : ℕ) (p : Plan) → IsDriven g clock p → (k : ℕ) (s : Stop) → slice_get p.stops k ≡ Some s → Way g (node_at (front_of p clock) p.stops k) s.node
step_way g graph clock p d zero s e = on p.legs refl
  where
    on : (legs : List Path) → p.legs ≡ legs → Way g (front_of p clock).node s.node
    on [] q = absurd (let l = slice_get_within p.stops 0 s e in let m = d.proper.as_many_legs in let n = ap length q in omega arith)
    on (leg ∷ legs) q = let w : IsLeastWalk g p.place s.node leg = subst (λ (o : Option Stop). IsLeastWalk g p.place (node_or p.place o) leg) e (d.least 0 leg (ap (λ (l : List Path). slice_get l 0) q)) in
        let a = d.ahead (let l = slice_get_within p.stops 0 s e in omega arith) in
        let f : slice_index (map length_of p.legs) 0 ≡ length_of leg = ap (λ (l : List Path). slice_index (map length_of l) 0) q in
        let r = (on_leg g (triangle g graph) (has_distance g graph) p s.node leg legs clock q w (omega arith)).ahead.reached in (r.0, _, r.1)
step_way g graph clock p d (suc k) s e =
    let l = slice_get_within p.stops (suc k) s e in
    let before = within p.stops k (omega arith) in
    let leg = within p.legs (suc k) (let m = d.proper.as_many_legs in omega arith) in
    let w = d.least (suc k) leg.0 leg.1 in
    let from : cond (suc k == 0) p.place (node_or p.place (slice_get p.stops (suc k - 1))) ≡ node_at (front_of p clock) p.stops (suc k) = node_from_is p.place p.place p.stops (suc k) ∙ ap (node_or p.place) before.1 ∙ sym (stop_node (front_of p clock) p.stops k before.0 before.1) in
    let to : node_or p.place (slice_get p.stops (suc k)) ≡ s.node = ap (node_or p.place) e in
    let v : IsLeastWalk g (node_at (front_of p clock) p.stops (suc k)) s.node leg.0 = subst (λ (n : NodeNo). IsLeastWalk g n s.node leg.0) from (subst (λ (n : NodeNo). IsLeastWalk g (cond (suc k == 0) p.place (node_or p.place (slice_get p.stops (suc k - 1)))) n leg.0) to w) in
    (leg.0.nodes, length_of leg.0, (v.joins, v.measured.whole))

-- over one stop
over_way : (g : Roads) → IsGraph g → (clock : ℕ) (p : Plan) → IsDriven g clock p → (k : ℕ) (t : Stop) → slice_get p.stops (suc k) ≡ Some t → Way g (node_at (front_of p clock) p.stops k) t.node
over_way g graph clock p d k t e = let l = slice_get_within p.stops (suc k) t e in let s = within p.stops k (omega arith) in
    way_on g _ s.0.node t.node (step_way g graph clock p d k s.0 s.1)
    (subst (λ (n : NodeNo). Way g n t.node) (stop_node (front_of p clock) p.stops k s.0 s.1) (step_way g graph clock p d (suc k) t e))

-- over two stops
over_both_way : (g : Roads) → IsGraph g → (clock : ℕ) (p : Plan) → IsDriven g clock p → (k : ℕ) (t : Stop) → slice_get p.stops (suc (suc k)) ≡ Some t → Way g (node_at (front_of p clock) p.stops k) t.node
over_both_way g graph clock p d k t e = let l = slice_get_within p.stops (suc (suc k)) t e in let s = within p.stops k (omega arith) in
    way_on g _ s.0.node t.node (step_way g graph clock p d k s.0 s.1)
    (subst (λ (n : NodeNo). Way g n t.node) (stop_node (front_of p clock) p.stops k s.0 s.1) (over_way g graph clock p d (suc k) t e))

-- ---- the joined legs

-- each place is a node
place_node : (g : Roads) (front : Front) (stops : List Stop) → IsNode g front.node → ((k : ℕ) (s : Stop) → slice_get stops k ≡ Some s → IsNode g s.node) → (k : ℕ) → IsNode g (node_at front stops k)
place_node g front stops f all zero = f
place_node g front stops f all (suc k) = subst (IsNode g) (sym (node_from_is front.node front.node stops (suc k))) (on (slice_get stops k) refl)
  where
    on : (o : Option Stop) → slice_get stops k ≡ o → IsNode g (node_or front.node o)
    on None e = f
    on (Some s) e = all k s e

joint_joinable : (g : Roads) (front : Front) (stops : List Stop) → IsNode g front.node → ((k : ℕ) (s : Stop) → slice_get stops k ≡ Some s → IsNode g s.node) → (from b : ℕ)
    → ((t : Stop) → slice_get stops b ≡ Some t → IsGraph g → Way g (node_at front stops from) t.node) → AreJoinable g (joint_over front stops from b)
joint_joinable g front stops f all from b way = on (slice_get stops b) refl
  where
    on : (o : Option Stop) → slice_get stops b ≡ o → AreJoinable g (leg_to (node_at front stops from) o)
    on None e = tt
    on (Some t) e = (record { from = place_node g front stops f all from; to = all b t e; way = way t e }, tt)

both_joinable : (g : Roads) (xs ys : List (NodeNo × NodeNo)) → AreJoinable g xs → AreJoinable g ys → AreJoinable g (xs ++ ys)
both_joinable g [] ys h i = i
both_joinable g (x ∷ xs) ys h i = (h.0, both_joinable g xs ys h.1 i)

-- the ends of the legs that a removal joins
pub joints_joinable : (g : Roads) (clock : ℕ) (p : Plan) (a b : ℕ) → IsDriven g clock p → IsNode g (front_of p clock).node → ((k : ℕ) (s : Stop) → slice_get p.stops k ≡ Some s → IsNode g s.node) → 1 ≤ a → a < b
    → AreJoinable g (joint_ends p.stops (front_of p clock) a b)
joints_joinable g clock p a b d f all h l = on (b == a + 1) refl
  where
    two : suc (a - 1) ≡ a
    two = omega arith

    on : (c : Bool) → (b == a + 1) ≡ c → AreJoinable g (cond c (joint_over (front_of p clock) p.stops (a - 1) b) (joint_over (front_of p clock) p.stops (a - 1) a ++ joint_over (front_of p clock) p.stops (b - 1) b))
    on true e = joint_joinable g (front_of p clock) p.stops f all (a - 1) b (λ t q graph. over_both_way g graph clock p d (a - 1) t
        (let same = eqb-true b (a + 1) e in let i : suc (suc (a - 1)) ≡ b = omega arith in ap (slice_get p.stops) i ∙ q))
    on false e = both_joinable g (joint_over (front_of p clock) p.stops (a - 1) a) (joint_over (front_of p clock) p.stops (b - 1) b)
        (joint_joinable g (front_of p clock) p.stops f all (a - 1) a (λ t q graph. over_way g graph clock p d (a - 1) t (ap (slice_get p.stops) two ∙ q)))
        (joint_joinable g (front_of p clock) p.stops f all (b - 1) b (λ t q graph. over_way g graph clock p d (b - 1) t (let i : suc (b - 1) ≡ b = omega arith in ap (slice_get p.stops) i ∙ q)))

-- ---- least walks as ways

least_ways : (g : Roads) → IsGraph g → (ends : List (NodeNo × NodeNo)) (walks : List Path) → AreLeastWalks g ends walks → AreWaysBetween g.nodes ends walks
least_ways g graph [] walks w = w
least_ways g graph (e ∷ ends) [] w = absurd w
least_ways g graph (e ∷ ends) (v ∷ walks) w = (
  record { joins = w.0.joins; within = λ k n q. each_is_node g graph v.nodes (length_of v) k n w.0.measured.whole q; short = dist_short g graph e.0 e.1 (length_of v) w.0.least },
  least_ways g graph ends walks w.1,
)

pub ways_of : (g : Roads) (ends : List (NodeNo × NodeNo)) (walks : List Path) → IsGraphOf g ends → AreLeastWalks g ends walks → AreWaysBetween g.nodes ends walks
ways_of g [] walks graph w = w
ways_of g (e ∷ ends) walks graph w = least_ways g graph (e ∷ ends) walks w
