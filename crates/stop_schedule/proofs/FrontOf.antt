use Rattle.std.proofs.Common.{◌≡◌, ℕ, suc, ◌+◌, ◌-◌, ◌<◌, ◌≤◌, ◌==◌, Bool, true, false, cond, List, [], ◌∷◌, take, length, Some, None, refl, sym, ap, ◌∙◌, arith, subst, ⊎_elim}
use Rattle.std.specs.Prelude.{slice_get, slice_index, nat_le, nat_lt}
use Rattle.std.proofs.lemmas.Bool.{leb-true, le-leb, lt-leb, ltb-true, cases_lt, false≢true}
use Rattle.road_graph.specs.declared.road.NodeNo.{NodeNo}
use Rattle.road_graph.specs.Paths.{Path, length_of}
use Rattle.road_graph.specs.Graphs.{IsGraph}
use Rattle.road_graph.specs.Roads.{Roads, is_node, least_weight}
use Rattle.road_graph.specs.Walks.{both, walk_length, last_of, Joins, IsWalk, IsDist, IsMeasured, IsLeastWalk}
use Rattle.road_graph.proofs.WalkLaws.{parts, weight_is_light}
use Rattle.stop_schedule.specs.declared.stop.Front.{Front}
use Rattle.stop_schedule.specs.declared.stop.Stop.{Stop}
use Rattle.stop_schedule.specs.Keeping.{HasLeastWalks}
use Rattle.stop_schedule.specs.Limits.{latest_moment, latest_front}
use Rattle.stop_schedule.specs.Lists.{node_or}
use Rattle.stop_schedule.specs.Plans.{Plan}
use Rattle.std.proofs.lemmas.Option.{none-some, same_Some}
use Rattle.stop_schedule.specs.Fronts.{first_reached, front_on, front_of}

-- the rest of a walk behind a node at an offset: each road is as long as the offsets differ
abbrev pub Runs : Roads → NodeNo → ℕ → List NodeNo → List ℕ → Type 0
Runs g n o [] offsets = (is_node g.nodes n ≡ true) × (offsets ≡ [])
Runs g n o (m ∷ nodes) [] = ⊥
Runs g n o (m ∷ nodes) (q ∷ offsets) = (is_node g.nodes n ≡ true) × (o ≤ q) × (least_weight g.roads n m ≡ Some (q - o)) × Runs g m q nodes offsets

-- the offset of the last node
abbrev pub last_offset : ℕ → List ℕ → ℕ
last_offset o [] = o
last_offset o (q ∷ offsets) = last_offset q offsets

-- one node more at the head of a walk
pub walk_from : (g : Roads) (n m v : NodeNo) (w x : ℕ) (nodes : List NodeNo) → least_weight g.roads n m ≡ Some w → IsWalk g m v nodes x → IsWalk g n v (n ∷ nodes) (w + x)
walk_from g n m v w x [] road walk = absurd walk.0
walk_from g n m v w x (k ∷ nodes) road walk =
    ((refl, walk.0.1), subst (λ (j : NodeNo). both (least_weight g.roads n j) (walk_length g (k ∷ nodes)) ≡ Some (w + x)) (sym walk.0.0) (rw (road, walk.1) refl))

-- a walk of one node
pub walk_of_one : (g : Roads) (n : NodeNo) → is_node g.nodes n ≡ true → IsWalk g n n (n ∷ []) 0
walk_of_one g n h = ((refl, refl), rw h refl)

-- what is so of the front that a vehicle reaches on a walk, seen from the walk's first node
pub record IsReached (g : Roads) (departure now : ℕ) (n : NodeNo) (o : ℕ) (f : Front) : Type 0 where
  pub nodes : List NodeNo
  pub way : ℕ
  pub walk : IsWalk g n f.node nodes way
  pub offset : o + way ≡ f.offset
  pub time : f.time ≡ departure + f.offset
  pub late : now ≤ f.time

here : (g : Roads) (departure now : ℕ) (n : NodeNo) (o : ℕ) → is_node g.nodes n ≡ true → now ≤ departure + o → IsReached g departure now n o (record { node = n; time = departure + o; offset = o })
here g departure now n o h l = record { nodes = n ∷ []; way = 0; walk = walk_of_one g n h; offset = omega arith; time = refl; late = l }

further : (g : Roads) (departure now : ℕ) (n m : NodeNo) (o q : ℕ) (f : Front) → o ≤ q → least_weight g.roads n m ≡ Some (q - o) → IsReached g departure now m q f → IsReached g departure now n o f
further g departure now n m o q f l road r = record { nodes = n ∷ r.nodes; way = q - o + r.way; walk = walk_from g n m f.node (q - o) r.way r.nodes road r.walk; offset = (let e = r.offset in omega arith); time = r.time; late = r.late }

-- whether or not the first node is the front
either : (g : Roads) (departure now : ℕ) (n : NodeNo) (o : ℕ) (f : Front) (b : Bool) → nat_le now (departure + o) ≡ b → is_node g.nodes n ≡ true → (b ≡ false → IsReached g departure now n o f)
    → IsReached g departure now n o (cond b (record { node = n; time = departure + o; offset = o }) f)
either g departure now n o f true e h more = here g departure now n o h (leb-true now (departure + o) e)
either g departure now n o f false e h more = more refl

-- the front is on the walk
pub reaches : (g : Roads) (place : NodeNo) (departure now : ℕ) (n : NodeNo) (o : ℕ) (nodes : List NodeNo) (offsets : List ℕ) → Runs g n o nodes offsets → now ≤ departure + last_offset o offsets
    → IsReached g departure now n o (first_reached place departure now (n ∷ nodes) (o ∷ offsets))
reaches g place departure now n o [] [] runs soon = either g departure now n o _ (nat_le now (departure + o)) refl runs.0 (λ e. absurd (false≢true (sym e ∙ le-leb now (departure + o) soon)))
reaches g place departure now n o [] (q ∷ offsets) runs soon = let e = ap length runs.1 in absurd (omega arith)
reaches g place departure now n o (m ∷ nodes) [] runs soon = absurd runs
reaches g place departure now n o (m ∷ nodes) (q ∷ offsets) runs soon =
    let more = reaches g place departure now m q nodes offsets runs.3 soon in
    either g departure now n o _ (nat_le now (departure + o)) refl runs.0 (λ e. further g departure now n m o q _ runs.1 runs.2 more)

-- What two fronts on one walk have to each other: the latter is reached from the former along the walk.
pub record IsFurther (g : Roads) (departure now now' : ℕ) (f f' : Front) : Type 0 where
  pub former : f.time ≡ departure + f.offset
  pub ahead : IsReached g departure now' f.node f.offset f'

-- whether or not the first node is the former
either_further : (g : Roads) (departure now now' : ℕ) (n : NodeNo) (o : ℕ) (f f' : Front) (b : Bool) → IsReached g departure now' n o f' → (b ≡ false → IsFurther g departure now now' f f')
    → IsFurther g departure now now' (cond b (record { node = n; time = departure + o; offset = o }) f) f'
either_further g departure now now' n o f f' true r more = record { former = refl; ahead = r }
either_further g departure now now' n o f f' false r more = more refl

not_yet : (a b : ℕ) → nat_le a b ≡ false → b < a
not_yet a b e = ⊎_elim (λ (l : b < a). l) (λ (g : a ≤ b). absurd (false≢true (sym e ∙ le-leb a b g))) (cases_lt b a)

pub goes_on : (g : Roads) (place : NodeNo) (departure now now' : ℕ) (n : NodeNo) (o : ℕ) (nodes : List NodeNo) (offsets : List ℕ) → Runs g n o nodes offsets → now ≤ now' → now' ≤ departure + last_offset o offsets
    → IsFurther g departure now now' (first_reached place departure now (n ∷ nodes) (o ∷ offsets)) (first_reached place departure now' (n ∷ nodes) (o ∷ offsets))
goes_on g place departure now now' n o [] [] runs order soon =
    either_further g departure now now' n o _ _ (nat_le now (departure + o)) (reaches g place departure now' n o [] [] runs soon) (λ e. absurd (false≢true (sym e ∙ le-leb now (departure + o) (omega arith))))
goes_on g place departure now now' n o [] (q ∷ offsets) runs order soon = let e = ap length runs.1 in absurd (omega arith)
goes_on g place departure now now' n o (m ∷ nodes) [] runs order soon = absurd runs
goes_on g place departure now now' n o (m ∷ nodes) (q ∷ offsets) runs order soon =
    let more = goes_on g place departure now now' m q nodes offsets runs.3 order soon in
    let rest = first_reached place departure now' (m ∷ nodes) (q ∷ offsets) in
    either_further g departure now now' n o _ _ (nat_le now (departure + o)) (reaches g place departure now' n o (m ∷ nodes) (q ∷ offsets) runs soon)
    (λ e. let l = not_yet now (departure + o) e in
    let same : nat_le now' (departure + o) ≡ false = lt-leb now' (departure + o) (omega arith) in
    subst (λ (b : Bool). IsFurther g departure now now' (first_reached place departure now (m ∷ nodes) (q ∷ offsets)) (cond b (record { node = n; time = departure + o; offset = o }) rest)) (sym same) more)

-- the whole rest of a walk
whole_way : (g : Roads) (n : NodeNo) (o : ℕ) (nodes : List NodeNo) (offsets : List ℕ) → Runs g n o nodes offsets → (way : ℕ) × IsWalk g n (last_of n nodes) (n ∷ nodes) way × (o + way ≡ last_offset o offsets)
whole_way g n o [] [] runs = (0, walk_of_one g n runs.0, omega arith)
whole_way g n o [] (q ∷ offsets) runs = let e = ap length runs.1 in absurd (omega arith)
whole_way g n o (m ∷ nodes) [] runs = absurd runs
whole_way g n o (m ∷ nodes) (q ∷ offsets) runs =
    let rest = whole_way g m q nodes offsets runs.3 in
    let l = runs.1 in let e = rest.2 in
    (q - o + rest.0, walk_from g n m (last_of m nodes) (q - o) rest.0 (m ∷ nodes) runs.2 rest.1, omega arith)

-- what is left of a walk from a front on
pub record IsLeft (g : Roads) (last : NodeNo) (all : ℕ) (f : Front) : Type 0 where
  pub nodes : List NodeNo
  pub way : ℕ
  pub walk : IsWalk g f.node last nodes way
  pub offset : f.offset + way ≡ all

left_either : (g : Roads) (departure : ℕ) (n last : NodeNo) (o all : ℕ) (f : Front) (b : Bool) → IsLeft g last all (record { node = n; time = departure + o; offset = o }) → (b ≡ false → IsLeft g last all f)
    → IsLeft g last all (cond b (record { node = n; time = departure + o; offset = o }) f)
left_either g departure n last o all f true r more = r
left_either g departure n last o all f false r more = more refl

pub leads_on : (g : Roads) (place : NodeNo) (departure now : ℕ) (n : NodeNo) (o : ℕ) (nodes : List NodeNo) (offsets : List ℕ) → Runs g n o nodes offsets → now ≤ departure + last_offset o offsets
    → IsLeft g (last_of n nodes) (last_offset o offsets) (first_reached place departure now (n ∷ nodes) (o ∷ offsets))
leads_on g place departure now n o [] [] runs soon =
    let all = whole_way g n o [] [] runs in
    left_either g departure n n o o _ (nat_le now (departure + o)) (record { nodes = n ∷ []; way = all.0; walk = all.1; offset = all.2 }) (λ e. absurd (false≢true (sym e ∙ le-leb now (departure + o) soon)))
leads_on g place departure now n o [] (q ∷ offsets) runs soon = let e = ap length runs.1 in absurd (omega arith)
leads_on g place departure now n o (m ∷ nodes) [] runs soon = absurd runs
leads_on g place departure now n o (m ∷ nodes) (q ∷ offsets) runs soon =
    let all = whole_way g n o (m ∷ nodes) (q ∷ offsets) runs in
    left_either g departure n (last_of m nodes) o (last_offset q offsets) _ (nat_le now (departure + o)) (record { nodes = n ∷ m ∷ nodes; way = all.0; walk = all.1; offset = all.2 })
    (λ _. leads_on g place departure now m q nodes offsets runs.3 soon)

-- each prefix of a walk behind a node is as long as the offsets differ
abbrev pub ArePrefixes : Roads → NodeNo → ℕ → List NodeNo → List ℕ → Type 0
ArePrefixes g n o nodes offsets = (k : ℕ) → k ≤ length nodes → (y : ℕ) × (walk_length g (n ∷ take k nodes) ≡ Some y) × (o + y ≡ slice_index (o ∷ offsets) k)

node_there : (g : Roads) (n : NodeNo) (y : ℕ) → walk_length g (n ∷ []) ≡ Some y → is_node g.nodes n ≡ true
node_there g n y h = go (is_node g.nodes n) h where
  go : (b : Bool) → cond b (Some 0) None ≡ Some y → b ≡ true
  go true e = refl
  go false e = cc

pub prefixes_run : (g : Roads) (n : NodeNo) (o : ℕ) (nodes : List NodeNo) (offsets : List ℕ) → length offsets ≡ length nodes → ArePrefixes g n o nodes offsets → Runs g n o nodes offsets
prefixes_run g n o [] [] many all = (node_there g n (all 0 (omega arith)).0 (all 0 (omega arith)).1, refl)
prefixes_run g n o [] (q ∷ offsets) many all = absurd (omega arith)
prefixes_run g n o (m ∷ nodes) [] many all = absurd (omega arith)
prefixes_run g n o (m ∷ nodes) (q ∷ offsets) many all =
    let first = all 0 (omega arith) in
    let second = all 1 (omega arith) in
    let p = parts (least_weight g.roads n m) (walk_length g (m ∷ [])) second.0 second.1 in
    let zero_left : p.1 ≡ 0 = alone m p.1 p.3 in
    let s = p.4 in let e : o + second.0 ≡ q = second.2 in
    let w : p.0 ≡ q - o = omega arith in (
      node_there g n first.0 first.1,
      omega arith,
      p.2 ∙ ap (λ (x : ℕ). Some x) w,
      prefixes_run g m q nodes offsets (omega arith) (λ k l. rest p.0 p.2 (omega arith) k l (all (suc k) (omega arith))),
    )
  where
    alone : (m : NodeNo) (y : ℕ) → walk_length g (m ∷ []) ≡ Some y → y ≡ 0
    alone m y h = go (is_node g.nodes m) h where
      go : (b : Bool) → cond b (Some 0) None ≡ Some y → y ≡ 0
      go true e = cc
      go false e = cc

    rest : (w : ℕ) → least_weight g.roads n m ≡ Some w → o + w ≡ q → (k : ℕ) → k ≤ length nodes → (y : ℕ) × (walk_length g (n ∷ m ∷ take k nodes) ≡ Some y) × (o + y ≡ slice_index (q ∷ offsets) k)
        → (y : ℕ) × (walk_length g (m ∷ take k nodes) ≡ Some y) × (q + y ≡ slice_index (q ∷ offsets) k)
    rest w road l k b h =
        let p = parts (least_weight g.roads n m) (walk_length g (m ∷ take k nodes)) h.0 h.1 in
        let same : p.0 ≡ w = cc in
        let s = p.4 in let e = h.2 in
        (p.1, p.3, omega arith)

last_offset_is : (o : ℕ) (offsets : List ℕ) → last_offset o offsets ≡ slice_index (o ∷ offsets) (length offsets)
last_offset_is o [] = refl
last_offset_is o (q ∷ offsets) = last_offset_is q offsets

-- A walk with its measured offsets, taken apart.
pub record Taken (g : Roads) (u v : NodeNo) (leg : Path) : Type 0 where
  pub nodes : List NodeNo
  pub offsets : List ℕ
  pub nodes_are : leg.nodes ≡ u ∷ nodes
  pub offsets_are : leg.offsets ≡ 0 ∷ offsets
  pub last : last_of u nodes ≡ v
  pub runs : Runs g u 0 nodes offsets
  pub long : last_offset 0 offsets ≡ length_of leg

take_apart : (g : Roads) (u v : NodeNo) (nodes : List NodeNo) (offsets : List ℕ) → Joins u v nodes → IsMeasured g (record { nodes = nodes; offsets = offsets }) → Taken g u v (record { nodes = nodes; offsets = offsets })
take_apart g u v [] offsets joins m = absurd joins
take_apart g u v (n ∷ nodes) [] joins m = let many = m.many in absurd (omega arith)
take_apart g u v (n ∷ nodes) (o ∷ offsets) joins m =
    let start = first_zero o (m.each 0 (omega arith)) in
    let many : length offsets ≡ length nodes = (let e = m.many in omega arith) in
    let runs : Runs g n o nodes offsets = prefixes_run g n o nodes offsets many (λ k l. (slice_index (o ∷ offsets) k, m.each k (omega arith), omega arith)) in
    let last : length (o ∷ offsets) - 1 ≡ length offsets = omega arith in
    record {
      nodes = nodes;
      offsets = offsets;
      nodes_are = rw joins.0 refl;
      offsets_are = rw start refl;
      last = subst (λ (k : NodeNo). last_of k nodes ≡ v) joins.0 joins.1;
      runs = subst (λ (k : NodeNo). Runs g k 0 nodes offsets) joins.0 (subst (λ (q : ℕ). Runs g n q nodes offsets) start runs);
      long = subst (λ (q : ℕ). last_offset q offsets ≡ slice_index (o ∷ offsets) (length (o ∷ offsets) - 1)) start (rw last (last_offset_is o offsets));
    }
  where
    first_zero : (y : ℕ) → walk_length g (n ∷ []) ≡ Some y → y ≡ 0
    first_zero y h = go (is_node g.nodes n) h where
      go : (b : Bool) → cond b (Some 0) None ≡ Some y → y ≡ 0
      go true e = cc
      go false e = cc

-- On a leg the front is the first node that is reached, also before the vehicle leaves.
pub front_on_leg : (place : NodeNo) (departure now : ℕ) (leg : Path) (legs : List Path) (nodes : List NodeNo) (offsets : List ℕ) → leg.nodes ≡ place ∷ nodes → leg.offsets ≡ 0 ∷ offsets
    → front_on place departure now (leg ∷ legs) ≡ first_reached place departure now (place ∷ nodes) (0 ∷ offsets)
front_on_leg place departure now leg legs nodes offsets n o = go (nat_lt now departure) (ltb-true now departure) where
  zero_more : departure + 0 ≡ departure
  zero_more = omega arith

  go : (b : Bool) → (b ≡ true → now < departure) → cond b (record { node = place; time = departure; offset = 0 }) (first_reached place departure now leg.nodes leg.offsets) ≡ first_reached place departure now (place ∷ nodes) (0 ∷ offsets)
  go true f = let l = f refl in let e : nat_le now (departure + 0) ≡ true = le-leb now (departure + 0) (omega arith) in rw (e, zero_more) refl
  go false f = rw (n, o) refl

runs_node : (g : Roads) (n : NodeNo) (o : ℕ) (nodes : List NodeNo) (offsets : List ℕ) → Runs g n o nodes offsets → is_node g.nodes n ≡ true
runs_node g n o [] offsets runs = runs.0
runs_node g n o (m ∷ nodes) [] runs = absurd runs
runs_node g n o (m ∷ nodes) (q ∷ offsets) runs = runs.0

same_node : (u v : NodeNo) → u.0 ≡ v.0 → u ≡ v
same_node u v e = ap {B = NodeNo} (λ (x : ℕ). record { 0 = x }) e

-- before it leaves the front is the first node
at_first : (place : NodeNo) (departure now : ℕ) (nodes : List NodeNo) (offsets : List ℕ) → now ≤ departure
    → first_reached place departure now (place ∷ nodes) (0 ∷ offsets) ≡ record { node = place; time = departure; offset = 0 }
at_first place departure now nodes offsets l = let e : nat_le now (departure + 0) ≡ true = le-leb now (departure + 0) (omega arith) in let z : departure + 0 ≡ departure = omega arith in rw (e, z) refl

-- What two fronts of one schedule have to each other where the latter is at a later clock. At the time of its departure the vehicle is
-- at its place, and where its first stop is there it doesn't move on before it.
pub record IsLaterFront (p : Plan) (front front' : Front) : Type 0 where
  pub place : front.time ≡ p.departure → front.node ≡ p.place
  pub place' : front'.time ≡ p.departure → front'.node ≡ p.place
  pub begun : p.departure ≤ front.time
  pub time : front.time ≤ front'.time
  pub moves : (s : Stop) → slice_get p.stops 0 ≡ Some s → s.node.0 ≡ p.place.0 → front'.time ≡ p.departure

-- where and when a vehicle is at its front on its first leg
pub record IsOnLeg (g : Roads) (p : Plan) (to : NodeNo) (leg : Path) (now : ℕ) (f : Front) : Type 0 where
  pub place : f.time ≡ p.departure → f.node ≡ p.place
  pub time : f.time ≡ p.departure + f.offset
  pub late : now ≤ f.time
  pub rest : ℕ
  pub ahead : IsDist g f.node to rest
  pub driven : f.offset + rest ≤ length_of leg
  pub rests : to.0 ≡ p.place.0 → f.time ≡ p.departure

-- and each way from the latter is reached from the former no later
pub record IsNoFurther (g : Roads) (front front' : Front) : Type 0 where
  pub reaches : (to : NodeNo) (y : ℕ) → IsDist g front'.node to y → (x : ℕ) × IsDist g front.node to x × (front.time + x ≤ front'.time + y) × (front.offset + x ≤ front'.offset + y)

module _ (g : Roads) (tri : (u v w : NodeNo) (x y : ℕ) → IsDist g u v x → IsDist g v w y → (z : ℕ) × IsDist g u w z × (z ≤ x + y))
    (has : (u v : NodeNo) (nodes : List NodeNo) (x : ℕ) → IsWalk g u v nodes x → (y : ℕ) × IsDist g u v y × (y ≤ x))
  where
    pub later_on_leg : (p : Plan) (s : Stop) (leg : Path) (legs : List Path) (now now' : ℕ) → p.legs ≡ leg ∷ legs → slice_get p.stops 0 ≡ Some s → IsLeastWalk g p.place s.node leg → now ≤ now' → now' ≤ p.departure + length_of leg
        → IsLaterFront p (front_of p now) (front_of p now') × IsNoFurther g (front_of p now) (front_of p now')
    later_on_leg p s leg legs now now' are there least order soon = rw (here, there_later) (later, further) where
      taken : Taken g p.place s.node leg
      taken = take_apart g p.place s.node leg.nodes leg.offsets least.joins least.measured

      former : Front
      former = first_reached p.place p.departure now (p.place ∷ taken.nodes) (0 ∷ taken.offsets)

      latter : Front
      latter = first_reached p.place p.departure now' (p.place ∷ taken.nodes) (0 ∷ taken.offsets)

      here : front_of p now ≡ former
      here = rw are (front_on_leg p.place p.departure now leg legs taken.nodes taken.offsets taken.nodes_are taken.offsets_are)

      there_later : front_of p now' ≡ latter
      there_later = rw are (front_on_leg p.place p.departure now' leg legs taken.nodes taken.offsets taken.nodes_are taken.offsets_are)

      in_time : now' ≤ p.departure + last_offset 0 taken.offsets
      in_time = let e = taken.long in omega arith

      on : IsReached g p.departure now p.place 0 former
      on = reaches g p.place p.departure now p.place 0 taken.nodes taken.offsets taken.runs (let t = in_time in omega arith)

      on_later : IsReached g p.departure now' p.place 0 latter
      on_later = reaches g p.place p.departure now' p.place 0 taken.nodes taken.offsets taken.runs in_time

      goes : IsFurther g p.departure now now' former latter
      goes = goes_on g p.place p.departure now now' p.place 0 taken.nodes taken.offsets taken.runs order in_time

      at_place : (clock : ℕ) (f : Front) → f ≡ first_reached p.place p.departure clock (p.place ∷ taken.nodes) (0 ∷ taken.offsets) → clock ≤ f.time → f.time ≡ p.departure → f.node ≡ p.place
      at_place clock f e l t = ap (λ (q : Front). q.node) (e ∙ at_first p.place p.departure clock taken.nodes taken.offsets (omega arith))

      short : s.node.0 ≡ p.place.0 → length_of leg ≤ 0
      short e = least.least.least (p.place ∷ []) 0 (subst (λ (n : NodeNo). IsWalk g p.place n (p.place ∷ []) 0) (sym (same_node s.node p.place e)) (walk_of_one g p.place (runs_node g p.place 0 taken.nodes taken.offsets taken.runs)))

      later : IsLaterFront p former latter
      later = record {
        place = at_place now former refl on.late;
        place' = at_place now' latter refl on_later.late;
        begun = (let t = on.time in omega arith);
        time = (let t = goes.former in let u = goes.ahead.time in let o = goes.ahead.offset in omega arith);
        moves = λ first e same.
            let first_is : s ≡ first = same_Some s first (sym there ∙ e) in
            let is : s.node.0 ≡ p.place.0 = ap (λ (q : Stop). q.node.0) first_is ∙ same in
            let l = short is in ap (λ (q : Front). q.time) (at_first p.place p.departure now' taken.nodes taken.offsets (omega arith));
      }

      further : IsNoFurther g former latter
      further = record {
        reaches = λ to y d.
            let way = has former.node latter.node goes.ahead.nodes goes.ahead.way goes.ahead.walk in
            let all = tri former.node latter.node to way.0 y way.1 d in
            let t = goes.former in let u = goes.ahead.time in let o = goes.ahead.offset in let a = way.2 in let b = all.2 in
            (all.0, all.1, omega arith, omega arith);
      }

    pub later_at_rest : (p : Plan) (now now' : ℕ) → p.legs ≡ [] → p.stops ≡ [] → now ≤ now' → IsLaterFront p (front_of p now) (front_of p now') × IsNoFurther g (front_of p now) (front_of p now')
    later_at_rest p now now' none empty order =
        rw none (
          record { place = λ _. refl; place' = λ _. refl; begun = omega arith; time = omega arith; moves = λ s e. absurd (none-some s (subst (λ (xs : List Stop). slice_get xs 0 ≡ Some s) empty e)) },
          record { reaches = λ to y d. (y, d, omega arith, omega arith) },
        )

    -- The front of a schedule with a stop is on its first leg.
    pub on_first_leg : (p : Plan) (to : NodeNo) (leg : Path) (legs : List Path) (now : ℕ) → p.legs ≡ leg ∷ legs → IsLeastWalk g p.place to leg → now ≤ p.departure + length_of leg → let f = front_of p now in
        (f.time ≡ p.departure → f.node ≡ p.place) × ((driven : ℕ) × IsDist g p.place f.node driven × (driven ≤ f.offset)) × (f.time ≡ p.departure + f.offset)
    on_first_leg p to leg legs now are least soon =
        let taken = take_apart g p.place to leg.nodes leg.offsets least.joins least.measured in
        let here : front_of p now ≡ first_reached p.place p.departure now (p.place ∷ taken.nodes) (0 ∷ taken.offsets) = rw are (front_on_leg p.place p.departure now leg legs taken.nodes taken.offsets taken.nodes_are taken.offsets_are) in
        let long = taken.long in
        let on = reaches g p.place p.departure now p.place 0 taken.nodes taken.offsets taken.runs (omega arith) in
        let late = on.late in
        let offset = on.offset in
        let way = has p.place _ on.nodes on.way on.walk in
        let less = way.2 in
        rw here ((λ t. ap (λ (q : Front). q.node) (at_first p.place p.departure now taken.nodes taken.offsets (omega arith))), (way.0, way.1, omega arith), on.time)

    -- What is so of the front of a schedule with a stop: when the vehicle is there, that what is left of its first leg is no longer than
    -- what it hasn't driven, and that it hasn't moved on where its first stop is at its place.
    pub on_leg : (p : Plan) (to : NodeNo) (leg : Path) (legs : List Path) (now : ℕ) → p.legs ≡ leg ∷ legs → IsLeastWalk g p.place to leg → now ≤ p.departure + length_of leg → IsOnLeg g p to leg now (front_of p now)
    on_leg p to leg legs now are least soon =
        let taken = take_apart g p.place to leg.nodes leg.offsets least.joins least.measured in
        let f : Front = first_reached p.place p.departure now (p.place ∷ taken.nodes) (0 ∷ taken.offsets) in
        let here : front_of p now ≡ f = rw are (front_on_leg p.place p.departure now leg legs taken.nodes taken.offsets taken.nodes_are taken.offsets_are) in
        let long = taken.long in
        let on = reaches g p.place p.departure now p.place 0 taken.nodes taken.offsets taken.runs (omega arith) in
        let late = on.late in
        let left = leads_on g p.place p.departure now p.place 0 taken.nodes taken.offsets taken.runs (omega arith) in
        let sum = left.offset in
        let way = has f.node to left.nodes left.way (subst (λ (n : NodeNo). IsWalk g f.node n left.nodes left.way) taken.last left.walk) in
        let less = way.2 in
        rw here
        (record {
          place = λ t. ap (λ (q : Front). q.node) (at_first p.place p.departure now taken.nodes taken.offsets (omega arith));
          time = on.time;
          late = on.late;
          rest = way.0;
          ahead = way.1;
          driven = omega arith;
          rests = λ same.
              let short : length_of leg ≤ 0 = least.least.least (p.place ∷ []) 0 (subst (λ (n : NodeNo). IsWalk g p.place n (p.place ∷ []) 0) (sym (same_node to p.place same)) (walk_of_one g p.place (runs_node g p.place 0 taken.nodes taken.offsets taken.runs))) in
              ap (λ (q : Front). q.time) (at_first p.place p.departure now taken.nodes taken.offsets (omega arith));
        })

-- whether or not the first node is the front
early_either : (departure : ℕ) (n : NodeNo) (o : ℕ) (f : Front) (b : Bool) → departure + o ≤ latest_front → (b ≡ false → f.time ≤ latest_front) → (cond b (record { node = n; time = departure + o; offset = o }) f).time ≤ latest_front
early_either departure n o f true early more = early
early_either departure n o f false early more = more refl

-- A vehicle that leaves by the latest time of a front is at its front by then, where the clock isn't past the latest moment: each road
-- takes less than the time between the two.
first_early : (g : Roads) → IsGraph g → (place : NodeNo) (departure now : ℕ) (n : NodeNo) (o : ℕ) (nodes : List NodeNo) (offsets : List ℕ) → Runs g n o nodes offsets → now ≤ latest_moment → departure ≤ latest_front → departure + o ≤ latest_front
    → (first_reached place departure now (n ∷ nodes) (o ∷ offsets)).time ≤ latest_front
first_early g h place departure now n o [] offsets runs soon begun early = early_either departure n o _ (nat_le now (departure + o)) early (λ _. begun)
first_early g h place departure now n o (m ∷ nodes) [] runs soon begun early = early_either departure n o _ (nat_le now (departure + o)) early (λ _. begun)
first_early g h place departure now n o (m ∷ nodes) (q ∷ offsets) runs soon begun early =
    early_either departure n o _ (nat_le now (departure + o)) early
    (λ e. let late = not_yet now (departure + o) e in
    let road = weight_is_light g h n m (q - o) runs.2 in
    let up = runs.1 in
    first_early g h place departure now m q nodes offsets runs.3 soon begun (omega arith))

pub front_early : (g : Roads) → IsGraph g → (p : Plan) (now : ℕ) → HasLeastWalks g p → now ≤ latest_moment → p.departure ≤ latest_front → (front_of p now).time ≤ latest_front
front_early g h p now walks soon begun = go p.legs walks where
  go : (legs : List Path) → ((k : ℕ) (leg : Path) → slice_get legs k ≡ Some leg → IsLeastWalk g (cond (k == 0) p.place (node_or p.place (slice_get p.stops (k - 1)))) (node_or p.place (slice_get p.stops k)) leg)
      → (front_on p.place p.departure now legs).time ≤ latest_front
  go [] least = omega arith
  go (leg ∷ legs) least =
      let w = least 0 leg refl in
      let taken = take_apart g p.place (node_or p.place (slice_get p.stops 0)) leg.nodes leg.offsets w.joins w.measured in
      rw (front_on_leg p.place p.departure now leg legs taken.nodes taken.offsets taken.nodes_are taken.offsets_are)
      (first_early g h p.place p.departure now p.place 0 taken.nodes taken.offsets taken.runs soon begun (omega arith))
