use Rattle.std.proofs.Common.{◌≡◌, ℕ, zero, suc, ◌+◌, ◌-◌, ◌<◌, ◌≤◌, ◌==◌, ◌⊎◌, inl, inr, Bool, true, false, cond, List, [], ◌∷◌, ◌++◌, take, drop, length, Option, Some, refl, sym, ap, ◌∙◌, arith, subst, ⊎_elim}
use Rattle.std.specs.Prelude.{slice_get, slice_index, nat_lt}
use Rattle.std.specs.List.{insert}
use Rattle.std.proofs.lemmas.Bool.{ne_eqb, eq-eqb, cases_eq, cases_lt, lt-ltb, le-ltb}
use Rattle.std.proofs.lemmas.List.{length-map}
use Rattle.std.proofs.lemmas.Option.{slice_get_within}
use Rattle.ride_base.specs.declared.numbers.RequestNo.{RequestNo}
use Rattle.road_graph.specs.declared.road.NodeNo.{NodeNo}
use Rattle.road_graph.specs.Graphs.{IsGraph}
use Rattle.road_graph.specs.Paths.{Path, length_of}
use Rattle.road_graph.specs.Roads.{Roads}
use Rattle.road_graph.specs.Walks.{IsLeastWalk}
use Rattle.stop_schedule.specs.declared.stop.Front.{Front}
use Rattle.stop_schedule.specs.declared.stop.Stop.{Stop}
use Rattle.stop_schedule.specs.Fronts.{front_of}
use Rattle.stop_schedule.specs.Keeping.{IsProper, HasLeastWalks, picks_up, drops_off}
use Rattle.stop_schedule.specs.Lists.{node_or}
use Rattle.stop_schedule.specs.Plans.{Plan, course_of, still_halts}
use Rattle.stop_schedule.specs.Rates.{Rates}
use Rattle.stop_schedule.specs.Times.{arrives}
use Rattle.stop_schedule.proofs.ListLaws.{split_same, split_before, length-split}
use Rattle.stop_schedule.proofs.TimeLaws.{past}
use Rattle.stop_schedule.proofs.ListLaws.{split}
use Rattle.stop_removal.specs.Laws.{IsGoodPlan, IsNoLater, stood_at, RemovalsKeepPromises}
use Rattle.stop_schedule.specs.Distances.{AreLeastWalks}
use Rattle.stop_removal.specs.Removals.{AreStopsOf, joint_ends, joint_over, leg_to, with_joined, without_both}
use Rattle.stop_removal.proofs.Chained.{Chained, node_from, node_from_is, chained_at, chained_many, over_both, over_each}
use Rattle.stop_removal.proofs.Joined.{over_pickup, over_both_stops, over_dropoff, stays_at, held}
use Rattle.stop_removal.proofs.Kept.{IsLeft, still_keeps, still_in_time}
use Rattle.stop_removal.proofs.Proper.{no_more, still_dropped_off}
use Rattle.stop_removal.proofs.PutBack.{left_of, put_both_back, past_before, past_from}
use Rattle.stop_removal.proofs.Start.{IsStart, start_at, chain}
use Rattle.stop_removal.proofs.Ways.{ways, one_for, ways_over_both, ways_over_each}

put_length : {X : Type 0} (xs : List X) (n : ℕ) (x : X) → length (insert xs n x) ≡ length xs + 1
put_length xs zero x = omega arith
put_length [] (suc n) x = refl
put_length (y ∷ xs) (suc n) x = let more = put_length xs n x in omega arith

-- where each stop that stays stood
stood_is : (i j k : ℕ) → i ≤ j → stood_at (suc i) (suc (suc j)) (suc k) ≡ suc (past i (past j k))
stood_is i j k o = ⊎_elim before (λ (l : i ≤ k). ⊎_elim (between l) (behind l) (cases_lt k j)) (cases_lt k i) where
  before : k < i → stood_at (suc i) (suc (suc j)) (suc k) ≡ suc (past i (past j k))
  before l =
      let e : nat_lt (suc k) (suc i) ≡ true = lt-ltb (suc k) (suc i) (omega arith) in
      let f : past j k ≡ k = past_before j k (omega arith) in
      let h : past i k ≡ k = past_before i k l in
      rw (e, f, h) refl

  between : i ≤ k → k < j → stood_at (suc i) (suc (suc j)) (suc k) ≡ suc (past i (past j k))
  between l m =
      let e : nat_lt (suc k) (suc i) ≡ false = le-ltb (suc k) (suc i) (omega arith) in
      let q : nat_lt (suc k + 1) (suc (suc j)) ≡ true = lt-ltb (suc k + 1) (suc (suc j)) (omega arith) in
      let f : past j k ≡ k = past_before j k m in
      let h : past i k ≡ suc k = past_from i k l in
      rw (e, q, f, h) (omega arith)

  behind : i ≤ k → j ≤ k → stood_at (suc i) (suc (suc j)) (suc k) ≡ suc (past i (past j k))
  behind l m =
      let e : nat_lt (suc k) (suc i) ≡ false = le-ltb (suc k) (suc i) (omega arith) in
      let q : nat_lt (suc k + 1) (suc (suc j)) ≡ false = le-ltb (suc k + 1) (suc (suc j)) (omega arith) in
      let f : past j k ≡ suc k = past_from j k m in
      let h : past i (suc k) ≡ suc (suc k) = past_from i (suc k) (omega arith) in
      rw (e, q, f, h) (omega arith)

module _ (g : Roads) (lawful : IsGraph g) (rates : Rates) (clock : ℕ) (p : Plan) (good : IsGoodPlan g rates clock p) (number : RequestNo) (i n j : ℕ) (pickup dropoff : Stop) (apart : j ≡ i + n)
    (up_there : slice_get p.stops i ≡ Some pickup) (down_there : slice_get p.stops (suc j) ≡ Some dropoff) (up : picks_up number pickup ≡ true) (down : drops_off number dropoff ≡ true)
  where
    abbrev front : Front
    front = front_of p clock

    abbrev left : List Stop
    left = left_of p.stops i n j

    abbrev place : NodeNo
    place = cond (i == 0) front.node p.place

    abbrev departure : ℕ
    departure = cond (i == 0) front.time p.departure

    abbrev halt : Bool
    halt = cond (i == 0) (still_halts front p) p.halt

    abbrev new : List Path → Plan
    new legs = record p { place = place; departure = departure; halt = halt; stops = left; legs = legs }

    begun : IsStart g lawful rates clock p good i pickup place departure halt
    begun = start_at g lawful rates clock p good i pickup up_there

    stops_are : p.stops ≡ insert (insert left j dropoff) i pickup
    stops_are = put_both_back i n j p.stops pickup dropoff apart up_there down_there

    long : length p.stops ≡ length left + 2
    long = ap length stops_are ∙ put_length (insert left j dropoff) i pickup ∙ (let e = put_length left j dropoff in omega (arith, e))

    within : j ≤ length left
    within = let l = slice_get_within p.stops (suc j) dropoff down_there in omega (arith, long)

    -- a first node in the place of an absent one is no matter
    abbrev IsKeptBy : List Path → Type 0
    IsKeptBy legs = IsGoodPlan g rates clock (new legs) × ((k : ℕ) → 1 ≤ k → k ≤ length left → IsNoLater rates.stop (new legs) p k (stood_at (suc i) (suc (suc j)) k))

    module _ (legs : List Path) (x y u v : ℕ) (chained : Chained g place left legs) (is : IsLeft rates p number place departure halt left legs i j pickup dropoff x y u v) where
      least_walks : HasLeastWalks g (new legs)
      least_walks k leg h = subst (λ (m : NodeNo). IsLeastWalk g m (node_or place (slice_get left k)) leg) (sym (node_from_is place place left k)) (chained_at g place place left legs chained k leg h)

      proper : IsProper (new legs)
      proper = record {
        picked_up_once = λ m. (let a = no_more number i j pickup dropoff left is.order is.within is.up is.down (picks_up m) in let b = good.proper.picked_up_once m in let c = rw stops_are at b in omega (arith, a, c));
        dropped_off_once = λ m. (let a = no_more number i j pickup dropoff left is.order is.within is.up is.down (drops_off m) in let b = good.proper.dropped_off_once m in let c = rw stops_are at b in omega (arith, a, c));
        dropped_off_later = still_dropped_off number i j pickup dropoff left is.order is.within is.up is.down (rw stops_are at good.proper.dropped_off_later) (rw stops_are at good.proper.picked_up_once number);
        as_many_legs = is.many;
        joined = λ k leg h. (least_walks k leg h).joins;
      }

      first_way : 0 < i → slice_index (ways p.legs) 0 ≡ slice_index (ways legs) 0
      first_way l =
          let many : length (ways legs) ≡ length left = length-map legs length_of ∙ is.many in
          let o = is.order in
          let h = is.within in
          let longer = length-split j u v (ways legs) (omega arith) in
          ap (λ (zs : List ℕ). slice_index zs 0) is.ways_are ∙ split_before i 0 x y (split j u v (ways legs)) l (omega arith) ∙ split_before j 0 u v (ways legs) (omega arith) (omega arith)

      ahead : 0 < length left → clock ≤ arrives rates.stop (course_of (new legs)) 1
      ahead some = ⊎_elim inside at_first (cases_lt 0 i) where
        inside : 0 < i → clock ≤ arrives rates.stop (course_of (new legs)) 1
        inside l =
            let before = good.ahead (omega (arith, long)) in
            let same = begun.starts.leaves l in
            let way = first_way l in
            omega (arith, before, same, way)

        at_first : i ≤ 0 → clock ≤ arrives rates.stop (course_of (new legs)) 1
        at_first l = let late = begun.late (omega arith) in omega (arith, late)

      no_later : (k : ℕ) → 1 ≤ k → k ≤ length left → IsNoLater rates.stop (new legs) p k (stood_at (suc i) (suc (suc j)) k)
      no_later zero l h = absurd (omega arith)
      no_later (suc k) l h =
          let timely = still_in_time rates p number place departure halt left legs i j pickup dropoff x y u v is k (omega arith) in
          let zero_less : (m : ℕ) → suc m - 1 ≡ m = λ m. omega arith in
          subst (λ (m : ℕ). IsNoLater rates.stop (new legs) p (suc k) m) (sym (stood_is i j k is.order))
          (record {
            stays = ap (slice_get left) (zero_less k) ∙ sym (stays_at left i j pickup dropoff is.order is.within k) ∙ ap (λ (xs : List Stop). slice_get xs (past i (past j k))) (sym stops_are) ∙ ap (slice_get p.stops) (sym (zero_less (past i (past j k))));
            reached = timely.0;
            left = timely.1;
          })

      still_good : IsKeptBy legs
      still_good = (
        record {
          placed = begun.placed;
          proper = proper;
          kept = still_keeps rates p number place departure halt left legs i j pickup dropoff x y u v is good.proper good.proper.as_many_legs good.kept;
          least_walks = least_walks;
          ahead = ahead;
        },
        no_later,
      )

    -- how the ways by the stops that go compare with the joined legs
    module _ (legs : List Path) (chained : Chained g place left legs) where
      old_chain : Chained g p.place p.stops p.legs
      old_chain = chain g lawful rates clock p good

      many_ways : length (ways legs) ≡ length left
      many_ways = length-map legs length_of ∙ chained_many g place left legs chained

      abbrev into_pickup : ℕ
      into_pickup = slice_index (ways p.legs) i

      abbrev behind_pickup : ℕ
      behind_pickup = slice_index (ways p.legs) (suc i)

      abbrev into_dropoff : ℕ
      into_dropoff = slice_index (ways p.legs) (suc j)

      abbrev behind_dropoff : ℕ
      behind_dropoff = slice_index (ways p.legs) (suc (suc j))

      -- both stops follow one another: the way by the dropoff alone may be as long as keeps the start in time
      abbrev by_dropoff : ℕ
      by_dropoff = p.departure + into_pickup + behind_pickup - departure

      pub together : i ≡ j → ways p.legs ≡ split i into_pickup behind_pickup (split j by_dropoff behind_dropoff (ways legs)) → IsKeptBy legs
      together e ways_are = still_good legs into_pickup behind_pickup by_dropoff behind_dropoff chained (record {
        order = omega arith;
        within = within;
        stops_are = stops_are;
        ways_are = ways_are;
        many = chained_many g place left legs chained;
        up = up;
        down = down;
        start = begun.starts;
        near = near;
        far = far;
      }) where
        near : departure + slice_index (split j by_dropoff behind_dropoff (ways legs)) i ≤ p.departure + into_pickup + behind_pickup
        near =
            let there = split_same j by_dropoff behind_dropoff (ways legs) (omega (arith, many_ways, within)) in
            let here : slice_index (split j by_dropoff behind_dropoff (ways legs)) i ≡ by_dropoff = ap (slice_index (split j by_dropoff behind_dropoff (ways legs))) e ∙ there in
            let sooner = begun.sooner in
            omega (arith, here, sooner)

        far : j < length left → slice_index (ways legs) j ≤ by_dropoff + behind_dropoff
        far l =
            let joined = over_both_stops g lawful p.place place p.stops left p.legs legs i j pickup dropoff (omega arith) within stops_are old_chain chained begun.rest begun.way e l in
            let sooner = begun.sooner in
            omega (arith, joined, sooner)

      -- other stops stand between them
      pub separate : i < j → ways p.legs ≡ split i into_pickup behind_pickup (split j into_dropoff behind_dropoff (ways legs)) → IsKeptBy legs
      separate o ways_are = still_good legs into_pickup behind_pickup into_dropoff behind_dropoff chained (record {
        order = omega arith;
        within = within;
        stops_are = stops_are;
        ways_are = ways_are;
        many = chained_many g place left legs chained;
        up = up;
        down = down;
        start = begun.starts;
        near = near;
        far = λ l. over_dropoff g lawful p.place place p.stops left p.legs legs i j pickup dropoff (omega arith) within stops_are old_chain chained o l;
      }) where
        near : departure + slice_index (split j into_dropoff behind_dropoff (ways legs)) i ≤ p.departure + into_pickup + behind_pickup
        near =
            let there = split_before j i into_dropoff behind_dropoff (ways legs) o (omega (arith, many_ways, within)) in
            let joined = over_pickup g lawful p.place place p.stops left p.legs legs i j pickup dropoff (omega arith) within stops_are old_chain chained begun.rest begun.way o in
            let sooner = begun.sooner in
            omega (arith, there, joined, sooner)

-- The ends of a joined leg, and the lists without both stops, by places counted from 0.
joint_is : (front : Front) (place : NodeNo) (stops : List Stop) (i k : ℕ) → (i ≡ 0 → place ≡ front.node) → (b : ℕ) → b ≡ k → joint_over front stops i b ≡ leg_to (node_from front.node place stops i) (slice_get stops k)
joint_is front place stops i k first b e = rw (e, node_from_is front.node front.node stops i) (from i first) where
  from : (i : ℕ) → (i ≡ 0 → place ≡ front.node) → leg_to (node_from front.node front.node stops i) (slice_get stops k) ≡ leg_to (node_from front.node place stops i) (slice_get stops k)
  from zero f = rw (f refl) refl
  from (suc i) f = refl

without_is : (stops : List Stop) (i n j a m b : ℕ) → a ≡ suc i → m ≡ n → b ≡ suc (suc j) → take i stops ++ take m (drop a stops) ++ drop b stops ≡ left_of stops i n j
without_is stops i n j a m b e h f = rw (e, h, f) refl

legs_together : (legs walks : List Path) (i b : ℕ) → b + 1 ≡ suc (suc (suc i)) → take i legs ++ walks ++ drop (b + 1) legs ≡ take i legs ++ walks ++ drop (suc (suc (suc i))) legs
legs_together legs walks i b e = ap (λ (k : ℕ). take i legs ++ walks ++ drop k legs) e

legs_apart : (legs walks : List Path) (i n j a b : ℕ) → a + 1 ≡ suc (suc i) → b + 1 ≡ suc (suc (suc j))
    → take i legs ++ take 1 walks ++ take n (drop (a + 1) legs) ++ drop 1 walks ++ drop (b + 1) legs ≡ take i legs ++ take 1 walks ++ take n (drop (suc (suc i)) legs) ++ drop 1 walks ++ drop (suc (suc (suc j))) legs
legs_apart legs walks i n j a b e f = ap (λ (k : ℕ). take i legs ++ take 1 walks ++ take n (drop k legs) ++ drop 1 walks ++ drop (b + 1) legs) e ∙ ap (λ (k : ℕ). take i legs ++ take 1 walks ++ take n (drop (suc (suc i)) legs) ++ drop 1 walks ++ drop k legs) f

module _ (g : Roads) (lawful : IsGraph g) (rates : Rates) (clock : ℕ) (p : Plan) (good : IsGoodPlan g rates clock p) (number : RequestNo) (pickup dropoff : Stop) (up : picks_up number pickup ≡ true) (down : drops_off number dropoff ≡ true) where
  abbrev ahead_of : Front
  ahead_of = front_of p clock

  abbrev begin : ℕ → NodeNo
  begin i = cond (i == 0) ahead_of.node p.place

  begin_first : (i : ℕ) → i ≡ 0 → begin i ≡ ahead_of.node
  begin_first i e = rw e refl

  begin_later : (i : ℕ) → 0 < i → begin i ≡ p.place
  begin_later i l = let e : (i == 0) ≡ false = ne_eqb i 0 (λ z. omega arith) in rw e refl

  whole_chain : Chained g p.place p.stops p.legs
  whole_chain = chain g lawful rates clock p good

  -- what is to be shown of the lists that are left
  abbrev IsKeptWith : ℕ → List Stop → List Path → (a b : ℕ) → Type 0
  IsKeptWith i stops legs a b =
      let new : Plan = record p { place = begin i; departure = cond (i == 0) ahead_of.time p.departure; halt = cond (i == 0) (still_halts ahead_of p) p.halt; stops = stops; legs = legs } in
      IsGoodPlan g rates clock new × ((k : ℕ) → 1 ≤ k → k ≤ length stops → IsNoLater rates.stop new p k (stood_at a b k))

  carry : (i : ℕ) (stops stops' : List Stop) (legs legs' : List Path) (a a' b b' : ℕ) → stops ≡ stops' → legs ≡ legs' → a ≡ a' → b ≡ b' → IsKeptWith i stops' legs' a' b' → IsKeptWith i stops legs a b
  carry i stops stops' legs legs' a a' b b' e f h k t = rw (e, f, h, k) t

  both_next : (i : ℕ) (walks : List Path) → slice_get p.stops i ≡ Some pickup → slice_get p.stops (suc i) ≡ Some dropoff
      → AreLeastWalks g (leg_to (node_from ahead_of.node (begin i) p.stops i) (slice_get p.stops (suc (suc i)))) walks
      → IsKeptWith i (left_of p.stops i 0 i) (take i p.legs ++ walks ++ drop (suc (suc (suc i))) p.legs) (suc i) (suc (suc i))
  both_next i walks up_there down_there joins =
      let within = slice_get_within p.stops (suc i) dropoff down_there in
      let many = good.proper.as_many_legs in
      let chained = over_both g ahead_of.node p.place (begin i) p.stops p.legs i walks (begin_later i) whole_chain within joins in
      let one = one_for g (node_from ahead_of.node (begin i) p.stops i) p.stops p.legs walks (suc (suc i)) many joins in
      together g lawful rates clock p good number i 0 i pickup dropoff (omega arith) up_there down_there up down (take i p.legs ++ walks ++ drop (suc (suc (suc i))) p.legs) chained refl
      (ways_over_both p.legs i walks _ (omega (arith, within, many)) one)

  others_between : (i n j : ℕ) (walks : List Path) (s : Stop) → j ≡ i + suc n → slice_get p.stops i ≡ Some pickup → slice_get p.stops (suc j) ≡ Some dropoff → slice_get p.stops (suc i) ≡ Some s
      → AreLeastWalks g (leg_to (node_from ahead_of.node (begin i) p.stops i) (Some s) ++ leg_to (node_from ahead_of.node (begin i) p.stops (suc j)) (slice_get p.stops (suc (suc j)))) walks
      → IsKeptWith i (left_of p.stops i (suc n) j) (take i p.legs ++ take 1 walks ++ take n (drop (suc (suc i)) p.legs) ++ drop 1 walks ++ drop (suc (suc (suc j))) p.legs) (suc i) (suc (suc j))
  others_between i n j [] s e up_there down_there next joins = absurd joins
  others_between i n j (w ∷ walks) s e up_there down_there next joins =
      let within = slice_get_within p.stops (suc j) dropoff down_there in
      let many = good.proper.as_many_legs in
      let both : AreLeastWalks g (leg_to (node_from ahead_of.node (begin i) p.stops i) (slice_get p.stops (suc i)) ++ leg_to (node_from ahead_of.node (begin i) p.stops (suc j)) (slice_get p.stops (suc (suc j)))) (w ∷ walks)
      = subst (λ (o : Option Stop). AreLeastWalks g (leg_to (node_from ahead_of.node (begin i) p.stops i) o ++ leg_to (node_from ahead_of.node (begin i) p.stops (suc j)) (slice_get p.stops (suc (suc j)))) (w ∷ walks)) (sym next) joins in
      let chained = over_each g ahead_of.node p.place (begin i) p.stops p.legs i n j (w ∷ walks) e (begin_later i) whole_chain within both in
      let one = one_for g (node_from ahead_of.node (begin i) p.stops (suc j)) p.stops p.legs walks (suc (suc j)) many joins.1 in
      separate g lawful rates clock p good number i (suc n) j pickup dropoff e up_there down_there up down (take i p.legs ++ w ∷ [] ++ take n (drop (suc (suc i)) p.legs) ++ walks ++ drop (suc (suc (suc j))) p.legs) chained (omega arith)
      (ways_over_each p.legs i n j w walks e (omega (arith, within, many)) one)

module _ (g : Roads) (lawful : IsGraph g) (rates : Rates) (clock : ℕ) (p : Plan) (good : IsGoodPlan g rates clock p) (number : RequestNo) (a b : ℕ) (walks : List Path) (ride : AreStopsOf number p.stops a b)
    (joins : AreLeastWalks g (joint_ends p.stops (front_of p clock) a b) walks)
  where
    abbrev turn : Front
    turn = front_of p clock

    abbrev start : NodeNo
    start = cond (a - 1 == 0) turn.node p.place

    abbrev IsKeptBeing : List Stop → List Path → Type 0
    IsKeptBeing stops legs = IsKeptWith g lawful rates clock p good number ride.pickup ride.dropoff ride.picked_up ride.dropped_off (a - 1) stops legs a b

    start_first : a - 1 ≡ 0 → start ≡ turn.node
    start_first e = rw e refl

    carried : (stops stops' : List Stop) (legs legs' : List Path) (a' b' : ℕ) → stops ≡ stops' → legs ≡ legs' → a ≡ a' → b ≡ b'
        → IsKeptWith g lawful rates clock p good number ride.pickup ride.dropoff ride.picked_up ride.dropped_off (a - 1) stops' legs' a' b' → IsKeptBeing stops legs
    carried stops stops' legs legs' a' b' e f h k t = carry g lawful rates clock p good number ride.pickup ride.dropoff ride.picked_up ride.dropped_off (a - 1) stops stops' legs legs' a a' b b' e f h k t

    dropoff_at : (k : ℕ) → b - 1 ≡ suc k → slice_get p.stops (suc k) ≡ Some ride.dropoff
    dropoff_at k e = ap (slice_get p.stops) (sym e) ∙ ride.dropoff_stands

    next_to : b ≡ a + 1 → IsKeptBeing (without_both p.stops a b) (take (a - 1) p.legs ++ walks ++ drop (b + 1) p.legs)
    next_to e =
        let first = ride.from_first in
        let over = subst (λ (t : Bool). AreLeastWalks g (cond t (joint_over turn p.stops (a - 1) b) (joint_over turn p.stops (a - 1) a ++ joint_over turn p.stops (b - 1) b)) walks) (eq-eqb b (a + 1) e) joins in
        let joint = joint_is turn start p.stops (a - 1) (suc (suc (a - 1))) start_first b (omega arith) in
        carried (without_both p.stops a b) (left_of p.stops (a - 1) 0 (a - 1)) (take (a - 1) p.legs ++ walks ++ drop (b + 1) p.legs) (take (a - 1) p.legs ++ walks ++ drop (suc (suc (suc (a - 1)))) p.legs) (suc (a - 1)) (suc (suc (a - 1)))
        (without_is p.stops (a - 1) 0 (a - 1) a (b - a - 1) b (omega arith) (omega arith) (omega arith)) (legs_together p.legs walks (a - 1) b (omega arith)) (omega arith) (omega arith)
        (both_next g lawful rates clock p good number ride.pickup ride.dropoff ride.picked_up ride.dropped_off (a - 1) walks ride.pickup_stands (dropoff_at (a - 1) (omega arith)) (subst (λ (ends : List (NodeNo × NodeNo)). AreLeastWalks g ends walks) joint over))

    not_next : (b ≡ a + 1 → ⊥) → (s : Stop) × (slice_get p.stops a ≡ Some s)
        → IsKeptBeing (without_both p.stops a b) (take (a - 1) p.legs ++ take 1 walks ++ take (b - a - 2) (drop (a + 1) p.legs) ++ drop 1 walks ++ drop (b + 1) p.legs)
    not_next n (s, there) =
        let first = ride.from_first in
        let order = ride.order in
        let over = subst (λ (t : Bool). AreLeastWalks g (cond t (joint_over turn p.stops (a - 1) b) (joint_over turn p.stops (a - 1) a ++ joint_over turn p.stops (b - 1) b)) walks) (ne_eqb b (a + 1) n) joins in
        let up_joint = joint_is turn start p.stops (a - 1) (suc (a - 1)) start_first a (omega arith) in
        let down_joint = joint_is turn start p.stops (suc (b - 2)) (suc (suc (b - 2))) (λ z. absurd (omega arith)) b (omega arith) in
        let from : b - 1 ≡ suc (b - 2) = omega arith in
        let behind : suc (a - 1) ≡ a = omega arith in
        let next : slice_get p.stops (suc (a - 1)) ≡ Some s = ap (slice_get p.stops) behind ∙ there in
        let former : joint_over turn p.stops (a - 1) a ≡ leg_to (node_from turn.node start p.stops (a - 1)) (Some s) = up_joint ∙ ap (leg_to (node_from turn.node start p.stops (a - 1))) next in
        let latter : joint_over turn p.stops (b - 1) b ≡ leg_to (node_from turn.node start p.stops (suc (b - 2))) (slice_get p.stops (suc (suc (b - 2)))) = ap (λ (k : ℕ). joint_over turn p.stops k b) from ∙ down_joint in
        let both = subst (λ (ends : List (NodeNo × NodeNo)). AreLeastWalks g (leg_to (node_from turn.node start p.stops (a - 1)) (Some s) ++ ends) walks) latter
        (subst (λ (ends : List (NodeNo × NodeNo)). AreLeastWalks g (ends ++ joint_over turn p.stops (b - 1) b) walks) former over) in
        carried (without_both p.stops a b) (left_of p.stops (a - 1) (suc (b - a - 2)) (b - 2)) (take (a - 1) p.legs ++ take 1 walks ++ take (b - a - 2) (drop (a + 1) p.legs) ++ drop 1 walks ++ drop (b + 1) p.legs)
        (take (a - 1) p.legs ++ take 1 walks ++ take (b - a - 2) (drop (suc (suc (a - 1))) p.legs) ++ drop 1 walks ++ drop (suc (suc (suc (b - 2)))) p.legs) (suc (a - 1)) (suc (suc (b - 2)))
        (without_is p.stops (a - 1) (suc (b - a - 2)) (b - 2) a (b - a - 1) b (omega arith) (let m : b ≡ a + 1 → ⊥ = n in omega arith) (omega arith)) (legs_apart p.legs walks (a - 1) (b - a - 2) (b - 2) a b (omega arith) (omega arith)) (omega arith) (omega arith)
        (others_between g lawful rates clock p good number ride.pickup ride.dropoff ride.picked_up ride.dropped_off (a - 1) (b - a - 2) (b - 2) walks s (let m : b ≡ a + 1 → ⊥ = n in omega arith) ride.pickup_stands (dropoff_at (b - 2) (omega arith)) next both)

pub law : RemovalsKeepPromises
law g rates clock p number a b walks lawful good ride joins = on (cases_eq b (a + 1)) where
  within : a < length p.stops
  within = let l = slice_get_within p.stops (b - 1) ride.dropoff ride.dropoff_stands in let o = ride.order in omega arith

  on : (b ≡ a + 1) ⊎ (b ≡ a + 1 → ⊥) → IsKeptWith g lawful rates clock p good number ride.pickup ride.dropoff ride.picked_up ride.dropped_off (a - 1) (without_both p.stops a b) (with_joined p.legs a b walks) a b
  on (inl e) = subst (λ (t : Bool). IsKeptWith g lawful rates clock p good number ride.pickup ride.dropoff ride.picked_up ride.dropped_off (a - 1) (without_both p.stops a b)
      (cond t (take (a - 1) p.legs ++ walks ++ drop (b + 1) p.legs) (take (a - 1) p.legs ++ take 1 walks ++ take (b - a - 2) (drop (a + 1) p.legs) ++ drop 1 walks ++ drop (b + 1) p.legs)) a b)
      (sym (eq-eqb b (a + 1) e)) (next_to g lawful rates clock p good number a b walks ride joins e)
  on (inr n) = subst (λ (t : Bool). IsKeptWith g lawful rates clock p good number ride.pickup ride.dropoff ride.picked_up ride.dropped_off (a - 1) (without_both p.stops a b)
      (cond t (take (a - 1) p.legs ++ walks ++ drop (b + 1) p.legs) (take (a - 1) p.legs ++ take 1 walks ++ take (b - a - 2) (drop (a + 1) p.legs) ++ drop 1 walks ++ drop (b + 1) p.legs)) a b)
      (sym (ne_eqb b (a + 1) n)) (not_next g lawful rates clock p good number a b walks ride joins n (held p.stops a within))
