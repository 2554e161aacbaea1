use Rattle.std.specs.Prelude.{◌≡◌, ℕ, true, [], ◌∷◌, map, drop, refl}
use Rattle.road_graph.specs.Roads.{node}
use Rattle.stop_schedule.specs.declared.stop.StopKind.TheVariants.{Pickup, Dropoff}
use Rattle.stop_schedule.specs.Fronts.{front_of}
use Rattle.stop_schedule.specs.Lists.{inserted_in}
use Rattle.stop_schedule.specs.Plans.{Plan}
use Rattle.stop_schedule.specs.Rates.{usual}
use Rattle.stop_schedule.specs.Samples.{first, second, opened, ride, at}
use Rattle.stop_advance.specs.declared.served.Served.{Served}
use Rattle.stop_advance.specs.Advance.{served_by, advanced_in}

-- the line of four nodes, with a pickup at node 2 that is reached at 10 and left at 12, and a dropoff at node 4 that is reached at 32

not_yet : advanced_in usual first 9 ≡ first
not_yet = refl

picked_up : served_by usual first 12 ≡ record { kind = Pickup; no = record { 0 = 1 }; node = node 2; arr = 10; dep = 12 } ∷ []
picked_up = refl

on_the_way : advanced_in usual first 10 ≡ record first { place = node 2; departure = 12; halt = true; stops = drop 1 first.stops; legs = drop 1 first.legs }
on_the_way = refl

all_done : map (λ (s : Served). s.dep) (served_by usual first 32) ≡ 12 ∷ 34 ∷ []
all_done = refl

at_the_end : advanced_in usual first 40 ≡ record first { place = node 4; departure = 34; halt = true; stops = []; legs = [] }
at_the_end = refl

-- riders who come at 100: the vehicle is there at 10 and leaves at 100, and the stop is served from 10 on
abbrev early : Plan
early = inserted_in opened (front_of opened 0) (ride 7 2 4 100 1) (at 0 0) (record { pickup = 120; arrival = 150 }) first.legs

waits_there : advanced_in usual early 50 ≡ record early { place = node 2; departure = 100; halt = true; stops = drop 1 early.stops; legs = drop 1 early.legs }
waits_there = refl

both_served : served_by usual early 120 ≡ record { kind = Pickup; no = record { 0 = 7 }; node = node 2; arr = 10; dep = 100 } ∷ record { kind = Dropoff; no = record { 0 = 7 }; node = node 4; arr = 120; dep = 122 } ∷ []
both_served = refl

-- two stops at node 4, of which the second takes no time: it is reached as the first one is left
both_at_4 : map {B = ℕ × ℕ} (λ (s : Served). (s.arr, s.dep)) (served_by usual second 40) ≡ (10, 12) ∷ (22, 24) ∷ (34, 36) ∷ (36, 36) ∷ []
both_at_4 = refl

-- the vehicle halts at the first of them, so the second takes no time either where the clock moves in between
halts_at_4 : map {B = ℕ × ℕ} (λ (s : Served). (s.arr, s.dep)) (served_by usual (advanced_in usual second 34) 40) ≡ (36, 36) ∷ []
halts_at_4 = refl

-- a vehicle that halts is left as it is where no stop is reached
still_halting : advanced_in usual (record first { halt = true }) 9 ≡ record first { halt = true }
still_halting = refl
