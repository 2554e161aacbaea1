use Rattle.std.specs.Prelude.{◌≡◌, ℕ, List, [], ◌∷◌, ◌++◌, flat_map, replicate, codes, refl}
use Rattle.std.specs.Fmt.{digits}
use Rattle.ride_base.specs.Pieces.{with_line_end as text_line}
use Rattle.road_graph.specs.Roads.{node}
use Rattle.stop_schedule.specs.declared.stop.StopKind.TheVariants.{Pickup}
use Rattle.stop_schedule.specs.Samples.{ride, path, at}
use Rattle.insertion_cost.specs.declared.decision.Decision.TheVariants.{Assigned, Nobody}
use Rattle.board_core.specs.declared.entry.Reason.TheVariants.{Riders, Repeated}
use Rattle.board_core.specs.declared.entry.Submitted.TheVariants.{Accepted, Refused}
use Rattle.board_core.specs.declared.entry.Advanced.TheVariants.{Moved, Back as Behind}
use Rattle.board_core.specs.declared.entry.CancelReason.TheVariants as why
use Rattle.board_core.specs.declared.entry.Cancelled.TheVariants.{Removed, Refused as Declined}
use Rattle.board_core.specs.declared.entry.Entry.TheVariants.{Submit, Claim, Back, Commit, Advance, Cancel, Shut}
use Rattle.journal_text.specs.Groups.{group, journal_of, walk_lines}

a_ride : group (Submit (ride 1 2 4 0 1) Accepted) ≡ text_line (codes "r 1 2 4 0 1")
unfolding digits
a_ride = refl

-- a wheelchair space is told where one is asked for
with_a_space : group (Submit (record (ride 1 2 4 0 1) { spaces = 1 }) Accepted) ≡ text_line (codes "r 1 2 4 0 1 1")
unfolding digits
with_a_space = refl

no_rider : group (Submit (ride 1 2 4 0 0) (Refused Riders)) ≡ text_line (codes "r 1 2 4 0 0") ++ text_line (codes "x 1 riders")
unfolding digits
no_rider = refl

refused : group (Submit (ride 1 2 3 0 1) (Refused Repeated)) ≡ text_line (codes "r 1 2 3 0 1") ++ text_line (codes "x 1 repeated")
unfolding digits
refused = refl

answered : group (Commit (record { 0 = 1 }) (Assigned (record {
  offer = record { cost = 34; no = record { 0 = 1 }; place = 0; at = at 0 0; leave = 12; arrive = 32 };
  walks = path 1 0 (2 ∷ []) (10 ∷ []) ∷ path 2 0 (3 ∷ 4 ∷ []) (10 ∷ 20 ∷ []) ∷ [];
}))) ≡ text_line (codes "a 1 1 0 0 34 12 32") ++ text_line (codes "g 0 1 2") ++ text_line (codes "g 1 2 3 4")
unfolding digits
answered = refl

-- a pickup from the front and the dropoff after the last of two stops: legs 0, 1 and 3
far_apart : group (Commit (record { 0 = 2 }) (Assigned (record {
  offer = record { cost = 65; no = record { 0 = 1 }; place = 0; at = at 0 2; leave = 12; arrive = 66 };
  walks = path 2 0 [] [] ∷ path 2 0 [] [] ∷ path 4 0 (3 ∷ []) (10 ∷ []) ∷ [];
}))) ≡ text_line (codes "a 2 1 0 2 65 12 66") ++ text_line (codes "g 0 2") ++ text_line (codes "g 1 2") ++ text_line (codes "g 3 4 3")
unfolding digits
far_apart = refl

nobody : group (Commit (record { 0 = 33 }) Nobody) ≡ text_line (codes "n 33")
unfolding digits
nobody = refl

-- a rider cancels and one leg is joined, or none; another one did before
cancelled : group (Cancel (record { 0 = 1 })
    (Removed (record { no = record { 0 = 1 }; pickup = 1; dropoff = 4; walks = path 1 0 (2 ∷ 3 ∷ []) (10 ∷ 20 ∷ []) ∷ [] })))
    ≡ text_line (codes "y 1") ++ text_line (codes "o 1 1 1 4") ++ text_line (codes "g 0 1 2 3")
unfolding digits
cancelled = refl

cancelled_alone : group (Cancel (record { 0 = 1 }) (Removed (record { no = record { 0 = 1 }; pickup = 1; dropoff = 2; walks = [] })))
    ≡ text_line (codes "y 1") ++ text_line (codes "o 1 1 1 2")
unfolding digits
cancelled_alone = refl

-- two joined legs, the second of them behind the stops that stay between the two
joined_twice : group (Cancel (record { 0 = 5 })
    (Removed (record { no = record { 0 = 2 }; pickup = 2; dropoff = 5; walks = path 1 0 [] [] ∷ path 3 0 [] [] ∷ [] })))
    ≡ text_line (codes "y 5") ++ text_line (codes "o 5 2 2 5") ++ text_line (codes "g 1 1") ++ text_line (codes "g 3 3")
unfolding digits
joined_twice = refl

not_known : group (Cancel (record { 0 = 7 }) (Declined why.Unknown)) ≡ text_line (codes "y 7") ++ text_line (codes "x 7 unknown")
unfolding digits
not_known = refl

claimed : journal_of (Claim (record { 0 = 7 }) 2 ∷ Back (record { 0 = 7 }) ∷ Shut ∷ [])
    ≡ text_line (codes "k 7 2") ++ text_line (codes "b 7") ++ text_line (codes "z")
unfolding digits
claimed = refl

served : group (Advance 12
    (Moved ((record { 0 = 1 }, record { kind = Pickup; no = record { 0 = 1 }; node = node 2; arr = 10; dep = 12 }) ∷ [])))
    ≡ text_line (codes "t 12") ++ text_line (codes "s 1 1 p 2 10 12")
unfolding digits
served = refl

behind : group (Advance 3 (Behind 5)) ≡ text_line (codes "t 3") ++ text_line (codes "x back 5")
unfolding digits
behind = refl

-- 64 nodes fill a line, and the 65th goes to the next
full : walk_lines 7 (replicate 64 (node 9)) ≡ text_line (codes "g 7" ++ flat_map (λ (n : ℕ). codes " 9") (replicate 64 0))
unfolding digits
full = refl

overfull : walk_lines 7 (replicate 64 (node 9) ++ node 8 ∷ []) ≡ walk_lines 7 (replicate 64 (node 9)) ++ text_line (codes "h 7 8")
unfolding digits
overfull = refl
