use Rattle.std.specs.Prelude.{◌≡◌, ℕ, Bool, true, false, List, [], ◌∷◌, ◌++◌, map, flat_map, replicate, codes, Option, Some, None, refl}
use Rattle.std.specs.Fmt.{digits}
use Rattle.road_graph.specs.Roads.{node}
use Rattle.road_graph.specs.declared.road.NodeNo.{NodeNo}
use Rattle.ride_base.specs.Pieces.{Whole, TooLong, with_line_end as text_line}
use Rattle.plain_search.specs.declared.potential.Potential.{Potential}
use Rattle.stop_schedule.specs.declared.stop.StopKind.TheVariants.{Pickup}
use Rattle.stop_schedule.specs.declared.stop.Insertion.{Insertion}
use Rattle.stop_schedule.specs.Samples.{ride, at}
use Rattle.stop_advance.specs.declared.served.Served.{Served}
use Rattle.board_core.specs.declared.entry.Reason.TheVariants.{Repeated}
use Rattle.board_core.specs.declared.entry.CancelReason.TheVariants as why
use Rattle.board_core.specs.declared.entry.Submitted.TheVariants.{Accepted, Refused}
use Rattle.board_core.specs.declared.entry.Advanced.TheVariants.{Moved, Back as Behind}
use Rattle.journal_text.specs.declared.certificate.Certificate.{Certificate}
use Rattle.journal_text.specs.declared.text.TextOffer.{TextOffer}
use Rattle.journal_text.specs.declared.text.TextDecision.TheVariants as answer
use Rattle.journal_text.specs.declared.text.TextCancelled.TheVariants.{Removed, Refused as Declined}
use Rattle.journal_text.specs.declared.text.TextEntry.{TextEntry}
use Rattle.journal_text.specs.declared.text.TextEntry.TheVariants as text
use Rattle.journal_text.specs.declared.groups.Group.{Group}
use Rattle.journal_text.specs.Certificates.{potential_lines, direct_lines, joins_lines}
use Rattle.journal_text.specs.TextGroups.{group_lines, goes_on_with}
use Rattle.journal_text.specs.Forms.{is_in_form, is_walk_text, is_potential_text}
use Rattle.journal_text.specs.Journals.{is_over, IsNextGroup, BeginsAGroup}

-- an entry without certificate and potentials
abbrev bare : TextEntry → Group
bare entry = record { line = 1; entry = entry; proof = None; joins = [] }

abbrev listed : Option ℕ → List (ℕ × ℕ) → Potential
listed rest pairs = record { listed = map (λ (pair : ℕ × ℕ). (node pair.0, pair.1)) pairs; rest = rest }

abbrev walk_of : List ℕ → List NodeNo
walk_of nodes = map node nodes

-- so many walks of one node
abbrev short_walks : ℕ → List (List NodeNo)
short_walks many = replicate many (walk_of (1 ∷ []))

abbrev offer : Insertion → List (List NodeNo) → TextOffer
offer insertion walks = record { no = record { 0 = 1 }; at = insertion; cost = 34; leave = 12; arrive = 32; walks = walks }

abbrev assigned : Insertion → List (List NodeNo) → TextEntry
assigned insertion walks = text.Commit (record { 0 = 1 }) (answer.Assigned (offer insertion walks))

abbrev first_answer : TextEntry
first_answer = assigned (at 0 0) (walk_of (1 ∷ 2 ∷ []) ∷ walk_of (2 ∷ 3 ∷ 4 ∷ []) ∷ [])

abbrev removed : (pickup dropoff : ℕ) → List (List NodeNo) → TextEntry
removed pickup dropoff walks = text.Cancel (record { 0 = 1 })
    (Removed (record { no = record { 0 = 1 }; pickup = pickup; dropoff = dropoff; walks = walks }))

abbrev certificate : Certificate
certificate = record {
  to_pickup = listed None ((1, 10) ∷ (2, 0) ∷ (3, 10) ∷ (4, 20) ∷ []);
  from_pickup = listed None ((1, 10) ∷ (2, 0) ∷ (3, 10) ∷ (4, 20) ∷ []);
  to_dropoff = listed None ((1, 30) ∷ (2, 20) ∷ (3, 10) ∷ (4, 0) ∷ []);
  from_dropoff = listed None ((1, 30) ∷ (2, 20) ∷ (3, 10) ∷ (4, 0) ∷ []);
  direct = Some (walk_of (2 ∷ 3 ∷ 4 ∷ []));
}

abbrev proved : TextEntry → Group
proved entry = record { line = 1; entry = entry; proof = Some certificate; joins = [] }

abbrev joined : TextEntry → List Potential → Group
joined entry joins = record { line = 1; entry = entry; proof = None; joins = joins }

-- Lines.

proved_lines : group_lines (proved first_answer) ≡
    codes "a 1 1 0 0 34 12 32" ∷ codes "g 0 1 2" ∷ codes "g 1 2 3 4" ∷ codes "u 1 -" ∷ codes "w 1 10 2 0 3 10 4 20"
    ∷ codes "u 2 -" ∷ codes "w 1 10 2 0 3 10 4 20" ∷ codes "u 3 -" ∷ codes "w 1 30 2 20 3 10 4 0"
    ∷ codes "u 4 -" ∷ codes "w 1 30 2 20 3 10 4 0" ∷ codes "e 2 3 4" ∷ []
unfolding digits
proved_lines = refl

-- a cancellation that joined one leg, with its potential
joined_lines : group_lines (joined (removed 1 4 (walk_of (1 ∷ 2 ∷ 3 ∷ []) ∷ []))
    (listed (Some 21) ((1, 0) ∷ (2, 10) ∷ (3, 20) ∷ []) ∷ []))
    ≡ codes "y 1" ∷ codes "o 1 1 1 4" ∷ codes "g 0 1 2 3" ∷ codes "u 5 21" ∷ codes "w 1 0 2 10 3 20" ∷ []
unfolding digits
joined_lines = refl

second_join : joins_lines (listed (Some 1) [] ∷ listed None [] ∷ []) ≡ text_line (codes "u 5 1") ++ text_line (codes "u 6 -")
unfolding digits
second_join = refl

no_direct_walk : direct_lines None ≡ text_line (codes "e -")
no_direct_walk = refl

-- 32 pairs fill a line, and the 33rd goes to the next
pairs_overflow : potential_lines 1 (record { listed = replicate 33 (node 9, 7); rest = None })
    ≡ text_line (codes "u 1 -") ++ text_line (codes "w" ++ flat_map codes (replicate 32 " 9 7"))
    ++ text_line (codes "w 9 7")
unfolding digits
pairs_overflow = refl

-- 64 nodes fill a line of a direct walk, and the 65th goes to the next, which names no leg
direct_overflow : direct_lines (Some (replicate 64 (node 9) ++ node 8 ∷ []))
    ≡ text_line (codes "e" ++ flat_map codes (replicate 64 " 9")) ++ text_line (codes "f 8")
unfolding digits
direct_overflow = refl

-- Which lines go on with a group.

abbrev goes_on : TextEntry → List ℕ → List Bool
goes_on entry letters = map (λ (letter : ℕ). goes_on_with (bare entry) letter) letters

-- a refusal goes on with a submitted request, and no second one does
behind_ride : goes_on (text.Submit (ride 1 2 4 0 1) Accepted) (codes "xsghouwefr") ≡ true ∷ replicate 9 false
behind_ride = refl

behind_refusal : goes_on (text.Submit (ride 1 2 4 0 1) (Refused Repeated)) (codes "xsghouwefr") ≡ replicate 10 false
behind_refusal = refl

behind_move : goes_on (text.Advance 5 (Moved [])) (codes "xsghouweft") ≡ true ∷ true ∷ replicate 8 false
behind_move = refl

abbrev a_stop : Served
a_stop = record { kind = Pickup; no = record { 0 = 1 }; node = node 2; arr = 10; dep = 12 }

behind_stop : goes_on (text.Advance 12 (Moved ((record { 0 = 1 }, a_stop) ∷ []))) (codes "xsghouweft")
    ≡ false ∷ true ∷ replicate 8 false
behind_stop = refl

-- a walk or a certificate may come, and no line `h`, since the last walk has fewer than 64 nodes
behind_walks : goes_on first_answer (codes "gunhwefxs") ≡ true ∷ true ∷ replicate 7 false
behind_walks = refl

behind_full_walk : goes_on (assigned (at 0 0) (walk_of (1 ∷ []) ∷ replicate 64 (node 1) ∷ [])) (codes "ghuwef")
    ≡ true ∷ true ∷ true ∷ replicate 3 false
behind_full_walk = refl

behind_nobody : goes_on (text.Commit (record { 0 = 1 }) answer.Nobody) (codes "ughwefx") ≡ true ∷ replicate 6 false
behind_nobody = refl

behind_certificate : map (λ (letter : ℕ). goes_on_with (proved first_answer) letter) (codes "ughwefx") ≡ true ∷ replicate 6 false
behind_certificate = refl

behind_removal : goes_on (removed 1 2 []) (codes "ughwefx") ≡ true ∷ true ∷ replicate 5 false
behind_removal = refl

behind_joins : map (goes_on_with (joined (removed 1 4 (short_walks 1)) (listed None [] ∷ []))) (codes "uwghef")
    ≡ true ∷ true ∷ replicate 4 false
behind_joins = refl

behind_declined : goes_on (text.Cancel (record { 0 = 7 }) (Declined why.Unknown)) (codes "xou") ≡ replicate 3 false
behind_declined = refl

behind_shut : goes_on text.Shut (codes "xsghouwefz") ≡ replicate 10 false
behind_shut = refl

-- Which groups a journal may have.

abbrev in_form : TextEntry → Bool
in_form entry = is_in_form (bare entry)

largest_moved : in_form (text.Advance 1099511627776 (Moved [])) ≡ true
largest_moved = refl

later_moved : in_form (text.Advance 1099511627777 (Moved [])) ≡ false
later_moved = refl

behind_later_clock : in_form (text.Advance 3 (Behind 1099511627777)) ≡ false
behind_later_clock = refl

largest_ride : in_form (text.Submit (record
    (ride 4611686018427387904 4294967295 4294967295 4611686018427387904 4294967295) { spaces = 4294967295 }) Accepted) ≡ true
largest_ride = refl

larger_node : in_form (text.Submit (ride 1 4294967296 4 0 1) Accepted) ≡ false
larger_node = refl

later_ride : in_form (text.Submit (ride 1 2 4 4611686018427387905 1) Accepted) ≡ false
later_ride = refl

two_or_three_walks : map (λ (walks : List (List NodeNo)). in_form (assigned (at 0 0) walks)) (map short_walks (1 ∷ 2 ∷ 3 ∷ 4 ∷ []))
    ≡ false ∷ true ∷ true ∷ false ∷ []
two_or_three_walks = refl

three_or_four_walks : map (λ (walks : List (List NodeNo)). in_form (assigned (at 0 1) walks)) (map short_walks (2 ∷ 3 ∷ 4 ∷ 5 ∷ []))
    ≡ false ∷ true ∷ true ∷ false ∷ []
three_or_four_walks = refl

dropoff_before_pickup : in_form (assigned (at 1 0) (short_walks 3)) ≡ false
dropoff_before_pickup = refl

last_position : in_form (assigned (at 64 64) (short_walks 2)) ≡ true
last_position = refl

past_last_position : in_form (assigned (at 64 65) (short_walks 3)) ≡ false
past_last_position = refl

no_node : is_walk_text [] ≡ false
no_node = refl

none_or_one_join : map (λ (walks : List (List NodeNo)). in_form (removed 1 2 walks)) (map short_walks (0 ∷ 1 ∷ 2 ∷ []))
    ≡ true ∷ true ∷ false ∷ []
none_or_one_join = refl

one_or_two_joins : map (λ (walks : List (List NodeNo)). in_form (removed 1 3 walks)) (map short_walks (0 ∷ 1 ∷ 2 ∷ 3 ∷ []))
    ≡ false ∷ true ∷ true ∷ false ∷ []
one_or_two_joins = refl

removal_from_first : in_form (removed 0 2 (short_walks 1)) ≡ false
removal_from_first = refl

removal_in_order : in_form (removed 2 2 (short_walks 1)) ≡ false
removal_in_order = refl

last_removal : in_form (removed 63 64 []) ≡ true
last_removal = refl

rising_pairs : map is_potential_text
    (listed (Some 9007199254740991) ((0, 9007199254740991) ∷ (4294967295, 0) ∷ []) ∷ listed None ((2, 0) ∷ (2, 0) ∷ [])
    ∷ listed None ((2, 0) ∷ (1, 0) ∷ []) ∷ listed (Some 9007199254740992) [] ∷ listed None ((1, 9007199254740992) ∷ []) ∷ [])
    ≡ true ∷ false ∷ false ∷ false ∷ false ∷ []
rising_pairs = refl

proof_of_a_commit : is_in_form (proved first_answer) ≡ true
proof_of_a_commit = refl

proof_of_a_claim : is_in_form (proved (text.Claim (record { 0 = 1 }) 2)) ≡ false
proof_of_a_claim = refl

-- as many potentials as joined walks, or fewer, and no more
potentials_of_joins : map (λ (many : ℕ). is_in_form (joined (removed 1 4 (short_walks 1)) (replicate many (listed None []))))
    (0 ∷ 1 ∷ 2 ∷ []) ≡ true ∷ true ∷ false ∷ []
potentials_of_joins = refl

-- Next groups.

-- a request that was accepted, where an answer follows
accepted : IsNextGroup 1 (Whole (codes "r 1 2 4 0 1") ∷ Whole (codes "n 1") ∷ [])
    (bare (text.Submit (ride 1 2 4 0 1) Accepted)) (Whole (codes "n 1") ∷ [])
unfolding digits
accepted = record { number = refl; form = refl; lines = refl; over = refl }

-- where a line is too long, the group before it is whole
before_long : IsNextGroup 1 (Whole (codes "z") ∷ TooLong ∷ []) (bare text.Shut) (TooLong ∷ [])
unfolding digits
before_long = record { number = refl; form = refl; lines = refl; over = refl }

abbrev accepted_ride : Group
accepted_ride = bare (text.Submit (ride 1 2 4 0 1) Accepted)

-- a refusal of another request belongs to the request before it, as its first field tells, and so does one that is cut short
what_follows : map (λ (bytes : List ℕ). is_over accepted_ride (Whole bytes ∷ []))
    (codes "x 2 riders" ∷ codes "x" ∷ codes "xyz" ∷ [] ∷ codes "k 1 2" ∷ codes " x 1 riders" ∷ [])
    ≡ false ∷ false ∷ true ∷ true ∷ true ∷ true ∷ []
what_follows = refl

-- a line `h` behind a short one begins a group, where it is bad
behind_short_line : is_over (bare first_answer) (Whole (codes "h 1 5") ∷ []) ≡ true
behind_short_line = refl

-- a cancellation that the end cuts short is bad at the line behind the last
cut_short : BeginsAGroup (codes "y 7" ∷ [])
unfolding digits
cut_short = record {
  group = bare (text.Cancel (record { 0 = 7 }) (Declined why.Unknown));
  form = refl;
  more = codes "x 7 unknown" ∷ [];
  begins = refl;
}
