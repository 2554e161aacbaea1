use Rattle.std.specs.Prelude.{◌≡◌, ℕ, zero, suc, ◌+◌, ◌-◌, ◌%◌, ◌==◌, ◌&&◌, ◌||◌, nat_lt, nat_le, Bool, true, false, cond, List, [], ◌∷◌, ◌++◌, length, Option, Some, None, codes}
use Rattle.std.specs.Str.{bytes_eq}
use Rattle.road_graph.specs.declared.road.NodeNo.{NodeNo}
use Rattle.plain_search.specs.declared.potential.Potential.{Potential}
use Rattle.stop_schedule.specs.declared.stop.Insertion.{Insertion}
use Rattle.ride_base.specs.declared.numbers.VehicleNo.{VehicleNo}
use Rattle.stop_advance.specs.declared.served.Served.{Served}
use Rattle.board_core.specs.declared.entry.Submitted.TheVariants.{Accepted, Refused}
use Rattle.journal_text.specs.declared.heads.RemovalHead.{RemovalHead}
use Rattle.journal_text.specs.declared.heads.Head.{Head}
use Rattle.journal_text.specs.declared.heads.Head.TheVariants.{Ride, Offer, Nobody, Clock, Behind, Asked, Declined, Removal}
use Rattle.journal_text.specs.declared.draft.Direct.{Direct}
use Rattle.journal_text.specs.declared.draft.Direct.TheVariants.{Ahead, Absent, Walk}
use Rattle.journal_text.specs.declared.draft.Draft.{Draft}
pub use Rattle.journal_text.specs.Forms.{is_empty}
use Rattle.journal_text.specs.Forms.{largest_value, most_nodes}
use Rattle.journal_text.specs.TextGroups.{is_full_walk, last_walk, is_field_end}
use Rattle.journal_text.specs.LineParts.{and_then, number_ahead}
use Rattle.journal_text.specs.LineRuns.{nodes_of_line, pairs_of_line}
use Rattle.journal_text.specs.LineHeads.{at_end, head_in, refusal_in, cancel_refusal_in, behind_in, removal_in, served_in}

-- A group as far as its lines were read, and what the next line makes of it.

-- how many walks a group has at most; the last one may be left out
abbrev pub most_walks_of : Head → ℕ
most_walks_of (Offer asked offer) = cond (offer.at.i == offer.at.j) 3 4
most_walks_of (Removal asked removal) = cond (removal.dropoff == removal.pickup + 1) 1 2
most_walks_of head = 0

abbrev pub has_walks : Draft → Bool
has_walks d = nat_le (most_walks_of d.head) (length d.walks + 1)

-- a certificate was read to its direct walk, or wasn't begun
abbrev pub has_proof_or_none : Direct → List Potential → Bool
has_proof_or_none Ahead potentials = is_empty potentials
has_proof_or_none Absent potentials = true
has_proof_or_none (Walk nodes) potentials = true

abbrev pub is_whole_with : Head → (walks proof : Bool) → Bool
is_whole_with (Asked asked) walks proof = false
is_whole_with (Offer asked offer) walks proof = walks && proof
is_whole_with (Nobody asked) walks proof = proof
is_whole_with (Removal asked removal) walks proof = walks
is_whole_with head walks proof = true

-- the lines read so far are those of a group
abbrev pub is_whole_draft : Draft → Bool
is_whole_draft d = is_whole_with d.head (has_walks d) (has_proof_or_none d.direct d.potentials)

-- `x`, under what was refused
abbrev pub refused_head : Head → List (VehicleNo × Served) → List ℕ → Option Head
refused_head (Ride r Accepted) served rest = and_then (refusal_in rest r.no) (λ reason. Some (Ride r (Refused reason)))
refused_head (Clock now) [] rest = and_then (behind_in rest) (λ (clock : ℕ). Some (Behind now clock))
refused_head (Asked asked) served rest = and_then (cancel_refusal_in rest asked) (λ reason. Some (Declined asked reason))
refused_head head served rest = None

-- `o`, what was taken out
abbrev pub removed_head : Head → List ℕ → Option Head
removed_head (Asked asked) rest = and_then (removal_in rest asked) (λ (x : RemovalHead). Some (Removal asked x))
removed_head head rest = None

abbrev pub is_clock : Head → Bool
is_clock (Clock now) = true
is_clock head = false

-- the leg of the walk of that index, among those that a group may have
abbrev pub changed_leg_of : Insertion → (index : ℕ) → ℕ
changed_leg_of at zero = at.i
changed_leg_of at (suc zero) = at.i + 1
changed_leg_of at (suc (suc zero)) = cond (at.i == at.j) (at.i + 2) (at.j + 1)
changed_leg_of at (suc (suc (suc index))) = at.j + 2

abbrev pub joined_leg_of : RemovalHead → (index : ℕ) → ℕ
joined_leg_of removal zero = removal.pickup - 1
joined_leg_of removal (suc index) = removal.dropoff - 2

abbrev pub leg_of : Head → (index : ℕ) → Option ℕ
leg_of (Offer asked offer) index = Some (changed_leg_of offer.at index)
leg_of (Removal asked removal) index = Some (joined_leg_of removal index)
leg_of head index = None

-- what stands behind that number at the front
abbrev pub behind_the : List ℕ → (number : ℕ) → Option (List ℕ)
behind_the bytes number = and_then (number_ahead bytes number) (λ (found : ℕ × List ℕ). cond (found.0 == number) (Some found.1) None)

-- ` REST` at the end of a line: a number, or `-` for none
abbrev pub rest_at_end : List ℕ → Option (Option ℕ)
rest_at_end bytes = cond (bytes_eq bytes (codes " -")) (Some None) (and_then (number_ahead bytes largest_value) (λ (value : ℕ × List ℕ). at_end (Some value.0) value.1))

-- whether a line was taken, and what it was put behind then
abbrev pub Takes : {X : Type 0} → Option X → X → Bool → X → Type 0
Takes None old taken new = (taken ≡ false) × (new ≡ old)
Takes (Some next) old taken new = (taken ≡ true) × (new ≡ next)

abbrev pub with_head : Draft → Option Head → Option Draft
with_head d None = None
with_head d (Some head) = Some (record d { head = head })

abbrev pub refuse_step : Draft → List ℕ → Option Draft
refuse_step d rest = with_head d (refused_head d.head d.served rest)

abbrev pub remove_step : Draft → List ℕ → Option Draft
remove_step d rest = with_head d (removed_head d.head rest)

-- `s`, a stop that was reached
abbrev pub serve_step : Draft → List ℕ → Option Draft
serve_step d rest = cond (is_clock d.head) (and_then (served_in rest) (λ (stop : VehicleNo × Served). Some (record d { served = d.served ++ stop ∷ [] }))) None

-- the leg of the next walk, where one may come
abbrev pub next_leg_of : Draft → Option ℕ
next_leg_of d = cond (is_empty d.potentials && nat_lt (length d.walks) (most_walks_of d.head)) (leg_of d.head (length d.walks)) None

-- `g LEG N1 .. Nk`
abbrev pub walk_step : Draft → List ℕ → Option Draft
walk_step d rest =
    and_then (next_leg_of d) (λ (leg : ℕ). and_then (behind_the rest leg) (λ (text : List ℕ). and_then (nodes_of_line text) (λ (nodes : List NodeNo).
    Some (record d { walks = d.walks ++ nodes ∷ [] }))))

-- the number of the next potential, where one may come
abbrev pub next_number_with : Head → Direct → (walks : Bool) → (potentials joined : ℕ) → Option ℕ
next_number_with head direct false potentials joined = None
next_number_with (Offer asked offer) Ahead true potentials joined = cond (nat_lt potentials 4) (Some (potentials + 1)) None
next_number_with (Nobody asked) Ahead true potentials joined = cond (nat_lt potentials 4) (Some (potentials + 1)) None
next_number_with (Removal asked removal) direct true potentials joined = cond (nat_lt potentials joined) (Some (potentials + 5)) None
next_number_with head direct true potentials joined = None

-- `u W REST`
abbrev pub potential_step : Draft → List ℕ → Option Draft
potential_step d rest =
    and_then (next_number_with d.head d.direct (has_walks d) (length d.potentials) (length d.walks)) (λ (number : ℕ). and_then (behind_the rest number) (λ (text : List ℕ).
    and_then (rest_at_end text) (λ (value : Option ℕ). Some (record d { potentials = d.potentials ++ (record { listed = []; rest = value }) ∷ [] }))))

-- Steps that go on with the last walk, the last potential and the direct walk.

-- another one in the place of the last
abbrev pub replaced_last : {X : Type 0} → List X → X → List X
replaced_last [] last = []
replaced_last (x ∷ []) last = last ∷ []
replaced_last (x ∷ next ∷ more) last = x ∷ replaced_last (next ∷ more) last

-- a walk with more nodes, where it may have as many
abbrev pub lengthened : (walk nodes : List NodeNo) → Option (List NodeNo)
lengthened walk nodes = cond (nat_le (length walk + length nodes) most_nodes) (Some (walk ++ nodes)) None

-- the leg of the last walk, where it may go on
abbrev pub open_leg_of : Draft → Option ℕ
open_leg_of d = cond (is_empty d.potentials && is_full_walk (last_walk d.walks)) (leg_of d.head (length d.walks - 1)) None

-- `h LEG Nx .. Ny`
abbrev pub longer_step : Draft → List ℕ → Option Draft
longer_step d rest =
    and_then (open_leg_of d) (λ (leg : ℕ). and_then (behind_the rest leg) (λ (text : List ℕ). and_then (nodes_of_line text) (λ (nodes : List NodeNo).
    and_then (lengthened (last_walk d.walks) nodes) (λ (walk : List NodeNo). Some (record d { walks = replaced_last d.walks walk })))))

-- the pairs of the last potential
abbrev pub last_listed : List Potential → List (NodeNo × ℕ)
last_listed [] = []
last_listed (p ∷ []) = p.listed
last_listed (p ∷ next ∷ more) = last_listed (next ∷ more)

-- the node of the last pair
abbrev pub last_node_of : List (NodeNo × ℕ) → Option NodeNo
last_node_of [] = None
last_node_of (pair ∷ []) = Some pair.0
last_node_of (pair ∷ next ∷ more) = last_node_of (next ∷ more)

-- there is a potential, and the last line of the last one has as many pairs as it may, or is its first one
abbrev pub are_pairs_full_in : List Potential → Bool
are_pairs_full_in [] = false
are_pairs_full_in (p ∷ ps) = length (last_listed (p ∷ ps)) % 32 == 0

-- more pairs in the last potential
abbrev pub with_pairs : List Potential → List (NodeNo × ℕ) → List Potential
with_pairs [] pairs = []
with_pairs (p ∷ []) pairs = (record p { listed = p.listed ++ pairs }) ∷ []
with_pairs (p ∷ next ∷ more) pairs = p ∷ with_pairs (next ∷ more) pairs

abbrev pub is_ahead : Direct → Bool
is_ahead Ahead = true
is_ahead Absent = false
is_ahead (Walk nodes) = false

-- `w N V N V ..`
abbrev pub pairs_step : Draft → List ℕ → Option Draft
pairs_step d rest = cond (is_ahead d.direct && are_pairs_full_in d.potentials)
    (and_then (pairs_of_line rest (last_node_of (last_listed d.potentials))) (λ (pairs : List (NodeNo × ℕ)). Some (record d { potentials = with_pairs d.potentials pairs }))) None

-- four potentials were read, and the direct walk wasn't begun
abbrev pub wants_direct_with : Head → Direct → (potentials : ℕ) → Bool
wants_direct_with (Offer asked offer) Ahead potentials = potentials == 4
wants_direct_with (Nobody asked) Ahead potentials = potentials == 4
wants_direct_with head direct potentials = false

abbrev pub with_direct : Draft → Option Direct → Option Draft
with_direct d None = None
with_direct d (Some direct) = Some (record d { direct = direct })

abbrev pub walk_direct : Option (List NodeNo) → Option Direct
walk_direct None = None
walk_direct (Some nodes) = Some (Walk nodes)

-- what ` -`, or the nodes of a line, say of the direct walk
abbrev pub direct_in : List ℕ → Option Direct
direct_in rest = cond (bytes_eq rest (codes " -")) (Some Absent) (walk_direct (nodes_of_line rest))

-- `e N1 .. Nk`, or `e -`
abbrev pub direct_step : Draft → List ℕ → Option Draft
direct_step d rest = cond (wants_direct_with d.head d.direct (length d.potentials)) (with_direct d (direct_in rest)) None

abbrev pub longer_direct_in : Direct → List ℕ → Option Direct
longer_direct_in Ahead rest = None
longer_direct_in Absent rest = None
longer_direct_in (Walk nodes) rest = cond (length nodes % 64 == 0) (and_then (nodes_of_line rest) (λ (run : List NodeNo). walk_direct (lengthened nodes run))) None

-- `f Nx .. Ny`
abbrev pub longer_direct_step : Draft → List ℕ → Option Draft
longer_direct_step d rest = with_direct d (longer_direct_in d.direct rest)

-- a line behind the first one, by its letter
abbrev pub lettered_step : Draft → (letter : ℕ) → List ℕ → Option Draft
lettered_step d letter rest =
    cond (letter == 120) (refuse_step d rest) (cond (letter == 115) (serve_step d rest) (cond (letter == 111) (remove_step d rest)
    (cond (letter == 103) (walk_step d rest) (cond (letter == 104) (longer_step d rest) (cond (letter == 117) (potential_step d rest)
    (cond (letter == 119) (pairs_step d rest) (cond (letter == 101) (direct_step d rest) (cond (letter == 102) (longer_direct_step d rest) None))))))))

-- the group with the next line
abbrev pub draft_step : Draft → (line : List ℕ) → Option Draft
draft_step d [] = None
draft_step d (letter ∷ rest) = lettered_step d letter rest

-- a group whose first line came to that head
abbrev pub new_draft : (line : ℕ) → Head → Draft
new_draft line head = record { line = line; head = head; served = []; walks = []; potentials = []; direct = Ahead }

-- the group that the first line begins, which has that number
abbrev pub draft_of_line : (number : ℕ) → (line : List ℕ) → Option Draft
draft_of_line number line = and_then (head_in line) (λ (head : Head). Some (new_draft number head))

-- walks of which the last has more nodes
abbrev pub longer_walks : List (List NodeNo) → (nodes : List NodeNo) → Option (List (List NodeNo))
longer_walks walks nodes = and_then (lengthened (last_walk walks) nodes) (λ (walk : List NodeNo). Some (replaced_last walks walk))

-- pairs with those of a line behind them
abbrev pub pairs_added : List (NodeNo × ℕ) → List ℕ → Option (List (NodeNo × ℕ))
pairs_added listed rest = and_then (pairs_of_line rest (last_node_of listed)) (λ (pairs : List (NodeNo × ℕ)). Some (listed ++ pairs))

-- potentials of which the last has the pairs of a line more
abbrev pub more_listed : List Potential → List ℕ → Option (List Potential)
more_listed potentials rest = and_then (pairs_of_line rest (last_node_of (last_listed potentials))) (λ (pairs : List (NodeNo × ℕ)). Some (with_pairs potentials pairs))

-- Whether a line of that letter goes on with a group that is whole.

abbrev pub walks_go_on_in : Draft → (letter : ℕ) → Bool
walks_go_on_in d letter = is_empty d.potentials && ((letter == 103) || (letter == 104 && is_full_walk (last_walk d.walks)))

abbrev pub pairs_go_on_in : Draft → (letter : ℕ) → Bool
pairs_go_on_in d letter = letter == 119 && are_pairs_full_in d.potentials

abbrev pub is_direct_full_in : Direct → Bool
is_direct_full_in Ahead = false
is_direct_full_in Absent = false
is_direct_full_in (Walk nodes) = is_full_walk nodes

abbrev pub direct_goes_on_in : Draft → (letter : ℕ) → Bool
direct_goes_on_in d letter = letter == 102 && is_direct_full_in d.direct

abbrev pub head_goes_on_in : Head → Draft → (letter : ℕ) → Bool
head_goes_on_in (Ride r Accepted) d letter = letter == 120
head_goes_on_in (Clock now) d letter = (letter == 115) || (letter == 120 && is_empty d.served)
head_goes_on_in (Offer asked offer) d letter = (letter == 117) || (walks_go_on_in d letter || direct_goes_on_in d letter)
head_goes_on_in (Nobody asked) d letter = (letter == 117) || direct_goes_on_in d letter
head_goes_on_in (Removal asked removal) d letter = (letter == 117) || (walks_go_on_in d letter || pairs_go_on_in d letter)
head_goes_on_in head d letter = false

abbrev pub goes_on_in : Draft → (letter : ℕ) → Bool
goes_on_in d letter = head_goes_on_in d.head d letter

-- a field ends behind the letter, and a line of that letter goes on
abbrev pub goes_on_in_line : Draft → (line : List ℕ) → Bool
goes_on_in_line d [] = false
goes_on_in_line d (letter ∷ rest) = is_field_end rest && goes_on_in d letter

-- a walk whose last line is full with the nodes of a line
abbrev pub longer_by_line : (walk : List NodeNo) → List ℕ → Option (List NodeNo)
longer_by_line walk rest = cond (length walk % 64 == 0) (and_then (nodes_of_line rest) (λ (run : List NodeNo). lengthened walk run)) None
