use Rattle.std.specs.Prelude.{◌≡◌, ℕ, ◌==◌, true, List, [], ◌∷◌, ◌++◌, Option, Some, None, refl}
use Rattle.ride_base.specs.declared.numbers.RequestNo.{RequestNo}
use mathlib.Core.Bool.{false≢true}
use mathlib.Core.Path.{ap, sym, subst}
use lib.Dec.{lit<}
use Rattle.road_graph.specs.Roads.{Roads}
use Rattle.stop_schedule.specs.declared.request.Request.{Request}
use Rattle.stop_schedule.specs.Samples.{ride}
use Rattle.insertion_cost.specs.declared.candidates.Candidates.{Candidates}
use Rattle.insertion_cost.specs.declared.decision.Decision.{Decision}
use Rattle.insertion_cost.specs.Candidates.{AreFresh, Decides, none_at}
use Rattle.board_core.specs.declared.entry.Entry.{Entry}
use Rattle.board_core.specs.declared.entry.Entry.TheVariants as entry
use Rattle.board_core.specs.declared.entry.Advanced.TheVariants.{Back as Behind}
use Rattle.board_core.specs.declared.entry.Reason.TheVariants.{Riders}
use Rattle.board_core.specs.declared.entry.Submitted.TheVariants.{Accepted, Refused}
use Rattle.board_core.specs.declared.fleet.Fleet.{Fleet}
use Rattle.board_core.specs.Boards.{Board, with_next_version}
use Rattle.board_core.specs.FleetViews.{cars_of}
use Rattle.board_core.specs.Samples.{at_first, numbered, with_one}
use Rattle.board_core.specs.Steps.{Step}
use Rattle.interleave_core.specs.declared.event.Event.TheVariants as event
use Rattle.interleave_core.specs.declared.holding.Holding.TheVariants.{Nothing, Claimed, Priced}
use Rattle.interleave_core.specs.Plays.{Act, Play}
use Rattle.interleave_core.specs.States.{Holding, State}

-- Two actors before the board of the line of four nodes, on which the request 1 waits that no desk holds. The index of its fleet is a
-- number here.

abbrev one : Request
one = ride 1 2 4 0 1

abbrev with_actors : Board → Holding ℕ → Holding ℕ → State ℕ
with_actors b first second = record { board = b; actors = first ∷ second ∷ [] }

abbrev idle : State ℕ
idle = with_actors with_one Nothing Nothing

-- the fleet of that board behind its first entry
abbrev kept : Fleet ℕ
kept = record { params = with_one.fleet.rates; clock = 0; version = 1; cars = with_one.fleet.cars; index = 7 }

-- the same board where a desk holds the request, after one entry
abbrev held_by_desk : Option ℕ → Board → Board
held_by_desk desk b = record (with_next_version b) { waiting = record { request = one; holder = desk } ∷ [] }

abbrev claimed : State ℕ
claimed = with_actors (held_by_desk (Some 1) with_one) Nothing (Claimed one kept)

abbrev priced : Candidates → State ℕ
priced c = with_actors (held_by_desk (Some 1) with_one) Nothing (Priced one c)

-- ---- claims

-- the second actor claims the request as the desk 1, and keeps the fleet as it is behind the claim
second_claims : (g : Roads) → Act g idle (event.Claim 1) (entry.Claim (numbered 1) 1 ∷ []) claimed
second_claims g = (kept, refl, (refl, (record { request = one; holder = None }, refl, refl, refl), refl))

-- it claims no other one while it holds this one, and the first actor finds none
holds_one : (g : Roads) → Act g claimed (event.Claim 1) [] claimed
holds_one g = (refl, refl)

finds_none : (g : Roads) → Act g claimed (event.Claim 0) [] claimed
finds_none g = (refl, refl)

-- nor does one who isn't there claim anything
nobody_claims : (g : Roads) → Act g idle (event.Claim 2) [] idle
nobody_claims g = (refl, refl)

-- a claim by which nothing is added isn't that of a free actor, where a request waits
claim_not_dropped : (g : Roads) (after : State ℕ) → Act g idle (event.Claim 0) [] after → ⊥
claim_not_dropped g after h = (let bad = h.2.0 in cc)

-- nor is one in another desk's name
own_desk : (g : Roads) (after : State ℕ) → Act g idle (event.Claim 0) (entry.Claim (numbered 1) 1 ∷ []) after → ⊥
own_desk g after h = (let bad = h.2.0 in cc)

-- a closed board takes no request, but those that wait are claimed
claims_when_closed : (g : Roads)
    → Act g (with_actors (record with_one { closed = true }) Nothing Nothing) (event.Claim 1) (entry.Claim (numbered 1) 1 ∷ [])
    (with_actors (record (held_by_desk (Some 1) with_one) { closed = true }) Nothing (Claimed one kept))
claims_when_closed g = (kept, refl, (refl, (record { request = one; holder = None }, refl, refl, refl), refl))

-- ---- prices

-- fresh candidates of the fleet that was kept, and no entry
is_priced : (g : Roads) (c : Candidates) → AreFresh g (cars_of kept) one c → Decides c → Act g claimed (event.Price 1) [] (priced c)
is_priced g c fresh enough = (c, fresh, enough, refl, refl)

abbrev second_priced : List (Holding ℕ) → Candidates
second_priced (h ∷ Priced r c ∷ more) = c
second_priced holdings = none_at 0

-- candidates that say nothing aren't priced
none_said : (g : Roads) → Act g claimed (event.Price 1) [] (priced (none_at 0)) → ⊥
none_said g h =
    let same : none_at 0 ≡ h.0 = ap (λ (s : State ℕ). second_priced s.actors) h.4 in
    let P : Candidates → Type 0 = λ c. Decides c in subst P (sym same) h.2

-- it prices once
priced_once : (g : Roads) (c : Candidates) → Act g (priced c) (event.Price 1) [] (priced c)
priced_once g c = (refl, refl)

-- one that holds nothing prices nothing
nothing_priced : (g : Roads) → Act g claimed (event.Price 0) [] claimed
nothing_priced g = (refl, refl)

-- ---- commits

-- a priced claim is committed by an entry that is lawful on the board as it is, and its actor holds nothing then
is_committed : (g : Roads) (c : Candidates) (d : Decision) (b new : Board) → Step g b (entry.Commit (numbered 1) d) new
    → Act g (with_actors b Nothing (Priced one c)) (event.Commit 1) (entry.Commit (numbered 1) d ∷ []) (with_actors new Nothing Nothing)
is_committed g c d b new step = (d, (refl, step, refl))

-- one that holds nothing, or what isn't priced, adds nothing
nothing_committed : (g : Roads) (e : Entry) (after : State ℕ) → Act g claimed (event.Commit 0) (e ∷ []) after → ⊥
nothing_committed g e after h = (let bad = h.0 in cc)

unpriced : (g : Roads) → Act g claimed (event.Commit 1) [] claimed
unpriced g = (refl, refl)

-- no commit is left out, and none is in another number's name
commit_not_dropped : (g : Roads) (c : Candidates) (after : State ℕ) → Act g (priced c) (event.Commit 1) [] after → ⊥
commit_not_dropped g c after h = (let bad = h.1.0 in cc)

own_number : (g : Roads) (c : Candidates) (d : Decision) (after : State ℕ)
    → Act g (priced c) (event.Commit 1) (entry.Commit (numbered 2) d ∷ []) after → ⊥
own_number g c d after h =
    let bad = h.1.0 in
    let same : numbered 2 ≡ numbered 1 = cc in
    false≢true (ap (λ (n : RequestNo). n.0 == 1) same)

-- ---- what is given back, and what has no actor

-- the request keeps its place, and no desk holds it
given_back : (g : Roads)
    → Act g claimed (event.Back 1) (entry.Back (numbered 1) ∷ []) (with_actors (held_by_desk None claimed.board) Nothing Nothing)
given_back g = (refl, (record { request = one; holder = Some 1 }, refl, refl, refl), refl)

priced_given_back : (g : Roads) (c : Candidates)
    → Act g (priced c) (event.Back 1) (entry.Back (numbered 1) ∷ []) (with_actors (held_by_desk None claimed.board) Nothing Nothing)
priced_given_back g c = (refl, (record { request = one; holder = Some 1 }, refl, refl, refl), refl)

abbrev closed : State ℕ
closed = with_actors (record (with_next_version with_one) { closed = true }) Nothing Nothing

is_shut : (g : Roads) → Act g idle event.Shut (entry.Shut ∷ []) closed
is_shut g = (refl, (refl, refl), refl)

shut_before : (g : Roads) → Act g closed event.Shut [] closed
shut_before g = (refl, refl)

-- what is refused is an entry too: a clock that is to move back, and a request of no rider
abbrev at_five : Board
at_five = record with_one { fleet = record with_one.fleet { clock = 5 } }

moves_back : (g : Roads)
    → Act g (with_actors at_five Nothing Nothing) (event.Advance 4) (entry.Advance 4 (Behind 5) ∷ [])
    (with_actors (with_next_version at_five) Nothing Nothing)
moves_back g = (Behind 5, (refl, (lit< tt, refl, refl), refl))

tells_refusal : (g : Roads)
    → Act g idle (event.Submit (ride 2 2 4 0 0)) (entry.Submit (ride 2 2 4 0 0) (Refused Riders) ∷ [])
    (with_actors (with_next_version with_one) Nothing Nothing)
tells_refusal g = (Refused Riders, (refl, (refl, refl), refl))

-- ---- a list of events

-- the board after the request was submitted, and the fleet behind the claim that follows
abbrev submitted : Board
submitted = record (with_next_version at_first) { waiting = record { request = one; holder = None } ∷ [] }

abbrev kept_then : Fleet ℕ
kept_then = record kept { version = 2 }

-- three of five add an entry, in their order
a_play : (g : Roads) → Play g (with_actors at_first Nothing Nothing)
    (event.Commit 0 ∷ event.Submit one ∷ event.Claim 1 ∷ event.Claim 0 ∷ event.Back 1 ∷ [])
    (entry.Submit one Accepted ∷ entry.Claim (numbered 1) 1 ∷ entry.Back (numbered 1) ∷ [])
    (with_actors (held_by_desk None (held_by_desk (Some 1) submitted)) Nothing Nothing)
a_play g = (
  [],
  entry.Submit one Accepted ∷ entry.Claim (numbered 1) 1 ∷ entry.Back (numbered 1) ∷ [],
  with_actors at_first Nothing Nothing,
  (refl, refl),
  (
    entry.Submit one Accepted ∷ [],
    entry.Claim (numbered 1) 1 ∷ entry.Back (numbered 1) ∷ [],
    with_actors submitted Nothing Nothing,
    (Accepted, (refl, (refl, refl), refl)),
    (
      entry.Claim (numbered 1) 1 ∷ [],
      entry.Back (numbered 1) ∷ [],
      with_actors (held_by_desk (Some 1) submitted) Nothing (Claimed one kept_then),
      (kept_then, refl, (refl, (record { request = one; holder = None }, refl, refl, refl), refl)),
      (
        [],
        entry.Back (numbered 1) ∷ [],
        with_actors (held_by_desk (Some 1) submitted) Nothing (Claimed one kept_then),
        (refl, refl),
        (
          entry.Back (numbered 1) ∷ [],
          [],
          with_actors (held_by_desk None (held_by_desk (Some 1) submitted)) Nothing Nothing,
          (refl, (record { request = one; holder = Some 1 }, refl, refl, refl), refl),
          (refl, refl),
          refl,
        ),
        refl,
      ),
      refl,
    ),
    refl,
  ),
  refl,
)

-- no event of a list is left out
none_skipped : (g : Roads) (after : State ℕ) → Play g idle (event.Submit (ride 2 2 4 0 1) ∷ []) [] after → ⊥
none_skipped g after h = skip h.0 h.1 h.5 h.3.1.0
  where
    skip : (added more : List Entry) {e : Entry} → [] ≡ added ++ more → added ≡ e ∷ [] → ⊥
    skip [] more same is = cc
    skip (x ∷ added) more same is = cc
