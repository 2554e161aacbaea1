use Rattle.std.proofs.Common.{◌≡◌, ℕ, zero, suc, ◌+◌, ◌-◌, ◌*◌, ◌/◌, ◌<◌, ◌≤◌, ◌^◌, List, [], ◌∷◌, ◌++◌, Some, slice_get, sym, ap, ◌∙◌, subst, arith, append_assoc}
use Rattle.std.proofs.lemmas.List.{append-nil}
use Rattle.std.proofs.lemmas.Nat.{mod_below}
use Rattle.std.proofs.lemmas.Option.{same_Some}
use Rattle.stop_schedule.specs.declared.request.Request.{Request}
use Rattle.input_tables.specs.declared.lines.StreamLine.{StreamLine}
use Rattle.input_tables.specs.declared.lines.StreamLine.TheVariants.{Ride, Move}
use Rattle.input_tables.specs.Streams.{IsInRange}
use Rattle.city_gen.specs.Cities.{AreInRange}
use Rattle.city_gen.specs.Draws.{next, after, draw}
use Rattle.city_gen.specs.Streams.{drawn_ride, lines_from, ride_count}

-- the lines of one request
abbrev lines_of_one : (number now x : ℕ) → List StreamLine
lines_of_one number now x = Move now ∷ Ride (drawn_ride number now x) ∷ []

-- the lines of the first request from a number on, and those behind it
lines_from-more : (many left number time x : ℕ) → many ≡ suc left
    → lines_from many number time x ≡ lines_of_one number (time + draw 1 12 x) (next x)
    ++ lines_from left (number + 1) (time + draw 1 12 x) (after 3 (next x))
unfolding lines_from after
lines_from-more many left number time x e = ap (λ m. lines_from m number time x) e

lines_from-none : (many number time x : ℕ) → many ≡ 0 → lines_from many number time x ≡ []
unfolding lines_from
lines_from-none many number time x e = ap (λ m. lines_from m number time x) e

-- What is made so far and the lines from here on are all of them, and so with those of one more request made.
pub made_more : (made first new all : List StreamLine) (ride : Request) (place time now x y z : ℕ) → place < ride_count
    → now ≡ time + draw 1 12 x → y ≡ next x → ride ≡ drawn_ride (place + 1) now y → z ≡ after 3 y
    → first ≡ made ++ Move now ∷ [] → new ≡ first ++ Ride ride ∷ []
    → made ++ lines_from (ride_count - place) (place + 1) time x ≡ all
    → new ++ lines_from (ride_count - (place + 1)) (place + 1 + 1) now z ≡ all
made_more made first new all ride place time now x y z lt moved stepped is state pushed pushed_too h =
    let left : ℕ = ride_count - (place + 1) in
    let e : ride_count - place ≡ suc left = omega arith in
    let rest : List StreamLine = lines_from left (place + 1 + 1) now z in
    let more : lines_from (ride_count - place) (place + 1) time x ≡ Move now ∷ Ride ride ∷ rest =
    rw (is, state, moved, stepped) (lines_from-more (ride_count - place) left (place + 1) time x e) in
    let there : (made ++ Move now ∷ []) ++ (Ride ride ∷ rest) ≡ made ++ (Move now ∷ Ride ride ∷ rest) =
    append_assoc made (Move now ∷ []) (Ride ride ∷ rest) in
    let then : (first ++ Ride ride ∷ []) ++ rest ≡ first ++ (Ride ride ∷ rest) = append_assoc first (Ride ride ∷ []) rest in
    cc (more, there, then)

-- and no line is left behind the last
pub made_all : (made all : List StreamLine) (place time x : ℕ) → ride_count ≤ place
    → made ++ lines_from (ride_count - place) (place + 1) time x ≡ all → made ≡ all
made_all made all place time x le h =
    let none : lines_from (ride_count - place) (place + 1) time x ≡ [] =
    lines_from-none (ride_count - place) (place + 1) time x (omega arith) in
    sym (append-nil made) ∙ ap (λ (ls : List StreamLine). made ++ ls) (sym none) ∙ h

-- each request's number and moment are at most 2^40
in_range : (many number time x k : ℕ) (line : StreamLine) → number + many ≤ 2 ^ 40 → time + 11 * many ≤ 2 ^ 40
    → slice_get (lines_from many number time x) k ≡ Some line → IsInRange line
unfolding lines_from
in_range zero number time x k line few early h = cc
in_range (suc many) number time x zero line few early h =
    let d : draw 1 12 x < 12 = mod_below (after 1 x / 2 ^ 33) 12 (omega arith) in
    let e : Move (time + draw 1 12 x) ≡ line = same_Some _ _ h in
    subst IsInRange e (omega arith)
in_range (suc many) number time x (suc zero) line few early h =
    let d : draw 1 12 x < 12 = mod_below (after 1 x / 2 ^ 33) 12 (omega arith) in
    let e : Ride (drawn_ride number (time + draw 1 12 x) (next x)) ≡ line = same_Some _ _ h in
    subst IsInRange e (omega arith, omega arith)
in_range (suc many) number time x (suc (suc k)) line few early h =
    let d : draw 1 12 x < 12 = mod_below (after 1 x / 2 ^ 33) 12 (omega arith) in
    in_range many (number + 1) (time + draw 1 12 x) (after 4 x) k line (omega arith) (omega arith) h

pub are_in_range : (x : ℕ) → AreInRange (lines_from ride_count 1 0 x)
are_in_range x = λ k line h. in_range ride_count 1 0 x k line (omega arith) (omega arith) h
