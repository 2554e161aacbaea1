use Rattle.std.proofs.Common.{◌≡◌, ℕ, ◌+◌, ◌<◌, ◌≤◌, Bool, true, false, cond, List, [], ◌∷◌, ◌++◌, length, Option, Some, None, Result, Ok, Err, inl, sym, ap, subst, ◌∙◌, arith}
use Rattle.std.specs.Prelude.{◌==◌, ◌&&◌, ◌⊎◌, nat_le, not, IfErr, IsErr, IsErrAnd}
use Rattle.std.specs.Option.{option_map}
use Rattle.ride_base.specs.Pieces.{Piece, Whole, TooLong, TooLarge, pieces, ended_lines, largest_text}
use Rattle.ride_base.specs.Prefixes.{IsReadNear}
use Rattle.ride_base.specs.Reader.{Reader, new_reader}
use Rattle.ride_base.specs.Told.{WhereTold, ahead}
use Rattle.road_graph.specs.declared.road.Road.{Road}
use Rattle.road_graph.specs.Roads.{Roads, is_node, node}
use Rattle.road_graph.specs.Limits.{most_nodes, most_roads}
use Rattle.dimacs_reader.specs.declared.faults.GraphFault.{GraphFault}
use Rattle.dimacs_reader.specs.declared.faults.GraphFault.TheVariants.{Fault, Count, Node, Weight, Limit}
use Rattle.dimacs_reader.specs.Forms.{GraphForm, Skipped, Problem, Arc, Formless, graph_line, PlaceForm, Header, Place, place_line}
use Rattle.dimacs_reader.specs.Graphs.{largest_weight, graph_in, first_line, roads_in, arc_line, road_and, map_ok, onto, over_nodes}
use Rattle.dimacs_reader.specs.Places.{Placed, is_coordinate, stood_before, place_and, later_line, places_behind, opening_line, places_in}
use Rattle.dimacs_reader.specs.Refusals.{IsReadBehind, IsReadFrom, IsUndecided, IsUnfinished, StandsBehind, refused_line}
use Rattle.dimacs_reader.proofs.AllOnto.{all_onto}

-- A refusal names none of the lines before those that it is about.

-- a refusal names this line or a later one
abbrev IsLate : {X : Type 0} → ℕ → Result X GraphFault → Type 0
IsLate line (Ok x) = Unit {0}
IsLate line (Err error) = line ≤ refused_line error

late_cond : {X : Type 0} (b : Bool) (line : ℕ) (x y : Result X GraphFault) → IsLate line x → IsLate line y → IsLate line (cond b x y)
late_cond true line x y hx hy = hx
late_cond false line x y hx hy = hy

later : {X : Type 0} (line : ℕ) (x : Result X GraphFault) → IsLate (line + 1) x → IsLate line x
later line (Ok x) h = tt
later line (Err error) h = omega (arith, h)

same_line : (line : ℕ) → line ≤ line
same_line line = omega arith

late_map : {X Y : Type 0} (line : ℕ) (f : X → Y) (x : Result X GraphFault) → IsLate line x → IsLate line (map_ok f x)
late_map line f (Ok x) h = tt
late_map line f (Err error) h = h

late_arc : (nodes said found line : ℕ) (g : GraphForm) (skipped another : Result (List Road) GraphFault) → IsLate line skipped → IsLate line another → IsLate line (arc_line nodes said found line g skipped another)
late_arc nodes said found line Skipped skipped another hs ha = hs
late_arc nodes said found line (Problem n m) skipped another hs ha = same_line line
late_arc nodes said found line (Arc from to weight) skipped another hs ha =
    late_cond (found == said) line (Err (Count line said (found + 1))) (road_and nodes line from to weight another) (same_line line)
    (late_cond (is_node nodes (node from) && is_node nodes (node to)) line (cond (nat_le weight largest_weight) (onto (record { from = node from; to = node to; weight = weight }) another) (Err (Weight line))) (Err (Node line))
    (late_cond (nat_le weight largest_weight) line (onto (record { from = node from; to = node to; weight = weight }) another) (Err (Weight line)) (late_map line _ another ha) (same_line line))
    (same_line line))
late_arc nodes said found line Formless skipped another hs ha = same_line line

late_roads : (nodes said found line : ℕ) (ps : List Piece) → IsLate line (roads_in nodes said found line ps)
late_roads nodes said found line [] = late_cond (found == said) line (Ok []) (Err (Count line said found)) tt (same_line line)
late_roads nodes said found line (Whole bytes ∷ more) =
    late_arc nodes said found line (graph_line bytes) (roads_in nodes said found (line + 1) more) (roads_in nodes said (found + 1) (line + 1) more)
    (later line (roads_in nodes said found (line + 1) more) (late_roads nodes said found (line + 1) more))
    (later line (roads_in nodes said (found + 1) (line + 1) more) (late_roads nodes said (found + 1) (line + 1) more))
late_roads nodes said found line (TooLong ∷ more) = same_line line
late_roads nodes said found line (TooLarge ∷ more) = same_line line

late_first : (line : ℕ) (g : GraphForm) (skipped : Result Roads GraphFault) (behind : ℕ → ℕ → Result (List Road) GraphFault) → IsLate line skipped → ((n m : ℕ) → IsLate line (behind n m)) → IsLate line (first_line line g skipped behind)
late_first line Skipped skipped behind hs hb = hs
late_first line (Problem n m) skipped behind hs hb =
    late_cond (nat_le n most_nodes && nat_le m most_roads) line (over_nodes n (behind n m)) (Err (Limit line)) (late_map line _ (behind n m) (hb n m)) (same_line line)
late_first line (Arc from to weight) skipped behind hs hb = same_line line
late_first line Formless skipped behind hs hb = same_line line

pub late_graph : (line : ℕ) (ps : List Piece) → IsLate line (graph_in line ps)
late_graph line [] = same_line line
late_graph line (Whole bytes ∷ more) =
    late_first line (graph_line bytes) (graph_in (line + 1) more) (λ nodes said. roads_in nodes said 0 (line + 1) more)
    (later line (graph_in (line + 1) more) (late_graph (line + 1) more))
    (λ n m. later line (roads_in n m 0 (line + 1) more) (late_roads n m 0 (line + 1) more))
late_graph line (TooLong ∷ more) = same_line line
late_graph line (TooLarge ∷ more) = same_line line

late_later : (nodes line : ℕ) (before : List Placed) (g : PlaceForm) (skipped : Result (List Placed) GraphFault) (another : Placed → Result (List Placed) GraphFault) → IsLate line skipped → ((p : Placed) → IsLate line (another p)) → IsLate line (later_line nodes line before g skipped another)
late_later nodes line before Skipped skipped another hp ha = hp
late_later nodes line before (Header n) skipped another hp ha = same_line line
late_later nodes line before (Place n x y) skipped another hp ha =
    let place : Placed = record { node = n; x = x; y = y } in
    late_cond (length before == nodes) line (Err (Count line nodes (nodes + 1))) (place_and nodes line before place (another place)) (same_line line)
    (late_cond (is_node nodes (node n) && not (stood_before before n)) line (cond (is_coordinate x && is_coordinate y) (onto place (another place)) (Err (Weight line))) (Err (Node line))
    (late_cond (is_coordinate x && is_coordinate y) line (onto place (another place)) (Err (Weight line)) (late_map line _ (another place) (ha place)) (same_line line))
    (same_line line))
late_later nodes line before Formless skipped another hp ha = same_line line

pub late_behind : (nodes line : ℕ) (before : List Placed) (ps : List Piece) → IsLate line (places_behind nodes line before ps)
late_behind nodes line before [] = late_cond (length before == nodes) line (Ok []) (Err (Count line nodes (length before))) tt (same_line line)
late_behind nodes line before (Whole bytes ∷ more) =
    late_later nodes line before (place_line bytes) (places_behind nodes (line + 1) before more) (λ place. places_behind nodes (line + 1) (before ++ place ∷ []) more)
    (later line (places_behind nodes (line + 1) before more) (late_behind nodes (line + 1) before more))
    (λ place. later line (places_behind nodes (line + 1) (before ++ place ∷ []) more) (late_behind nodes (line + 1) (before ++ place ∷ []) more))
late_behind nodes line before (TooLong ∷ more) = same_line line
late_behind nodes line before (TooLarge ∷ more) = same_line line

late_opening : (nodes line : ℕ) (g : PlaceForm) (skipped behind : Result (List Placed) GraphFault) → IsLate line skipped → IsLate line behind → IsLate line (opening_line nodes line g skipped behind)
late_opening nodes line Skipped skipped behind hp hb = hp
late_opening nodes line (Header n) skipped behind hp hb =
    late_cond (nat_le n most_nodes) line (cond (n == nodes) behind (Err (Count line n nodes))) (Err (Limit line))
    (late_cond (n == nodes) line behind (Err (Count line n nodes)) hb (same_line line)) (same_line line)
late_opening nodes line (Place n x y) skipped behind hp hb = same_line line
late_opening nodes line Formless skipped behind hp hb = same_line line

pub late_places : (nodes line : ℕ) (ps : List Piece) → IsLate line (places_in nodes line ps)
late_places nodes line [] = same_line line
late_places nodes line (Whole bytes ∷ more) =
    late_opening nodes line (place_line bytes) (places_in nodes (line + 1) more) (places_behind nodes (line + 1) [] more)
    (later line (places_in nodes (line + 1) more) (late_places nodes (line + 1) more))
    (later line (places_behind nodes (line + 1) [] more) (late_behind nodes (line + 1) [] more))
late_places nodes line (TooLong ∷ more) = same_line line
late_places nodes line (TooLarge ∷ more) = same_line line

-- the same behind those that were read
pub late_more_roads : (nodes said : ℕ) (done : List Road) (line : ℕ) (ps : List Piece) → IsLate line (all_onto done (roads_in nodes said (length done) line ps))
late_more_roads nodes said done line ps = late_map line _ (roads_in nodes said (length done) line ps) (late_roads nodes said (length done) line ps)

pub late_more_places : (nodes : ℕ) (done : List Placed) (line : ℕ) (ps : List Piece) → IsLate line (all_onto done (places_behind nodes line done ps))
late_more_places nodes done line ps = late_map line _ (places_behind nodes line done ps) (late_behind nodes line done ps)

-- Where the shelf failed behind so many lines, the lines ahead are refused by none of those before.
undecided : {X : Type 0} (said : Result X GraphFault) (text : List ℕ) (left : Option (List ℕ)) (given : ℕ) → IsReadBehind text left given → IsLate (given + 1) said → IsUndecided said text left
undecided {X = X} said text left given read late = (read.1.0, λ fault e. on fault (subst (IsLate {X = X} (given + 1)) e late))
  where
    on : (fault : GraphFault) → given + 1 ≤ refused_line fault → length (ended_lines read.1.0.read) < refused_line fault
    on e h = let ended : length (ended_lines read.1.0.read) ≡ given = ap length read.1.1 ∙ read.2 in omega (arith, h)

-- no line that is ahead is among those that were read
pub ahead_unread : {X : Type 0} (says : ℕ → List Piece → Result X GraphFault) → ((line : ℕ) (ps : List Piece) → IsLate line (says line ps))
    → (given : ℕ) (ps : Option (List Piece)) (start : Option (Result X GraphFault)) (text : List ℕ) (left : Option (List ℕ)) → option_map (says (given + 1)) ps ≡ start → IsReadBehind text left given
    → WhereTold start (λ said. IsUndecided said text left)
ahead_unread {X = X} says late given ps start text left e read = subst (λ (o : Option (Result X GraphFault)). WhereTold o (λ said. IsUndecided said text left)) e (on ps)
  where
    on : (ps : Option (List Piece)) → WhereTold (option_map (says (given + 1)) ps) (λ said. IsUndecided said text left)
    on None = tt
    on (Some ps) = undecided (says (given + 1) ps) text left given read (late (given + 1) ps)

-- what roads are refused by is what their graph is refused by
pub over_unread : (nodes : ℕ) (roads : Option (Result (List Road) GraphFault)) (start : Option (Result Roads GraphFault)) (text : List ℕ) (left : Option (List ℕ)) → start ≡ option_map (over_nodes nodes) roads → WhereTold roads (λ answer. IsUndecided answer text left) → WhereTold start (λ said. IsUndecided said text left)
over_unread nodes roads start text left e u = subst (λ (o : Option (Result Roads GraphFault)). WhereTold o (λ said. IsUndecided said text left)) (sym e) (on roads u)
  where
    fault_of : (x : Result (List Road) GraphFault) (fault : GraphFault) → over_nodes nodes x ≡ Err fault → x ≡ Err fault
    fault_of (Ok x) f e = cc
    fault_of (Err error) f e = cc

    on : (roads : Option (Result (List Road) GraphFault)) → WhereTold roads (λ answer. IsUndecided answer text left) → WhereTold (option_map (over_nodes nodes) roads) (λ said. IsUndecided said text left)
    on None u = tt
    on (Some x) u = (u.0, λ fault e. u.1 fault (fault_of x fault e))

-- what roads are refused for is what their graph is refused for
pub over_refused : (nodes : ℕ) (e : GraphFault) (roads : Option (Result (List Road) GraphFault)) (start : Option (Result Roads GraphFault)) → start ≡ option_map (over_nodes nodes) roads → WhereTold roads (λ answer. answer ≡ Err e) → WhereTold start (λ said. said ≡ Err e)
over_refused nodes e roads start is refused = subst (λ (o : Option (Result Roads GraphFault)). WhereTold o (λ said. said ≡ Err e)) (sym is) (on roads refused)
  where
    on : (roads : Option (Result (List Road) GraphFault)) → WhereTold roads (λ answer. answer ≡ Err e) → WhereTold (option_map (over_nodes nodes) roads) (λ said. said ≡ Err e)
    on None r = tt
    on (Some x) r = ap (over_nodes nodes) r

-- what is said of all that is ahead of a reader that has given nothing is said of the text
pub whole_is : {X : Type 0} (Fact : List ℕ → Result X GraphFault → Type 0) (says : ℕ → List Piece → Result X GraphFault) (reader : Reader) (old : Option (List ℕ)) → reader ≡ new_reader largest_text
    → ((text : List ℕ) → IsReadFrom text reader (Some text)) → ((text : List ℕ) → IsReadFrom text reader old → WhereTold (option_map (says (reader.given + 1)) (ahead reader old)) (Fact text))
    → WhereTold old (λ text. Fact text (says 1 (pieces largest_text text)))
whole_is Fact says reader None e none fact = tt
whole_is Fact says reader (Some text) e none fact = subst (λ (r : Reader). WhereTold (option_map (says (r.given + 1)) (ahead r (Some text))) (Fact text)) e (fact text (none text))

pub whole_unread : {X : Type 0} (says : ℕ → List Piece → Result X GraphFault) (reader : Reader) (old left : Option (List ℕ)) → reader ≡ new_reader largest_text
    → ((text : List ℕ) → IsReadFrom text reader (Some text)) → ((text : List ℕ) → IsReadFrom text reader old → WhereTold (option_map (says (reader.given + 1)) (ahead reader old)) (λ said. IsUndecided said text left))
    → WhereTold old (λ text. IsUndecided (says 1 (pieces largest_text text)) text left)
whole_unread says reader old left e none unread = whole_is (λ text said. IsUndecided said text left) says reader old e none unread

-- ---- want of memory

unfinished : {X : Type 0} (said : Result X GraphFault) (text : List ℕ) (left : Option (List ℕ)) (given : ℕ) → IsReadNear given largest_text text left ⊎ StandsBehind text left given → IsLate (given + 1) said → IsUnfinished said text left
unfinished {X = X} said text left given stands late = record { given = given; late = λ fault e. on fault (subst (IsLate {X = X} (given + 1)) e late); stands = stands }
  where
    on : (fault : GraphFault) → given + 1 ≤ refused_line fault → given < refused_line fault
    on fault h = omega (arith, h)

-- no line that was given refuses what is ahead
pub ahead_unfinished : {X : Type 0} (says : ℕ → List Piece → Result X GraphFault) → ((line : ℕ) (ps : List Piece) → IsLate line (says line ps))
    → (given : ℕ) (ps : Option (List Piece)) (start : Option (Result X GraphFault)) (text : List ℕ) (left : Option (List ℕ)) → option_map (says (given + 1)) ps ≡ start
    → IsReadNear given largest_text text left ⊎ StandsBehind text left given → WhereTold start (λ said. IsUnfinished said text left)
ahead_unfinished {X = X} says late given ps start text left e stands = subst (λ (o : Option (Result X GraphFault)). WhereTold o (λ said. IsUnfinished said text left)) e (on ps)
  where
    on : (ps : Option (List Piece)) → WhereTold (option_map (says (given + 1)) ps) (λ said. IsUnfinished said text left)
    on None = tt
    on (Some ps) = unfinished (says (given + 1) ps) text left given stands (late (given + 1) ps)

pub over_unfinished : (nodes : ℕ) (roads : Option (Result (List Road) GraphFault)) (start : Option (Result Roads GraphFault)) (text : List ℕ) (left : Option (List ℕ)) → start ≡ option_map (over_nodes nodes) roads
    → WhereTold roads (λ answer. IsUnfinished answer text left) → WhereTold start (λ said. IsUnfinished said text left)
over_unfinished nodes roads start text left e u = subst (λ (o : Option (Result Roads GraphFault)). WhereTold o (λ said. IsUnfinished said text left)) (sym e) (on roads u)
  where
    fault_of : (x : Result (List Road) GraphFault) (fault : GraphFault) → over_nodes nodes x ≡ Err fault → x ≡ Err fault
    fault_of (Ok x) f e = cc
    fault_of (Err error) f e = cc

    on : (roads : Option (Result (List Road) GraphFault)) → WhereTold roads (λ answer. IsUnfinished answer text left) → WhereTold (option_map (over_nodes nodes) roads) (λ said. IsUnfinished said text left)
    on None u = tt
    on (Some x) u = record { given = u.given; late = λ fault e. u.late fault (fault_of x fault e); stands = u.stands }

-- nothing that is said refuses a text whose roads are said
pub good_unfinished : (nodes given : ℕ) (roads : Option (Result (List Road) GraphFault)) (start : Option (Result Roads GraphFault)) (found : List Road) (text : List ℕ) (left : Option (List ℕ)) → start ≡ option_map (over_nodes nodes) roads
    → WhereTold roads (λ answer. answer ≡ Ok found) → IsReadNear given largest_text text left → WhereTold start (λ said. IsUnfinished said text left)
good_unfinished nodes given roads start found text left e said near = over_unfinished nodes roads start text left e (on roads said)
  where
    on : (roads : Option (Result (List Road) GraphFault)) → WhereTold roads (λ answer. answer ≡ Ok found) → WhereTold roads (λ answer. IsUnfinished answer text left)
    on None s = tt
    on (Some x) s = record { given = given; late = λ fault f. let no_fault : ◌≡◌ {A = Result (List Road) GraphFault} (Ok found) (Err fault) = sym s ∙ f in cc; stands = inl near }

pub whole_unfinished : {X : Type 0} (says : ℕ → List Piece → Result X GraphFault) (reader : Reader) (old left : Option (List ℕ)) → reader ≡ new_reader largest_text
    → ((text : List ℕ) → IsReadFrom text reader (Some text)) → ((text : List ℕ) → IsReadFrom text reader old → WhereTold (option_map (says (reader.given + 1)) (ahead reader old)) (λ said. IsUnfinished said text left))
    → WhereTold old (λ text. IsUnfinished (says 1 (pieces largest_text text)) text left)
whole_unfinished says reader old left e none stays = whole_is (λ text said. IsUnfinished said text left) says reader old e none stays

-- ---- how far was read

pub near_line : (n given : ℕ) (text : List ℕ) (left : Option (List ℕ)) → n ≡ given + 1 → IsReadNear (given + 1) largest_text text left → IsReadNear n largest_text text left
near_line n given text left e near = subst (λ (k : ℕ). IsReadNear k largest_text text left) (sym e) near

-- what is so of each text of which a reader gave exactly the lines that it counted is so of the text, where it has given nothing
pub whole_near : (reader : Reader) (old : Option (List ℕ)) (Fact : List ℕ → Type 0) → ((text : List ℕ) → IsReadFrom text reader (Some text)) → ((text : List ℕ) → IsReadFrom text reader old → Fact text) → WhereTold old Fact
whole_near reader None Fact none fact = tt
whole_near reader (Some text) Fact none fact = fact text (none text)

-- ---- errors that were handed on

pub fault_handed : {T : Type 0} (result : Result T GraphFault) (e : GraphFault) (Fact : GraphFault → Type 0) → IsErr result × IsErrAnd result (λ x. x ≡ e) → Fact e → IfErr result Fact
fault_handed (Ok t) e Fact h fact = tt
fault_handed (Err x) e Fact h fact = subst Fact (sym h.1) fact

pub err_map : {T : Type 0} (result : Result T GraphFault) (F G : GraphFault → Type 0) → ((e : GraphFault) → F e → G e) → IfErr result F → IfErr result G
err_map (Ok t) F G f fact = tt
err_map (Err e) F G f fact = f e fact

pub handed : {T U : Type 0} {fault : GraphFault} (result : Result T GraphFault) (answer : Result U GraphFault) (e : GraphFault) → IsErr result × IsErrAnd result (λ x. x ≡ e) → answer ≡ Err e → result ≡ Err fault → answer ≡ Err fault
handed (Ok t) answer e h a f = cc
handed (Err x) answer e h a f = let same : x ≡ e = h.1 in cc
