use Rattle.std.proofs.Common.{◌≡◌, ℕ, ◌≤◌, ◌+◌, List, length, Option, Some, None, sym, ap, arith, subst}
use Rattle.std.specs.Prelude.{MatchOption, Result, Ok, Err, IfOk, OnErr}
use Rattle.std.specs.declared.alloc.AllocError.{AllocError}
use Rattle.road_graph.specs.declared.road.NodeNo.{NodeNo}
use Rattle.road_graph.specs.Roads.{Roads}
use Rattle.road_graph.specs.Graphs.{IsGraph}
use Rattle.road_graph.specs.Walks.{IsDist, NoWalk}
use Rattle.upward_search.specs.Ladders.{Ladder, IsLadder, AreApart, ArePlaces, IsAt, IsNamed, IsLeastTop}
use Rattle.upward_search.specs.declared.slope.Label.{Label}
use Rattle.upward_search.specs.Climbs.{IsSpace, work}
use Rattle.upward_search.specs.Spaces.{IsForwardSpace, IsBackwardSpace, AreSpaces, both_arcs}
use Rattle.upward_search.proofs.LadderFits.{answer_is}
use Rattle.upward_search.proofs.ForwardSpace.{forward_labels, backward_labels}
use Rattle.upward_search.specs.Hierarchies.{Ranking, Fits, HasRank, ranking_of, LadderFits}
use Rattle.upward_search.proofs.RankingOf.{fits_ladder}

-- a node with a rank has a place
pub named : (l : Ladder) (h : Ranking) → ranking_of l ≡ h → ArePlaces l.nodes l.places → (n : NodeNo) → HasRank h n → IsNamed l n
named l h is placed n rank =
    let same = ap (λ (r : Ranking). length r.ranks) is in
    let many = placed.many in
    let low = rank.0 in let high = rank.1 in
    (low, omega arith)

pub fits_levels : (l : Ladder) (h : Ranking) → ranking_of l ≡ h → IsLadder l → AreApart l → ArePlaces l.nodes l.places → (g : Roads) → IsGraph g → Fits g h → LadderFits g l
fits_levels l h is lad apart placed g lawful fit = fits_ladder l lad apart g lawful placed (subst (Fits g) (sym is) fit)

-- the answer between places is the one between nodes
pub distance_said : (l : Ladder) (h : Ranking) → ranking_of l ≡ h → IsLadder l → AreApart l → ArePlaces l.nodes l.places → (p q : ℕ) (u v : NodeNo) → IsAt l p u → IsAt l q v → (r : Result (Option ℕ) AllocError)
    → IfOk r (IsLeastTop l p q) → IfOk r (λ found. (g : Roads) → IsGraph g → Fits g h → MatchOption found (NoWalk g u v) (IsDist g u v))
distance_said l h is lad apart placed p q u v a b (Ok None) s = λ g lawful fit. answer_is g l (fits_levels l h is lad apart placed g lawful fit) lad p q u v a b None s
distance_said l h is lad apart placed p q u v a b (Ok (Some x)) s = λ g lawful fit. answer_is g l (fits_levels l h is lad apart placed g lawful fit) lad p q u v a b (Some x) s
distance_said l h is lad apart placed p q u v a b (Err e) s = s

-- and it reads the arcs of both spaces
pub steps_said : (l : Ladder) (h : Ranking) → ranking_of l ≡ h → IsLadder l → AreApart l → ArePlaces l.nodes l.places → (p q : ℕ) (u v : NodeNo) → IsAt l p u → IsAt l q v → (old new : ℕ) (r : Result (Option ℕ) AllocError)
    → IfOk r (λ _. (left right : List Label) → IsSpace l.climbs p left → IsSpace l.falls q right → new ≡ old + (work l.climbs left + work l.falls right))
    → IfOk r (λ _. (there back : List (NodeNo × ℕ)) → AreSpaces h u v there back → new ≡ old + both_arcs h there back)
steps_said l h is lad apart placed p q u v a b old new (Ok d) s = λ there back both.
    let f = forward_labels l lad apart placed p u a there (subst (λ (r : Ranking). IsForwardSpace r u there) (sym is) both.0) in
    let t = backward_labels l lad apart placed q v b back (subst (λ (r : Ranking). IsBackwardSpace r v back) (sym is) both.1) in
    let e = s f.0 t.0 f.1 t.1 in
    let x = f.2 in
    let y = t.2 in
    let same = ap (λ (r : Ranking). both_arcs r there back) is in
    omega arith
steps_said l h is lad apart placed p q u v a b old new (Err d) s = s

pub spent_said : (l : Ladder) (h : Ranking) → ranking_of l ≡ h → IsLadder l → AreApart l → ArePlaces l.nodes l.places → (p q : ℕ) (u v : NodeNo) → IsAt l p u → IsAt l q v → (old new : ℕ) (r : Result (Option ℕ) AllocError)
    → OnErr r ((left right : List Label) → IsSpace l.climbs p left → IsSpace l.falls q right → new ≤ old + (work l.climbs left + work l.falls right))
    → OnErr r ((there back : List (NodeNo × ℕ)) → AreSpaces h u v there back → new ≤ old + both_arcs h there back)
spent_said l h is lad apart placed p q u v a b old new (Ok d) s = s
spent_said l h is lad apart placed p q u v a b old new (Err d) s = λ there back both.
    let f = forward_labels l lad apart placed p u a there (subst (λ (r : Ranking). IsForwardSpace r u there) (sym is) both.0) in
    let t = backward_labels l lad apart placed q v b back (subst (λ (r : Ranking). IsBackwardSpace r v back) (sym is) both.1) in
    let e = s f.0 t.0 f.1 t.1 in
    let x = f.2 in
    let y = t.2 in
    let same = ap (λ (r : Ranking). both_arcs r there back) is in
    omega arith
