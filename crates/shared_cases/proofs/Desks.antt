use Rattle.std.proofs.Common.{◌≡◌, ℕ, List, ◌∷◌, Result, Ok, slice_index_or, refl, sym, ◌∙◌, ap, subst}
use Rattle.std.specs.Prelude.{IfOk}
use Rattle.road_graph.specs.Roads.{Roads}
use Rattle.turn_lock.specs.Desks.{fresh}
use Rattle.fleet_board.specs.Turns.{DeskNow, IsDeskOf, Lock}

-- a new desk is one of its board
new_desk : (g : Roads) (lock : Lock) (n : ℕ) → lock.origin.graph ≡ g → IsDeskOf g lock (fresh lock n)
new_desk g lock n graph = record { of_lock = refl; graph = graph; legal = (lock.origin.board, refl) }

-- and so is one that is taken out of a row of new desks
pub taken_desk : (g : Roads) (lock : Lock) (row rest : List DeskNow) (n : ℕ) (desk : DeskNow) → lock.origin.graph ≡ g → row ≡ fresh lock n ∷ rest → desk ≡ slice_index_or row 0 desk → IsDeskOf g lock desk
taken_desk g lock row rest n desk graph is taken =
    subst (λ (d : DeskNow). IsDeskOf g lock d) (sym (taken ∙ ap (λ (l : List DeskNow). slice_index_or l 0 desk) is)) (new_desk g lock n graph)

-- a desk, or two, that a thread gave back
pub desk_back : {E : Type 0} (g : Roads) (lock : Lock) (r : Result DeskNow E) (desk : DeskNow) → r ≡ Ok desk → IfOk r (λ (d : DeskNow). IsDeskOf g lock d) → IsDeskOf g lock desk
desk_back {E = E} g lock r desk is h = subst (λ (r : Result DeskNow E). IfOk r (λ (d : DeskNow). IsDeskOf g lock d)) is h

abbrev AreDesksOf : Roads → Lock → DeskNow × DeskNow → Type 0
AreDesksOf g lock both = IsDeskOf g lock both.0 × IsDeskOf g lock both.1

pub desks_back : {E : Type 0} (g : Roads) (lock : Lock) (r : Result (DeskNow × DeskNow) E) (both : DeskNow × DeskNow) → r ≡ Ok both → IfOk r (AreDesksOf g lock) → AreDesksOf g lock both
desks_back {E = E} g lock r both is h = subst (λ (r : Result (DeskNow × DeskNow) E). IfOk r (AreDesksOf g lock)) is h
