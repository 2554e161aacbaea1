use Rattle.std.proofs.Common.{◌≡◌, ◌⊎◌, inl, inr, ℕ, List, [], ◌∷◌, ◌++◌, refl, sym, ap, ◌∙◌, append_assoc, append-nil}
use Rattle.road_graph.specs.declared.road.NodeNo.{NodeNo}
use Rattle.road_graph.specs.Paths.{Path}
use Rattle.journal_text.specs.Groups.{walk_lines, walks_lines}
use Rattle.journal_text.specs.TextEntries.{nodes_of}

-- the lines of walks
abbrev pub walks_of : List ℕ → List Path → List ℕ
walks_of legs walks = walks_lines legs (nodes_of walks)

-- a leg and its walk are printed, and the next ones are left
pub one_leg : (legs rest_legs : List ℕ) (walks rest_walks : List Path) (leg : ℕ) (walk : Path) (nodes : List NodeNo) (out new all : List ℕ) → legs ≡ leg ∷ rest_legs → walks ≡ walk ∷ rest_walks → nodes ≡ walk.nodes
    → out ++ walks_of legs walks ≡ all → new ≡ out ++ walk_lines leg nodes → new ++ walks_of rest_legs rest_walks ≡ all
one_leg legs rest_legs walks rest_walks leg walk nodes out new all first next same sofar made =
    let joined : (out ++ walk_lines leg nodes) ++ walks_of rest_legs rest_walks ≡ out ++ (walk_lines leg nodes ++ walks_of rest_legs rest_walks) = append_assoc out (walk_lines leg nodes) (walks_of rest_legs rest_walks) in
    let opened : walks_of legs walks ≡ walks_of (leg ∷ rest_legs) (walk ∷ rest_walks) = cc in
    cc

no_walks : (legs : List ℕ) → walks_of legs [] ≡ []
no_walks [] = refl
no_walks (leg ∷ legs) = refl

-- where the legs or the walks have ended, no lines are left
pub no_leg : (legs : List ℕ) (walks : List Path) (out all : List ℕ) → (legs ≡ []) ⊎ (walks ≡ []) → out ++ walks_of legs walks ≡ all → out ≡ all
no_leg legs walks out all (inl none) sofar = sym (append-nil out) ∙ ap (λ l. out ++ walks_of l walks) (sym none) ∙ sofar
no_leg legs walks out all (inr none) sofar = sym (append-nil out) ∙ ap (λ l. out ++ l) (sym (no_walks legs)) ∙ ap (λ w. out ++ walks_of legs w) (sym none) ∙ sofar
