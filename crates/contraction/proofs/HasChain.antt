use Rattle.std.proofs.Common.{◌≡◌, ◌≢◌, ℕ, ◌+◌, ◌≤◌, ◌⊎◌, inl, inr, ◌==◌, None, List, Bool, true, false, [], ◌∷◌, ◌++◌, ap, arith, refl, subst}
use Rattle.std.proofs.lemmas.Bool.{eqb-true, eq-eqb}
use Rattle.road_graph.specs.declared.road.NodeNo.{NodeNo}
use Rattle.road_graph.proofs.WalkLaws.{same_node}
use Rattle.upward_search.specs.declared.arc.RankArc.{RankArc}
use Rattle.upward_search.specs.Chains.{total, IsChain}
use Rattle.upward_search.proofs.ChainLaws.{chain_none, chain_one, chain_append, chain_rest, chain_kind}
use Rattle.contraction.specs.Removing.{HasChain}

pub same_or_not : (u v : NodeNo) → (u ≡ v) ⊎ (u ≢ v)
same_or_not u v = at (u.0 == v.0) refl
  where
    at : (b : Bool) → (u.0 == v.0) ≡ b → (u ≡ v) ⊎ (u ≢ v)
    at true e = inl (same_node (eqb-true _ _ e))
    at false e = inr (λ s. let t = eq-eqb u.0 v.0 (ap (λ (n : NodeNo). n.0) s) in cc)

pub has_none : {Kind : RankArc → Type 0} (u v : NodeNo) (x : ℕ) → u ≡ v → HasChain Kind u v x
has_none u v x e = record { chain = []; long = 0; is = chain_none u v e; less = omega arith }

pub has_one : {Kind : RankArc → Type 0} (a : RankArc) (u v : NodeNo) (x : ℕ) → Kind a → a.from ≡ u → a.to ≡ v → a.length ≤ x → HasChain Kind u v x
has_one a u v x k e f le = record { chain = a ∷ []; long = a.length; is = chain_one a u v k e f; less = le }

pub has_append : {Kind : RankArc → Type 0} (u v w : NodeNo) (x y z : ℕ) → HasChain Kind u v x → HasChain Kind v w y → x + y ≤ z → HasChain Kind u w z
has_append u v w x y z c d le =
    record { chain = c.chain ++ d.chain; long = c.long + d.long; is = chain_append u v w c.chain c.long c.is d.chain d.long d.is; less = (let p = c.less in let q = d.less in omega arith) }

pub has_kind : {Kind Other : RankArc → Type 0} → ((a : RankArc) → Kind a → Other a) → (u v : NodeNo) (x : ℕ) → HasChain Kind u v x → HasChain Other u v x
has_kind f u v x c = record { chain = c.chain; long = c.long; is = chain_kind f c.chain u v c.long c.is; less = c.less }

-- each arc has arcs of another kind in its place, no longer
pub has_over : {Kind Other : RankArc → Type 0} → ((a : RankArc) → Kind a → HasChain Other a.from a.to a.length) → (u v : NodeNo) (x : ℕ) → HasChain Kind u v x → HasChain Other u v x
has_over {Kind} {Other} f u v x c = let d = over c.chain u v c.long c.is in record { chain = d.chain; long = d.long; is = d.is; less = (let p = d.less in let q = c.less in omega arith) }
  where
    over : (chain : List RankArc) (u v : NodeNo) (x : ℕ) → IsChain Kind u v chain x → HasChain Other u v x
    over [] u v x c = has_none u v x c.leads
    over (a ∷ more) u v x c =
        let one = subst (λ (n : NodeNo). HasChain Other n a.to a.length) c.leads.0 (f a c.all.0) in
        let rest = over more a.to v (total more) (chain_rest {Kind = Kind} a more u v x c) in
        has_append u a.to v a.length (total more) x one rest (let s = c.sum in omega arith)

abbrev pub no_arc : RankArc
no_arc = record { from = record { 0 = 0 }; to = record { 0 = 0 }; length = 0; middle = None }
