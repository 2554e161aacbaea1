use Rattle.std.proofs.Common.{◌≡◌, ◌≢◌, ℕ, ◌+◌, ◌<◌, ◌≤◌, ◌⊎◌, inl, inr, List, [], ◌∷◌, sym, ◌∙◌, arith, refl, subst}
use Rattle.road_graph.specs.declared.road.NodeNo.{NodeNo}
use Rattle.upward_search.specs.declared.arc.RankArc.{RankArc}
use Rattle.upward_search.specs.Chains.{total, IsChain}
use Rattle.upward_search.proofs.ChainLaws.{chain_rest}
use Rattle.contraction.specs.Removing.{HasChain, IsOut, IsIn, IsAside}
use Rattle.contraction.proofs.HasChain.{same_or_not, has_none, has_one, has_append}

-- arcs that are left after k is removed, then maybe one into k
pub record Onward (k : NodeNo) (Left Other : RankArc → Type 0) (u v : NodeNo) (x : ℕ) : Type 0 where
  pub turn : NodeNo
  pub over : ℕ
  pub down : ℕ
  pub pass : HasChain Other u turn over
  pub fall : HasChain (λ a. Left a × IsIn k a) turn v down
  pub sum : over + down ≤ x

-- first one out of k
pub record Upward (k : NodeNo) (Left Other : RankArc → Type 0) (u v : NodeNo) (x : ℕ) : Type 0 where
  pub up : RankArc
  pub here : Left up
  pub out : IsOut k up
  pub from : up.from ≡ u
  pub rest : ℕ
  pub onward : Onward k Left Other up.to v rest
  pub sum : up.length + rest ≤ x

abbrev pub Passes : NodeNo → (RankArc → Type 0) → (RankArc → Type 0) → NodeNo → NodeNo → ℕ → Type 0
Passes k Left Other u v x = ((u ≡ k) × (v ≡ k)) ⊎ (((u ≢ k) × Onward k Left Other u v x) ⊎ Upward k Left Other u v x)

module _ (k : NodeNo) (Left Other : RankArc → Type 0) (far : ℕ)
    (asides : (a : RankArc) → Left a → IsAside k a → HasChain Other a.from a.to a.length)
    (bridged : (down up : RankArc) → Left down → Left up → IsIn k down → IsOut k up → down.length + up.length < far → HasChain Other down.from up.to (down.length + up.length)) where
  -- each list of arcs that were left has one of these in its place, no longer
  pub passes : (chain : List RankArc) (u v : NodeNo) (x : ℕ) → IsChain Left u v chain x → x < far → Passes k Left Other u v x
  passes [] u v x c lt = at (same_or_not u k)
    where
      at : (u ≡ k) ⊎ (u ≢ k) → Passes k Left Other u v x
      at (inl e) = inl (e, sym c.leads ∙ e)
      at (inr n) = inr (inl (n, record { turn = v; over = 0; down = 0; pass = has_none u v 0 c.leads; fall = has_none v v 0 refl; sum = omega arith }))
  passes (a ∷ more) u v x c lt =
      let s = c.sum in
      at (same_or_not a.from k) (same_or_not a.to k) (passes more a.to v (total more) (chain_rest {Kind = Left} a more u v x c) (omega arith))
    where
      is : a.from ≡ u
      is = c.leads.0

      here : Left a
      here = c.all.0

      sum : a.length + total more ≡ x
      sum = c.sum

      -- over a node that stays
      over : a.from ≢ k → a.to ≢ k → Onward k Left Other a.to v (total more) → Passes k Left Other u v x
      over n m o =
          let first = subst (λ (w : NodeNo). HasChain Other w a.to a.length) is (asides a here (n, m)) in
          inr (inl (subst (λ (w : NodeNo). w ≢ k) is n, record { turn = o.turn; over = a.length + o.over; down = o.down; pass = has_append u a.to o.turn a.length o.over (a.length + o.over) first o.pass (omega arith); fall = o.fall; sum = (let p = o.sum in let q = sum in omega arith) }))

      -- into k, where the list ends
      ends : a.from ≢ k → a.to ≡ k → v ≡ k → Passes k Left Other u v x
      ends n m e =
          inr (inl (subst (λ (w : NodeNo). w ≢ k) is n, record { turn = u; over = 0; down = a.length; pass = has_none u u 0 refl; fall = has_one a u v a.length (here, (n, m)) is (m ∙ sym e) (omega arith); sum = (let q = sum in omega arith) }))

      -- into k and out of it
      bridge : a.from ≢ k → a.to ≡ k → Upward k Left Other a.to v (total more) → Passes k Left Other u v x
      bridge n m w =
          let b = bridged a w.up here w.here (n, m) w.out (let p = w.sum in let q = sum in omega arith) in
          let o = w.onward in
          let first = subst (λ (w' : NodeNo). HasChain Other w' w.up.to (a.length + w.up.length)) is b in
          inr (inl (subst (λ (w' : NodeNo). w' ≢ k) is n, record { turn = o.turn; over = a.length + w.up.length + o.over; down = o.down; pass = has_append u w.up.to o.turn (a.length + w.up.length) o.over (a.length + w.up.length + o.over) first o.pass (omega arith); fall = o.fall; sum = (let p = o.sum in let q = sum in let r = w.sum in omega arith) }))

      -- from k to k
      longer : {w : NodeNo} → w ≡ u → Passes k Left Other w v (total more) → Passes k Left Other u v x
      longer e (inl p) = inl (sym e ∙ p.0, p.1)
      longer {w} e (inr (inl p)) =
          let o = p.1 in
          inr (inl (subst (λ (w' : NodeNo). w' ≢ k) e p.0, record { turn = o.turn; over = o.over; down = o.down; pass = subst (λ (w' : NodeNo). HasChain Other w' o.turn o.over) e o.pass; fall = o.fall; sum = (let r = o.sum in let q = sum in omega arith) }))
      longer e (inr (inr w)) = inr (inr (record { up = w.up; here = w.here; out = w.out; from = w.from ∙ e; rest = w.rest; onward = w.onward; sum = (let p = w.sum in let q = sum in omega arith) }))

      at : (a.from ≡ k) ⊎ (a.from ≢ k) → (a.to ≡ k) ⊎ (a.to ≢ k) → Passes k Left Other a.to v (total more) → Passes k Left Other u v x
      at (inl n) (inl m) rest = longer (m ∙ sym n ∙ is) rest
      at (inl n) (inr m) (inl rest) = absurd (m rest.0)
      at (inl n) (inr m) (inr (inl rest)) = inr (inr (record { up = a; here = here; out = (n, m); from = is; rest = total more; onward = rest.1; sum = (let q = sum in omega arith) }))
      at (inl n) (inr m) (inr (inr w)) = absurd (m (sym w.from ∙ w.out.0))
      at (inr n) (inl m) (inl rest) = ends n m rest.1
      at (inr n) (inl m) (inr (inl rest)) = absurd (rest.0 m)
      at (inr n) (inl m) (inr (inr w)) = bridge n m w
      at (inr n) (inr m) (inl rest) = absurd (m rest.0)
      at (inr n) (inr m) (inr (inl rest)) = over n m rest.1
      at (inr n) (inr m) (inr (inr w)) = absurd (m (sym w.from ∙ w.out.0))
