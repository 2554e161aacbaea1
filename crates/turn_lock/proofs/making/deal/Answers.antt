use Rattle.std.proofs.Common.{◌≡◌, ℕ, ◌+◌, List, [], ◌∷◌, ◌++◌, length, set, sym, ap, ◌∙◌, arith, add-one, length-append}
use Rattle.turn_lock.specs.Desks.{DeskState, LockState, fresh, fresh_desks}
use Rattle.turn_lock.proofs.IsSeated.{set_more}
use Rattle.turn_lock.proofs.making.deal.Goals as goal

-- one desk more in the row
dealt : {E O : Type 0} (lock : LockState O) (xs ys : List (DeskState E O)) (y : DeskState E O) (d n : ℕ) → d + 1 ≡ n → length xs ≡ n → ys ≡ xs ++ y ∷ [] → y ≡ fresh lock (d + 1) → set xs 0 (fresh lock 0) ≡ fresh_desks lock n
    → set ys 0 (fresh lock 0) ≡ fresh_desks lock (n + 1)
dealt {E} {O} lock xs ys y d n next len more is old =
    ap (λ (zs : List (DeskState E O)). set zs 0 (fresh lock 0)) more ∙ (set_more xs (fresh lock 0) y (omega arith)
    ∙ ((λ i. old i ++ (is ∙ ap (fresh lock) next) i ∷ []) ∙ ap (fresh_desks lock) (sym (add-one n))))

pub loop-preserved : goal.loop-preserved
loop-preserved g c = let i = c.loop.invariant in let d : ℕ = i.0.0 in let t = c.split_off.ensures d i.0.2 in let p = c.push_reserved-in-loop.ensures in
    let e = i.0.1 in let n = i.2 in let k = p.len in let m = p.capacity in let room = i.3 in (
      (d + 1, omega arith, t.0),
      dealt c.args.lock.now c.loop.row.items c.push_reserved-in-loop.new.self.items c.split_off.result d c.loop.counter e n p.items t.1 i.1,
      ap length p.items ∙ (length-append c.loop.row.items (c.split_off.result ∷ []) ∙ ap (λ (j : ℕ). j + 1) n),
      omega arith,
    )
