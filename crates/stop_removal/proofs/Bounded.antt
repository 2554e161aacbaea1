use Rattle.std.proofs.Common.{◌≡◌, ℕ, zero, suc, ◌+◌, ◌-◌, ◌<◌, ◌≤◌, ◌==◌, ◌⊎◌, inl, inr, Bool, cond, List, [], ◌∷◌, ◌++◌, take, drop, length, Some, refl, ap, ◌∙◌, arith, length-append, length-take, length-drop, ⊎_elim, true, false}
use Rattle.std.specs.Prelude.{slice_get}
use Rattle.std.proofs.lemmas.Bool.{eq-eqb, ne_eqb, cases_eq, cases_lt}
use Rattle.std.proofs.lemmas.Option.{none-some}
use Rattle.road_graph.specs.declared.road.NodeNo.{NodeNo}
use Rattle.stop_schedule.specs.declared.stop.Front.{Front}
use Rattle.stop_schedule.specs.declared.stop.Stop.{Stop}
use Rattle.stop_removal.specs.Removals.{joint_ends, joint_over, leg_to, with_joined, without_both}

module _ {X : Type 0} (P : X → Type 0) where
  -- each element of a list
  abbrev pub Each : List X → Type 0
  Each xs = (k : ℕ) (x : X) → slice_get xs k ≡ Some x → P x

  each_append : (xs ys : List X) → Each xs → Each ys → Each (xs ++ ys)
  each_append [] ys all more k x h = more k x h
  each_append (y ∷ xs) ys all more zero x h = all zero x h
  each_append (y ∷ xs) ys all more (suc k) x h = each_append xs ys (λ l z e. all (suc l) z e) more k x h

  each_take : (n : ℕ) (xs : List X) → Each xs → Each (take n xs)
  each_take zero xs all k x h = absurd (none-some x h)
  each_take (suc n) [] all k x h = absurd (none-some x h)
  each_take (suc n) (y ∷ xs) all zero x h = all zero x h
  each_take (suc n) (y ∷ xs) all (suc k) x h = each_take n xs (λ l z e. all (suc l) z e) k x h

  each_drop : (n : ℕ) (xs : List X) → Each xs → Each (drop n xs)
  each_drop zero xs all k x h = all k x h
  each_drop (suc n) [] all k x h = absurd (none-some x h)
  each_drop (suc n) (y ∷ xs) all k x h = each_drop n xs (λ l z e. all (suc l) z e) k x h

  -- what holds of each leg and each joined one holds of each leg that is left
  pub each_joined : (xs joined : List X) (a b : ℕ) → Each xs → Each joined → Each (with_joined xs a b joined)
  each_joined xs joined a b all new = go (b == a + 1) where
    go : (t : Bool) → Each (cond t (take (a - 1) xs ++ joined ++ drop (b + 1) xs) (take (a - 1) xs ++ take 1 joined ++ take (b - a - 2) (drop (a + 1) xs) ++ drop 1 joined ++ drop (b + 1) xs))
    go true = each_append (take (a - 1) xs ++ joined) (drop (b + 1) xs) (each_append (take (a - 1) xs) joined (each_take (a - 1) xs all) new) (each_drop (b + 1) xs all)
    go false =
        each_append _ (drop (b + 1) xs)
        (each_append _ (drop 1 joined)
        (each_append _ (take (b - a - 2) (drop (a + 1) xs)) (each_append (take (a - 1) xs) (take 1 joined) (each_take (a - 1) xs all) (each_take 1 joined new)) (each_take (b - a - 2) (drop (a + 1) xs) (each_drop (a + 1) xs all)))
        (each_drop 1 joined new))
        (each_drop (b + 1) xs all)

-- and what holds of each stop holds of each that stays
pub each_without : (P : Stop → Type 0) (stops : List Stop) (a b : ℕ) → Each P stops → Each P (without_both stops a b)
each_without P stops a b all =
    each_append P (take (a - 1) stops ++ take (b - a - 1) (drop a stops)) (drop b stops) (each_append P (take (a - 1) stops) (take (b - a - 1) (drop a stops)) (each_take P (a - 1) stops all) (each_take P (b - a - 1) (drop a stops) (each_drop P a stops all))) (each_drop P b stops all)

pub length-without : (stops : List Stop) (a b : ℕ) → 1 ≤ a → a < b → b ≤ length stops → length (without_both stops a b) + 2 ≡ length stops
length-without stops a b first order last = simp (length-append, length-take, length-drop) (omega arith)

-- a leg leads over a stop where one follows
leg_there : (from : NodeNo) (stops : List Stop) (k : ℕ) → k < length stops → length (leg_to from (slice_get stops k)) ≡ 1
leg_there from [] k l = absurd (omega arith)
leg_there from (s ∷ stops) zero l = refl
leg_there from (s ∷ stops) (suc k) l = leg_there from stops k (omega arith)

leg_gone : (from : NodeNo) (stops : List Stop) (k : ℕ) → length stops ≤ k → length (leg_to from (slice_get stops k)) ≡ 0
leg_gone from [] k l = refl
leg_gone from (s ∷ stops) zero l = absurd (omega arith)
leg_gone from (s ∷ stops) (suc k) l = leg_gone from stops k (omega arith)

module _ {X : Type 0} (legs joined : List X) (stops : List Stop) (front : Front) (a b : ℕ) (first : 1 ≤ a) (order : a < b) (last : b ≤ length stops) (many : length legs ≡ length stops) (as_many : length joined ≡ length (joint_ends stops front a b)) where
  together : b ≡ a + 1 → length (take (a - 1) legs ++ joined ++ drop (b + 1) legs) + 2 ≡ length legs
  together e = ⊎_elim there gone (cases_lt b (length stops)) where
    over : length joined ≡ length (joint_over front stops (a - 1) b)
    over = as_many ∙ ap (λ (t : Bool). length (cond t (joint_over front stops (a - 1) b) (joint_over front stops (a - 1) a ++ joint_over front stops (b - 1) b))) (eq-eqb b (a + 1) e)

    there : b < length stops → length (take (a - 1) legs ++ joined ++ drop (b + 1) legs) + 2 ≡ length legs
    there l = let one = over ∙ leg_there _ stops b l in simp (length-append, length-take, length-drop) (omega arith)

    gone : length stops ≤ b → length (take (a - 1) legs ++ joined ++ drop (b + 1) legs) + 2 ≡ length legs
    gone l = let none = over ∙ leg_gone _ stops b l in simp (length-append, length-take, length-drop) (omega arith)

  -- where other stops stand between both, one leg is joined at least
  pub some_joined : (b ≡ a + 1 → ⊥) → length joined ≡ 1 + length (joint_over front stops (b - 1) b)
  some_joined n =
      as_many ∙ ap (λ (t : Bool). length (cond t (joint_over front stops (a - 1) b) (joint_over front stops (a - 1) a ++ joint_over front stops (b - 1) b))) (ne_eqb b (a + 1) n)
      ∙ length-append (joint_over front stops (a - 1) a) (joint_over front stops (b - 1) b)
      ∙ ap (λ (k : ℕ). k + length (joint_over front stops (b - 1) b)) (leg_there _ stops a (omega arith))

  separate : (b ≡ a + 1 → ⊥) → length (take (a - 1) legs ++ take 1 joined ++ take (b - a - 2) (drop (a + 1) legs) ++ drop 1 joined ++ drop (b + 1) legs) + 2 ≡ length legs
  separate n = ⊎_elim there gone (cases_lt b (length stops)) where
    there : b < length stops → length (take (a - 1) legs ++ take 1 joined ++ take (b - a - 2) (drop (a + 1) legs) ++ drop 1 joined ++ drop (b + 1) legs) + 2 ≡ length legs
    there l = let two = some_joined n ∙ ap (λ (k : ℕ). 1 + k) (leg_there _ stops b l) in simp (length-append, length-take, length-drop) (omega arith)

    gone : length stops ≤ b → length (take (a - 1) legs ++ take 1 joined ++ take (b - a - 2) (drop (a + 1) legs) ++ drop 1 joined ++ drop (b + 1) legs) + 2 ≡ length legs
    gone l = let one = some_joined n ∙ ap (λ (k : ℕ). 1 + k) (leg_gone _ stops b l) in simp (length-append, length-take, length-drop) (omega arith)

  -- two legs less
  pub length-joined : length (with_joined legs a b joined) + 2 ≡ length legs
  length-joined = go (cases_eq b (a + 1)) where
    go : (b ≡ a + 1) ⊎ (b ≡ a + 1 → ⊥) → length (with_joined legs a b joined) + 2 ≡ length legs
    go (inl e) = rw (eq-eqb b (a + 1) e) (together e)
    go (inr n) = rw (ne_eqb b (a + 1) n) (separate n)
