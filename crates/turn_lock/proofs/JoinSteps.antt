-- Two seats that become one keep the rule, and the seat learns what they had seen.
use Rattle.std.proofs.Common.{◌≡◌, ◌≢◌, ◌⊎◌, ℕ, ◌+◌, ◌-◌, ◌<◌, ◌≤◌, Bool, true, false, cond, ltb, List, [], length, set, refl, sym, ap, ◌∙◌, subst, inl, inr, ⊎_elim, arith, Option, length-set}
use Rattle.std.proofs.lemmas.Bool.{ltb-true, ltb-false}
use mathlib.Core.Option.{none, some, some-injective}
use mathlib.Core.Logic.{dite}
use native.Mathlib.Decide.{ℕ_discrete, dec_le}
use lib.ListN.{get_elem?}
use Rattle.atomic_table.specs.Table.{State, step, keeps, Allows, Joins}
use Rattle.atomic_table.proofs.Lists.{at_set, set_here, set_else}
use Rattle.turn_lock.specs.declared.view.Stage.{Stage}
use Rattle.turn_lock.specs.declared.view.Stage.TheVariants.{Free, Drawn, Joined}
use Rattle.turn_lock.specs.declared.view.View.{View}
use Rattle.turn_lock.specs.declared.view.SeatView.{SeatView}
use Rattle.turn_lock.specs.declared.view.SeatView.TheVariants.{Spent, Living}
use Rattle.turn_lock.specs.declared.view.Key.{Key}
use Rattle.turn_lock.specs.Noted.{entries_of, Begins, InFamily, longer}
use Rattle.turn_lock.specs.Rule.{HasValue, IsJoined, tickets_at, AtStage, Fits, AreDisjoint, AreApart, IsAtHome, IsOut, IsRuled}
use Rattle.turn_lock.specs.Steps.{joined, joined_view, free_view, looked}
use Rattle.turn_lock.proofs.EntriesOf.{begins_itself, begins_length, begins_both, begins_whole, between}
use Rattle.turn_lock.proofs.SeatViews.{moves, at_below, living_one, flip_apart, tickets-set}
use Rattle.turn_lock.proofs.AtStage.{value_stays}
use Rattle.turn_lock.proofs.TurnSteps.{Goes, at_words}

module _ {E : Type 0} where
  -- the longer of two beginnings of a list, by cases
  pub longer_cases : (P : List (ℕ × E) → Type 0) (xs ys : List (ℕ × E)) → (length xs < length ys → P ys) → (length ys ≤ length xs → P xs) → P (longer xs ys)
  longer_cases P xs ys more less = go (ltb (length xs) (length ys)) refl
    where
      go : (b : Bool) → ltb (length xs) (length ys) ≡ b → P (cond b ys xs)
      go true e = more (ltb-true (length xs) (length ys) e)
      go false e = less (ltb-false (length xs) (length ys) e)

  -- what was seen on either side of a join, in the list that is seen after it
  pub joins_seen : (a k b : ℕ) (list xs ys : List (ℕ × E)) → 0 < k → 0 < b → Begins xs list → Begins ys list → ((n : ℕ) → InFamily a k n → entries_of n list ≡ entries_of n xs)
      → ((n : ℕ) → InFamily (a + k) b n → entries_of n list ≡ entries_of n ys) → Begins (longer xs ys) list × IsJoined a (k + b) (longer xs ys) xs k ys
  joins_seen a k b list xs ys some_k some_b p q one two =
      let size : (k + b) - k ≡ b = omega arith in
      longer_cases (λ zs. Begins zs list × IsJoined a (k + b) zs xs k ys) xs ys
      (λ more. let r = begins_both xs ys list p q (omega arith) in
      (q, (some_k, omega arith, r, begins_itself ys, (λ n i. between n xs ys list r q (one n i)), λ n i. refl)))
      (λ less. let r = begins_both ys xs list q p less in
      (p, (some_k, omega arith, begins_itself xs, r, (λ n i. refl), λ n i. between n ys xs list r p (two n (subst (λ (s : ℕ). InFamily (a + k) s n) size i)))))

module _ {E O X : Type 0} (noted : X → List (ℕ × E)) (IsFrom : O → X → Type 0) (key : Key O) where
  abbrev Rule : State (Option X) (SeatView E O) → Type 0
  Rule = IsRuled noted IsFrom key

  -- the families of two neighbours, as one
  disjoint_both : (v w u : View E O) → w.number ≡ v.number + v.family → 0 < u.family → AreDisjoint v u → AreDisjoint w u → AreDisjoint (joined_view v w) u
  disjoint_both v w u next some_u d e = ⊎_elim
      (λ (h : v.number + v.family ≤ u.number). ⊎_elim (λ (g : w.number + w.family ≤ u.number). inl (omega arith)) (λ (g : u.number + u.family ≤ w.number). absurd (omega arith)) e)
      (λ (h : u.number + u.family ≤ v.number). inr h) d

  -- the view of the first seat, after the other was folded into it
  fits_both : (list : List (ℕ × E)) (t n c m : ℕ) (v w : View E O) → w.number ≡ v.number + v.family → Fits key list t n c m v → Fits key list t n c m w → Fits key list t n c m (joined_view v w)
  fits_both list t n c m v w next f g =
      let h = joins_seen v.number v.family w.family list v.seen w.seen f.some g.some f.begins g.begins f.noted (λ z i. g.noted z (subst (λ (k : ℕ). InFamily k w.family z) (sym next) i)) in
      let seen : List (ℕ × E) = longer v.seen w.seen in
      record {
        desks = f.desks;
        origin = f.origin;
        some = let a = f.some in omega arith;
        ends = let a = g.ends in omega arith;
        begins = h.0;
        noted = λ z i. dite (dec_le (v.number + v.family) z)
            (λ l. g.noted z (omega arith, let b = i.1 in omega arith) ∙ sym (h.1.5 z (l, let b = i.1 in omega arith)))
            (λ l. f.noted z (i.0, omega arith) ∙ sym (h.1.4 z (i.0, omega arith)));
        drawn = f.drawn;
        stage = h.1;
      }

  same_at : (ps : List (SeatView E O)) (i j : ℕ) (u v : View E O) → get_elem? ps i ≡ some (Living u) → get_elem? ps j ≡ some (Living v) → i ≡ j → u ≡ v
  same_at ps i j u v at there e = living_one u v (some-injective (Living u) (Living v) (sym at ∙ (ap (get_elem? ps) e ∙ there)))

  same_value : (ps : List (SeatView E O)) (i j : ℕ) (u v : View E O) → get_elem? ps i ≡ some (Living u) → get_elem? ps j ≡ some (Living v) → i ≡ j → HasValue u.stage → HasValue v.stage
  same_value ps i j u v at there e h = subst (λ (z : View E O). HasValue z.stage) (same_at ps i j u v at there e) h

  longest_both : (list : List (ℕ × E)) (ps qs : List (SeatView E O)) (id other : ℕ) (v w both : View E O) → get_elem? ps id ≡ some (Living v) → get_elem? ps other ≡ some (Living w) → Begins v.seen list → Begins w.seen list
      → ((i : ℕ) × (u : View E O) × (get_elem? ps i ≡ some (Living u)) × (u.seen ≡ list)) → get_elem? qs id ≡ some (Living both) → both.seen ≡ longer v.seen w.seen
      → ((j : ℕ) → j ≢ id → j ≢ other → get_elem? qs j ≡ get_elem? ps j) → (i : ℕ) × (u : View E O) × (get_elem? qs i ≡ some (Living u)) × (u.seen ≡ list)
  longest_both list ps qs id other v w both at there p q old here seen else_ = dite (ℕ_discrete old.0 id)
      (λ is. let e : v.seen ≡ list = ap (λ (u : View E O). u.seen) (sym (same_at ps old.0 id old.1 v old.2 at is)) ∙ old.3 in
      (id, both, here, seen ∙ longer_cases (λ zs. zs ≡ list) v.seen w.seen (λ more. absurd (let a = begins_length w.seen list q in let b = ap length e in omega arith)) (λ less. e)))
      (λ ne. dite (ℕ_discrete old.0 other)
      (λ is. let e : w.seen ≡ list = ap (λ (u : View E O). u.seen) (sym (same_at ps old.0 other old.1 w old.2 there is)) ∙ old.3 in
      (id, both, here, seen ∙ longer_cases (λ zs. zs ≡ list) v.seen w.seen (λ more. e) (λ less. sym (begins_whole v.seen list p (let b = ap length e in omega arith)))))
      (λ ne'. (old.0, old.1, else_ old.0 ne ne' ∙ old.2, old.3)))

  pub joins : (id : ℕ) (v : View E O) (other : ℕ) (w : View E O) → v.stage ≡ Free → w.stage ≡ Free → w.number ≡ v.number + v.family
      → Joins Rule id (Living v) other (Living w) (joined (Living v) (Living w)) Spent
  joins id v other w free free' next s r at away there =
      let k = r.kept in let both : View E O = joined_view v w in let ps : List (SeatView E O) = set s.views id (Living both) in let vs : List (SeatView E O) = set ps other Spent in
      let there' : get_elem? s.views other ≡ some (Living w) = sym (set_else s.views id other (Living both) away) ∙ there in
      let f = k.each id v at in let g = k.each other w there' in
      -- a living view is the joined one, or one that stood beside both
      let cases : (j : ℕ) (u : View E O) → get_elem? vs j ≡ some (Living u) → ((j ≡ id) × (both ≡ u)) ⊎ ((j ≢ id) × (j ≢ other) × (get_elem? s.views j ≡ some (Living u))) = λ j u e. ⊎_elim
      (λ (h : (j ≡ other) × (Spent ≡ Living u)). absurd (let q = h.1 in cc))
      (λ (h : (j ≢ other) × (get_elem? ps j ≡ some (Living u))). ⊎_elim
      (λ (i : (j ≡ id) × (Living both ≡ Living u)). inl (i.0, living_one both u i.1))
      (λ (i : (j ≢ id) × (get_elem? s.views j ≡ some (Living u))). inr (i.0, h.0, i.1))
      (at_set s.views id j (Living both) (Living u) h.1))
      (at_set ps other j Spent (Living u) e) in
      let long : length vs ≡ length s.views = length-set ps other Spent ∙ length-set s.views id (Living both) in
      let apart_both : (j : ℕ) (u : View E O) → j ≢ id → j ≢ other → get_elem? s.views j ≡ some (Living u) → AreDisjoint both u = λ j u ne ne' e.
      disjoint_both v w u next (k.each j u e).some (k.apart id j v u (λ q. ne (sym q)) at e).0 (k.apart other j w u (λ q. ne' (sym q)) there' e).0 in
      let calm : tickets_at v.stage ≡ 0 = ap tickets_at free in let calm' : tickets_at w.stage ≡ 0 = ap tickets_at free' in
      let still : (u : View E O) → u.stage ≡ Free → HasValue u.stage → ⊥ = λ u e h. subst (λ (z : Stage E). HasValue z) e h in
      record {
        list = r.list;
        t = r.t;
        n = r.n;
        c = r.c;
        m = r.m;
        home = r.home;
        words = r.words;
        homes = r.homes;
        kept = record {
          few = (let h = k.few.0 in omega arith, k.few.1, k.few.2);
          turns = k.turns;
          count = k.count;
          ticket = let a = tickets-set s.views id (Living v) (Living both) at in let b = tickets-set ps other (Living w) Spent there in let h = k.ticket in omega arith;
          numbers = k.numbers;
          each = λ j u e. ⊎_elim
              (λ (h : (j ≡ id) × (both ≡ u)). subst (λ (z : View E O). Fits key r.list r.t r.n r.c r.m z) h.1 (fits_both r.list r.t r.n r.c r.m v w next f g))
              (λ (h : (j ≢ id) × (j ≢ other) × (get_elem? s.views j ≡ some (Living u))). k.each j u h.2) (cases j u e);
          apart = λ i j x y ne e e'. ⊎_elim
              (λ (h : (i ≡ id) × (both ≡ x)). ⊎_elim
              (λ (q : (j ≡ id) × (both ≡ y)). absurd (ne (h.0 ∙ sym q.0)))
              (λ (q : (j ≢ id) × (j ≢ other) × (get_elem? s.views j ≡ some (Living y))). subst (λ (z : View E O). AreApart z y) h.1 (apart_both j y q.0 q.1 q.2, λ z a b. a))
              (cases j y e'))
              (λ (h : (i ≢ id) × (i ≢ other) × (get_elem? s.views i ≡ some (Living x))). ⊎_elim
              (λ (q : (j ≡ id) × (both ≡ y)). subst (λ (z : View E O). AreApart x z) q.1 (flip_apart both x (apart_both i x h.0 h.1 h.2, λ z a b. a)))
              (λ (q : (j ≢ id) × (j ≢ other) × (get_elem? s.views j ≡ some (Living y))). k.apart i j x y ne h.2 q.2)
              (cases j y e'))
              (cases i x e);
          drawn = λ i u d e is. ⊎_elim
              (λ (h : (i ≡ id) × (both ≡ u)). absurd (let q : Joined v.seen v.family w.seen ≡ Drawn d = ap (λ (z : View E O). z.stage) h.1 ∙ is in cc))
              (λ (h : (i ≢ id) × (i ≢ other) × (get_elem? s.views i ≡ some (Living u))). let un = k.drawn i u d h.2 is in (
                un.0,
                (let a = un.1 in omega arith),
                λ j y e' within. ⊎_elim
                    (λ (q : (j ≡ id) × (both ≡ y)). let there₂ : InFamily both.number both.family d = subst (λ (z : View E O). InFamily z.number z.family d) (sym q.1) within in
                    dite (dec_le (v.number + v.family) d) (λ l. un.2 other w there' (omega arith, let a = there₂.1 in omega arith)) (λ l. un.2 id v at (there₂.0, omega arith)))
                    (λ (q : (j ≢ id) × (j ≢ other) × (get_elem? s.views j ≡ some (Living y))). un.2 j y q.2 within) (cases j y e'),
              ))
              (cases i u e);
          longest = longest_both r.list s.views vs id other v w both at there' f.begins g.begins k.longest (set_else ps other id Spent (λ e. away (sym e)) ∙ set_here s.views id (Living both) (at_below s.views id (Living v) at)) refl
              (λ j ne ne'. set_else ps other j Spent ne' ∙ set_else s.views id j (Living both) ne);
          value = ⊎_elim
              (λ (a : IsAtHome noted IsFrom key r.list r.n r.c r.home s.views). inl (
                a.0,
                a.1,
                a.2,
                a.3,
                a.4,
                λ j u e has. ⊎_elim
                    (λ (h : (j ≡ id) × (both ≡ u)). subst (λ (z : View E O). HasValue z.stage) (sym h.1) has)
                    (λ (h : (j ≢ id) × (j ≢ other) × (get_elem? s.views j ≡ some (Living u))). a.5 j u h.2 has) (cases j u e),
              ))
              (λ (o : IsOut r.home s.views). inr (
                o.0,
                (
                  o.1.0,
                  o.1.1,
                  set_else ps other o.1.0 Spent (λ e. still w free' (same_value s.views o.1.0 other o.1.1 w o.1.2 there' e o.1.3))
                      ∙ (set_else s.views id o.1.0 (Living both) (λ e. still v free (same_value s.views o.1.0 id o.1.1 v o.1.2 at e o.1.3)) ∙ o.1.2),
                  o.1.3,
                ),
              ))
              k.value;
        };
      }

  pub looks_at_join : (slots id : ℕ) (v : View E O) (xs : List (ℕ × E)) (i : ℕ) (ys : List (ℕ × E)) → v.stage ≡ Joined xs i ys
      → Allows Rule slots id (Living v, []) 0 (λ n. n) (looked (step slots 0 0 0 none) (Living v, []))
  looks_at_join slots id v xs i ys is s r len at fits =
      let k = r.kept in let w : View E O = free_view v in let f = k.each id v at in
      let none_yet : tickets_at v.stage ≡ 0 = ap tickets_at is in
      let low : v.number + v.family ≤ 65536 = let a = f.ends in let b = k.few.1 in let c = k.few.2 in omega arith in
      at_words noted IsFrom key (Goes noted IsFrom key id (Living v, []) 0 (λ n. n) (looked (step slots 0 0 0 none) (Living v, []))) s r (
        Living w,
        keeps,
        tt,
        record {
          list = r.list;
          t = r.t;
          n = r.n;
          c = r.c;
          m = r.m;
          home = r.home;
          words = refl;
          homes = refl;
          kept = moves noted IsFrom key r.list r.list r.t r.n r.c r.m r.t r.n r.c r.m id r.home r.home s.views v w k at record {
            number = refl;
            family = refl;
            few = (k.few.0, k.few.1);
            turns = k.turns;
            count = k.count;
            ticket = let a = k.ticket in omega arith;
            numbers = k.numbers;
            mine = record { desks = f.desks; origin = f.origin; some = f.some; ends = f.ends; begins = f.begins; noted = f.noted; drawn = f.drawn; stage = tt };
            others = λ j u other there. k.each j u there;
            alone = λ j u x other there mine theirs. mine;
            drawn = λ d e. absurd (cc);
            drawn_else = λ j u d other there e. k.drawn j u d there e;
            longest = inr (refl, refl);
            value = value_stays noted IsFrom key r.list r.n r.c id r.home s.views v w at (λ h. subst (λ (z : Stage E). HasValue z) is h) (λ h. h) k.value;
          };
        },
        λ v' xs' i' ys' e is'. let a : v ≡ v' = living_one v v' e in (
          (λ q. (Living (free_view (a q)), [])),
          subst (λ (u : View E O). u.number + u.family ≤ 65536) a low,
          subst (λ (u : View E O). IsJoined u.number u.family u.seen xs' i' ys') a (subst (λ (z : Stage E). AtStage r.list r.t r.n r.c r.m v z) (ap (λ (u : View E O). u.stage) a ∙ is') f.stage),
        ),
      )
