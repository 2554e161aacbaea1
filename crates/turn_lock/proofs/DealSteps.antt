-- The first state keeps the rule, and so do the steps that make a desk.
use Rattle.std.proofs.Common.{◌≡◌, ◌≢◌, ◌⊎◌, ℕ, zero, suc, ◌+◌, ◌%◌, ◌^◌, ◌<◌, ◌≤◌, List, [], ◌∷◌, ◌++◌, length, set, refl, sym, ap, ◌∙◌, subst, inl, inr, ⊎_elim, arith, Option, Some, length-set, length-append}
use mathlib.Core.Option.{none, some, some-injective, some-ne-none}
use mathlib.Core.Option as maybe
use mathlib.Core.Logic.{dite}
use native.Mathlib.Decide.{dec_le}
use lib.ListN.{get_elem?}
use Rattle.atomic_table.specs.Table.{State, step, keeps, opening, Allows, Splits}
use Rattle.atomic_table.proofs.Lists.{at_longer}
use Rattle.turn_lock.specs.declared.view.Stage.{Stage}
use Rattle.turn_lock.specs.declared.view.Stage.TheVariants.{Free, Drawn}
use Rattle.turn_lock.specs.declared.view.View.{View}
use Rattle.turn_lock.specs.declared.view.SeatView.{SeatView}
use Rattle.turn_lock.specs.declared.view.SeatView.TheVariants.{Living}
use Rattle.turn_lock.specs.declared.view.Key.{Key}
use Rattle.turn_lock.specs.Noted.{entries_of, InFamily}
use Rattle.turn_lock.specs.Rule.{HasTicket, HasValue, tickets_at, tickets, AtStage, Fits, AreDisjoint, AreApart, IsUnused, IsAtHome, IsOut, KeepsRule, IsRuled, opening_view}
use Rattle.turn_lock.specs.Steps.{drew_number, drawn_view, free_view, fresh_view, number_drawn, cut_left, cut_right}
use Rattle.turn_lock.proofs.EntriesOf.{entries_of-above, begins_itself}
use Rattle.turn_lock.proofs.SeatViews.{moves, living_one, each_set, flip_apart}
use Rattle.turn_lock.proofs.AtStage.{one_more_desk, value_stays}
use Rattle.turn_lock.proofs.TurnSteps.{Goes, at_words}

pub at_one : {A : Type 0} (a b : A) (i : ℕ) → get_elem? (a ∷ []) i ≡ some b → (i ≡ 0) × (a ≡ b)
at_one a b zero e = (refl, some-injective a b e)
at_one a b (suc i) e = absurd (some-ne-none b (sym e))

-- an element of a list with one more at its end
pub at_end : {A : Type 0} (xs : List A) (a b : A) (j : ℕ) → get_elem? (xs ++ a ∷ []) j ≡ some b → (get_elem? xs j ≡ some b) ⊎ ((j ≡ length xs) × (a ≡ b))
at_end [] a b zero e = inr (refl, some-injective a b e)
at_end [] a b (suc j) e = absurd (some-ne-none b (sym e))
at_end (x ∷ xs) a b zero e = inl e
at_end (x ∷ xs) a b (suc j) e = ⊎_elim (λ (h : get_elem? xs j ≡ some b). inl h) (λ (h : (j ≡ length xs) × (a ≡ b)). inr (ap suc h.0, h.1)) (at_end xs a b j e)

module _ {E O X : Type 0} (noted : X → List (ℕ × E)) (IsFrom : O → X → Type 0) (key : Key O) where
  abbrev Rule : State (Option X) (SeatView E O) → Type 0
  Rule = IsRuled noted IsFrom key

  -- the table as it is made
  pub opens : (y : X) (slots : List (Option X)) → slots ≡ Some y ∷ [] → noted y ≡ [] → IsFrom key.origin.origin y → 0 < key.desks → key.desks ≤ 65536
      → Rule (opening (0 ∷ 0 ∷ 0 ∷ 1 ∷ []) slots (Living (opening_view key)))
  opens y slots one empty from some_desk few = let v : View E O = opening_view key in let list : List (ℕ × E) = [] in
      let is_v : (i : ℕ) (u : View E O) → get_elem? (Living v ∷ []) i ≡ some (Living u) → (i ≡ 0) × (v ≡ u) = λ i u at. let h = at_one (Living v) (Living u) i at in (h.0, living_one v u h.1) in
      subst (λ (xs : List (Option X)). Rule (opening (0 ∷ 0 ∷ 0 ∷ 1 ∷ []) xs (Living v))) (sym one) record {
        list = list;
        t = 0;
        n = 0;
        c = 0;
        m = 1;
        home = some (Some y);
        words = refl;
        homes = refl;
        kept = record {
          few = (omega arith, omega arith, few);
          turns = omega arith;
          count = refl;
          ticket = refl;
          numbers = λ k d h. absurd (omega arith);
          each = λ i u at. subst (λ (w : View E O). Fits key list 0 0 0 1 w) (is_v i u at).1
              record { desks = refl; origin = refl; some = omega arith; ends = omega arith; begins = begins_itself list; noted = λ x h. refl; drawn = λ e. refl; stage = tt };
          apart = λ i j u w ne at there. absurd (ne ((is_v i u at).0 ∙ sym (is_v j w there).0));
          drawn = λ i u d at e. let a : Stage E = Free in let h : Free ≡ Drawn d = ap (λ (w : View E O). w.stage) (is_v i u at).1 ∙ e in absurd (cc);
          longest = (0, v, refl, refl);
          value = inl (y, refl, empty, from, omega arith, λ i u at h. subst (λ (w : View E O). HasValue w.stage) (sym (is_v i u at).1) h);
        };
      }

  -- only the first desk draws, and it is alone in that
  alone_first : (v u : View E O) → AreDisjoint v u → 0 < v.family → 0 < u.family → v.number ≡ 0 → u.number ≢ 0
  alone_first v u d f g z e = ⊎_elim (λ (h : v.number + v.family ≤ u.number). omega arith) (λ (h : u.number + u.family ≤ v.number). omega arith) d

  not_drawn : (list : List (ℕ × E)) (t n c m d : ℕ) (u : View E O) → AtStage list t n c m u u.stage → u.number ≢ 0 → u.stage ≡ Drawn d → ⊥
  not_drawn list t n c m d u a other is = let h : AtStage list t n c m u (Drawn d) = subst (λ (s : Stage E). AtStage list t n c m u s) is a in other h.0

  pub draws_number : (slots id : ℕ) (v : View E O) → v.stage ≡ Free → v.number ≡ 0 → v.drawn + 1 < v.desks
      → Allows Rule slots id (Living v, []) 3 (λ n. (n + 1) % 2 ^ 64) (drew_number (step slots 3 1 0 none) (Living v, []))
  draws_number slots id v free first room s r len at fits =
      let k = r.kept in let m : ℕ = r.m in let w : View E O = drawn_view m v in let f = k.each id v at in
      let none_yet : tickets_at v.stage ≡ 0 = ap tickets_at free in let few = k.few.2 in
      let made : m ≡ v.drawn + 1 = f.drawn first in let more : m + 1 ≤ key.desks = let e = f.desks in omega arith in
      let away : (j : ℕ) (u : View E O) → j ≢ id → get_elem? s.views j ≡ some (Living u) → u.number ≢ 0 = λ j u other there.
      alone_first v u (k.apart id j v u (λ e. other (sym e)) at there).0 f.some (k.each j u there).some first in
      at_words noted IsFrom key (Goes noted IsFrom key id (Living v, []) 3 (λ n. (n + 1) % 18446744073709551616) (drew_number (step slots 3 1 0 none) (Living v, []))) s r (
        Living w,
        keeps,
        tt,
        record {
          list = r.list;
          t = r.t;
          n = r.n;
          c = r.c;
          m = m + 1;
          home = r.home;
          words = ap (λ (x : ℕ). r.t ∷ r.n ∷ r.c ∷ x ∷ []) (let e : (m + 1) % 18446744073709551616 ≡ m + 1 = omega arith in e);
          homes = refl;
          kept = moves noted IsFrom key r.list r.list r.t r.n r.c m r.t r.n r.c (m + 1) id r.home r.home s.views v w k at record {
            number = refl;
            family = refl;
            few = (let h = k.few.0 in omega arith, more);
            turns = k.turns;
            count = k.count;
            ticket = let a = k.ticket in omega arith;
            numbers = λ i d h. let l = k.numbers i d h in omega arith;
            mine = record { desks = f.desks; origin = f.origin; some = f.some; ends = let e = f.ends in omega arith; begins = f.begins; noted = f.noted; drawn = λ e. omega arith; stage = (first, refl) };
            others = λ j u other there. let g = k.each j u there in let ne = away j u other there in
                record {
                  desks = g.desks;
                  origin = g.origin;
                  some = g.some;
                  ends = let e = g.ends in omega arith;
                  begins = g.begins;
                  noted = g.noted;
                  drawn = λ e. absurd (ne e);
                  stage = one_more_desk r.list r.t r.n r.c m u u.stage g.stage ne;
                };
            alone = λ j u x other there mine theirs. mine;
            drawn = λ d e. let same : m ≡ d = cc in subst (λ (z : ℕ). IsUnused r.list s.views (m + 1) z) same
                (entries_of-above m m r.list (omega arith) k.numbers, (let h = k.few.0 in omega arith), λ j u there i. let e = (k.each j u there).ends in let l = i.1 in omega arith);
            drawn_else = λ j u d other there is. absurd (not_drawn r.list r.t r.n r.c m d u (k.each j u there).stage (away j u other there) is);
            longest = inr (refl, refl);
            value = value_stays noted IsFrom key r.list r.n r.c id r.home s.views v w at (λ h. subst (λ (z : Stage E). HasValue z) free h) (λ h. h) k.value;
          };
        },
        λ v' e. let a : v ≡ v' = living_one v v' e in ((λ i. (Living (drawn_view m (a i)), [])), made ∙ ap (λ (u : View E O). u.drawn + 1) a),
      )

  tickets-append : (ps qs : List (SeatView E O)) → tickets (ps ++ qs) ≡ tickets ps + tickets qs
  tickets-append [] qs = omega arith
  tickets-append (p ∷ ps) qs = let h = tickets-append ps qs in omega arith

  -- a new desk comes, while no other number is drawn
  arrives : (list : List (ℕ × E)) (t n c m : ℕ) (home : maybe.Option (Option X)) (views : List (SeatView E O)) (u : View E O) → KeepsRule noted IsFrom key list t n c m home views
      → length views < m → Fits key list t n c m u → u.stage ≡ Free → ((j : ℕ) (y : View E O) → get_elem? views j ≡ some (Living y) → AreDisjoint u y)
      → ((j : ℕ) (y : View E O) (d : ℕ) → get_elem? views j ≡ some (Living y) → y.stage ≡ Drawn d → ⊥) → KeepsRule noted IsFrom key list t n c m home (views ++ Living u ∷ [])
  arrives list t n c m home views u k room fits free apart none_drawn = let vs : List (SeatView E O) = views ++ Living u ∷ [] in
      let calm : (x : ℕ) → HasTicket x u.stage → ⊥ = λ x h. subst (λ (s : Stage E). HasTicket x s) free h in
      let still : HasValue u.stage → ⊥ = λ h. subst (λ (s : Stage E). HasValue s) free h in
      let e = length-append views (Living u ∷ []) in
      let either_one : (j : ℕ) (y : View E O) → get_elem? vs j ≡ some (Living y) → (get_elem? views j ≡ some (Living y)) ⊎ ((j ≡ length views) × (u ≡ y)) =
      λ j y at. ⊎_elim (λ (h : get_elem? views j ≡ some (Living y)). inl h) (λ (h : (j ≡ length views) × (Living u ≡ Living y)). inr (h.0, living_one u y h.1)) (at_end views (Living u) (Living y) j at) in
      record {
        few = (omega arith, k.few.1, k.few.2);
        turns = k.turns;
        count = k.count;
        ticket = let h = tickets-append views (Living u ∷ []) in let z : tickets_at u.stage ≡ 0 = ap tickets_at free in let h' = k.ticket in omega arith;
        numbers = k.numbers;
        each = λ j y at. ⊎_elim (λ (h : get_elem? views j ≡ some (Living y)). k.each j y h) (λ (h : (j ≡ length views) × (u ≡ y)). subst (λ (z : View E O). Fits key list t n c m z) h.1 fits) (either_one j y at);
        apart = λ i j x y ne at there. ⊎_elim
            (λ (h : get_elem? views i ≡ some (Living x)). ⊎_elim
            (λ (g : get_elem? views j ≡ some (Living y)). k.apart i j x y ne h g)
            (λ (g : (j ≡ length views) × (u ≡ y)). subst (λ (z : View E O). AreApart x z) g.1 (flip_apart u x (apart i x h, λ z a b. absurd (calm z a))))
            (either_one j y there))
            (λ (h : (i ≡ length views) × (u ≡ x)). ⊎_elim
            (λ (g : get_elem? views j ≡ some (Living y)). subst (λ (z : View E O). AreApart z y) h.1 (apart j y g, λ z a b. absurd (calm z a)))
            (λ (g : (j ≡ length views) × (u ≡ y)). absurd (ne (h.0 ∙ sym g.0)))
            (either_one j y there))
            (either_one i x at);
        drawn = λ i y d at is. ⊎_elim (λ (h : get_elem? views i ≡ some (Living y)). absurd (none_drawn i y d h is))
            (λ (h : (i ≡ length views) × (u ≡ y)). absurd (let g : Free ≡ Drawn d = sym free ∙ (ap (λ (z : View E O). z.stage) h.1 ∙ is) in cc)) (either_one i y at);
        longest = (k.longest.0, k.longest.1, at_longer views (Living u ∷ []) k.longest.0 (Living k.longest.1) k.longest.2, k.longest.3);
        value = ⊎_elim
            (λ (h : IsAtHome noted IsFrom key list n c home views). inl (
              h.0,
              h.1,
              h.2,
              h.3,
              h.4,
              λ j y at has. ⊎_elim (λ (g : get_elem? views j ≡ some (Living y)). h.5 j y g has)
                  (λ (g : (j ≡ length views) × (u ≡ y)). still (subst (λ (z : View E O). HasValue z.stage) (sym g.1) has)) (either_one j y at),
            ))
            (λ (o : IsOut home views). inr (o.0, (o.1.0, o.1.1, at_longer views (Living u ∷ []) o.1.0 (Living o.1.1) o.1.2, o.1.3)))
            k.value;
      }

  -- a step that frees the first desk of the number that it drew
  freed : (list : List (ℕ × E)) (t n c m id d : ℕ) (home : maybe.Option (Option X)) (views : List (SeatView E O)) (v : View E O) → v.stage ≡ Drawn d → KeepsRule noted IsFrom key list t n c m home views
      → get_elem? views id ≡ some (Living v) → KeepsRule noted IsFrom key list t n c m home (set views id (Living (free_view v)))
  freed list t n c m id d home views v drew k at = let f = k.each id v at in
      let none_yet : tickets_at v.stage ≡ 0 = ap tickets_at drew in
      moves noted IsFrom key list list t n c m t n c m id home home views v (free_view v) k at record {
        number = refl;
        family = refl;
        few = (k.few.0, k.few.1);
        turns = k.turns;
        count = k.count;
        ticket = let e = k.ticket in omega arith;
        numbers = k.numbers;
        mine = record { desks = f.desks; origin = f.origin; some = f.some; ends = f.ends; begins = f.begins; noted = f.noted; drawn = f.drawn; stage = tt };
        others = λ j u other there. k.each j u there;
        alone = λ j u x other there mine theirs. mine;
        drawn = λ z e. absurd (cc);
        drawn_else = λ j u z other there is. k.drawn j u z there is;
        longest = inr (refl, refl);
        value = value_stays noted IsFrom key list n c id home views v (free_view v) at (λ h. subst (λ (s : Stage E). HasValue s) drew h) (λ h. h) k.value;
      }

  pub splits : (id : ℕ) (v : View E O) (d : ℕ) → v.stage ≡ Drawn d → Splits Rule id (Living v) (cut_left (Living v)) (cut_right (Living v))
  splits id v d drew s r at =
      let k = r.kept in let f = k.each id v at in let un = k.drawn id v d at drew in let ps : List (SeatView E O) = set s.views id (Living (free_view v)) in
      let a : AtStage r.list r.t r.n r.c r.m v (Drawn d) = subst (λ (z : Stage E). AtStage r.list r.t r.n r.c r.m v z) drew f.stage in
      let num : number_drawn v.stage ≡ d = ap number_drawn drew in
      let u : View E O = fresh_view d v in
      let long : length ps ≡ length s.views = length-set s.views id (Living (free_view v)) in
      let k' = freed r.list r.t r.n r.c r.m id d r.home s.views v drew k at in
      let away : (x : ℕ) (p : View E O) → (InFamily p.number p.family x → ⊥) → (x + 1 ≤ p.number) ⊎ (p.number + p.family ≤ x) = λ x p h. outside x p.number p.family h in
      record {
        list = r.list;
        t = r.t;
        n = r.n;
        c = r.c;
        m = r.m;
        home = r.home;
        words = r.words;
        homes = r.homes;
        kept = subst (λ (z : ℕ). KeepsRule noted IsFrom key r.list r.t r.n r.c r.m r.home (ps ++ Living (fresh_view z v) ∷ [])) (sym num)
            (arrives r.list r.t r.n r.c r.m r.home ps u k' (let h = un.1 in omega arith)
            record { desks = f.desks; origin = f.origin; some = omega arith; ends = let h = a.1 in omega arith; begins = (r.list, refl); noted = λ x i. (let e : x ≡ d = omega (arith, i.0, i.1) in ap (λ (z : ℕ). entries_of z r.list) e ∙ un.0); drawn = λ e. absurd (un.2 id v at (let z = a.0 in let o = f.some in (omega arith, omega arith))); stage = tt }
            refl
            (each_set (λ j y. AreDisjoint u y) s.views id (free_view v) (away d v (un.2 id v at)) (λ j y other there. away d y (un.2 j y there)))
            (λ j y z there is. each_set (λ j y. (z : ℕ) → y.stage ≡ Drawn z → ⊥) s.views id (free_view v) (λ z e. cc)
            (λ j y other there z is. let g = k.each j y there in not_drawn r.list r.t r.n r.c r.m z y g.stage (alone_first v y (k.apart id j v y (λ e. other (sym e)) at there).0 f.some g.some a.0) is) j y there z is));
      }
    where
      outside : (x a f : ℕ) → (InFamily a f x → ⊥) → (x + 1 ≤ a) ⊎ (a + f ≤ x)
      outside x a f h = dite (dec_le (x + 1) a) (λ (l : x + 1 ≤ a). inl l) (λ l. dite (dec_le (a + f) x) (λ (g : a + f ≤ x). inr g) (λ g. absurd (h (omega arith, omega arith))))
