-- The steps of a turn keep the rule.
use Rattle.std.proofs.Common.{◌≡◌, ◌≢◌, ℕ, zero, suc, ◌+◌, ◌%◌, ◌^◌, ◌<◌, ◌≤◌, eqb, eq-eqb, Bool, List, [], ◌∷◌, ◌++◌, length, set, slice_index, refl, sym, ap, ◌∙◌, subst, inl, inr, ⊎_elim, arith, Option, Some, length-append}
use Rattle.std.specs.Prelude.{All}
use mathlib.Core.Option.{none, some, some-injective}
use mathlib.Core.Option as maybe
use mathlib.Core.Logic.{dite}
use native.Mathlib.Decide.{ℕ_discrete}
use lib.ListN.{get_elem?}
use prog.Atomic.{either}
use Rattle.atomic_table.specs.Table.{State, Me, step, Act, keeps, takes, gives, stepped, carried_after, Valid, Allows}
use Rattle.atomic_table.proofs.Lists.{set_here, set_again}
use Rattle.turn_lock.specs.declared.view.Stage.{Stage}
use Rattle.turn_lock.specs.declared.view.Stage.TheVariants.{Free, Waiting, Entered, Counted}
use Rattle.turn_lock.specs.declared.view.View.{View}
use Rattle.turn_lock.specs.declared.view.SeatView.{SeatView}
use Rattle.turn_lock.specs.declared.view.SeatView.TheVariants.{Living}
use Rattle.turn_lock.specs.declared.view.Key.{Key}
use Rattle.turn_lock.specs.Noted.{entries_of, Begins, InFamily, IsLeft}
use Rattle.turn_lock.specs.Rule.{HasTicket, HasValue, tickets_at, AtStage, AreDisjoint, IsAtHome, IsOut, KeepsRule, IsRuled}
use Rattle.turn_lock.specs.Steps.{drew_ticket, looked_for_turn, counted, served, Comes, counted_view, free_view}
use Rattle.turn_lock.proofs.EntriesOf.{entries_of-more, begins_itself, begins_trans}
use Rattle.std.proofs.lemmas.List.{append-nil}
use Rattle.std.proofs.lemmas.List.Elements.{All-append}
use Rattle.turn_lock.proofs.SeatViews.{moves, at_below, living_one, each_set, tickets_le}
use Rattle.turn_lock.proofs.AtStage.{ticket_within, value_ticket, one_more_ticket, one_more_turn, other_list, value_stays}

module _ {E O X : Type 0} (noted : X → List (ℕ × E)) (IsFrom : O → X → Type 0) (key : Key O) where
  abbrev St : Type 0
  St = State (Option X) (SeatView E O)

  abbrev M : Type 0
  M = Me (Option X) (SeatView E O)

  abbrev Rule : St → Type 0
  Rule = IsRuled noted IsFrom key

  -- what a step owes in one state
  abbrev pub Goes : ℕ → M → ℕ → (ℕ → ℕ) → (ℕ → M → Type 0) → St → Type 0
  Goes id me i f then s = (w : SeatView E O) × (a : Act (Option X)) × Valid s.homes me.1 a × Rule (stepped s i (f (slice_index s.words i)) id me.1 w a) × then (slice_index s.words i) (w, carried_after me.1 a)

  -- a state is that of its words and its one slot
  pub at_words : (G : St → Type 0) (s : St) (r : Rule s) → G (record { words = r.t ∷ r.n ∷ r.c ∷ r.m ∷ []; homes = r.home ∷ []; views = s.views }) → G s
  at_words G s r g = subst (λ (z : List ℕ × List (maybe.Option (Option X))). G (record { words = z.0; homes = z.1; views = s.views })) (λ k. (sym r.words k, sym r.homes k)) g

  pub draws : (slots id : ℕ) (v : View E O) → v.stage ≡ Free
      → Allows Rule slots id (Living v, []) 0 (λ n. (n + 1) % 2 ^ 64) (drew_ticket (step slots 0 1 0 none) (Living v, []))
  draws slots id v free s r len at fits =
      let k = r.kept in let t : ℕ = r.t in let w : View E O = record v { stage = Waiting t } in let f = k.each id v at in
      let none_yet : tickets_at v.stage ≡ 0 = ap tickets_at free in
      let low : t + 1 < 18446744073709551616 = let a = k.ticket in let b = tickets_le s.views in let c₀ = k.few.0 in let c₁ = k.few.1 in let c₂ = k.few.2 in let d = k.turns in omega arith in
      at_words (Goes id (Living v, []) 0 (λ n. (n + 1) % 18446744073709551616) (drew_ticket (step slots 0 1 0 none) (Living v, []))) s r (
        Living w,
        keeps,
        tt,
        record {
          list = r.list;
          t = t + 1;
          n = r.n;
          c = r.c;
          m = r.m;
          home = r.home;
          words = ap (λ (x : ℕ). x ∷ r.n ∷ r.c ∷ r.m ∷ []) (let e : (t + 1) % 18446744073709551616 ≡ t + 1 = omega arith in e);
          homes = refl;
          kept = moves noted IsFrom key r.list r.list t r.n r.c r.m (t + 1) r.n r.c r.m id r.home r.home s.views v w k at record {
            number = refl;
            family = refl;
            few = (k.few.0, k.few.1);
            turns = k.turns;
            count = k.count;
            ticket = let a = k.ticket in omega arith;
            numbers = k.numbers;
            mine = record { desks = f.desks; origin = f.origin; some = f.some; ends = f.ends; begins = f.begins; noted = f.noted; drawn = f.drawn; stage = (let a = k.ticket in omega arith, omega arith) };
            others = λ j u other there. let g = k.each j u there in
                record { desks = g.desks; origin = g.origin; some = g.some; ends = g.ends; begins = g.begins; noted = g.noted; drawn = g.drawn; stage = one_more_ticket r.list t r.n r.c r.m u u.stage g.stage };
            alone = λ j u x other there mine theirs. let h = ticket_within r.list t r.n r.c r.m x u u.stage (k.each j u there).stage theirs in let e : x ≡ t = mine in let l = h.1 in omega arith;
            drawn = λ d e. absurd (cc);
            drawn_else = λ j u d other there is. k.drawn j u d there is;
            longest = inr (refl, refl);
            value = value_stays noted IsFrom key r.list r.n r.c id r.home s.views v w at (λ h. subst (λ (z : Stage E). HasValue z) free h) (λ h. h) k.value;
          };
        },
        refl,
      )

  -- where the ticket is served, no other desk has the value
  its_turn : (list : List (ℕ × E)) (t n c m id x : ℕ) (home : maybe.Option (Option X)) (views : List (SeatView E O)) (v : View E O) → KeepsRule noted IsFrom key list t n c m home views
      → get_elem? views id ≡ some (Living v) → HasTicket x v.stage → n ≡ x → (HasValue v.stage → ⊥) → IsAtHome noted IsFrom key list n c home views
  its_turn list t n c m id x home views v k at ticket now without = ⊎_elim
      (λ (a : IsAtHome noted IsFrom key list n c home views). a)
      (λ (o : IsOut home views). absurd (dite (ℕ_discrete o.1.0 id)
      (λ is. without (subst (λ (u : View E O). HasValue u.stage) (living_one o.1.1 v (some-injective (Living o.1.1) (Living v) (sym o.1.2 ∙ (ap (get_elem? views) is ∙ at)))) o.1.3))
      (λ other. (k.apart o.1.0 id o.1.1 v other o.1.2 at).1 x (subst (λ (z : ℕ). HasTicket z o.1.1.stage) now (value_ticket list t n c m o.1.1 o.1.1.stage (k.each o.1.0 o.1.1 o.1.2).stage o.1.3)) ticket)))
      k.value

  -- the turn has come
  comes : (list : List (ℕ × E)) (t n c m id : ℕ) (home : maybe.Option (Option X)) (views : List (SeatView E O)) (v : View E O) (x : ℕ) → x < 2 ^ 62 → v.stage ≡ Waiting x → n ≡ x
      → KeepsRule noted IsFrom key list t n c m home views → get_elem? views id ≡ some (Living v)
      → (y : X) × (home ≡ some (Some y)) × (noted y ≡ list) × IsFrom v.origin y × (length list < 2 ^ 62)
      × KeepsRule noted IsFrom key list t n c m none (set views id (Living (record v { stage = Entered x list })))
  comes list t n c m id home views v x small waits now k at =
      let w : View E O = record v { stage = Entered x list } in let f = k.each id v at in
      let ticket : HasTicket x v.stage = subst (λ (s : Stage E). HasTicket x s) (sym waits) refl in
      let h = its_turn list t n c m id x home views v k at ticket now (λ e. subst (λ (s : Stage E). HasValue s) waits e) in
      let within = ticket_within list t n c m x v v.stage f.stage ticket in
      let held : tickets_at v.stage ≡ 1 = ap tickets_at waits in (
        h.0,
        h.1,
        h.2,
        subst (λ (o : O). IsFrom o h.0) (sym f.origin) h.3,
        (let a = h.4 in let b = k.count in omega arith),
        moves noted IsFrom key list list t n c m t n c m id home none views v w k at record {
          number = refl;
          family = refl;
          few = (k.few.0, k.few.1);
          turns = k.turns;
          count = k.count;
          ticket = let a = k.ticket in omega arith;
          numbers = k.numbers;
          mine = record { desks = f.desks; origin = f.origin; some = f.some; ends = f.ends; begins = f.begins; noted = f.noted; drawn = f.drawn; stage = (sym now, within.1, small, refl, h.4) };
          others = λ j u other there. k.each j u there;
          alone = λ j u z other there mine theirs. (k.apart id j v u (λ e. other (sym e)) at there).1 z (subst (λ (s : Stage E). HasTicket z s) (sym waits) mine) theirs;
          drawn = λ d e. absurd (cc);
          drawn_else = λ j u d other there is. k.drawn j u d there is;
          longest = inr (refl, refl);
          value = inr (refl, (id, w, set_here views id (Living w) (at_below views id (Living v) at), tt));
        },
      )

  pub looks : (slots id : ℕ) (v : View E O) (x : ℕ) → v.stage ≡ Waiting x → x < 2 ^ 62
      → Allows Rule slots id (Living v, []) 1 (λ n. n) (looked_for_turn noted IsFrom (step slots 1 0 0 none) (Living v, []))
  looks slots id v x waits small s r len at fits =
      let k = r.kept in let n : ℕ = r.n in let f = k.each id v at in
      let same : (v' : View E O) (x' : ℕ) → Living v ≡ Living v' → v'.stage ≡ Waiting x' → ◌≡◌ {A = View E O × ℕ} (v, x) (v', x') = λ v' x' e waits'.
      let a : v ≡ v' = living_one v v' e in let b : Waiting x ≡ Waiting x' = sym waits ∙ (ap (λ (u : View E O). u.stage) a ∙ waits') in let c : x ≡ x' = cc in (λ i. (a i, c i)) in
      at_words (Goes id (Living v, []) 1 (λ n. n) (looked_for_turn noted IsFrom (step slots 1 0 0 none) (Living v, []))) s r (dite (ℕ_discrete n x)
      (λ now. let h = comes r.list r.t r.n r.c r.m id r.home s.views v x small waits now k at in (
        Living (record v { stage = Entered x r.list }),
        takes 0 (Some h.0),
        ap (λ (z : maybe.Option (Option X)). some z) h.1,
        record { list = r.list; t = r.t; n = r.n; c = r.c; m = r.m; home = none; words = refl; homes = refl; kept = h.5 },
        λ v' x' e waits'. subst (λ (z : View E O × ℕ). (n ≡ z.1 → Comes noted IsFrom z.0 z.1 [] (Living (record v { stage = Entered x r.list }), (0, Some h.0) ∷ []))
            × (n ≢ z.1 → ◌≡◌ {A = M} (Living (record v { stage = Entered x r.list }), (0, Some h.0) ∷ []) (Living v, []))) (same v' x' e waits')
            ((λ _. (r.list, h.0, refl, h.2, h.3, h.4, record { begins = f.begins; own = f.noted v.number (let o = f.some in (omega arith, omega arith)); family = f.noted })), λ ne. absurd (ne now)),
      ))
      (λ later. (
        Living v,
        keeps,
        tt,
        record { list = r.list; t = r.t; n = r.n; c = r.c; m = r.m; home = r.home; words = refl; homes = refl; kept = subst (λ (ps : List (SeatView E O)). KeepsRule noted IsFrom key r.list r.t r.n r.c r.m r.home ps) (sym (set_again s.views id (Living v) at)) k },
        λ v' x' e waits'. subst (λ (z : View E O × ℕ). (n ≡ z.1 → Comes noted IsFrom z.0 z.1 [] (Living v, [])) × (n ≢ z.1 → ◌≡◌ {A = M} (Living v, []) (Living v, []))) (same v' x' e waits')
            ((λ now. absurd (later now)), λ _. refl),
      )))

  -- a list that was left by the desk k: what the rule needs of it
  grows : (k m : ℕ) (list list' : List (ℕ × E)) → k < m → IsLeft k list list' → All (λ (e : ℕ × E). e.0 < m) list
      → Begins list list' × All (λ (e : ℕ × E). e.0 < m) list' × ((z : ℕ) → k ≢ z → entries_of z list' ≡ entries_of z list) × (length list' ≤ length list + 1)
  grows k m list list' below left all = ⊎_elim
      (λ (e : list' ≡ list). (
        ([], e ∙ sym (append-nil list)),
        subst (λ (xs : List (ℕ × E)). All (λ (e : ℕ × E). e.0 < m) xs) (sym e) all,
        (λ z ne. ap (entries_of z) e),
        (let h = ap length e in omega arith),
      ))
      (λ (p : (e : E) × (list' ≡ list ++ (k, e) ∷ [])). (
        ((k, p.0) ∷ [], p.1),
        subst (λ (xs : List (ℕ × E)). All (λ (e : ℕ × E). e.0 < m) xs) (sym p.1) (All-append (λ (e : ℕ × E). e.0 < m) list ((k, p.0) ∷ []) all (one k p.0 below)),
        (λ z ne. ap (entries_of z) p.1 ∙ entries_of-more z k p.0 list ne),
        (let h = ap length p.1 in let g = length-append list ((k, p.0) ∷ []) in omega arith),
      ))
      left
    where
      one : (k : ℕ) (e : E) → k < m → All (λ (e : ℕ × E). e.0 < m) ((k, e) ∷ [])
      one k e h zero d l = h
      one k e h (suc i) d l = absurd (omega arith)

  -- the count step of the desk k, to the list of the value y
  count_one : (list : List (ℕ × E)) (t n c m id : ℕ) (home : maybe.Option (Option X)) (views : List (SeatView E O)) (v : View E O) (x : ℕ) (l : List (ℕ × E)) (y : X) → v.stage ≡ Entered x l
      → IsLeft v.number l (noted y) → KeepsRule noted IsFrom key list t n c m home views → get_elem? views id ≡ some (Living v)
      → (l ≡ list) × KeepsRule noted IsFrom key (noted y) t n (length (noted y)) m home (set views id (Living (counted_view x (noted y) v)))
  count_one list t n c m id home views v x l y entered left k at =
      let w : View E O = counted_view x (noted y) v in let f = k.each id v at in let list' : List (ℕ × E) = noted y in let c' : ℕ = length list' in
      let a : AtStage list t n c m v (Entered x l) = subst (λ (s : Stage E). AtStage list t n c m v s) entered f.stage in
      let below : v.number < m = let e = f.ends in let o = f.some in omega arith in
      let g = grows v.number m list list' below (subst (λ (xs : List (ℕ × E)). IsLeft v.number xs list') a.3 left) k.numbers in
      let ticket : HasTicket n v.stage = subst (λ (s : Stage E). HasTicket n s) (sym entered) (sym a.0) in
      let held : tickets_at v.stage ≡ 1 = ap tickets_at entered in
      let own : InFamily v.number v.family v.number = let o = f.some in (omega arith, omega arith) in (
        a.3,
        moves noted IsFrom key list list' t n c m t n c' m id home home views v w k at record {
          number = refl;
          family = refl;
          few = (k.few.0, k.few.1);
          turns = k.turns;
          count = refl;
          ticket = let e = k.ticket in omega arith;
          numbers = g.1;
          mine = record {
            desks = f.desks;
            origin = f.origin;
            some = f.some;
            ends = f.ends;
            begins = begins_itself list';
            noted = λ z h. refl;
            drawn = f.drawn;
            stage = (a.0, a.1, a.2, refl, let e = k.count in let h = a.4 in let b = g.3 in omega arith);
          };
          others = λ j u other there. let h = k.each j u there in let d = k.apart id j v u (λ e. other (sym e)) at there in
              record {
                desks = h.desks;
                origin = h.origin;
                some = h.some;
                ends = h.ends;
                begins = begins_trans u.seen list list' h.begins g.0;
                noted = λ z i. g.2 z (λ e. apart_families v u z d.0 i e f.some) ∙ h.noted z i;
                drawn = h.drawn;
                stage = other_list list list' t n c c' m u u.stage h.stage (d.1 n ticket);
              };
          alone = λ j u z other there mine theirs. (k.apart id j v u (λ e. other (sym e)) at there).1 z (subst (λ (s : Stage E). HasTicket z s) (sym entered) mine) theirs;
          drawn = λ d e. absurd (cc);
          drawn_else = λ j u d other there is. let h = k.drawn j u d there is in (g.2 d (λ e. h.2 id v at (subst (λ (z : ℕ). InFamily v.number v.family z) e own)) ∙ h.0, h.1, h.2);
          longest = inl refl;
          value = ⊎_elim
              (λ (h : IsAtHome noted IsFrom key list n c home views). absurd (h.5 id v at (subst (λ (s : Stage E). HasValue s) (sym entered) tt)))
              (λ (o : IsOut home views). inr (o.0, (id, w, set_here views id (Living w) (at_below views id (Living v) at), tt)))
              k.value;
        },
      )
    where
      apart_families : (v u : View E O) (z : ℕ) → AreDisjoint v u → InFamily u.number u.family z → v.number ≡ z → 0 < v.family → ⊥
      apart_families v u z d i e full = ⊎_elim (λ (h : v.number + v.family ≤ u.number). let a = i.0 in omega arith) (λ (h : u.number + u.family ≤ v.number). let a = i.1 in omega arith) d

  pub counts : (slots id : ℕ) (v : View E O) (x : ℕ) (l : List (ℕ × E)) (y : X) (held : List (ℕ × Option X)) (old new : ℕ) → v.stage ≡ Entered x l → old ≡ length l → new ≡ length (noted y) → IsLeft v.number l (noted y)
      → Allows Rule slots id (Living v, held) 2 (λ n. either (eqb n old) new n) (counted noted IsFrom (step slots 2 old new (some (Some y))) (Living v, held))
  counts slots id v x l y held old new entered is_old is_new left s r len at fits =
      let k = r.kept in let c : ℕ = r.c in let h = count_one r.list r.t r.n r.c r.m id r.home s.views v x l y entered left k at in
      let then : ℕ → M → Type 0 = counted noted IsFrom (step slots 2 old new (some (Some y))) (Living v, held) in
      let now : c ≡ old = k.count ∙ (ap length (sym h.0) ∙ sym is_old) in
      let out : ℕ → Type 0 = λ (n' : ℕ). (w : SeatView E O) × (a : Act (Option X)) × Valid (r.home ∷ []) held a
      × Rule (stepped (record { words = r.t ∷ r.n ∷ c ∷ r.m ∷ []; homes = r.home ∷ []; views = s.views }) 2 n' id held w a) × then c (w, carried_after held a) in
      at_words (Goes id (Living v, held) 2 (λ n. either (eqb n old) new n) then) s r (subst (λ (b : Bool). out (either b new c)) (sym (eq-eqb c old now)) (
        Living (counted_view x (noted y) v),
        keeps,
        tt,
        record { list = noted y; t = r.t; n = r.n; c = length (noted y); m = r.m; home = r.home; words = ap (λ (z : ℕ). r.t ∷ r.n ∷ z ∷ r.m ∷ []) is_new; homes = refl; kept = h.1 },
        λ v' x' l' y' e entered' said.
            let a : v ≡ v' = living_one v v' e in let b : Entered x l ≡ Entered x' l' = sym entered ∙ (ap (λ (u : View E O). u.stage) a ∙ entered') in let d : x ≡ x' = cc in
            let f : y ≡ y' = cc in λ i. (Living (counted_view (d i) (noted (f i)) (a i)), held),
      ))

  pub serves : (slots id : ℕ) (v : View E O) (x : ℕ) (y : X) → v.stage ≡ Counted x → noted y ≡ v.seen → IsFrom v.origin y
      → Allows Rule slots id (Living v, (0, Some y) ∷ []) 1 (λ n. (n + 1) % 2 ^ 64) (served (step slots 1 1 0 none) (Living v, (0, Some y) ∷ []))
  serves slots id v x y done list_is from s r len at fits =
      let k = r.kept in let n : ℕ = r.n in let w : View E O = free_view v in let f = k.each id v at in
      let a : AtStage r.list r.t n r.c r.m v (Counted x) = subst (λ (z : Stage E). AtStage r.list r.t n r.c r.m v z) done f.stage in
      let ticket : HasTicket n v.stage = subst (λ (z : Stage E). HasTicket n z) (sym done) (sym a.0) in
      let held : tickets_at v.stage ≡ 1 = ap tickets_at done in
      let low : n + 1 ≤ 2 ^ 62 = let a₀ = a.0 in let a₂ = a.2 in omega arith in
      at_words (Goes id (Living v, (0, Some y) ∷ []) 1 (λ n. (n + 1) % 18446744073709551616) (served (step slots 1 1 0 none) (Living v, (0, Some y) ∷ []))) s r (
        Living w,
        gives,
        tt,
        record {
          list = r.list;
          t = r.t;
          n = n + 1;
          c = r.c;
          m = r.m;
          home = some (Some y);
          words = ap (λ (z : ℕ). r.t ∷ z ∷ r.c ∷ r.m ∷ []) (let e : (n + 1) % 18446744073709551616 ≡ n + 1 = omega arith in e);
          homes = refl;
          kept = moves noted IsFrom key r.list r.list r.t n r.c r.m r.t (n + 1) r.c r.m id r.home (some (Some y)) s.views v w k at record {
            number = refl;
            family = refl;
            few = (k.few.0, k.few.1);
            turns = low;
            count = k.count;
            ticket = let e = k.ticket in omega arith;
            numbers = k.numbers;
            mine = record { desks = f.desks; origin = f.origin; some = f.some; ends = f.ends; begins = f.begins; noted = f.noted; drawn = f.drawn; stage = tt };
            others = λ j u other there. let g = k.each j u there in
                record {
                  desks = g.desks;
                  origin = g.origin;
                  some = g.some;
                  ends = g.ends;
                  begins = g.begins;
                  noted = g.noted;
                  drawn = g.drawn;
                  stage = one_more_turn r.list r.t n r.c r.m u u.stage g.stage ((k.apart id j v u (λ e. other (sym e)) at there).1 n ticket);
                };
            alone = λ j u z other there mine theirs. mine;
            drawn = λ d e. absurd (cc);
            drawn_else = λ j u d other there is. k.drawn j u d there is;
            longest = inr (refl, refl);
            value = inl (
              y,
              refl,
              list_is ∙ a.3,
              subst (λ (o : O). IsFrom o y) f.origin from,
              a.4,
              each_set (λ j u. HasValue u.stage → ⊥) s.views id w (λ h. h)
                  (λ j u other there h. (k.apart id j v u (λ e. other (sym e)) at there).1 n ticket (value_ticket r.list r.t n r.c r.m u u.stage (k.each j u there).stage h)),
            );
          };
        },
        refl,
      )
