-- Lists of noted entries: what one desk noted, and lists that begin others.
use Rattle.std.proofs.Common.{◌≡◌, ◌≢◌, ℕ, suc, ◌+◌, ◌<◌, ◌≤◌, eqb, Bool, true, false, cond, List, [], ◌∷◌, ◌++◌, length, refl, sym, ap, ◌∙◌, arith, eq-eqb, ne_eqb, length-append, append_assoc}
use Rattle.std.proofs.lemmas.List.{append-nil}
use Rattle.std.specs.Prelude.{All}
use Rattle.turn_lock.specs.Noted.{entries_of, Begins}

no_length : {A : Type 0} (xs : List A) → length xs ≡ 0 → xs ≡ []
no_length [] e = refl
no_length (x ∷ xs) e = absurd (omega arith)

no_rest : {A : Type 0} (xs ys : List A) → xs ++ ys ≡ xs → ys ≡ []
no_rest xs ys h = let e : length xs + length ys ≡ length xs = sym (length-append xs ys) ∙ ap length h in no_length ys (omega arith)

module _ {E : Type 0} where
  -- the entries of two lists, one after the other
  pub entries_of-append : (n : ℕ) (xs ys : List (ℕ × E)) → entries_of n (xs ++ ys) ≡ entries_of n xs ++ entries_of n ys
  entries_of-append n [] ys = refl
  entries_of-append n (x ∷ xs) ys = cases (eqb x.0 n) x.1 (entries_of n xs) (entries_of n ys) (entries_of n (xs ++ ys)) (entries_of-append n xs ys)
    where
      cases : (b : Bool) (e : E) (xs ys zs : List E) → zs ≡ xs ++ ys → cond b (e ∷ zs) zs ≡ cond b (e ∷ xs) xs ++ ys
      cases true e xs ys zs h = ap (λ (ws : List E). e ∷ ws) h
      cases false e xs ys zs h = h

  -- one desk's entry is none of another's
  pub entries_of-other : (n k : ℕ) (e : E) → k ≢ n → entries_of n ((k, e) ∷ []) ≡ []
  entries_of-other n k e h = let one : List E = e ∷ [] in ap (λ (b : Bool). cond b one []) (ne_eqb k n h)

  pub entries_of-own : (n : ℕ) (e : E) → entries_of n ((n, e) ∷ []) ≡ e ∷ []
  entries_of-own n e = let one : List E = e ∷ [] in ap (λ (b : Bool). cond b one []) (eq-eqb n n refl)

  -- an entry of another desk at the end changes nothing
  pub entries_of-more : (n k : ℕ) (e : E) (xs : List (ℕ × E)) → k ≢ n → entries_of n (xs ++ (k, e) ∷ []) ≡ entries_of n xs
  entries_of-more n k e xs h = entries_of-append n xs ((k, e) ∷ []) ∙ (ap (λ (zs : List E). entries_of n xs ++ zs) (entries_of-other n k e h) ∙ append-nil (entries_of n xs))

  -- no desk above all numbers in the list has an entry
  pub entries_of-above : (m n : ℕ) (xs : List (ℕ × E)) → m ≤ n → All (λ (e : ℕ × E). e.0 < m) xs → entries_of n xs ≡ []
  entries_of-above m n [] le all = refl
  entries_of-above m n (x ∷ xs) le all =
      let below : x.0 < m = all 0 x (omega arith) in
      let rest : entries_of n xs ≡ [] = entries_of-above m n xs le (λ k d h. all (suc k) d (omega arith)) in
      ap (λ (b : Bool). cond b (x.1 ∷ entries_of n xs) (entries_of n xs)) (ne_eqb x.0 n (λ e. omega arith)) ∙ rest

  pub begins_itself : (xs : List (ℕ × E)) → Begins xs xs
  begins_itself xs = ([], sym (append-nil xs))

  pub begins_trans : (xs ys zs : List (ℕ × E)) → Begins xs ys → Begins ys zs → Begins xs zs
  begins_trans xs ys zs p q = (p.0 ++ q.0, q.1 ∙ (ap (λ (ws : List (ℕ × E)). ws ++ q.0) p.1 ∙ append_assoc xs p.0 q.0))

  pub begins_length : (xs ys : List (ℕ × E)) → Begins xs ys → length xs ≤ length ys
  begins_length xs ys p = let e : length ys ≡ length xs + length p.0 = ap length p.1 ∙ length-append xs p.0 in omega arith

  -- of two beginnings of one list the shorter begins the longer
  pub begins_both : (xs ys zs : List (ℕ × E)) → Begins xs zs → Begins ys zs → length xs ≤ length ys → Begins xs ys
  begins_both [] ys zs p q h = (ys, refl)
  begins_both (x ∷ xs) [] zs p q h = absurd (omega arith)
  begins_both (x ∷ xs) (y ∷ ys) [] p q h = absurd (let e : 0 ≡ length (x ∷ xs) + length p.0 = ap length p.1 ∙ length-append (x ∷ xs) p.0 in omega arith)
  begins_both (x ∷ xs) (y ∷ ys) (z ∷ zs) p q h =
      let head : y ≡ x = cc in let tx : zs ≡ xs ++ p.0 = cc in let ty : zs ≡ ys ++ q.0 = cc in
      let r = begins_both xs ys zs (p.0, tx) (q.0, ty) (omega arith) in
      (r.0, cc)

  -- a list that begins another of the same length is the other
  pub begins_whole : (xs ys : List (ℕ × E)) → Begins xs ys → length ys ≤ length xs → ys ≡ xs
  begins_whole xs ys p h =
      let e : length ys ≡ length xs + length p.0 = ap length p.1 ∙ length-append xs p.0 in
      p.1 ∙ (ap (λ (zs : List (ℕ × E)). xs ++ zs) (no_length p.0 (omega arith)) ∙ append-nil xs)

  -- a list between two with the same entries of a desk has these entries too
  pub between : (n : ℕ) (xs ys zs : List (ℕ × E)) → Begins xs ys → Begins ys zs → entries_of n zs ≡ entries_of n xs → entries_of n ys ≡ entries_of n xs
  between n xs ys zs p q h =
      let a : entries_of n ys ≡ entries_of n xs ++ entries_of n p.0 = ap (entries_of n) p.1 ∙ entries_of-append n xs p.0 in
      let b : entries_of n zs ≡ entries_of n ys ++ entries_of n q.0 = ap (entries_of n) q.1 ∙ entries_of-append n ys q.0 in
      let c : entries_of n xs ++ (entries_of n p.0 ++ entries_of n q.0) ≡ entries_of n xs =
      sym (append_assoc (entries_of n xs) (entries_of n p.0) (entries_of n q.0)) ∙ (ap (λ (ws : List E). ws ++ entries_of n q.0) (sym a) ∙ (sym b ∙ h)) in
      let d : entries_of n p.0 ≡ [] = front_nil (entries_of n p.0) (entries_of n q.0) (no_rest (entries_of n xs) (entries_of n p.0 ++ entries_of n q.0) c) in
      a ∙ (ap (λ (ws : List E). entries_of n xs ++ ws) d ∙ append-nil (entries_of n xs))
    where
      front_nil : (us ws : List E) → us ++ ws ≡ [] → us ≡ []
      front_nil [] ws h = refl
      front_nil (u ∷ us) ws h = absurd (cc)
