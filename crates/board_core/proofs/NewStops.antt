use Rattle.std.proofs.Common.{◌≡◌, ℕ, suc, ◌+◌, ◌<◌, ◌≤◌, ◌⊎◌, inl, inr, List, length, Some, sym, ap, ◌∙◌, subst, arith}
use Rattle.std.specs.Prelude.{slice_get}
use Rattle.std.specs.List.{insert}
use Rattle.std.proofs.lemmas.Bool.{cases_order}
use Rattle.std.proofs.lemmas.List.Edits.{length-insert}
use Rattle.stop_schedule.specs.declared.stop.Insertion.{Insertion}
use Rattle.stop_schedule.specs.declared.stop.Stop.{Stop}
use Rattle.stop_schedule.specs.declared.stop.StopKind.TheVariants.{Pickup, Dropoff}
use Rattle.stop_schedule.specs.Lists.{with_both}
use Rattle.board_core.proofs.Inserts.{past, past-lt, past-ne, past_from, insert_there, insert_other, IsNewOrOld, new_or_old, with_both_is}

-- two older elements stay two
pub past_apart : (i m n : ℕ) → past i m ≡ past i n → m ≡ n
past_apart i m n h = on (cases_order m n)
  where
    on : (m ≡ n) ⊎ ((m < n) ⊎ (n < m)) → m ≡ n
    on (inl e) = e
    on (inr (inl b)) = let l = past-lt i m n b in absurd (omega arith)
    on (inr (inr b)) = let l = past-lt i n m b in absurd (omega arith)

-- where a stop stands after both new ones were put in
abbrev pub past_both : Insertion → ℕ → ℕ
past_both at m = past at.i (past at.j m)

-- the order stays
pub past_both-lt : (at : Insertion) (m n : ℕ) → m < n → past_both at m < past_both at n
past_both-lt at m n h = past-lt at.i _ _ (past-lt at.j m n h)

-- no older stop stands at a new one's place
pub past_both-ne_pickup : (at : Insertion) (m : ℕ) → past_both at m ≡ at.i → ⊥
past_both-ne_pickup at m h = past-ne at.i (past at.j m) h

-- nor at the dropoff's
pub past_both-ne_dropoff : (at : Insertion) (m : ℕ) → at.i ≤ at.j → past_both at m ≡ suc at.j → ⊥
past_both-ne_dropoff at m l h = past-ne at.j m (past_apart at.i _ _ (h ∙ sym (past_from at.i at.j l)))

-- the list with the dropoff is long enough for the pickup
long : (stops : List Stop) (at : Insertion) (d : Stop) → at.i ≤ at.j → at.j ≤ length stops → at.i ≤ length (insert stops at.j d)
long stops at d h l = let e = length-insert stops at.j d l in omega arith

-- two stops more
pub length_both : (stops : List Stop) (at : Insertion) (p d : Stop) → at.i ≤ at.j → at.j ≤ length stops → length (with_both stops at p d) ≡ length stops + 2
length_both stops at p d h l = ap length (with_both_is stops at p d h l) ∙ (let a = length-insert stops at.j d l in let b = length-insert (insert stops at.j d) at.i p (long stops at d h l) in omega arith)

-- an older stop, the pickup and the dropoff, each at its place
pub both_other : (stops : List Stop) (at : Insertion) (p d : Stop) → at.i ≤ at.j → at.j ≤ length stops → (m : ℕ) (s : Stop) → slice_get stops m ≡ Some s
    → slice_get (with_both stops at p d) (past_both at m) ≡ Some s
both_other stops at p d h l m s e = ap (λ (xs : List Stop). slice_get xs (past_both at m)) (with_both_is stops at p d h l) ∙ insert_other (insert stops at.j d) at.i p (past at.j m) s (insert_other stops at.j d m s e)

-- the pickup stands at its place
pub both_pickup : (stops : List Stop) (at : Insertion) (p d : Stop) → at.i ≤ at.j → at.j ≤ length stops → slice_get (with_both stops at p d) at.i ≡ Some p
both_pickup stops at p d h l = ap (λ (xs : List Stop). slice_get xs at.i) (with_both_is stops at p d h l) ∙ insert_there (insert stops at.j d) at.i p (long stops at d h l)

-- the dropoff stands after it
pub both_dropoff : (stops : List Stop) (at : Insertion) (p d : Stop) → at.i ≤ at.j → at.j ≤ length stops → slice_get (with_both stops at p d) (suc at.j) ≡ Some d
both_dropoff stops at p d h l = ap (λ (xs : List Stop). slice_get xs (suc at.j)) (with_both_is stops at p d h l)
    ∙ subst (λ (k : ℕ). slice_get (insert (insert stops at.j d) at.i p) k ≡ Some d) (past_from at.i at.j h) (insert_other (insert stops at.j d) at.i p at.j d (insert_there stops at.j d l))

-- each stop of the new list is the pickup, the dropoff or an older one
abbrev pub IsOneOf : List Stop → Insertion → Stop → Stop → ℕ → Stop → Type 0
IsOneOf stops at p d k s = ((k ≡ at.i) × (s ≡ p)) ⊎ (((k ≡ suc at.j) × (s ≡ d)) ⊎ ((m : ℕ) × (slice_get stops m ≡ Some s) × (k ≡ past_both at m)))

-- each stop of the new list is of one of the three kinds
pub both_cases : (stops : List Stop) (at : Insertion) (p d : Stop) → at.i ≤ at.j → at.j ≤ length stops → (k : ℕ) (s : Stop) → slice_get (with_both stops at p d) k ≡ Some s → IsOneOf stops at p d k s
both_cases stops at p d h l k s e = outer (new_or_old (insert stops at.j d) at.i p k s (long stops at d h l) (sym (ap (λ (xs : List Stop). slice_get xs k) (with_both_is stops at p d h l)) ∙ e))
  where
    inner : (m : ℕ) → k ≡ past at.i m → IsNewOrOld stops at.j d m s → IsOneOf stops at p d k s
    inner m q (inl x) = inr (inl (q ∙ ap (past at.i) x.0 ∙ past_from at.i at.j h, x.1))
    inner m q (inr x) = inr (inr (x.0, x.1, q ∙ ap (past at.i) x.2))

    outer : IsNewOrOld (insert stops at.j d) at.i p k s → IsOneOf stops at p d k s
    outer (inl x) = inl x
    outer (inr x) = inner x.0 x.2 (new_or_old stops at.j d x.0 s l x.1)

-- a later dropoff of the same number, riders and spaces
abbrev pub IsDroppedLater : List Stop → ℕ → Stop → Type 0
IsDroppedLater stops k s = (l : ℕ) × (d : Stop) × (k < l) × (slice_get stops l ≡ Some d) × (d.kind ≡ Dropoff) × (d.no ≡ s.no) × (d.riders ≡ s.riders) × (d.spaces ≡ s.spaces)

-- each pickup has one
abbrev pub AreDroppedLater : List Stop → Type 0
AreDroppedLater stops = (k : ℕ) (s : Stop) → slice_get stops k ≡ Some s → s.kind ≡ Pickup → IsDroppedLater stops k s

-- each pickup of the new list has its later dropoff
pub both_dropped : (stops : List Stop) (at : Insertion) (p d : Stop) → at.i ≤ at.j → at.j ≤ length stops → d.kind ≡ Dropoff → d.no ≡ p.no → d.riders ≡ p.riders → d.spaces ≡ p.spaces
    → AreDroppedLater stops → AreDroppedLater (with_both stops at p d)
both_dropped stops at p d h l kind no_ riders spaces all k s e up = on (both_cases stops at p d h l k s e)
  where
    on : IsOneOf stops at p d k s → IsDroppedLater (with_both stops at p d) k s
    on (inl x) = (suc at.j, d, (let q = x.0 in omega arith), both_dropoff stops at p d h l, kind, no_ ∙ sym (ap (λ (t : Stop). t.no) x.1), riders ∙ sym (ap (λ (t : Stop). t.riders) x.1), spaces ∙ sym (ap (λ (t : Stop). t.spaces) x.1))
    on (inr (inl x)) = let q : s ≡ d = x.1 in cc
    on (inr (inr x)) = let y = all x.0 s x.1 up in let q = past_both-lt at x.0 y.0 y.2 in
        (past_both at y.0, y.1, subst (λ (n : ℕ). n < past_both at y.0) (sym x.2) q, both_other stops at p d h l y.0 y.1 y.3, y.4, y.5, y.6, y.7)
