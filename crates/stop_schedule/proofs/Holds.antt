use Rattle.std.proofs.Common.{◌≡◌, ℕ, ◌+◌, ◌≤◌, ◌↔◌, ◌&&◌, max, nat_le, Bool, true, false, List, [], ◌∷◌, ◌++◌, length, Option, Some, None, arith}
use Rattle.std.proofs.lemmas.Bool.{and_parts, and_from, leb-true, le-leb, false≢true}
use Rattle.std.proofs.lemmas.Bool.Decides.{nat_tests}
use Rattle.road_graph.specs.declared.road.NodeNo.{NodeNo}
use Rattle.stop_schedule.specs.declared.stop.Stop.{Stop}
use Rattle.stop_schedule.specs.declared.stop.StopKind.{StopKind}
use Rattle.stop_schedule.specs.declared.stop.StopKind.TheVariants.{Pickup, Dropoff}
use Rattle.stop_schedule.specs.Times.{halt_time, kept_time}

-- stopping on the way takes no less than not stopping
pub halt_time-detour : (stop : ℕ) (halt : Option NodeNo) (t s : NodeNo) → halt_time stop halt s ≤ halt_time stop halt t + halt_time stop (Some t) s
halt_time-detour stop None t s = omega arith
halt_time-detour stop (Some m) t s = grind (arith, nat_tests)

kept_sooner : (kind : StopKind) (a b a' b' limit : ℕ) → a ≤ a' → b ≤ b' → kept_time kind a' b' ≤ limit → kept_time kind a b ≤ limit
kept_sooner Pickup a b a' b' limit l m h = omega arith
kept_sooner Dropoff a b a' b' limit l m h = omega arith

-- each length is at most the other
abbrev pub AreShorter : List ℕ → List ℕ → Type 0
AreShorter [] ys = Unit {0}
AreShorter (x ∷ xs) [] = ⊥
AreShorter (x ∷ xs) (y ∷ ys) = (x ≤ y) × AreShorter xs ys

pub AreShorter-refl : (xs : List ℕ) → AreShorter xs xs
AreShorter-refl [] = tt
AreShorter-refl (x ∷ xs) = (omega arith, AreShorter-refl xs)

module _ (stop until : ℕ) where
  -- a vehicle that leaves a place then keeps each promise ahead and ends in service
  abbrev pub Holds : Option NodeNo → ℕ → List Stop → List ℕ → Type 0
  Holds halt left [] lengths = left ≤ until
  Holds halt left (s ∷ stops) [] = ⊥
  Holds halt left (s ∷ stops) (x ∷ lengths) =
      let next = max (left + x + halt_time stop halt s.node) s.ready in
      (kept_time s.kind (left + x) next ≤ s.limit) × Holds (Some s.node) next stops lengths

  -- Where the vehicle reaches the next stop and is ready to go on there no later, over legs that are no longer, it keeps what it kept.
  pub sooner : (halt halt' : Option NodeNo) (left left' : ℕ) (stops : List Stop) (lengths lengths' : List ℕ) → left ≤ left'
      → ((n : NodeNo) → left + halt_time stop halt n ≤ left' + halt_time stop halt' n) → length stops ≤ length lengths → AreShorter lengths lengths' → Holds halt' left' stops lengths' → Holds halt left stops lengths
  sooner halt halt' left left' [] lengths lengths' l t many short h = omega arith
  sooner halt halt' left left' (s ∷ stops) [] lengths' l t many short h = absurd (omega arith)
  sooner halt halt' left left' (s ∷ stops) (x ∷ lengths) [] l t many short h = absurd short
  sooner halt halt' left left' (s ∷ stops) (x ∷ lengths) (y ∷ lengths') l t many short h =
      let there = t s.node in (
        kept_sooner s.kind (left + x) _ (left' + y) _ s.limit (omega arith) (omega arith) h.0,
        sooner (Some s.node) (Some s.node) _ _ stops lengths lengths' (omega arith) (λ n. omega arith) (omega arith) short.1 h.1,
      )

  -- so also where it leaves later for a way that is shorter by as much
  pub sooner_first : (halt halt' : Option NodeNo) (left left' x y : ℕ) (s : Stop) (stops : List Stop) (lengths lengths' : List ℕ) → left + x ≤ left' + y
      → left + x + halt_time stop halt s.node ≤ left' + y + halt_time stop halt' s.node → length stops ≤ length lengths → AreShorter lengths lengths' → Holds halt' left' (s ∷ stops) (y ∷ lengths') → Holds halt left (s ∷ stops) (x ∷ lengths)
  sooner_first halt halt' left left' x y s stops lengths lengths' l t many short h = (
    kept_sooner s.kind (left + x) _ (left' + y) _ s.limit l (omega arith) h.0,
    sooner (Some s.node) (Some s.node) _ _ stops lengths lengths' (omega arith) (λ n. omega arith) many short h.1,
  )

  holds-length : (halt : Option NodeNo) (left : ℕ) (stops : List Stop) (lengths : List ℕ) → Holds halt left stops lengths → length stops ≤ length lengths
  holds-length halt left [] lengths h = omega arith
  holds-length halt left (s ∷ stops) [] h = absurd h
  holds-length halt left (s ∷ stops) (x ∷ lengths) h = let more = holds-length (Some s.node) _ stops lengths h.1 in omega arith

  -- What holds by way of a first stop more holds without it, over a way that is no longer.
  pub skip_first : (halt halt' : Option NodeNo) (left left' x y z : ℕ) (t s : Stop) (stops : List Stop) (lengths : List ℕ) → left + z ≤ left' + x + y
      → halt_time stop halt s.node ≤ halt_time stop halt' t.node + halt_time stop (Some t.node) s.node → Holds halt' left' (t ∷ s ∷ stops) (x ∷ y ∷ lengths) → Holds halt left (s ∷ stops) (z ∷ lengths)
  skip_first halt halt' left left' x y z t s stops lengths l e h =
      sooner_first halt (Some t.node) left (max (left' + x + halt_time stop halt' t.node) t.ready) z y s stops lengths lengths (omega arith) (omega arith) (holds-length (Some s.node) _ stops lengths h.1.1) (AreShorter-refl lengths) h.1

  -- A stop less makes no other stop later: what holds with a stop in the midst holds without it.
  pub skip : (halt : Option NodeNo) (left x y z : ℕ) (before : List Stop) (ways : List ℕ) (t s : Stop) (stops : List Stop) (lengths : List ℕ) → length ways ≡ length before → z ≤ x + y
      → Holds halt left (before ++ t ∷ s ∷ stops) (ways ++ x ∷ y ∷ lengths) → Holds halt left (before ++ s ∷ stops) (ways ++ z ∷ lengths)
  skip halt left x y z [] [] t s stops lengths many l h = skip_first halt halt left left x y z t s stops lengths (omega arith) (halt_time-detour stop halt t.node s.node) h
  skip halt left x y z [] (w ∷ ways) t s stops lengths many l h = absurd (omega arith)
  skip halt left x y z (b ∷ before) [] t s stops lengths many l h = absurd (omega arith)
  skip halt left x y z (b ∷ before) (w ∷ ways) t s stops lengths many l h = (h.0, skip (Some b.node) _ x y z before ways t s stops lengths (omega arith) l h.1)

  -- and what holds with a stop at the end holds without it
  pub skip_last : (halt : Option NodeNo) (left x : ℕ) (before : List Stop) (ways lengths : List ℕ) (t : Stop) → length ways ≡ length before → Holds halt left (before ++ t ∷ []) (ways ++ x ∷ lengths) → Holds halt left before ways
  skip_last halt left x [] ways lengths t many h = last ways many h where
    last : (ways : List ℕ) → length ways ≡ 0 → Holds halt left (t ∷ []) (ways ++ x ∷ lengths) → left ≤ until
    last [] e k = omega arith
    last (w ∷ ways) e k = absurd (omega arith)
  skip_last halt left x (b ∷ before) [] lengths t many h = absurd (omega arith)
  skip_last halt left x (b ∷ before) (w ∷ ways) lengths t many h = (h.0, skip_last (Some b.node) _ x before ways lengths t (omega arith) h.1)

  -- the same as a test
  abbrev pub holds : Option NodeNo → ℕ → List Stop → List ℕ → Bool
  holds halt left [] lengths = nat_le left until
  holds halt left (s ∷ stops) [] = false
  holds halt left (s ∷ stops) (x ∷ lengths) =
      let next = max (left + x + halt_time stop halt s.node) s.ready in
      nat_le (kept_time s.kind (left + x) next) s.limit && holds (Some s.node) next stops lengths

  pub holds-Holds : (halt : Option NodeNo) (left : ℕ) (stops : List Stop) (lengths : List ℕ) → holds halt left stops lengths ≡ true ↔ Holds halt left stops lengths
  holds-Holds halt left [] lengths = (λ h. leb-true left until h, λ h. le-leb left until h)
  holds-Holds halt left (s ∷ stops) [] = (λ h. absurd (false≢true h), λ h. absurd h)
  holds-Holds halt left (s ∷ stops) (x ∷ lengths) =
      let next = max (left + x + halt_time stop halt s.node) s.ready in
      let kept = kept_time s.kind (left + x) next in
      let ahead = holds-Holds (Some s.node) next stops lengths in (
        λ h. let both = and_parts (nat_le kept s.limit) (holds (Some s.node) next stops lengths) h in (leb-true kept s.limit both.0, ahead.0 both.1),
        λ h. and_from (nat_le kept s.limit) (holds (Some s.node) next stops lengths) (le-leb kept s.limit h.0) (ahead.1 h.1),
      )
