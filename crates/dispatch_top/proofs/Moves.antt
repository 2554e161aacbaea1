use Rattle.std.proofs.Common.{◌≡◌, ◌⊎◌, ℕ, zero, suc, ◌+◌, ◌<◌, ◌≤◌, true, List, [], ◌∷◌, ◌++◌, refl, sym, ap, ◌∙◌, arith, append_assoc, append-nil, inl, inr, take, length, length-append}
use Rattle.std.proofs.lemmas.Bool.{cases_lt}
use Rattle.ride_base.specs.Calls.{AreHeld}
use Rattle.ride_base.specs.Outside.{Held, Absent, AddsName, CountRose, CountStays, Rose, ShelfState, SinkState}
use Rattle.ride_base.proofs.ShelfLaws.{only_read-trans}
use Rattle.dispatch_top.specs.Moves.{ReadsNames, ReadsOn, Writes}

-- Calls on a shelf, one after another.

-- ---- counts

-- a count that rose after a moment rose
pub rose_later : (old mid new : ℕ) → old ≤ mid → mid ≤ new → Rose mid new → Rose old new
rose_later old mid new l m (inl h) = inl (omega arith)
rose_later old mid new l m (inr h) = on (cases_lt old mid)
  where
    on : (old < mid) ⊎ (mid ≤ old) → Rose old new
    on (inl k) = inl (omega arith)
    on (inr k) = inr (let e : old ≡ mid = omega arith in e ∙ h)

-- ---- calls that go on reading

-- nothing was read yet
pub reads_still : (old : ShelfState) → old.begun ≡ true → ReadsOn ⊥ old old
reads_still old begun = record {
  read = record { begun = begun; holds = refl; named = refl; counted = omega arith; sure = λ s. s; silent = λ s. refl; quiet = refl };
  cause = λ f. absurd f;
  surely = λ s f. f;
  quietly = λ q n. refl;
}

-- one after another
pub reads_on_more : {Fails Fails' : Type 0} {old mid new : ShelfState} → ReadsOn Fails old mid → (Fails → ⊥) → ReadsOn Fails' mid new → ReadsOn Fails' old new
reads_on_more {old = old} {mid = mid} {new = new} r n s = record {
  read = only_read-trans r.read s.read;
  cause = λ f. rose_later old.faults mid.faults new.faults r.read.counted s.read.counted (s.cause f);
  surely = λ k f. s.surely (r.read.sure k) f;
  quietly = λ q m. s.quietly (r.read.quiet ∙ q) m ∙ r.quietly q n;
}

-- the same where the fault is said otherwise
pub reads_on_as : {Fails Fails' : Type 0} {old new : ShelfState} → (Fails' → Fails) → (Fails → Fails') → ReadsOn Fails old new → ReadsOn Fails' old new
reads_on_as f g r = record { read = r.read; cause = λ x. r.cause (f x); surely = λ s x. r.surely s (f x); quietly = λ q n. r.quietly q (λ x. n (g x)) }

-- ---- calls that write

pub writes_nothing : (Fails : Type 0) (old : SinkState) → (Fails → ⊥) → Writes Fails old old
writes_nothing Fails old n = record { counted = omega arith; quiet = refl; cause = λ f. absurd (n f); quietly = λ q f. refl }

pub writes_more : {Fails Fails' : Type 0} {old mid new : SinkState} → Writes Fails old mid → (Fails → ⊥) → Writes Fails' mid new → Writes Fails' old new
writes_more {old = old} {mid = mid} {new = new} r n s =
    let below : old.faults ≤ mid.faults = r.counted in
    let above : mid.faults ≤ new.faults = s.counted in
    record {
      counted = omega arith;
      quiet = s.quiet ∙ r.quiet;
      cause = λ f. rose_later old.faults mid.faults new.faults below above (s.cause f);
      quietly = λ q m. s.quietly (r.quiet ∙ q) m ∙ r.quietly q n;
    }

pub writes_as : {Fails Fails' : Type 0} {old new : SinkState} → (Fails' → Fails) → (Fails → Fails') → Writes Fails old new → Writes Fails' old new
writes_as f g r = record { counted = r.counted; quiet = r.quiet; cause = λ x. r.cause (f x); quietly = λ q n. r.quietly q (λ x. n (g x)) }

-- ---- names

-- the first of some names, and then of others
take_behind : (ns ms : List (List ℕ)) (k : ℕ) → take (length ns + k) (ns ++ ms) ≡ ns ++ take k ms
take_behind [] ms k = let e : 0 + k ≡ k = omega arith in ap (λ (n : ℕ). take n ms) e
take_behind (a ∷ ns) ms k = let e : length (a ∷ ns) + k ≡ suc (length ns + k) = omega arith in ap (λ (n : ℕ). take n (a ∷ (ns ++ ms))) e ∙ ap (λ (l : List (List ℕ)). a ∷ l) (take_behind ns ms k)

take_before : (ns ms : List (List ℕ)) (k : ℕ) → k ≤ length ns → take k (ns ++ ms) ≡ take k ns
take_before ns ms zero l = refl
take_before [] ms (suc k) l = absurd (omega arith)
take_before (a ∷ ns) ms (suc k) l = ap (λ (l : List (List ℕ)). a ∷ l) (take_before ns ms k (omega arith))

held_before : (ns ms : List (List ℕ)) (shelf : ShelfState) → AreHeld (ns ++ ms) shelf → AreHeld ns shelf
held_before [] ms shelf h = tt
held_before (a ∷ ns) ms shelf h = (h.0, held_before ns ms shelf h.1)

held_behind : (ns ms : List (List ℕ)) (old new : ShelfState) → new.held ≡ old.held → AreHeld (ns ++ ms) old → AreHeld ms new
held_behind [] ms old new e h = on ms h
  where
    on : (ms : List (List ℕ)) → AreHeld ms old → AreHeld ms new
    on [] k = tt
    on (b ∷ ms) k = (λ a. k.0 (sym (ap (λ (x : List ℕ → Held). x b) e) ∙ a), on ms k.1)
held_behind (a ∷ ns) ms old new e h = held_behind ns ms old new e h.1

-- ---- calls that read the texts of names

-- nothing was begun
pub reads_nothing : (names : List (List ℕ)) (Fails : Type 0) (old : ShelfState) → (Fails → ⊥) → ReadsNames names Fails old old
reads_nothing names Fails old n = record {
  began = (0, omega arith, sym (append-nil old.names));
  holds = refl;
  counted = omega arith;
  sure = λ s. s;
  quiet = refl;
  cause = λ f. absurd (n f);
  surely = λ s h f. n f;
  silent = λ s h. refl;
  quietly = λ q f. refl;
}

-- the name of a text was begun, and the text read
pub reads_begun : (name : List ℕ) (Fails : Type 0) (old mid new : ShelfState) → AddsName old name mid → mid.held ≡ old.held → old.faults ≤ mid.faults → (old.sure ≡ true → mid.sure ≡ true) → mid.quiet ≡ old.quiet
    → (old.sure ≡ true → CountStays old mid) → (old.quiet ≡ true → CountStays old mid) → ReadsOn Fails mid new → ReadsNames (name ∷ []) Fails old new
reads_begun name Fails old mid new named holds counted sure quiet silent quietly r =
    let later : mid.faults ≤ new.faults = r.read.counted in
    record {
      began = (1, omega arith, r.read.named ∙ named);
      holds = r.read.holds ∙ holds;
      counted = omega arith;
      sure = λ s. r.read.sure (sure s);
      quiet = r.read.quiet ∙ quiet;
      cause = λ f. rose_later old.faults mid.faults new.faults counted later (r.cause f);
      surely = λ s h f. r.surely (sure s) f;
      silent = λ s h. r.read.silent (sure s) ∙ silent s;
      quietly = λ q n. r.quietly (quiet ∙ q) n ∙ quietly q;
    }

-- the name of a text couldn't be begun
pub reads_unbegun : (name : List ℕ) (Fails : Type 0) (old new : ShelfState) → Fails → AddsName old name new → new.held ≡ old.held → old.faults ≤ new.faults → (old.sure ≡ true → new.sure ≡ true) → new.quiet ≡ old.quiet
    → CountRose old new → (old.sure ≡ true → old.held name ≡ Absent) → ReadsNames (name ∷ []) Fails old new
reads_unbegun name Fails old new fails named holds counted sure quiet rose absent = record {
  began = (1, omega arith, named);
  holds = holds;
  counted = counted;
  sure = sure;
  quiet = quiet;
  cause = λ f. rose;
  surely = λ s h f. h.0 (absent s);
  silent = λ s h. absurd (h.0 (absent s));
  quietly = λ q n. absurd (n fails);
}

-- the same where the fault is said otherwise
pub reads_as : (names : List (List ℕ)) (Fails Fails' : Type 0) (old new : ShelfState) → (Fails' → Fails) → (Fails → Fails') → ReadsNames names Fails old new → ReadsNames names Fails' old new
reads_as names Fails Fails' old new f g r = record {
  began = r.began;
  holds = r.holds;
  counted = r.counted;
  sure = r.sure;
  quiet = r.quiet;
  cause = λ x. r.cause (f x);
  surely = λ s h x. r.surely s h (f x);
  silent = r.silent;
  quietly = λ q n. r.quietly q (λ x. n (g x));
}

-- further names weren't begun
pub reads_fewer : (ns ms : List (List ℕ)) (Fails : Type 0) (old new : ShelfState) → ReadsNames ns Fails old new → ReadsNames (ns ++ ms) Fails old new
reads_fewer ns ms Fails old new r =
    let few : r.began.0 ≤ length ns = r.began.1 in
    record {
      began = (r.began.0, omega (arith, length-append ns ms), r.began.2 ∙ ap (λ (l : List (List ℕ)). old.names ++ l) (sym (take_before ns ms r.began.0 r.began.1)));
      holds = r.holds;
      counted = r.counted;
      sure = r.sure;
      quiet = r.quiet;
      cause = r.cause;
      surely = λ s h f. r.surely s (held_before ns ms old h) f;
      silent = λ s h. r.silent s (held_before ns ms old h);
      quietly = r.quietly;
    }

-- the texts of all names were read, and then those of others
pub reads_more : (ns ms : List (List ℕ)) (Fails Fails' : Type 0) (old mid new : ShelfState) → ReadsNames ns Fails old mid → (Fails → ⊥) → mid.names ≡ old.names ++ ns → ReadsNames ms Fails' mid new
    → ReadsNames (ns ++ ms) Fails' old new
reads_more ns ms Fails Fails' old mid new r n named s =
    let below : old.faults ≤ mid.faults = r.counted in
    let above : mid.faults ≤ new.faults = s.counted in
    let few : s.began.0 ≤ length ms = s.began.1 in
    record {
      began = (
        length ns + s.began.0,
        omega (arith, length-append ns ms),
        s.began.2 ∙ ap (λ (l : List (List ℕ)). l ++ take s.began.0 ms) named ∙ append_assoc old.names ns (take s.began.0 ms) ∙ ap (λ (l : List (List ℕ)). old.names ++ l) (sym (take_behind ns ms s.began.0)),
      );
      holds = s.holds ∙ r.holds;
      counted = omega arith;
      sure = λ k. s.sure (r.sure k);
      quiet = s.quiet ∙ r.quiet;
      cause = λ f. rose_later old.faults mid.faults new.faults below above (s.cause f);
      surely = λ k h f. s.surely (r.sure k) (held_behind ns ms old mid r.holds h) f;
      silent = λ k h. s.silent (r.sure k) (held_behind ns ms old mid r.holds h) ∙ r.silent k (held_before ns ms old h);
      quietly = λ q m. s.quietly (r.quiet ∙ q) m ∙ r.quietly q n;
    }
