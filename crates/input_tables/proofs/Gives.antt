use Rattle.std.proofs.Common.{◌≡◌, ℕ, zero, suc, ◌+◌, ◌<◌, ◌≤◌, ◌==◌, Bool, true, false, if◌then◌else◌, ◌&&◌, List, [], ◌∷◌, ◌++◌, length, Option, Some, None, IsSome, is_some, Bor, inl, refl, sym, ap, ◌∙◌, subst, arith}
use Rattle.std.proofs.lemmas.Option.{same_Some}
use Rattle.csv.specs.Machine.{Read, after_end, ends_at_end, ends_with, field_after, fields_after, in_field, is_byte, is_end, next_record, start_field, start_record, step, carriage_return, line_feed}
use Rattle.csv.specs.Reading.{NextIs, ReadRecord, ReadsNext, default_config, is_flexible, pending_of, reader_config, reader_source, reader_state, took_first, records_from, records_next}
use Rattle.csv.specs.declared.parser.Action.{Action}
use Rattle.csv.specs.declared.parser.Action.TheVariants as act
use Rattle.csv.specs.declared.parser.Config.{Config}
use Rattle.csv.specs.declared.parser.State.{State}
use Rattle.csv.specs.declared.parser.State.TheVariants as st
use Rattle.csv.specs.declared.parser.Terminator.{Terminator}
use Rattle.csv.specs.declared.parser.Terminator.TheVariants as term
use Rattle.input_tables.specs.Records.{SliceReader, unread, records_in, records_left, IsReading, Gives}

-- A record takes a byte at least, and leaves the machine between two records.

-- a step that ends a record goes between two records
abbrev EndsRecord : State × Action → Type 0
EndsRecord p = is_end p.1 ≡ true → ends_at_end p.0 ≡ false

ends_after : (t : Terminator) (c : ℕ) → ends_at_end (after_end t c) ≡ false
ends_after term.CRLF c = by (c == carriage_return)
  where
    by : (b : Bool) → ends_at_end (if b then st.AfterCr else st.StartRecord) ≡ false
    by true = refl
    by false = refl
ends_after (term.Any t) c = refl

in_field_ends : (cfg : Config) (c : ℕ) → EndsRecord (in_field cfg c)
in_field_ends cfg c = by (c == cfg.delimiter) (ends_with cfg.terminator c)
  where
    by : (a b : Bool) → EndsRecord (if a then (st.StartField, act.EndField) else if b then (after_end cfg.terminator c, act.EndRecord) else (st.InField, act.Copy))
    by true b = λ h. cc
    by false true = λ h. ends_after cfg.terminator c
    by false false = λ h. cc

start_field_ends : (cfg : Config) (c : ℕ) → EndsRecord (start_field cfg c)
start_field_ends cfg c = by (cfg.quoting && (c == cfg.quote))
  where
    by : (a : Bool) → EndsRecord (if a then (st.InQuoted, act.Skip) else in_field cfg c)
    by true = λ h. cc
    by false = in_field_ends cfg c

start_record_ends : (cfg : Config) (c : ℕ) → EndsRecord (start_record cfg c)
start_record_ends cfg c = by (ends_with cfg.terminator c) (is_byte cfg.comment c)
  where
    by : (a b : Bool) → EndsRecord (if a then (st.StartRecord, act.Skip) else if b then (st.InComment, act.Skip) else start_field cfg c)
    by true b = λ h. cc
    by false true = λ h. cc
    by false false = start_field_ends cfg c

step_ends : (cfg : Config) (s : State) (c : ℕ) → EndsRecord (step cfg s c)
step_ends cfg st.StartRecord c = start_record_ends cfg c
step_ends cfg st.StartField c = start_field_ends cfg c
step_ends cfg st.InField c = in_field_ends cfg c
step_ends cfg st.InQuoted c = by (cfg.quoting && (c == cfg.quote)) (cfg.quoting && is_byte cfg.escape c)
  where
    by : (a b : Bool) → EndsRecord (if a then (st.AfterQuote, act.Skip) else if b then (st.InEscape, act.Skip) else (st.InQuoted, act.Copy))
    by true b = λ h. cc
    by false true = λ h. cc
    by false false = λ h. cc
step_ends cfg st.InEscape c = λ h. cc
step_ends cfg st.AfterQuote c = by (cfg.quoting && cfg.double_quote && (c == cfg.quote))
  where
    by : (a : Bool) → EndsRecord (if a then (st.InQuoted, act.Copy) else in_field cfg c)
    by true = λ h. cc
    by false = in_field_ends cfg c
step_ends cfg st.InComment c = by (c == line_feed)
  where
    by : (a : Bool) → EndsRecord (if a then (st.StartRecord, act.Skip) else (st.InComment, act.Skip))
    by true = λ h. cc
    by false = λ h. cc
step_ends cfg st.AfterCr c = by (c == line_feed)
  where
    by : (a : Bool) → EndsRecord (if a then (st.StartRecord, act.Skip) else start_record cfg c)
    by true = λ h. cc
    by false = start_record_ends cfg c

-- what is left behind a record is no longer than what was there, and the machine is between two records
abbrev Leaves : List ℕ → Read → Type 0
Leaves xs p = (length p.2 ≤ length xs) × (ends_at_end p.1 ≡ false)

leaves : (cfg : Config) (s : State) (fields : List (List ℕ)) (field xs : List ℕ) (p : Read) → next_record cfg s fields field xs ≡ Some p → Leaves xs p
unfolding next_record
leaves cfg s fields field [] p h = by (ends_at_end s) h
  where
    by : (b : Bool) → (if b then Some (fields ++ (field ∷ []), st.StartRecord, []) else None) ≡ Some p → Leaves [] p
    by true e = subst (Leaves []) (same_Some _ _ e) (omega arith, refl)
    by false e = absurd (cc)
leaves cfg s fields field (c ∷ rest) p h =
    by (is_end (step cfg s c).1) refl h (leaves cfg (step cfg s c).0 (fields_after (step cfg s c).1 fields field) (field_after (step cfg s c).1 c field) rest p)
  where
    by : (b : Bool) → is_end (step cfg s c).1 ≡ b
        → (if b then Some (fields_after (step cfg s c).1 fields field, (step cfg s c).0, rest) else next_record cfg (step cfg s c).0 (fields_after (step cfg s c).1 fields field) (field_after (step cfg s c).1 c field) rest) ≡ Some p
        → (next_record cfg (step cfg s c).0 (fields_after (step cfg s c).1 fields field) (field_after (step cfg s c).1 c field) rest ≡ Some p → Leaves rest p)
        → Leaves (c ∷ rest) p
    by true e h more = subst (Leaves (c ∷ rest)) (same_Some _ _ h) (omega arith, step_ends cfg s c e)
    by false e h more = let l = more h in let l0 = l.0 in (omega arith, l.1)

-- between two records a record takes a byte
shorter : (cfg : Config) (s : State) (xs : List ℕ) (p : Read) → ends_at_end s ≡ false → next_record cfg s [] [] xs ≡ Some p → length p.2 < length xs
unfolding next_record
shorter cfg s [] p between h = absurd (cc)
shorter cfg s (c ∷ rest) p between h =
    by (is_end (step cfg s c).1) h (λ k. (leaves cfg (step cfg s c).0 (fields_after (step cfg s c).1 [] []) (field_after (step cfg s c).1 c []) rest p k).0)
  where
    by : (b : Bool)
        → (if b then Some (fields_after (step cfg s c).1 [] [], (step cfg s c).0, rest) else next_record cfg (step cfg s c).0 (fields_after (step cfg s c).1 [] []) (field_after (step cfg s c).1 c []) rest) ≡ Some p
        → (next_record cfg (step cfg s c).0 (fields_after (step cfg s c).1 [] []) (field_after (step cfg s c).1 c []) rest ≡ Some p → length p.2 ≤ length rest)
        → length p.2 < length (c ∷ rest)
    by true h more = let size : length rest ≡ length p.2 = ap (λ (q : Read). length q.2) (same_Some _ _ h) in omega arith
    by false h more = let l = more h in omega arith

-- more turns than bytes give the same records
same_records : (cfg : Config) (n m : ℕ) (s : State) (xs : List ℕ) → ends_at_end s ≡ false → length xs < n → length xs < m → records_from cfg n s xs ≡ records_from cfg m s xs
unfolding records_from
same_records cfg zero m s xs between ln lm = absurd (omega arith)
same_records cfg (suc n) zero s xs between ln lm = absurd (omega arith)
same_records cfg (suc n) (suc m) s xs between ln lm = by (next_record cfg s [] [] xs) refl (λ t ys b l k. same_records cfg n m t ys b l k)
  where
    by : (o : Option Read) → next_record cfg s [] [] xs ≡ o
        → ((t : State) (ys : List ℕ) → ends_at_end t ≡ false → length ys < n → length ys < m → records_from cfg n t ys ≡ records_from cfg m t ys)
        → records_next (records_from cfg n) o ≡ records_next (records_from cfg m) o
    by None e more = refl
    by (Some p) e more =
        let l = leaves cfg s [] [] xs p e in
        let lt : length p.2 < length xs = shorter cfg s xs p between e in
        ap (λ (rs : List (List (List ℕ))). p.0 ∷ rs) (more p.1 p.2 l.1 (omega arith) (omega arith))

-- the records of a text begin with the next one, and go on with those behind it
pub one_record : (s : State) (xs : List ℕ) (p : Read) → ends_at_end s ≡ false → next_record default_config s [] [] xs ≡ Some p
    → (records_in s (Some xs) ≡ p.0 ∷ records_in p.1 (Some p.2)) × (ends_at_end p.1 ≡ false)
unfolding records_from
one_record s xs p between h =
    let l = leaves default_config s [] [] xs p h in
    let lt : length p.2 < length xs = shorter default_config s xs p between h in
    let plus : length xs + 1 ≡ suc (length xs) = omega arith in
    let first : records_from default_config (suc (length xs)) s xs ≡ p.0 ∷ records_from default_config (length xs) p.1 p.2 = ap (records_next (records_from default_config (length xs))) h in (
      ap (λ (n : ℕ). records_from default_config n s xs) plus ∙ first
          ∙ ap (λ (rs : List (List (List ℕ))). p.0 ∷ rs) (same_records default_config (length xs) (length p.2 + 1) p.1 p.2 l.1 lt (omega arith)),
      l.1,
    )

pub no_record : (s : State) (xs : List ℕ) → next_record default_config s [] [] xs ≡ None → records_in s (Some xs) ≡ []
unfolding records_from
no_record s xs h =
    let plus : length xs + 1 ≡ suc (length xs) = omega arith in
    ap (λ (n : ℕ). records_from default_config n s xs) plus ∙ ap (records_next (records_from default_config (length xs))) h

-- what a read of a record shows, where the bytes before it and behind it are known
next_gives : (s s2 : State) (y z : List ℕ) (found : Bool) (fields : List (List ℕ)) (new : SliceReader) → ends_at_end s ≡ false → NextIs (next_record default_config s [] [] y) found fields s2 z
    → unread new ≡ Some z → reader_state new ≡ s2 → (ends_at_end s2 ≡ false → found ≡ true → IsReading new) → Gives (records_in s (Some y)) found fields new
next_gives s s2 y z found fields new between n at state reading = by (next_record default_config s [] [] y) refl n
  where
    by : (o : Option Read) → next_record default_config s [] [] y ≡ o → NextIs o found fields s2 z → Gives (records_in s (Some y)) found fields new
    by None e none = let F : Bool → Type 0 = λ f. Gives (records_in s (Some y)) f fields new in subst F (sym none) (no_record s y e)
    by (Some p) e (yes_found, is, to, rest) =
        let F : Bool → Type 0 = λ f. Gives (records_in s (Some y)) f fields new in
        let one = one_record s y p between e in
        let left : records_in p.1 (Some p.2) ≡ records_left new = ap (λ (q : State). records_in q (Some p.2)) (sym to ∙ sym state) ∙ ap (records_in (reader_state new)) (ap Some (sym rest) ∙ sym at) in
        subst F (sym yes_found) (
          reading (ap ends_at_end to ∙ one.1) yes_found,
          one.0 ∙ ap (λ (f : List (List ℕ)). f ∷ records_in p.1 (Some p.2)) (sym is) ∙ ap (λ (rs : List (List (List ℕ))). fields ∷ rs) left,
        )

-- a read of a record gives the next one of those that a reader has left
pub read_gives : (old new : SliceReader) (found : Bool) (fields : List (List ℕ)) → IsReading old → ReadRecord (λ (bytes : Bor (List ℕ)). Some bytes.now) old new found fields → took_first new ≡ true → is_flexible new ≡ is_flexible old
    → Gives (records_left old) found fields new
read_gives old new found fields r read first flexible = by (unread old) (pending_of (Some (reader_source new).now) new) refl refl read.0
  where
    same : unread new ≡ pending_of (Some (reader_source new).now) new
    same = rw read.1 refl

    known : (z : List ℕ) → pending_of (Some (reader_source new).now) new ≡ Some z → IsSome (unread new)
    known z e = rw (same ∙ e) refl

    by : (o p : Option (List ℕ)) → unread old ≡ o → pending_of (Some (reader_source new).now) new ≡ p → ReadsNext (reader_config old) (reader_state old) o p found fields (reader_state new) → Gives (records_left old) found fields new
    by None p e f n = let k : is_some (unread old) ≡ true = r.known in absurd (cc)
    by (Some y) None e f n = absurd n
    by (Some y) (Some z) e f n =
        let G : Option (List ℕ) → Type 0 = λ o. Gives (records_in (reader_state old) o) found fields new in
        subst G (sym e) (next_gives (reader_state old) (reader_state new) y z found fields new r.between (rw r.default at n) (same ∙ f) refl (λ between found_one. record {
          default = read.2 ∙ r.default;
          flexible = flexible ∙ r.flexible;
          untrimmed = read.3 ∙ r.untrimmed;
          ready = inl first;
          between = between;
          known = known z f;
        }))
