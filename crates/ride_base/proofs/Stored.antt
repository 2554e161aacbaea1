use Rattle.std.proofs.Common.{◌≡◌, ℕ, suc, zero, ◌+◌, ◌<◌, ◌≤◌, min, Bool, true, false, not, cond, List, [], ◌∷◌, ◌++◌, take, drop, length, Option, Some, None, Result, Ok, refl, sym, ap, ◌∙◌, get_or, arith, ◌⊎◌, inl, inr}
use Rattle.std.specs.Prelude.{◌&&◌, ◌||◌, ◌==◌, slice_get, IsTrue, IsErr}
use Rattle.std.specs.Str.{bytes_eq}
use Rattle.std.proofs.lemmas.List.{drop_more, take_at, length-take-le, take-append-drop, drop-drop}
use Rattle.std.proofs.lemmas.Option.{slice_get-get_or}
use Rattle.std.proofs.Math.Dec.{eqb-suc-zero}
use Rattle.std.proofs.lemmas.Slice.Eq.{bytes_eq-Decides}
use Rattle.ride_base.specs.Outside.{Held, Text, Moves}
use Rattle.ride_base.specs.Stored.{Basin, held_after, held_in, holds_at, text_of, name_of, is_text, bytes_held, shown_in, Puts, put_fails, put_count, after_put, after_failed_put}
use Rattle.ride_base.specs.declared.outside.Failed.{Failed}
use Rattle.ride_base.specs.declared.memory.StoredText.{StoredText}

-- equal bytes are the same bytes
pub same_bytes : (xs ys : List ℕ) → bytes_eq xs ys ≡ true → xs ≡ ys
same_bytes xs ys h = (bytes_eq-Decides xs ys).0 (rw h refl)

-- a text at a place, among the texts from there on
pub text_here : (texts : List StoredText) (i : ℕ) (text : StoredText) → i < length texts → text ≡ get_or texts i text → slice_get texts i ≡ Some text
text_here texts i text inside is = slice_get-get_or texts i text inside ∙ ap Some (sym is)

-- there is a text at each place
pub some_within : (texts : List StoredText) (i : ℕ) → i < length texts → slice_get texts i ≡ None → ⊥
some_within [] i h e = absurd (omega arith)
some_within (x ∷ xs) zero h e = cc
some_within (x ∷ xs) (suc i) h e = some_within xs i (omega arith) e

one_more : (texts : List StoredText) (name : List ℕ) (held : Held) (i : ℕ) (text : StoredText) → i < length texts → text ≡ get_or texts i text
    → held_after held (drop i texts) name ≡ held_after (cond (bytes_eq text.name name) (Text text.bytes) held) (drop (i + 1) texts) name
one_more texts name held i text inside is = ap (λ (rest : List StoredText). held_after held rest name) (drop_more texts i text inside ∙ ap (λ (x : StoredText). x ∷ drop (i + 1) texts) (sym is))

-- a text of the name is the last one so far
pub last_here : (texts : List StoredText) (name : List ℕ) (last : Option ℕ) (i : ℕ) (text : StoredText) → i < length texts → text ≡ get_or texts i text → bytes_eq text.name name ≡ true
    → held_after (holds_at texts last) (drop i texts) name ≡ held_in texts name → held_after (holds_at texts (Some i)) (drop (i + 1) texts) name ≡ held_in texts name
last_here texts name last i text inside is eq same =
    ap (λ (held : Held). held_after held (drop (i + 1) texts) name) (ap text_of (text_here texts i text inside is) ∙ sym (ap (λ (b : Bool). cond b (Text text.bytes) (holds_at texts last)) eq))
    ∙ sym (one_more texts name (holds_at texts last) i text inside is) ∙ same

-- a text of another name leaves the last one so far
pub last_there : (texts : List StoredText) (name : List ℕ) (last : Option ℕ) (i : ℕ) (text : StoredText) → i < length texts → text ≡ get_or texts i text → bytes_eq text.name name ≡ false
    → held_after (holds_at texts last) (drop i texts) name ≡ held_in texts name → held_after (holds_at texts last) (drop (i + 1) texts) name ≡ held_in texts name
last_there texts name last i text inside is eq same =
    ap (λ (held : Held). held_after held (drop (i + 1) texts) name) (sym (ap (λ (b : Bool). cond b (Text text.bytes) (holds_at texts last)) eq))
    ∙ sym (one_more texts name (holds_at texts last) i text inside is) ∙ same

-- a text that was found can be begun, where its `begin` isn't listed
pub can_start : (found : Option StoredText) (held : Held) (listed : Bool) → text_of found ≡ held → (found ≡ None → ⊥) → listed ≡ false → IsTrue (not listed && is_text held)
can_start None held listed is some no_call = absurd (some refl)
can_start (Some text) held listed is some no_call = rw (no_call, ← is) refl

-- and then it shows all of its bytes
pub shows : (found : Option StoredText) (held : Held) (name : List ℕ) (i : ℕ) → text_of found ≡ held → (found ≡ None → ⊥) → name_of found ≡ name
    → shown_in (record { text = i; at = 0; reads = 0 }) found ≡ Some (record { name = name; left = bytes_held held; reads = 0 })
shows None held name i is some named = absurd (some refl)
shows (Some text) held name i is some named = rw (← is, ← named) refl

none_long : (xs : List ℕ) → length xs ≤ 0 → xs ≡ []
none_long [] h = refl
none_long (x ∷ xs) h = absurd (omega arith)

-- what lies behind a place, copied as far as it goes and fits
pub poured : (bytes piece new : List ℕ) (at k most : ℕ) (left left' : Option (List ℕ)) → 0 < length piece → 0 < most → k ≡ min (min (length piece) most) (length (drop at bytes))
    → new ≡ take k (drop at bytes) ++ drop k piece → left ≡ Some (drop at bytes) → left' ≡ Some (drop (at + k) bytes) → (k ≤ length piece) × Moves left left' new k
poured bytes piece new at k most left left' some any count moved was is =
    let front : take k new ≡ take k (drop at bytes) = ap (take k) moved ∙ take_at (take k (drop at bytes)) (drop k piece) k (length-take-le k (drop at bytes) (omega arith)) in
    let parts : drop at bytes ≡ take k new ++ drop (at + k) bytes = sym (take-append-drop k (drop at bytes)) ∙ ap (λ (x : List ℕ). x ++ drop k (drop at bytes)) (sym front) ∙ ap (λ (x : List ℕ). take k new ++ x) (drop-drop k at bytes) in
    (omega arith, rw (was, is) (parts, λ z. none_long (drop at bytes) (omega arith)))

-- a put that fails
pub put_failed : (old new : Basin) (piece : List ℕ) (answer : Result ℕ Failed) → put_fails old ≡ true → IsErr answer → new ≡ after_failed_put old → Puts old new piece answer
put_failed old new piece answer fails err is = record { failed = λ h. (err, is); took = λ h. absurd cc }

-- a put that takes bytes
pub put_took : (old new : Basin) (piece : List ℕ) (count : ℕ) → put_fails old ≡ false → count ≡ put_count old (length piece) → new ≡ after_put old (take count piece) → Puts old new piece (Ok count)
put_took old new piece count fails is took = record { failed = λ h. absurd cc; took = λ h. (ap Ok is, took ∙ ap (λ (n : ℕ). after_put old (take n piece)) is) }

pub either : (a b : Bool) → (a ≡ true) ⊎ (b ≡ true) → (a || b) ≡ true
either true b h = refl
either false b (inl h) = cc
either false b (inr h) = h

pub neither : (a b : Bool) → a ≡ false → b ≡ false → (a || b) ≡ false
neither true b h k = h
neither false b h k = k

pub not_zero : (n : ℕ) → (n ≡ 0 → ⊥) → (n == 0) ≡ false
not_zero zero h = absurd (h refl)
not_zero (suc n) h = eqb-suc-zero n
