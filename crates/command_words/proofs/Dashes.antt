use Rattle.std.proofs.Common.{◌≡◌, ◌∙◌, ◌&&◌, ◌||◌, ℕ, Bool, cond, true, false, not, refl, sym, ap, List, [], ◌∷◌, Option, Some, None, option_map, codes, subst}
use Rattle.std.specs.List.{list_all}
use Rattle.std.specs.Prelude.{nat_le}
use Rattle.std.specs.Str.{bytes_eq}
use Rattle.std.proofs.lemmas.Bool.{eqb-true}
use Rattle.clap.proofs.WalkLemmas.{both}
use Rattle.ride_base.specs.Digits.{number_of}
use Rattle.command_words.specs.Commands.{rates_from, Command, Meaning, Ends, Names, Plain, Valued, Awaits, Refused, Said, Word, and_then, are_distinct, begins_with_dash, is_one_of, is_whole, kept_where, meaning_of, number_or, parameters, said, said_by, said_from, value_in, with_name, with_plain, with_value, within, is_fair}
use Rattle.stop_schedule.specs.Rates.{Rates}
use Rattle.command_words.proofs.Uses.{Use, Name, Value, Flag, uses_from}
use Rattle.command_words.proofs.MatchesOf.{same_text}
use Rattle.command_words.proofs.Rules.{same_word}
use Rattle.command_words.proofs.UsesSaid.{AreOf, differs, keys, split, turned_eq}
use Rattle.command_words.proofs.MeaningOf.{AreOfOption, IsMeant, has_no_dash, said_so, same_sound, sound, uses_of_command, word_meant}
use Rattle.command_words.proofs.AnswerOf.{used_by}

-- A value that begins with a dash is no number, so that a form has none.

-- each option that has a value is one of the command's
abbrev pub AreKeys : Command → List (Word × Word) → Type 0
AreKeys k [] = Unit {0}
AreKeys k (e ∷ es) = (is_one_of k.valued e.0 ≡ true) × AreKeys k es

abbrev pub HaveKeys : Command → Option Said → Type 0
HaveKeys k None = Unit {0}
HaveKeys k (Some s) = AreKeys k s.valued

name_keys : (k : Command) (w : Word) (x : Option Said) → HaveKeys k x → HaveKeys k (option_map (with_name w) x)
name_keys k w None h = tt
name_keys k w (Some s) h = h

plain_keys : (k : Command) (w : Word) (x : Option Said) → HaveKeys k x → HaveKeys k (option_map (with_plain w) x)
plain_keys k w None h = tt
plain_keys k w (Some s) h = h

value_keys : (k : Command) (o v : Word) (x : Option Said) → is_one_of k.valued o ≡ true → HaveKeys k x → HaveKeys k (option_map (with_value o v) x)
value_keys k o v None is h = tt
value_keys k o v (Some s) is h = (is, h)

meant_keys : (k : Command) (m : Meaning) (x : Word) (xs : List Word) (after : Option Said) (waits : Word → Option Said) → IsMeant k m → HaveKeys k after
    → ((o : Word) → is_one_of k.valued o ≡ true → HaveKeys k (waits o)) → HaveKeys k (said_by m x xs after waits)
meant_keys k Ends x xs after waits is h f = tt
meant_keys k Names x xs after waits is h f = name_keys k x after h
meant_keys k (Plain o) x xs after waits is h f = plain_keys k o after h
meant_keys k (Valued o v) x xs after waits is h f = value_keys k o v after is h
meant_keys k (Awaits o) x xs after waits is h f = f o is
meant_keys k Refused x xs after waits is h f = tt

none_keys : (k : Command) (t : Bool) (x : Option Said) → HaveKeys k x → HaveKeys k (cond t None x)
none_keys k true x h = tt
none_keys k false x h = h

said_keys : (k : Command) (words : List Word) → HaveKeys k (said_from k None words) × ((o : Word) → is_one_of k.valued o ≡ true → HaveKeys k (said_from k (Some o) words))
said_keys k [] = (tt, λ o is. tt)
said_keys k (x ∷ xs) =
    let rest = said_keys k xs in (
      meant_keys k (meaning_of k x) x xs (said_from k None xs) (λ o. said_from k (Some o) xs) (word_meant k x) rest.0 rest.1,
      λ o is. none_keys k (begins_with_dash x) _ (value_keys k o x (said_from k None xs) is rest.0),
    )

split_keys : (k : Command) (us : List Use) → AreOf k us → AreKeys k (split us).valued
split_keys k [] h = tt
split_keys k (Name w ∷ us) h = split_keys k us h
split_keys k (Value o v ∷ us) h = (h.0, split_keys k us h.1)
split_keys k (Flag o ∷ us) h = split_keys k us h.1

used_keys : (k : Command) (uses : Option (List Use)) → AreOfOption k uses → HaveKeys k (said_so uses)
used_keys k None h = tt
used_keys k (Some us) h = split_keys k us h

-- ---- a value that begins with a dash

pub record HasDash (k : Command) (es : List (Word × Word)) : Type 0 where
  pub option : Word
  pub text : Word
  pub is : is_one_of k.valued option ≡ true
  pub dash : begins_with_dash text ≡ true
  pub value : value_in es option ≡ Some text

key_of : (es : List (Word × Word)) (o v : Word) → value_in es o ≡ Some v → is_one_of (keys es) o ≡ true
key_of [] o v e = cc
key_of (x ∷ es) o v e = go (bytes_eq x.0 o) e (key_of es o v)
  where
    go : (t : Bool) → cond t (Some x.1) (value_in es o) ≡ Some v → (value_in es o ≡ Some v → is_one_of (keys es) o ≡ true) → (t || is_one_of (keys es) o) ≡ true
    go true e rest = refl
    go false e rest = rest e

is_not : (b : Bool) → not b ≡ true → b ≡ false
is_not false e = refl
is_not true e = sym e

dash_found : (k : Command) (es : List (Word × Word)) → AreKeys k es → are_distinct (keys es) ≡ true → list_all (λ o. not (begins_with_dash o.1)) es ≡ false → HasDash k es
dash_found k [] are distinct some = cc
dash_found k (e ∷ es) are distinct some = go (begins_with_dash e.1) refl some (dash_found k es are.1 (both _ _ distinct).1)
  where
    go : (t : Bool) → begins_with_dash e.1 ≡ t → (not t && list_all (λ o. not (begins_with_dash o.1)) es) ≡ false
        → (list_all (λ o. not (begins_with_dash o.1)) es ≡ false → HasDash k es) → HasDash k (e ∷ es)
    go true is here rest = record { option = e.0; text = e.1; is = are.0; dash = is; value = ap (λ t. cond t (Some e.1) (value_in es e.0)) (same_text e.0) }
    go false is here rest =
        let found = rest here in
        let other = turned_eq e.0 found.option ∙ differs (keys es) found.option e.0 (key_of es found.option found.text found.value) (is_not _ (both _ _ distinct).0) in
        record { option = found.option; text = found.text; is = found.is; dash = found.dash; value = ap (λ t. cond t (Some e.1) (value_in es found.option)) other ∙ found.value }

-- a form that minds the values of all the options of a command
abbrev pub Minds : {X : Type 0} → Command → (Said → Option X) → Type 0
Minds k f = (s : Said) (o v : Word) → is_one_of k.valued o ≡ true → value_in s.valued o ≡ Some v → begins_with_dash v ≡ true → f s ≡ None

-- such a form takes no value that begins with a dash
minded : {X : Type 0} (k : Command) (f : Said → Option X) → Minds k f → (x : Option Said) → HaveKeys k x → and_then (kept_where (is_whole k) x) f ≡ and_then (kept_where (is_whole k) (sound x)) f
minded k f minds None h = refl
minded k f minds (Some s) h = go (is_whole k s) refl (has_no_dash s) refl
  where
    go : (t : Bool) → is_whole k s ≡ t → (d : Bool) → has_no_dash s ≡ d → and_then (cond t (Some s) None) f ≡ and_then (kept_where (is_whole k) (cond d (Some s) None)) f
    go t e true g = ap (λ b. and_then (cond b (Some s) None) f) (sym e)
    go false e false g = refl
    go true e false g =
        let found = dash_found k s.valued h (both _ _ (both _ _ e).1).0 g in
        minds s found.option found.text found.is found.value found.dash

-- what is said and what is used come to one form
pub said_used : {X : Type 0} (k : Command) (f : Said → Option X) → Minds k f → (words : List Word) → and_then (said k words) f ≡ and_then (kept_where (is_whole k) (used_by k words)) f
said_used k f minds words =
    minded k f minds (said_from k None words) (said_keys k words).0
    ∙ ap (λ x. and_then (kept_where (is_whole k) x) f) (same_sound k words).0
    ∙ sym (minded k f minds (used_by k words) (used_keys k (uses_from k words None) (uses_of_command k words).0))

-- ---- numbers

number_dash : (v : Word) (most : ℕ) → begins_with_dash v ≡ true → number_of v most ≡ None
number_dash [] most e = cc
number_dash (b ∷ bs) most e = subst (λ c. number_of (c ∷ bs) most ≡ None) (sym (eqb-true b 45 e)) refl

pub within_dash : (least most : ℕ) (v : Word) → begins_with_dash v ≡ true → within least most v ≡ None
within_dash least most v e = ap (kept_where (nat_le least)) (number_dash v most e)

pub none_then : {X Y : Type 0} (x : Option X) (f : X → Option Y) → ((y : X) → f y ≡ None) → and_then x f ≡ None
none_then None f h = refl
none_then (Some x) f h = h x

-- a fact on each word of a list
abbrev pub Each : (Word → Type 0) → List Word → Type 0
Each P [] = Unit {0}
Each P (x ∷ xs) = P x × Each P xs

pub by_each : (P : Word → Type 0) (xs : List Word) → Each P xs → (o : Word) → is_one_of xs o ≡ true → P o
by_each P [] all o is = cc
by_each P (x ∷ xs) all o is = go (bytes_eq x o) refl is (by_each P xs all.1 o)
  where
    go : (t : Bool) → bytes_eq x o ≡ t → (t || is_one_of xs o) ≡ true → (is_one_of xs o ≡ true → P o) → P o
    go true e h rest = subst P (same_word x o e) all.0
    go false e h rest = rest h

number_none : (find : Word → Option Word) (o v : Word) (least other : ℕ) → find o ≡ Some v → begins_with_dash v ≡ true → number_or least 65536 other (find o) ≡ None
number_none find o v least other e dash = ap (number_or least 65536 other) e ∙ within_dash least 65536 v dash

-- the parameters, one after another
abbrev rates_last : (stop wait trip_num trip_den trip_add wait_weight trip_weight : ℕ) → Option Rates
rates_last stop wait trip_num trip_den trip_add wait_weight trip_weight =
    kept_where is_fair (Some (record { stop = stop; wait = wait; trip_num = trip_num; trip_den = trip_den; trip_add = trip_add; wait_weight = wait_weight; trip_weight = trip_weight }))

module _ (find : Word → Option Word) where
  abbrev rates_seven : (stop wait trip_num trip_den trip_add wait_weight : ℕ) → Option Rates
  rates_seven stop wait trip_num trip_den trip_add wait_weight = and_then (number_or 0 65536 1 (find (codes "trip-weight"))) (rates_last stop wait trip_num trip_den trip_add wait_weight)

  abbrev rates_six : (stop wait trip_num trip_den trip_add : ℕ) → Option Rates
  rates_six stop wait trip_num trip_den trip_add = and_then (number_or 0 65536 1 (find (codes "wait-weight"))) (rates_seven stop wait trip_num trip_den trip_add)

  abbrev rates_five : (stop wait trip_num trip_den : ℕ) → Option Rates
  rates_five stop wait trip_num trip_den = and_then (number_or 0 65536 10 (find (codes "trip-add"))) (rates_six stop wait trip_num trip_den)

  abbrev rates_four : (stop wait trip_num : ℕ) → Option Rates
  rates_four stop wait trip_num = and_then (number_or 1 65536 1 (find (codes "trip-den"))) (rates_five stop wait trip_num)

  abbrev rates_three : (stop wait : ℕ) → Option Rates
  rates_three stop wait = and_then (number_or 0 65536 2 (find (codes "trip-num"))) (rates_four stop wait)

  abbrev rates_two : (stop : ℕ) → Option Rates
  rates_two stop = and_then (number_or 0 65536 20 (find (codes "wait"))) (rates_three stop)

none_first : {Y : Type 0} (x : Option ℕ) (f : ℕ → Option Y) → x ≡ None → and_then x f ≡ None
none_first x f e = ap (λ y. and_then y f) e

pub rates_dash : (find : Word → Option Word) (o v : Word) → is_one_of parameters o ≡ true → find o ≡ Some v → begins_with_dash v ≡ true → rates_from find ≡ None
rates_dash find o v is e dash = by_each (λ o. find o ≡ Some v → rates_from find ≡ None) parameters (
  λ e. none_first _ (rates_two find) (number_none find (codes "stop") v 0 2 e dash),
  (
    λ e. none_then _ (rates_two find) (λ a. none_first _ (rates_three find a) (number_none find (codes "wait") v 0 20 e dash)),
    (
      λ e. none_then _ (rates_two find) (λ a. none_then _ (rates_three find a) (λ b. none_first _ (rates_four find a b) (number_none find (codes "trip-num") v 0 2 e dash))),
      (
        λ e. none_then _ (rates_two find) (λ a. none_then _ (rates_three find a) (λ b. none_then _ (rates_four find a b) (λ c. none_first _ (rates_five find a b c) (number_none find (codes "trip-den") v 1 1 e dash)))),
        (
          λ e. none_then _ (rates_two find) (λ a. none_then _ (rates_three find a) (λ b. none_then _ (rates_four find a b) (λ c. none_then _ (rates_five find a b c) (λ d.
              none_first _ (rates_six find a b c d) (number_none find (codes "trip-add") v 0 10 e dash))))),
          (
            λ e. none_then _ (rates_two find) (λ a. none_then _ (rates_three find a) (λ b. none_then _ (rates_four find a b) (λ c. none_then _ (rates_five find a b c) (λ d.
                none_then _ (rates_six find a b c d) (λ f. none_first _ (rates_seven find a b c d f) (number_none find (codes "wait-weight") v 0 1 e dash)))))),
            (
              λ e. none_then _ (rates_two find) (λ a. none_then _ (rates_three find a) (λ b. none_then _ (rates_four find a b) (λ c. none_then _ (rates_five find a b c) (λ d.
                  none_then _ (rates_six find a b c d) (λ f. none_then _ (rates_seven find a b c d f) (λ g. none_first _ (rates_last a b c d f g) (number_none find (codes "trip-weight") v 0 1 e dash))))))),
              tt,
            ),
          ),
        ),
      ),
    ),
  ),
) o is e
