use Rattle.std.proofs.Common.{◌≡◌, ◌∙◌, ◌&&◌, Bool, cond, true, false, not, refl, sym, ap, List, [], ◌∷◌, map, Option, Some, None, option_map}
use Rattle.std.specs.List.{list_all, list_any}
use Rattle.command_words.specs.Commands.{Command, Meaning, Ends, Names, Plain, Valued, Awaits, Refused, Said, Word, bare_option, begins_with_dash, dashed_meaning, is_dash, is_equals, is_one_of, joined_option, kept_where, long_meaning, meaning_of, nothing, option_meaning, said_by, said_from, with_name, with_plain, with_value}
use Rattle.command_words.proofs.Uses.{Use, Name, Value, Flag, is_dashed, uses_by, uses_from}
use Rattle.command_words.proofs.UsesSaid.{AreOf, split}

-- What is said, by what words use.

-- a meaning's options are those of the command
abbrev pub IsMeant : Command → Meaning → Type 0
IsMeant k Ends = Unit {0}
IsMeant k Names = Unit {0}
IsMeant k (Plain o) = is_one_of k.plain o ≡ true
IsMeant k (Valued o v) = is_one_of k.valued o ≡ true
IsMeant k (Awaits o) = is_one_of k.valued o ≡ true
IsMeant k Refused = Unit {0}

joined_meant : (k : Command) (o v : Word) → IsMeant k (joined_option k o v)
joined_meant k o v = go (is_one_of k.valued o) refl
  where
    go : (t : Bool) → is_one_of k.valued o ≡ t → IsMeant k (cond t (Valued o v) Refused)
    go true e = e
    go false e = tt

bare_meant : (k : Command) (o : Word) → IsMeant k (bare_option k o)
bare_meant k o = go (is_one_of k.valued o) refl (is_one_of k.plain o) refl
  where
    go : (t : Bool) → is_one_of k.valued o ≡ t → (s : Bool) → is_one_of k.plain o ≡ s → IsMeant k (cond t (Awaits o) (cond s (Plain o) Refused))
    go true e s f = e
    go false e true f = f
    go false e false f = tt

either_meant : (k : Command) (t : Bool) (a b : Meaning) → IsMeant k a → IsMeant k b → IsMeant k (cond t a b)
either_meant k true a b x y = x
either_meant k false a b x y = y

option_meant : (k : Command) (text : Word) → IsMeant k (option_meaning k text)
option_meant k text = either_meant k (list_any is_equals text) _ _ (joined_meant k _ _) (bare_meant k text)

long_meant : (k : Command) (bs : Word) → IsMeant k (long_meaning k bs)
long_meant k [] = tt
long_meant k (b ∷ bs) = option_meant k (b ∷ bs)

dashed_meant : (k : Command) (bs : Word) → IsMeant k (dashed_meaning k bs)
dashed_meant k [] = tt
dashed_meant k (b ∷ bs) = either_meant k (is_dash b) _ _ (long_meant k bs) tt

pub word_meant : (k : Command) (x : Word) → IsMeant k (meaning_of k x)
word_meant k [] = tt
word_meant k (b ∷ bs) = either_meant k (is_dash b) _ _ (dashed_meant k bs) tt

-- the uses, if there are some, are those of the command
abbrev pub AreOfOption : Command → Option (List Use) → Type 0
AreOfOption k None = Unit {0}
AreOfOption k (Some us) = AreOf k us

names_of_command : (k : Command) (ws : List Word) → AreOf k (map Name ws)
names_of_command k [] = tt
names_of_command k (w ∷ ws) = names_of_command k ws

more_of_command : (k : Command) (u : Use) (uses : Option (List Use)) → ((us : List Use) → AreOf k us → AreOf k (u ∷ us)) → AreOfOption k uses → AreOfOption k (option_map (λ us. u ∷ us) uses)
more_of_command k u None f h = tt
more_of_command k u (Some us) f h = f us h

meant_of_command : (k : Command) (m : Meaning) (x : Word) (xs : List Word) (uses : Option (List Use)) (waiting : Word → Option (List Use)) → IsMeant k m
    → AreOfOption k uses → ((o : Word) → is_one_of k.valued o ≡ true → AreOfOption k (waiting o)) → AreOfOption k (uses_by m x xs uses waiting)
meant_of_command k Ends x xs uses waiting is h f = names_of_command k xs
meant_of_command k Names x xs uses waiting is h f = more_of_command k (Name x) uses (λ us g. g) h
meant_of_command k (Plain o) x xs uses waiting is h f = more_of_command k (Flag o) uses (λ us g. (is, g)) h
meant_of_command k (Valued o v) x xs uses waiting is h f = more_of_command k (Value o v) uses (λ us g. (is, g)) h
meant_of_command k (Awaits o) x xs uses waiting is h f = f o is
meant_of_command k Refused x xs uses waiting is h f = tt

none_or : (k : Command) (t : Bool) (uses : Option (List Use)) → AreOfOption k uses → AreOfOption k (cond t None uses)
none_or k true uses h = tt
none_or k false uses h = h

pub uses_of_command : (k : Command) (words : List Word) → AreOfOption k (uses_from k words None) × ((o : Word) → is_one_of k.valued o ≡ true → AreOfOption k (uses_from k words (Some o)))
uses_of_command k [] = (tt, λ o is. tt)
uses_of_command k (x ∷ xs) =
    let rest = uses_of_command k xs in (
      meant_of_command k (meaning_of k x) x xs (uses_from k xs None) (λ o. uses_from k xs (Some o)) (word_meant k x) rest.0 rest.1,
      λ o is. none_or k (is_dashed x) _ (more_of_command k (Value o x) (uses_from k xs None) (λ us g. (is, g)) rest.0),
    )

-- ---- a dash alone as a value

abbrev pub has_no_dash : Said → Bool
has_no_dash s = list_all (λ o. not (begins_with_dash o.1)) s.valued

-- what is said, but for values that begin with a dash
abbrev pub sound : Option Said → Option Said
sound = kept_where has_no_dash

abbrev pub said_so : Option (List Use) → Option Said
said_so = option_map split

sound_name : (w : Word) (a b : Option Said) → sound a ≡ sound b → sound (option_map (with_name w) a) ≡ sound (option_map (with_name w) b)
sound_name w a b e = out a ∙ ap (option_map (with_name w)) e ∙ sym (out b)
  where
    out : (a : Option Said) → sound (option_map (with_name w) a) ≡ option_map (with_name w) (sound a)
    out None = refl
    out (Some s) = go (has_no_dash s)
      where
        go : (t : Bool) → cond t (Some (with_name w s)) None ≡ option_map (with_name w) (cond t (Some s) None)
        go true = refl
        go false = refl

sound_plain : (w : Word) (a b : Option Said) → sound a ≡ sound b → sound (option_map (with_plain w) a) ≡ sound (option_map (with_plain w) b)
sound_plain w a b e = out a ∙ ap (option_map (with_plain w)) e ∙ sym (out b)
  where
    out : (a : Option Said) → sound (option_map (with_plain w) a) ≡ option_map (with_plain w) (sound a)
    out None = refl
    out (Some s) = go (has_no_dash s)
      where
        go : (t : Bool) → cond t (Some (with_plain w s)) None ≡ option_map (with_plain w) (cond t (Some s) None)
        go true = refl
        go false = refl

sound_value : (o v : Word) (a : Option Said) → sound (option_map (with_value o v) a) ≡ cond (begins_with_dash v) None (option_map (with_value o v) (sound a))
sound_value o v None = go (begins_with_dash v)
  where
    go : (t : Bool) → ◌≡◌ {A = Option Said} None (cond t None None)
    go true = refl
    go false = refl
sound_value o v (Some s) = go (begins_with_dash v) (has_no_dash s)
  where
    go : (t u : Bool) → cond (not t && u) (Some (with_value o v s)) None ≡ cond t None (option_map (with_value o v) (cond u (Some s) None))
    go true u = refl
    go false true = refl
    go false false = refl

split_names : (ws : List Word) → split (map Name ws) ≡ record nothing { names = ws }
split_names [] = refl
split_names (w ∷ ws) = ap (with_name w) (split_names ws)

out_of : (u : Use) (f : Said → Said) (uses : Option (List Use)) → ((us : List Use) → split (u ∷ us) ≡ f (split us)) → said_so (option_map (λ us. u ∷ us) uses) ≡ option_map f (said_so uses)
out_of u f None h = refl
out_of u f (Some us) h = ap Some (h us)

meaning_sound : (m : Meaning) (x : Word) (xs : List Word) (said : Option Said) (uses : Option (List Use)) (waits : Word → Option Said) (waiting : Word → Option (List Use))
    → sound said ≡ sound (said_so uses) → ((o : Word) → sound (waits o) ≡ sound (said_so (waiting o)))
    → sound (said_by m x xs said waits) ≡ sound (said_so (uses_by m x xs uses waiting))
meaning_sound Ends x xs said uses waits waiting e f = ap (λ s. sound (Some s)) (sym (split_names xs))
meaning_sound Names x xs said uses waits waiting e f = sound_name x said (said_so uses) e ∙ ap sound (sym (out_of (Name x) (with_name x) uses (λ us. refl)))
meaning_sound (Plain o) x xs said uses waits waiting e f = sound_plain o said (said_so uses) e ∙ ap sound (sym (out_of (Flag o) (with_plain o) uses (λ us. refl)))
meaning_sound (Valued o v) x xs said uses waits waiting e f =
    sound_value o v said ∙ ap (λ s. cond (begins_with_dash v) None (option_map (with_value o v) s)) e ∙ sym (sound_value o v (said_so uses))
    ∙ ap sound (sym (out_of (Value o v) (with_value o v) uses (λ us. refl)))
meaning_sound (Awaits o) x xs said uses waits waiting e f = f o
meaning_sound Refused x xs said uses waits waiting e f = refl

-- a word that begins with a dash is no value for either, or a dash alone
dash_cases : (x : Word) (a b : Option Said) → sound a ≡ sound b → (o : Word)
    → sound (cond (begins_with_dash x) None (option_map (with_value o x) a)) ≡ sound (cond (is_dashed x) None (option_map (with_value o x) b))
dash_cases [] a b e o = sound_value o [] a ∙ ap (option_map (with_value o [])) e ∙ sym (sound_value o [] b)
dash_cases (c ∷ []) a b e o = go (is_dash c) refl
  where
    go : (t : Bool) → is_dash c ≡ t → sound (cond t None (option_map (with_value o (c ∷ [])) a)) ≡ sound (option_map (with_value o (c ∷ [])) b)
    go true is = sym (sound_value o (c ∷ []) b ∙ ap (λ t. cond t None (option_map (with_value o (c ∷ [])) (sound b))) is)
    go false is = sound_value o (c ∷ []) a ∙ ap (λ s. cond (is_dash c) None (option_map (with_value o (c ∷ [])) s)) e ∙ sym (sound_value o (c ∷ []) b)
dash_cases (c ∷ d ∷ ds) a b e o = go (is_dash c)
  where
    go : (t : Bool) → sound (cond t None (option_map (with_value o (c ∷ d ∷ ds)) a)) ≡ sound (cond t None (option_map (with_value o (c ∷ d ∷ ds)) b))
    go true = refl
    go false = sound_value o (c ∷ d ∷ ds) a ∙ ap (λ s. cond (is_dash c) None (option_map (with_value o (c ∷ d ∷ ds)) s)) e ∙ sym (sound_value o (c ∷ d ∷ ds) b)

pub same_sound : (k : Command) (words : List Word)
    → (sound (said_from k None words) ≡ sound (said_so (uses_from k words None))) × ((o : Word) → sound (said_from k (Some o) words) ≡ sound (said_so (uses_from k words (Some o))))
same_sound k [] = (refl, λ o. refl)
same_sound k (x ∷ xs) =
    let rest = same_sound k xs in (
      meaning_sound (meaning_of k x) x xs (said_from k None xs) (uses_from k xs None) (λ o. said_from k (Some o) xs) (λ o. uses_from k xs (Some o)) rest.0 rest.1,
      λ o. dash_cases x (said_from k None xs) (said_so (uses_from k xs None)) rest.0 o
          ∙ ap (λ s. sound (cond (is_dashed x) None s)) (sym (out_of (Value o x) (with_value o x) (uses_from k xs None) (λ us. refl))) ∙ ap sound (sym (none_out (is_dashed x) (option_map (λ us. Value o x ∷ us) (uses_from k xs None)))),
    )
  where
    none_out : (t : Bool) (uses : Option (List Use)) → said_so (cond t None uses) ≡ cond t None (said_so uses)
    none_out true uses = refl
    none_out false uses = refl
