use Rattle.std.proofs.Common.{◌≡◌, ℕ, ◌≤◌, ◌==◌, Bool, true, false, ◌&&◌, cond, List, [], ◌∷◌, ◌++◌, length, Option, Some, None, refl, sym, ap, ◌∙◌, subst, append-nil, arith}
use Rattle.std.proofs.lemmas.Bool.Decides.{nat_tests}
use Rattle.std.specs.Prelude.{nat_le, nat_lt}
use Rattle.std.specs.Fmt.{decimal}
use Rattle.ride_base.specs.declared.numbers.RequestNo.{RequestNo}
use Rattle.stop_schedule.specs.declared.stop.Insertion.{Insertion}
use Rattle.board_core.specs.declared.entry.Submitted.TheVariants.{Accepted, Refused}
use Rattle.journal_text.specs.declared.heads.Head.{Head}
use Rattle.journal_text.specs.declared.heads.Head.TheVariants.{Ride, Claim, Back, Offer, Nobody, Clock, Behind, Asked, Declined, Removal, Shut}
use Rattle.journal_text.specs.Groups.{numbers_line}
use Rattle.journal_text.specs.Forms.{largest_number, latest_clock, largest_32, largest_position, is_number, is_32}
use Rattle.journal_text.specs.LineHeads.{at_end, request_at_end, ride_in, claim_in, offer_in, clock_in, head_in, with_request, spaces_at_end, place_ahead, prices_at_end}
use Rattle.journal_text.specs.DraftTexts.{is_head, head_text}
use Rattle.journal_text.proofs.Spelling.{both_hold, le_holds, le_from, same_value, is_clean, IsSpaced, spaced_end, spaced_more, was_then, was_number, was_end, was_unless}

-- The first lines of groups that were read, and the heads that they come to.

-- the heads that first lines come to
abbrev pub is_first : Head → Bool
is_first (Ride r Accepted) = true
is_first (Ride r (Refused reason)) = false
is_first (Claim asked desk) = true
is_first (Back asked) = true
is_first (Offer asked o) = true
is_first (Nobody asked) = true
is_first (Clock now) = true
is_first (Behind now clock) = false
is_first (Asked asked) = true
is_first (Declined asked reason) = false
is_first (Removal asked x) = false
is_first Shut = true

pub record WasFirst (line : List ℕ) (head : Head) : Type 0 where
  pub spelled : head_text head ≡ line ++ 10 ∷ []
  pub clean : is_clean line ≡ true
  pub short : length line ≤ 65536
  pub valid : is_head head ≡ true
  pub kind : is_first head ≡ true

request_was : (rest : List ℕ) (asked : RequestNo) → request_at_end rest ≡ Some asked → (IsSpaced rest (asked.0 ∷ [])) × (is_number asked.0 ≡ true)
request_was rest asked e =
    let a = was_number rest largest_number _ asked (omega arith) e in
    let z = was_end _ a.behind asked a.gave in
    let same : a.number ≡ asked.0 = ap (λ (r : RequestNo). r.0) z.1 in
    let s = spaced_more rest a.behind a.number largest_number [] a.spelled a.within (omega arith) (spaced_end a.behind z.0) in
    (subst (λ n. IsSpaced rest (n ∷ [])) same s, ap is_number (sym same) ∙ le_holds a.number largest_number a.within)

-- a line of a letter and numbers
numbered : (letter : ℕ) (rest ns : List ℕ) → IsSpaced rest ns → numbers_line letter ns ≡ (letter ∷ rest) ++ 10 ∷ []
numbered letter rest ns s = ap (λ l. letter ∷ l ++ 10 ∷ []) (sym s.spelled)

claim_was : (rest : List ℕ) (head : Head) → claim_in rest ≡ Some head → WasFirst (107 ∷ rest) head
claim_was rest head e =
    let a = was_number rest largest_number _ head (omega arith) e in
    let b = was_number a.behind largest_number _ head (omega arith) a.gave in
    let z = was_end _ b.behind head b.gave in
    let s = spaced_more rest a.behind a.number largest_number (b.number ∷ []) a.spelled a.within (omega arith)
    (spaced_more a.behind b.behind b.number largest_number [] b.spelled b.within (omega arith) (spaced_end b.behind z.0)) in
    subst (WasFirst (107 ∷ rest)) z.1 (record {
      spelled = numbered 107 rest (a.number ∷ b.number ∷ []) s;
      clean = s.clean;
      short = omega (arith, s.short);
      valid = both_hold (is_number a.number) (is_number b.number) (le_holds a.number largest_number a.within) (le_holds b.number largest_number b.within);
      kind = refl;
    })

clock_was : (rest : List ℕ) (head : Head) → clock_in rest ≡ Some head → WasFirst (116 ∷ rest) head
clock_was rest head e =
    let a = was_number rest latest_clock _ head (omega arith) e in
    let z = was_end _ a.behind head a.gave in
    let s = spaced_more rest a.behind a.number latest_clock [] a.spelled a.within (omega arith) (spaced_end a.behind z.0) in
    subst (WasFirst (116 ∷ rest)) z.1 (record {
      spelled = numbered 116 rest (a.number ∷ []) s;
      clean = s.clean;
      short = omega (arith, s.short);
      valid = le_holds a.number latest_clock a.within;
      kind = refl;
    })

back_was : (rest : List ℕ) (head : Head) → with_request Back (request_at_end rest) ≡ Some head → WasFirst (98 ∷ rest) head
back_was rest head e = by (request_at_end rest) refl e
  where
    by : (o : Option RequestNo) → request_at_end rest ≡ o → with_request Back o ≡ Some head → WasFirst (98 ∷ rest) head
    by None o e = absurd cc
    by (Some asked) o e =
        let was = request_was rest asked o in
        subst (WasFirst (98 ∷ rest)) (same_value (Back asked) head e) (record { spelled = numbered 98 rest (asked.0 ∷ []) was.0; clean = was.0.clean; short = omega (arith, was.0.short); valid = was.1; kind = refl })

nobody_was : (rest : List ℕ) (head : Head) → with_request Nobody (request_at_end rest) ≡ Some head → WasFirst (110 ∷ rest) head
nobody_was rest head e = by (request_at_end rest) refl e
  where
    by : (o : Option RequestNo) → request_at_end rest ≡ o → with_request Nobody o ≡ Some head → WasFirst (110 ∷ rest) head
    by None o e = absurd cc
    by (Some asked) o e =
        let was = request_was rest asked o in
        subst (WasFirst (110 ∷ rest)) (same_value (Nobody asked) head e) (record { spelled = numbered 110 rest (asked.0 ∷ []) was.0; clean = was.0.clean; short = omega (arith, was.0.short); valid = was.1; kind = refl })

asked_was : (rest : List ℕ) (head : Head) → with_request Asked (request_at_end rest) ≡ Some head → WasFirst (121 ∷ rest) head
asked_was rest head e = by (request_at_end rest) refl e
  where
    by : (o : Option RequestNo) → request_at_end rest ≡ o → with_request Asked o ≡ Some head → WasFirst (121 ∷ rest) head
    by None o e = absurd cc
    by (Some asked) o e =
        let was = request_was rest asked o in
        subst (WasFirst (121 ∷ rest)) (same_value (Asked asked) head e) (record { spelled = numbered 121 rest (asked.0 ∷ []) was.0; clean = was.0.clean; short = omega (arith, was.0.short); valid = was.1; kind = refl })

shut_was : (rest : List ℕ) (head : Head) → at_end Shut rest ≡ Some head → WasFirst (122 ∷ rest) head
shut_was rest head e =
    let z = was_end Shut rest head e in
    subst (WasFirst (122 ∷ rest)) z.1 (record { spelled = ap (λ l. 122 ∷ l ++ 10 ∷ []) (sym z.0); clean = ap is_clean z.0; short = omega (arith, ap length z.0); valid = refl; kind = refl })

-- the wheelchair spaces at the end of a request, where they are told
spaces_was : (rest : List ℕ) (s : ℕ) → spaces_at_end rest ≡ Some s → (IsSpaced rest (cond (s == 0) [] (s ∷ []))) × (is_32 s ≡ true)
spaces_was [] s e =
    let none : 0 ≡ s = same_value 0 s e in
    (subst (λ n. IsSpaced [] (cond (n == 0) [] (n ∷ []))) none (spaced_end [] refl), subst (λ n. is_32 n ≡ true) none refl)
spaces_was (b ∷ bs) s e =
    let a = was_number (b ∷ bs) largest_32 _ s (omega arith) e in
    let t = was_unless (a.number == 0) (at_end a.number a.behind) s a.gave in
    let z = was_end a.number a.behind s t.1 in
    let p = spaced_more (b ∷ bs) a.behind a.number largest_32 [] a.spelled a.within (omega arith) (spaced_end a.behind z.0) in
    let q : IsSpaced (b ∷ bs) (cond (a.number == 0) [] (a.number ∷ [])) = subst (λ u. IsSpaced (b ∷ bs) (cond u [] (a.number ∷ []))) (sym t.0) p in
    (subst (λ n. IsSpaced (b ∷ bs) (cond (n == 0) [] (n ∷ []))) z.1 q, subst (λ n. is_32 n ≡ true) z.1 (le_holds a.number largest_32 a.within))

tail_few : (t : Bool) (n : ℕ) → length (cond t [] (n ∷ [])) ≤ 1
tail_few true n = omega arith
tail_few false n = omega arith

ride_was : (rest : List ℕ) (head : Head) → ride_in rest ≡ Some head → WasFirst (114 ∷ rest) head
ride_was rest head e =
    let a = was_number rest largest_number _ head (omega arith) e in
    let b = was_number a.behind largest_32 _ head (omega arith) a.gave in
    let c = was_number b.behind largest_32 _ head (omega arith) b.gave in
    let d = was_number c.behind largest_number _ head (omega arith) c.gave in
    let f = was_number d.behind largest_32 _ head (omega arith) d.gave in
    let g = was_then (spaces_at_end f.behind) _ head f.gave in
    let w = spaces_was f.behind g.value g.was in
    let tail : List ℕ = cond (g.value == 0) [] (g.value ∷ []) in
    let s = spaced_more rest a.behind a.number largest_number (b.number ∷ c.number ∷ d.number ∷ f.number ∷ tail) a.spelled a.within (omega arith)
    (spaced_more a.behind b.behind b.number largest_32 (c.number ∷ d.number ∷ f.number ∷ tail) b.spelled b.within (omega arith)
    (spaced_more b.behind c.behind c.number largest_32 (d.number ∷ f.number ∷ tail) c.spelled c.within (omega arith)
    (spaced_more c.behind d.behind d.number largest_number (f.number ∷ tail) d.spelled d.within (omega arith)
    (spaced_more d.behind f.behind f.number largest_32 tail f.spelled f.within (omega arith) w.0)))) in
    subst (WasFirst (114 ∷ rest)) (same_value _ head g.gave) (record {
      spelled = append-nil (numbers_line 114 (a.number ∷ b.number ∷ c.number ∷ d.number ∷ f.number ∷ tail)) ∙ numbered 114 rest (a.number ∷ b.number ∷ c.number ∷ d.number ∷ f.number ∷ tail) s;
      clean = s.clean;
      short = omega (arith, s.short, tail_few (g.value == 0) g.value);
      valid = both_hold _ _ (le_holds a.number largest_number a.within) (both_hold _ _ (le_holds b.number largest_32 b.within) (both_hold _ _ (le_holds c.number largest_32 c.within)
          (both_hold _ _ (le_holds d.number largest_number d.within) (both_hold _ _ (le_holds f.number largest_32 f.within) w.1))));
      kind = refl;
    })

pub record WasPlace (bytes : List ℕ) (place : Insertion) (behind : List ℕ) : Type 0 where
  pub between : List ℕ
  pub first : bytes ≡ 32 ∷ decimal place.i ++ between
  pub second : between ≡ 32 ∷ decimal place.j ++ behind
  pub order : nat_le place.i place.j ≡ true
  pub within : place.j ≤ largest_position

place_was : (bytes : List ℕ) (place : Insertion) (behind : List ℕ) → place_ahead bytes ≡ Some (place, behind) → WasPlace bytes place behind
place_was bytes place behind e =
    let a = was_number bytes largest_position _ (place, behind) (omega arith) e in
    let b = was_number a.behind largest_position _ (place, behind) (omega arith) a.gave in
    let t = was_unless (nat_lt b.number a.number) _ (place, behind) b.gave in
    let same = same_value _ (place, behind) t.1 in
    let i : a.number ≡ place.i = ap (λ (p : Insertion × List ℕ). p.0.i) same in
    let j : b.number ≡ place.j = ap (λ (p : Insertion × List ℕ). p.0.j) same in
    let r : b.behind ≡ behind = ap (λ (p : Insertion × List ℕ). p.1) same in
    record {
      between = a.behind;
      first = a.spelled ∙ ap (λ n. 32 ∷ decimal n ++ a.behind) i;
      second = b.spelled ∙ ap (λ n. 32 ∷ decimal n ++ b.behind) j ∙ ap (λ l. 32 ∷ decimal place.j ++ l) r;
      order = let le : a.number ≤ b.number = grind (arith, nat_tests, t.0) in le_holds place.i place.j (omega (arith, i, j, le));
      within = omega (arith, j, b.within);
    }

prices_was : (bytes : List ℕ) (p : ℕ × ℕ × ℕ) → prices_at_end bytes ≡ Some p
    → (IsSpaced bytes (p.0 ∷ p.1 ∷ p.2 ∷ [])) × ((is_number p.0 && (is_number p.1 && is_number p.2)) ≡ true)
prices_was bytes p e =
    let a = was_number bytes largest_number _ p (omega arith) e in
    let b = was_number a.behind largest_number _ p (omega arith) a.gave in
    let c = was_number b.behind largest_number _ p (omega arith) b.gave in
    let z = was_end _ c.behind p c.gave in
    let s = spaced_more bytes a.behind a.number largest_number (b.number ∷ c.number ∷ []) a.spelled a.within (omega arith)
    (spaced_more a.behind b.behind b.number largest_number (c.number ∷ []) b.spelled b.within (omega arith)
    (spaced_more b.behind c.behind c.number largest_number [] c.spelled c.within (omega arith) (spaced_end c.behind z.0))) in
    subst (λ (q : ℕ × ℕ × ℕ). (IsSpaced bytes (q.0 ∷ q.1 ∷ q.2 ∷ [])) × ((is_number q.0 && (is_number q.1 && is_number q.2)) ≡ true)) z.1
    (s, both_hold _ _ (le_holds a.number largest_number a.within) (both_hold _ _ (le_holds b.number largest_number b.within) (le_holds c.number largest_number c.within)))

offer_was : (rest : List ℕ) (head : Head) → offer_in rest ≡ Some head → WasFirst (97 ∷ rest) head
offer_was rest head e =
    let a = was_number rest largest_number _ head (omega arith) e in
    let b = was_number a.behind largest_32 _ head (omega arith) a.gave in
    let c = was_then (place_ahead b.behind) _ head b.gave in
    let p = place_was b.behind c.value.0 c.value.1 c.was in
    let d = was_then (prices_at_end c.value.1) _ head c.gave in
    let q = prices_was c.value.1 d.value d.was in
    let order : c.value.0.i ≤ c.value.0.j = le_from c.value.0.i c.value.0.j p.order in
    let s = spaced_more rest a.behind a.number largest_number (b.number ∷ c.value.0.i ∷ c.value.0.j ∷ d.value.0 ∷ d.value.1 ∷ d.value.2 ∷ []) a.spelled a.within (omega arith)
    (spaced_more a.behind b.behind b.number largest_32 (c.value.0.i ∷ c.value.0.j ∷ d.value.0 ∷ d.value.1 ∷ d.value.2 ∷ []) b.spelled b.within (omega arith)
    (spaced_more b.behind p.between c.value.0.i largest_position (c.value.0.j ∷ d.value.0 ∷ d.value.1 ∷ d.value.2 ∷ []) p.first (omega (arith, order, p.within)) (omega arith)
    (spaced_more p.between c.value.1 c.value.0.j largest_position (d.value.0 ∷ d.value.1 ∷ d.value.2 ∷ []) p.second p.within (omega arith) q.0))) in
    subst (WasFirst (97 ∷ rest)) (same_value _ head d.gave) (record {
      spelled = numbered 97 rest (a.number ∷ b.number ∷ c.value.0.i ∷ c.value.0.j ∷ d.value.0 ∷ d.value.1 ∷ d.value.2 ∷ []) s;
      clean = s.clean;
      short = omega (arith, s.short);
      valid = both_hold _ _ (le_holds a.number largest_number a.within) (both_hold _ _ (le_holds b.number largest_32 b.within) (both_hold _ _ p.order
          (both_hold _ _ (le_holds c.value.0.j largest_position p.within) q.1)));
      kind = refl;
    })

-- one letter after the other
lettered : (letter n : ℕ) (x : List ℕ) (head : Head) (o other : Option Head) → (o ≡ Some head → WasFirst (n ∷ x) head) → (other ≡ Some head → WasFirst (letter ∷ x) head)
    → cond (letter == n) o other ≡ Some head → WasFirst (letter ∷ x) head
lettered letter n x head o other same_letter asked e = by (letter == n) refl e
  where
    by : (t : Bool) → (letter == n) ≡ t → cond t o other ≡ Some head → WasFirst (letter ∷ x) head
    by true t e =
        let same : letter ≡ n = grind (arith, nat_tests) in
        subst (λ l. WasFirst (l ∷ x) head) (sym same) (same_letter e)
    by false t e = asked e

pub first_was : (line : List ℕ) (head : Head) → head_in line ≡ Some head → WasFirst line head
first_was [] head e = absurd cc
first_was (letter ∷ rest) head e =
    lettered letter 114 rest head _ _ (ride_was rest head) (lettered letter 107 rest head _ _ (claim_was rest head) (lettered letter 98 rest head _ _ (back_was rest head)
    (lettered letter 97 rest head _ _ (offer_was rest head) (lettered letter 110 rest head _ _ (nobody_was rest head) (lettered letter 116 rest head _ _ (clock_was rest head)
    (lettered letter 121 rest head _ _ (asked_was rest head) (lettered letter 122 rest head _ None (shut_was rest head) (λ f. absurd cc)))))))) e
