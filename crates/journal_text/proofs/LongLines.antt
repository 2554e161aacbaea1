use Rattle.std.proofs.Common.{◌≡◌, ℕ, zero, suc, ◌+◌, ◌*◌, ◌%◌, ◌≤◌, ◌<◌, List, [], ◌∷◌, ◌++◌, length, refl, sym, ap, ◌∙◌, append_assoc, arith}
use Rattle.std.specs.Fmt.{decimal}
use Rattle.road_graph.specs.declared.road.NodeNo.{NodeNo}
use Rattle.journal_text.specs.Groups.{spaced, nodes_after}
use Rattle.journal_text.specs.Certificates.{pairs_after, direct_after}
use Rattle.journal_text.proofs.Spelling.{spaced_append}

-- Items that go on over several lines: nodes of a walk and of a direct walk, and pairs.

-- the numbers of items
abbrev pub numbers_of_items : {X : Type 0} → (X → List ℕ) → List X → List ℕ
numbers_of_items of [] = []
numbers_of_items of (x ∷ xs) = of x ++ numbers_of_items of xs

abbrev pub node_number : NodeNo → List ℕ
node_number n = n.0 ∷ []

abbrev pub pair_numbers : NodeNo × ℕ → List ℕ
pair_numbers pair = pair.0.0 ∷ pair.1 ∷ []

pub length-nodes : (nodes : List NodeNo) → length (numbers_of_items node_number nodes) ≡ length nodes
length-nodes [] = refl
length-nodes (n ∷ nodes) = ap suc (length-nodes nodes)

pub length-pairs : (pairs : List (NodeNo × ℕ)) → length (numbers_of_items pair_numbers pairs) ≡ 2 * length pairs
length-pairs [] = refl
length-pairs (p ∷ pairs) = omega (arith, length-pairs pairs)

pub numbers_of_items-append : {X : Type 0} (of : X → List ℕ) (xs ys : List X) → numbers_of_items of (xs ++ ys) ≡ numbers_of_items of xs ++ numbers_of_items of ys
numbers_of_items-append of [] ys = refl
numbers_of_items-append of (x ∷ xs) ys = ap (λ l. of x ++ l) (numbers_of_items-append of xs ys) ∙ sym (append_assoc (of x) (numbers_of_items of xs) (numbers_of_items of ys))

-- The items where `left` more go on this line. A full line ends, and the next one begins by `front` and has one item more than `width`.
abbrev pub after : {X : Type 0} (of : X → List ℕ) (front : List ℕ) (width left : ℕ) → List X → List ℕ
after of front width left [] = 10 ∷ []
after of front width zero (x ∷ xs) = 10 ∷ front ++ spaced (of x) ++ after of front width width xs
after of front width (suc left) (x ∷ xs) = spaced (of x) ++ after of front width left xs

pub nodes_are : (leg left : ℕ) (nodes : List NodeNo) → nodes_after leg left nodes ≡ after node_number (104 ∷ 32 ∷ decimal leg) 63 left nodes
nodes_are leg left [] = refl
nodes_are leg zero (n ∷ nodes) = ap (λ l. 10 ∷ 104 ∷ spaced (leg ∷ n.0 ∷ []) ++ l) (nodes_are leg 63 nodes)
nodes_are leg (suc left) (n ∷ nodes) = ap (λ l. spaced (n.0 ∷ []) ++ l) (nodes_are leg left nodes)

pub direct_is : (left : ℕ) (nodes : List NodeNo) → direct_after left nodes ≡ after node_number (102 ∷ []) 63 left nodes
direct_is left [] = refl
direct_is zero (n ∷ nodes) = ap (λ l. 10 ∷ 102 ∷ spaced (n.0 ∷ []) ++ l) (direct_is 63 nodes)
direct_is (suc left) (n ∷ nodes) = ap (λ l. spaced (n.0 ∷ []) ++ l) (direct_is left nodes)

pub pairs_are : (left : ℕ) (pairs : List (NodeNo × ℕ)) → pairs_after left pairs ≡ after pair_numbers (119 ∷ []) 31 left pairs
pairs_are left [] = refl
pairs_are zero (pair ∷ pairs) = ap (λ l. 10 ∷ 119 ∷ spaced (pair.0.0 ∷ pair.1 ∷ []) ++ l) (pairs_are 31 pairs)
pairs_are (suc left) (pair ∷ pairs) = ap (λ l. spaced (pair.0.0 ∷ pair.1 ∷ []) ++ l) (pairs_are left pairs)

one_more : (xs ys : List ℕ) → spaced xs ++ (spaced ys ++ 10 ∷ []) ≡ spaced (xs ++ ys) ++ 10 ∷ []
one_more xs ys = sym (append_assoc (spaced xs) (spaced ys) (10 ∷ [])) ∙ ap (λ l. l ++ 10 ∷ []) (sym (spaced_append xs ys))

-- items that fit on this line
pub after_short : {X : Type 0} (of : X → List ℕ) (front : List ℕ) (width left : ℕ) (xs : List X) → length xs ≤ left → after of front width left xs ≡ spaced (numbers_of_items of xs) ++ 10 ∷ []
after_short of front width left [] h = refl
after_short of front width zero (x ∷ xs) h = absurd (omega arith)
after_short of front width (suc left) (x ∷ xs) h = ap (λ l. spaced (of x) ++ l) (after_short of front width left xs (omega arith)) ∙ one_more (of x) (numbers_of_items of xs)

-- how many more go on the line behind these items
abbrev pub left_behind : {X : Type 0} (width left : ℕ) → List X → ℕ
left_behind width left [] = left
left_behind width zero (x ∷ xs) = left_behind width width xs
left_behind width (suc left) (x ∷ xs) = left_behind width left xs

-- behind full lines, a line more
pub after_more : {X : Type 0} (of : X → List ℕ) (front : List ℕ) (width left : ℕ) (xs : List X) (x : X) (more : List X) → left_behind width left xs ≡ 0 → length more ≤ width
    → after of front width left (xs ++ x ∷ more) ≡ after of front width left xs ++ (front ++ spaced (numbers_of_items of (x ∷ more)) ++ 10 ∷ [])
after_more of front width zero [] x more full few =
    ap (λ l. 10 ∷ front ++ spaced (of x) ++ l) (after_short of front width width more few)
    ∙ append_assoc (10 ∷ front) (spaced (of x)) (spaced (numbers_of_items of more) ++ 10 ∷ [])
    ∙ ap (λ l. 10 ∷ front ++ l) (one_more (of x) (numbers_of_items of more))
    ∙ ap (λ l. 10 ∷ l) (sym (append_assoc front (spaced (of x ++ numbers_of_items of more)) (10 ∷ [])))
after_more of front width (suc left) [] x more full few = absurd (omega (arith, full))
after_more of front width zero (y ∷ ys) x more full few =
    ap (λ l. 10 ∷ front ++ spaced (of y) ++ l) (after_more of front width width ys x more full few)
    ∙ sym (append_assoc (10 ∷ front ++ spaced (of y)) (after of front width width ys) (front ++ spaced (numbers_of_items of (x ∷ more)) ++ 10 ∷ []))
after_more of front width (suc left) (y ∷ ys) x more full few =
    ap (λ l. spaced (of y) ++ l) (after_more of front width left ys x more full few)
    ∙ sym (append_assoc (spaced (of y)) (after of front width left ys) (front ++ spaced (numbers_of_items of (x ∷ more)) ++ 10 ∷ []))

-- how many lines were begun since
pub record AreBehind (width left size behind : ℕ) : Type 0 where
  pub lines : ℕ
  pub sum : behind + size ≡ left + lines * (width + 1)

pub are_behind : {X : Type 0} (width left : ℕ) (xs : List X) → AreBehind width left (length xs) (left_behind width left xs)
are_behind width left [] = record { lines = 0; sum = omega arith }
are_behind width zero (x ∷ xs) =
    let h = are_behind width width xs in
    record { lines = suc h.lines; sum = begun width (left_behind width width xs) (length xs) h.lines h.sum }
  where
    begun : (width b n t : ℕ) → b + n ≡ width + t * (width + 1) → b + suc n ≡ 0 + suc t * (width + 1)
    begun width b n t e = grind (arith, e)
are_behind width (suc left) (x ∷ xs) =
    let h = are_behind width left xs in
    record { lines = h.lines; sum = omega (arith, h.sum) }

pub left_behind_few : {X : Type 0} (width left : ℕ) (xs : List X) → left ≤ width → left_behind width left xs ≤ width
left_behind_few width left [] h = h
left_behind_few width zero (x ∷ xs) h = left_behind_few width width xs (omega arith)
left_behind_few width (suc left) (x ∷ xs) h = left_behind_few width left xs (omega arith)

whole_64 : (b n t : ℕ) → b < 64 → n % 64 ≡ 0 → b + n ≡ 64 + t * (63 + 1) → b ≡ 0
whole_64 b n t less whole e = grind (arith, less, whole, e)

whole_32 : (b n t : ℕ) → b < 32 → n % 32 ≡ 0 → b + n ≡ 0 + t * (31 + 1) → b ≡ 0
whole_32 b n t less whole e = grind (arith, less, whole, e)

-- lines of 64 items that are full
pub full_64 : {X : Type 0} (x : X) (xs : List X) → length (x ∷ xs) % 64 ≡ 0 → left_behind 63 64 (x ∷ xs) ≡ 0
full_64 x xs whole =
    let h = are_behind 63 64 (x ∷ xs) in
    let few = left_behind_few 63 63 xs (omega arith) in
    whole_64 (left_behind 63 64 (x ∷ xs)) (length (x ∷ xs)) h.lines (omega (arith, few)) whole h.sum

pub full_32 : {X : Type 0} (xs : List X) → length xs % 32 ≡ 0 → left_behind 31 0 xs ≡ 0
full_32 xs whole =
    let h = are_behind 31 0 xs in
    let few = left_behind_few 31 0 xs (omega arith) in
    whole_32 (left_behind 31 0 xs) (length xs) h.lines (omega (arith, few)) whole h.sum
