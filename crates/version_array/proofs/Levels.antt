use Rattle.std.proofs.Common.{◌≡◌, ℕ, zero, suc, ◌+◌, ◌-◌, ◌*◌, ◌/◌, ◌%◌, ◌<◌, ◌≤◌, List, [], ◌∷◌, ◌++◌, length, replicate, set, take, Some, slice_get, Result, Ok, Err, OnOk, OnErr, refl, sym, ap, ◌∙◌, subst, arith}
use Rattle.std.proofs.lemmas.List.{length-append, length-set, length-take-le, length-replicate, replicate-append-replicate, set-append_left, set-append_right, take-replicate}
use Rattle.std.proofs.lemmas.Nat.{mul-le}
use Rattle.std.proofs.Math.Seq.{take-set-lt}
use Rattle.version_array.specs.Levels.{chunk_at, set_below, joined, chunks_for, width_for, AreWide, values_of, IsLaid, root_index, middle_index, bottom_index}

-- the chunk of a place is one of those that are needed
pub chunk_within : (n i : ℕ) → i < n → i / 128 < chunks_for n
chunk_within n i h = grind arith

-- the place within the chunk is within its width
pub place_within : (n i : ℕ) → i < n → i % 128 < width_for n
place_within n i h = grind arith

-- the place from the chunk and the place within it
pub place_again : (n i : ℕ) → i < n → i / 128 * width_for n + i % 128 ≡ i
place_again n i h = grind arith

-- the chunks have room for all
pub room_for_all : (n : ℕ) → n ≤ chunks_for n * width_for n
room_for_all n = grind arith

module _ {X : Type 0} where
  -- an item of the first list
  pub slice_get-append_left : (xs ys : List X) (i : ℕ) → i < length xs → slice_get (xs ++ ys) i ≡ slice_get xs i
  slice_get-append_left [] ys i h = absurd (omega arith)
  slice_get-append_left (x ∷ xs) ys zero h = refl
  slice_get-append_left (x ∷ xs) ys (suc i) h = slice_get-append_left xs ys i (omega arith)

  -- an item of the second list
  pub slice_get-append_right : (xs ys : List X) (i : ℕ) → slice_get (xs ++ ys) (length xs + i) ≡ slice_get ys i
  slice_get-append_right [] ys i = ap (slice_get ys) (omega arith)
  slice_get-append_right (x ∷ xs) ys i =
      let e : length (x ∷ xs) + i ≡ suc (length xs + i) = omega arith in
      ap (slice_get (x ∷ xs ++ ys)) e ∙ slice_get-append_right xs ys i

  -- an item of a front of the list
  pub slice_get-take : (n : ℕ) (xs : List X) (i : ℕ) → i < n → slice_get (take n xs) i ≡ slice_get xs i
  slice_get-take zero xs i h = absurd (omega arith)
  slice_get-take (suc n) [] i h = refl
  slice_get-take (suc n) (x ∷ xs) zero h = refl
  slice_get-take (suc n) (x ∷ xs) (suc i) h = slice_get-take n xs i (omega arith)

  -- chunks of one value hold that value alone
  pub joined-replicate : (n m : ℕ) (x : X) → joined (replicate n (replicate m x)) ≡ replicate (n * m) x
  joined-replicate zero m x = let e : 0 ≡ 0 * m = omega arith in ap (λ (k : ℕ). replicate k x) e
  joined-replicate (suc n) m x =
      let e : m + n * m ≡ suc n * m = grind arith in
      ap (λ (zs : List X). replicate m x ++ zs) (joined-replicate n m x)
      ∙ replicate-append-replicate m (n * m) x
      ∙ ap (λ (k : ℕ). replicate k x) e

-- chunks of one width
module _ {X : Type 0} (w : ℕ) where
  -- how many items they have
  pub length-joined : (xss : List (List X)) → AreWide w xss → length (joined xss) ≡ length xss * w
  length-joined [] h = omega arith
  length-joined (xs ∷ xss) h = grind (arith, length-append xs (joined xss), length-joined xss h.1, h.0)

  -- one of them is as wide as all
  pub length_at : (xss : List (List X)) (i : ℕ) (xs : List X) → AreWide w xss → slice_get xss i ≡ Some xs → length xs ≡ w
  length_at [] i xs h at = cc
  length_at (x ∷ xss) zero xs h at = let same : x ≡ xs = cc in ap length (sym same) ∙ h.0
  length_at (x ∷ xss) (suc i) xs h at = length_at xss i xs h.1 at

  -- the item at a place of one of them
  pub slice_get-joined : (xss : List (List X)) (i j : ℕ) (xs : List X)
      → AreWide w xss → slice_get xss i ≡ Some xs → j < w → slice_get (joined xss) (i * w + j) ≡ slice_get xs j
  slice_get-joined [] i j xs h at lt = cc
  slice_get-joined (x ∷ xss) zero j xs h at lt =
      let same : x ≡ xs = cc in
      let e : 0 * w + j ≡ j = omega arith in
      ap (slice_get (x ++ joined xss)) e
      ∙ slice_get-append_left x (joined xss) j (omega (arith, h.0))
      ∙ ap (λ (zs : List X). slice_get zs j) same
  slice_get-joined (x ∷ xss) (suc i) j xs h at lt =
      let e : suc i * w + j ≡ length x + (i * w + j) = grind (arith, h.0) in
      ap (slice_get (x ++ joined xss)) e
      ∙ slice_get-append_right x (joined xss) (i * w + j)
      ∙ slice_get-joined xss i j xs h.1 at lt

  -- a change at a place of one of them
  pub set-joined : (xss : List (List X)) (i j : ℕ) (xs : List X) (y : X)
      → AreWide w xss → slice_get xss i ≡ Some xs → j < w
      → set (joined xss) (i * w + j) y ≡ joined (set xss i (set xs j y))
  set-joined [] i j xs y h at lt = cc
  set-joined (x ∷ xss) zero j xs y h at lt =
      let same : x ≡ xs = cc in
      let e : 0 * w + j ≡ j = omega arith in
      ap (λ (k : ℕ). set (x ++ joined xss) k y) e
      ∙ set-append_left x (joined xss) j y (omega (arith, h.0))
      ∙ ap (λ (zs : List X). set zs j y ++ joined xss) same
  set-joined (x ∷ xss) (suc i) j xs y h at lt =
      let e : suc i * w + j - w ≡ i * w + j = grind arith in
      set-append_right x (joined xss) w (suc i * w + j) y h.0 (grind arith)
      ∙ ap (λ (k : ℕ). x ++ set (joined xss) k y) e
      ∙ ap (λ (zs : List X). x ++ zs) (set-joined xss i j xs y h.1 at lt)

  -- another chunk of the width in the place of one
  pub AreWide-set : (xss : List (List X)) (i : ℕ) (xs : List X) → AreWide w xss → length xs ≡ w → AreWide w (set xss i xs)
  AreWide-set [] i xs h e = tt
  AreWide-set (x ∷ xss) zero xs h e = (e, h.1)
  AreWide-set (x ∷ xss) (suc i) xs h e = (h.0, AreWide-set xss i xs h.1 e)

  -- one chunk many times
  pub AreWide-replicate : (n : ℕ) (xs : List X) → length xs ≡ w → AreWide w (replicate n xs)
  AreWide-replicate zero xs e = tt
  AreWide-replicate (suc n) xs e = (e, AreWide-replicate n xs e)

-- the list has all its places
pub length-values_of : {X : Type 0} (len : ℕ) (root : List (List (List X))) → IsLaid len root → length (values_of len root) ≡ len
length-values_of len root laid =
    let chunks = chunks_for len in
    let all : length (joined root) ≡ length root * width_for chunks = length-joined (width_for chunks) root laid.bottoms in
    let enough : chunks ≤ length (joined root) = rw (all, laid.middles) (room_for_all chunks) in
    let items : length (joined (joined root)) ≡ length (joined root) * width_for len = length-joined (width_for len) (joined root) laid.items in
    let room : len ≤ chunks * width_for len = room_for_all len in
    length-take-le len (joined (joined root)) (omega (arith, mul-le chunks (width_for len) (length (joined root)) (width_for len) enough (omega arith)))

-- the chunks on the way to a place of a list
pub record IsWay {X : Type 0} (len : ℕ) (root : List (List (List X))) (place : ℕ) (middle : List (List X)) (bottom : List X) : Type 0 where
  pub laid : IsLaid len root
  pub within : place < len
  pub to_middle : slice_get root (root_index place) ≡ Some middle
  pub to_bottom : slice_get middle (middle_index place) ≡ Some bottom

-- a place of the values that the list is seen as
pub way_to : {X : Type 0} {len place : ℕ} {root : List (List (List X))} {middle : List (List X)} {bottom values : List X}
    → IsLaid len root → values_of len root ≡ values → place < length values
    → slice_get root (root_index place) ≡ Some middle → slice_get middle (middle_index place) ≡ Some bottom
    → IsWay len root place middle bottom
way_to {len = len} {root = root} laid seen h to_middle to_bottom =
    record { laid = laid; within = omega (arith, length-values_of len root laid, ap length seen); to_middle = to_middle; to_bottom = to_bottom }

module _ {X : Type 0} (len : ℕ) (root : List (List (List X))) (place : ℕ) (middle : List (List X)) (bottom : List X)
    (way : IsWay len root place middle bottom) where
  -- the way leads to the place's chunk in the row of all
  pub bottom_at : slice_get (joined root) (place / 128) ≡ Some bottom
  bottom_at =
      let chunk_in = chunk_within len place way.within in
      ap (slice_get (joined root)) (sym (place_again (chunks_for len) (place / 128) chunk_in))
      ∙ slice_get-joined (width_for (chunks_for len)) root (root_index place) (middle_index place) middle way.laid.bottoms way.to_middle (place_within (chunks_for len) (place / 128) chunk_in)
      ∙ way.to_bottom

  -- the value at a place
  pub value_at : slice_get (values_of len root) place ≡ slice_get bottom (bottom_index place)
  value_at =
      slice_get-take len (joined (joined root)) place way.within
      ∙ ap (slice_get (joined (joined root))) (sym (place_again len place way.within))
      ∙ slice_get-joined (width_for len) (joined root) (place / 128) (bottom_index place) bottom way.laid.items bottom_at (place_within len place way.within)

  -- the chunks on the way are as wide as the others
  pub middle_wide : length middle ≡ width_for (chunks_for len)
  middle_wide = length_at (width_for (chunks_for len)) root (root_index place) middle way.laid.bottoms way.to_middle

  pub bottom_wide : length bottom ≡ width_for len
  bottom_wide = length_at (width_for len) (joined root) (place / 128) bottom way.laid.items bottom_at

  -- so they have the places on the way
  pub in_middle : middle_index place < length middle
  in_middle = rw middle_wide (place_within (chunks_for len) (place / 128) (chunk_within len place way.within))

  pub in_bottom : bottom_index place < length bottom
  in_bottom = rw bottom_wide (place_within len place way.within)

  -- the row of all chunks, after new chunks on the way
  pub joined_changed : (new : List X) → joined (set root (root_index place) (set middle (middle_index place) new)) ≡ set (joined root) (place / 128) new
  joined_changed new =
      let chunk_in = chunk_within len place way.within in
      sym (set-joined (width_for (chunks_for len)) root (root_index place) (middle_index place) middle new way.laid.bottoms way.to_middle (place_within (chunks_for len) (place / 128) chunk_in))
      ∙ ap (λ (k : ℕ). set (joined root) k new) (place_again (chunks_for len) (place / 128) chunk_in)

  -- new chunks on the way are laid as the old ones
  pub laid_changed : (x : X)
      → IsLaid len (set root (root_index place) (set middle (middle_index place) (set bottom (bottom_index place) x)))
  laid_changed x =
      let new = set bottom (bottom_index place) x in
      record {
        most = way.laid.most;
        middles = length-set root (root_index place) (set middle (middle_index place) new) ∙ way.laid.middles;
        bottoms = AreWide-set (width_for (chunks_for len)) root (root_index place) (set middle (middle_index place) new) way.laid.bottoms (length-set middle (middle_index place) new ∙ middle_wide);
        items = subst (λ (row : List (List X)). AreWide (width_for len) row) (sym (joined_changed new)) (AreWide-set (width_for len) (joined root) (place / 128) new way.laid.items (length-set bottom (bottom_index place) x ∙ bottom_wide));
      }

  -- new chunks on the way change the value at the place alone
  pub values_changed : (x : X)
      → values_of len (set root (root_index place) (set middle (middle_index place) (set bottom (bottom_index place) x)))
      ≡ set (values_of len root) place x
  values_changed x =
      let new = set bottom (bottom_index place) x in
      ap (λ (row : List (List X)). take len (joined row)) (joined_changed new)
      ∙ ap (take len) (sym (set-joined (width_for len) (joined root) (place / 128) (bottom_index place) bottom x way.laid.items bottom_at (place_within len place way.within)))
      ∙ ap (λ (k : ℕ). take len (set (joined (joined root)) k x)) (place_again len place way.within)
      ∙ take-set-lt len (joined (joined root)) place x way.within

-- three levels of chunks of one value
abbrev pub levels_of : {X : Type 0} → ℕ → X → List (List (List X))
levels_of len x = replicate (chunks_for (chunks_for len)) (replicate (width_for (chunks_for len)) (replicate (width_for len) x))

-- they are laid
pub laid_filled : {X : Type 0} (len : ℕ) (x : X) → len ≤ 2097152 → IsLaid len (levels_of len x)
laid_filled {X = X} len x h =
    let chunks = chunks_for len in
    let bottom = replicate (width_for len) x in
    let wide : length bottom ≡ width_for len = length-replicate (width_for len) x in
    record {
      most = h;
      middles = length-replicate (chunks_for chunks) (replicate (width_for chunks) bottom);
      bottoms = AreWide-replicate (width_for chunks) (chunks_for chunks) (replicate (width_for chunks) bottom) (length-replicate (width_for chunks) bottom);
      items = subst (λ (row : List (List X)). AreWide (width_for len) row) (sym (joined-replicate (chunks_for chunks) (width_for chunks) bottom)) (AreWide-replicate (width_for len) (chunks_for chunks * width_for chunks) bottom wide);
    }

-- and hold that value at each place
pub values_filled : {X : Type 0} (len : ℕ) (x : X) → len ≤ 2097152 → values_of len (levels_of len x) ≡ replicate len x
values_filled {X = X} len x h =
    let chunks = chunks_for len in
    let wide = width_for len in
    let row = chunks_for chunks * width_for chunks in
    let all : joined (joined (levels_of len x)) ≡ replicate (row * wide) x =
    ap (λ (all : List (List X)). joined all) (joined-replicate (chunks_for chunks) (width_for chunks) (replicate wide x))
    ∙ joined-replicate row wide x in
    let long : len ≤ row * wide = omega (arith, room_for_all len, mul-le chunks wide row wide (room_for_all chunks) (omega arith)) in
    ap (take len) all ∙ take-replicate len (row * wide) x long

-- a chunk that is there
chunk_there : {X : Type 0} (chunks : List (List X)) (i : ℕ) → i < length chunks → slice_get chunks i ≡ Some (chunk_at chunks i)
chunk_there [] i h = absurd (omega arith)
chunk_there (x ∷ chunks) zero h = refl
chunk_there (x ∷ chunks) (suc i) h = chunk_there chunks i (omega arith)

module _ {X : Type 0} (len : ℕ) (root : List (List (List X))) (place : ℕ) (laid : IsLaid len root) (within : place < len) where
  abbrev middle : List (List X)
  middle = chunk_at root (root_index place)

  abbrev bottom : List X
  bottom = chunk_at middle (middle_index place)

  -- the way to a place of a list
  pub way_at : IsWay len root place middle bottom
  way_at =
      let chunk_in = chunk_within len place within in
      let to_middle = chunk_there root (root_index place) (let e = laid.middles in omega (arith, chunk_within (chunks_for len) (place / 128) chunk_in)) in
      let wide = length_at (width_for (chunks_for len)) root (root_index place) middle laid.bottoms to_middle in
      record { laid = laid; within = within; to_middle = to_middle; to_bottom = chunk_there middle (middle_index place) (omega (arith, wide, place_within (chunks_for len) (place / 128) chunk_in)) }

  -- what a change leaves, whether or not memory was there for it
  pub laid_set : {E : Type 0} (result : Result (Unit {0}) E) (new : List (List (List X))) (x : X) → OnOk result (new ≡ set_below root (root_index place) (middle_index place) (bottom_index place) x) → OnErr result (new ≡ root) → IsLaid len new
  laid_set (Ok u) new x changed kept = subst (IsLaid len) (sym changed) (laid_changed len root place middle bottom way_at x)
  laid_set (Err e) new x changed kept = subst (IsLaid len) (sym kept) laid

  pub values_set : {E : Type 0} (result : Result (Unit {0}) E) (new : List (List (List X))) (values : List X) (x : X) → values_of len root ≡ values
      → OnOk result (new ≡ set_below root (root_index place) (middle_index place) (bottom_index place) x) → OnOk result (values_of len new ≡ set values place x)
  values_set (Ok u) new values x seen changed = ap (values_of len) changed ∙ values_changed len root place middle bottom way_at x ∙ ap (λ (all : List X). set all place x) seen
  values_set (Err e) new values x seen changed = changed
