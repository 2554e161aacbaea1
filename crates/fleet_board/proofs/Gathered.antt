use Rattle.std.proofs.Common.{◌≡◌, ℕ, zero, suc, ◌+◌, ◌-◌, ◌<◌, ◌≤◌, ◌⊎◌, inl, inr, List, [], ◌∷◌, ◌++◌, length, map, take, drop, eqb, get_or, Some, IsPermutation, IsSorted, sym, refl, ap, ◌∙◌, subst, take-append-drop, length-take-le, arith}
use Rattle.std.proofs.lemmas.Bool.{cases_lt}
use Rattle.std.proofs.lemmas.List.{drop-map, length-drop, length-map, take_all}
use Rattle.std.proofs.lemmas.List.Elements.{All-nil, All-push, Contains-append_left, Contains-push}
use Rattle.std.proofs.lemmas.List.Filters.{All-dedup}
use Rattle.std.proofs.lemmas.List.Kept.{Contains-dedup_nat}
use Rattle.std.proofs.lemmas.List.Sorted.{All-permutation, Contains-permutation}
use Rattle.std.proofs.lemmas.Map.Keys.{IsStrictlyIncreasing-dedup}
use Rattle.std.proofs.lemmas.Option.{get_or_from_slice_get, same_Some, slice_get_within, slice_get-get_or}
use Rattle.std.specs.List.{dedup}
use Rattle.std.specs.Ordering.{nat_cmp}
use Rattle.std.specs.Prelude.{slice_get, Contains}
use Rattle.ride_base.specs.declared.numbers.VehicleNo.{VehicleNo}
use Rattle.stop_schedule.specs.Fleets.{Car, Cars, Fitting, IsGoodFleet, OfCar}
use Rattle.commit_check.specs.Settled.{HoldChanged}
use Rattle.board_core.specs.declared.entry.Entry.{Entry}
use Rattle.board_core.specs.BoardViews.{board_of}
use Rattle.board_core.specs.Boards.{Board}
use Rattle.board_core.specs.Histories.{Legal}
use Rattle.board_core.specs.Laws.{HistoriesRaiseVersions, OpeningBoardsAreGood}
use Rattle.board_core.specs.NamedVehicles.{ChangedVehiclesAreNamed, IsNamedIn, Names}
use Rattle.board_core.specs.NotedHistories.{LegalNoted, entries_in}
use Rattle.board_core.specs.NotedLaws.{NotedEntriesAreLegal, NotedHistoriesComeInParts}
use Rattle.fleet_board.specs.declared.journal.Noted.{Noted}
use Rattle.fleet_board.specs.declared.recorded.RecordedBoard.{RecordedBoard}
use Rattle.fleet_board.specs.Journals.{pair_of}
use Rattle.fleet_board.specs.Named.{ArePlaces, Gathers, HasRisingNumbers, HoldNamed}
use Rattle.fleet_board.specs.Openings.{Opening}
use Rattle.fleet_board.specs.Records.{IsRecordOf}

-- The places of the vehicles that entries name.

-- ---- numbers rise with places

-- a vehicle of a number stands between two places, if there is one
abbrev pub IsBetween : Cars → VehicleNo → (low high : ℕ) → Type 0
IsBetween fleet sought low high = (p : ℕ) (car : Car) → slice_get fleet.cars p ≡ Some car → sought ≡ car.no → (low ≤ p) × (p ≤ high)

pub first_between : (fleet : Cars) (sought : VehicleNo) → IsBetween fleet sought 0 (length fleet.cars)
first_between fleet sought p car h e = (none p, let w = slice_get_within fleet.cars p car h in omega arith) where
  none : (a : ℕ) → 0 ≤ a
  none a = omega arith

pub low_is : (fleet : Cars) (sought : VehicleNo) (low high : ℕ) → IsBetween fleet sought low high → high ≤ low → (p : ℕ) (car : Car) → slice_get fleet.cars p ≡ Some car
    → sought ≡ car.no → low ≡ p
low_is fleet sought low high between l p car h e = let a = (between p car h e).0 in let b = (between p car h e).1 in omega arith

module _ (fleet : Cars) (rising : HasRisingNumbers fleet) where
  rise : (p m : ℕ) (car next : Car) → p < m → slice_get fleet.cars p ≡ Some car → slice_get fleet.cars m ≡ Some next → car.no.0 < next.no.0
  rise p zero car next l h k = absurd (omega arith)
  rise p (suc m) car next l h k = on (cases_lt p m) (λ b. rise p m car middle.0 b h middle.1) where
    middle : (c : Car) × (slice_get fleet.cars m ≡ Some c)
    middle = (get_or fleet.cars m car, slice_get-get_or fleet.cars m car (let w = slice_get_within fleet.cars (suc m) next k in omega arith))

    on : (p < m) ⊎ (m ≤ p) → (p < m → car.no.0 < middle.0.no.0) → car.no.0 < next.no.0
    on (inl b) before = let a = before b in let c = rising m middle.0 next middle.1 k in omega arith
    on (inr b) before = let same : m ≡ p = omega arith in rising p car next h (ap (λ (i : ℕ). slice_get fleet.cars (suc i)) (sym same) ∙ k)

  at : (m : ℕ) → m < length fleet.cars → Car → (c : Car) × (slice_get fleet.cars m ≡ Some c)
  at m l d = (get_or fleet.cars m d, slice_get-get_or fleet.cars m d l)

  pub above_middle : (sought number : VehicleNo) (low high m : ℕ) → m < length fleet.cars → OfCar fleet m (λ (car : Car). number ≡ car.no) → number.0 < sought.0
      → IsBetween fleet sought low high → IsBetween fleet sought (m + 1) high
  above_middle sought number low high m l is less between p car h e = (on (cases_lt m p), (between p car h e).1) where
    on : (m < p) ⊎ (p ≤ m) → m + 1 ≤ p
    on (inl b) = omega arith
    on (inr b) = absurd (by (cases_lt p m)) where
      middle : (c : Car) × (slice_get fleet.cars m ≡ Some c)
      middle = at m l car

      lower : middle.0.no.0 < car.no.0
      lower = let a = ap (λ (n : VehicleNo). n.0) (is middle.0 middle.1) in let b = ap (λ (n : VehicleNo). n.0) e in omega arith

      by : (p < m) ⊎ (m ≤ p) → ⊥
      by (inl c) = let a = rise p m car middle.0 c h middle.1 in let b = lower in omega arith
      by (inr c) =
          let same : m ≡ p = omega arith in
          let one : middle.0 ≡ car = same_Some middle.0 car (sym middle.1 ∙ ap (slice_get fleet.cars) same ∙ h) in
          let a = lower in let r = ap (λ (c : Car). c.no.0) one in omega arith

  pub below_middle : (sought number : VehicleNo) (low high m : ℕ) → m < length fleet.cars → OfCar fleet m (λ (car : Car). number ≡ car.no) → (number.0 < sought.0 → ⊥)
      → IsBetween fleet sought low high → IsBetween fleet sought low m
  below_middle sought number low high m l is more between p car h e = ((between p car h e).0, on (cases_lt m p)) where
    on : (m < p) ⊎ (p ≤ m) → p ≤ m
    on (inr b) = b
    on (inl b) =
        let middle = at m l car in
        let a = rise m p middle.0 car b middle.1 h in
        let q = ap (λ (n : VehicleNo). n.0) (is middle.0 middle.1) in
        let r = ap (λ (n : VehicleNo). n.0) e in absurd (more (omega arith))

-- ---- places that are added

module _ (fleet : Cars) where
  pub gathers_past : (place : ℕ) (xs : List ℕ) → length fleet.cars ≤ place → Gathers fleet (λ (p : ℕ) (car : Car). place ≡ p) xs xs
  gathers_past place xs l = record {
    within = λ all. all;
    kept = λ p c. c;
    added = λ p car h e. absurd (let w = slice_get_within fleet.cars p car h in omega arith);
  }

  pub gathers_push : (place : ℕ) (xs : List ℕ) → place < length fleet.cars → Gathers fleet (λ (p : ℕ) (car : Car). place ≡ p) xs (xs ++ place ∷ [])
  gathers_push place xs l = record {
    within = λ all. All-push (λ (p : ℕ). p < length fleet.cars) xs place all l;
    kept = λ p c. Contains-append_left xs (place ∷ []) p c;
    added = λ p car h e. subst (λ (q : ℕ). Contains (xs ++ place ∷ []) q) e (Contains-push xs place);
  }

  -- none is sought
  pub gathers_none : (IsSought : ℕ → Car → Type 0) (xs : List ℕ) → ((p : ℕ) (car : Car) → IsSought p car → ⊥) → Gathers fleet IsSought xs xs
  gathers_none IsSought xs n = record { within = λ all. all; kept = λ p c. c; added = λ p car h s. absurd (n p car s) }

  pub gathers_more : (IsSought IsFound : ℕ → Car → Type 0) (old new : List ℕ) → ((p : ℕ) (car : Car) → slice_get fleet.cars p ≡ Some car → IsSought p car → IsFound p car)
      → Gathers fleet IsFound old new → Gathers fleet IsSought old new
  gathers_more IsSought IsFound old new to h = record { within = h.within; kept = h.kept; added = λ p car at s. h.added p car at (to p car at s) }

  -- an entry that is told by its parts
  pub gathers_entry : (entry e : Entry) (old new : List ℕ) → entry ≡ e → Gathers fleet (λ (p : ℕ) (car : Car). Names e p car.no) old new
      → Gathers fleet (λ (p : ℕ) (car : Car). Names entry p car.no) old new
  gathers_entry entry e old new same h = subst (λ (x : Entry). Gathers fleet (λ (p : ℕ) (car : Car). Names x p car.no) old new) (sym same) h

  -- what a loop has gathered for the first of a list's elements
  module _ {X : Type 0} (IsSought : X → ℕ → Car → Type 0) (xs : List X) where
    pub record HaveGathered (k : ℕ) (old new : List ℕ) : Type 0 where
      pub within : ArePlaces fleet old → ArePlaces fleet new
      pub kept : (p : ℕ) → Contains old p → Contains new p
      pub every : (m : ℕ) (x : X) → m < k → slice_get xs m ≡ Some x → (p : ℕ) (car : Car) → slice_get fleet.cars p ≡ Some car → IsSought x p car → Contains new p

    pub gathered_none : (old : List ℕ) → HaveGathered 0 old old
    gathered_none old = record { within = λ all. all; kept = λ p c. c; every = λ m x l. absurd (omega arith) }

    pub gathered_more : (k : ℕ) (d : X) (old now next : List ℕ) → k < length xs → HaveGathered k old now → Gathers fleet (IsSought (get_or xs k d)) now next
        → HaveGathered (k + 1) old next
    gathered_more k d old now next l h more = record {
      within = λ all. more.within (h.within all);
      kept = λ p c. more.kept p (h.kept p c);
      every = λ m x b at p car stands s. on m x at p car stands s (cases_lt m k) b;
    } where
      on : (m : ℕ) (x : X) → slice_get xs m ≡ Some x → (p : ℕ) (car : Car) → slice_get fleet.cars p ≡ Some car → IsSought x p car → (m < k) ⊎ (k ≤ m) → m < k + 1
          → Contains next p
      on m x at p car stands s (inl b) l = more.kept p (h.every m x b at p car stands s)
      on m x at p car stands s (inr b) l = let same : m ≡ k = omega arith in
          let read = get_or_from_slice_get xs k x d (ap (slice_get xs) (sym same) ∙ at) in
          more.added p car stands (subst (λ (y : X). IsSought y p car) (sym read) s)

    pub gathered_all : (k : ℕ) (old new : List ℕ) → length xs ≤ k → HaveGathered k old new
        → Gathers fleet (λ (p : ℕ) (car : Car). (m : ℕ) × (x : X) × (slice_get xs m ≡ Some x) × IsSought x p car) old new
    gathered_all k old new l h = record {
      within = h.within;
      kept = h.kept;
      added = λ p car stands s. h.every s.0 s.1 (let w = slice_get_within xs s.0 s.1 s.2 in omega arith) s.2 p car stands s.3;
    }

-- ---- what is gathered, sorted and without doubles

mapped : {X Y : Type 0} (f : X → Y) (xs : List X) (k : ℕ) (y : Y) → slice_get (map f xs) k ≡ Some y → (x : X) × (slice_get xs k ≡ Some x) × (y ≡ f x)
mapped f [] k y h = cc
mapped f (x ∷ xs) zero y h = (x, refl, cc)
mapped f (x ∷ xs) (suc k) y h = mapped f xs k y h

pub held_named : (fleet : Cars) (noted : List Noted) (gathered sorted places : List ℕ)
    → Gathers fleet (λ (p : ℕ) (car : Car). (m : ℕ) × (n : Noted) × (slice_get noted m ≡ Some n) × Names n.entry p car.no) [] gathered
    → IsPermutation gathered sorted → IsSorted nat_cmp sorted → places ≡ dedup eqb sorted → HoldNamed fleet (map pair_of noted) places
held_named fleet noted gathered sorted places h permuted rises same = subst (HoldNamed fleet (map pair_of noted)) (sym same) (record {
  rising = IsStrictlyIncreasing-dedup sorted rises;
  within = All-dedup eqb (λ (p : ℕ). p < length fleet.cars) sorted
      (All-permutation (λ (p : ℕ). p < length fleet.cars) gathered sorted permuted (h.within (All-nil (λ (p : ℕ). p < length fleet.cars))));
  every = λ p car stands named. Contains-dedup_nat sorted p
      (Contains-permutation gathered sorted p permuted (h.added p car stands (told p car named)));
}) where
  told : (p : ℕ) (car : Car) → IsNamedIn (entries_in (map pair_of noted)) p car.no
      → (m : ℕ) × (n : Noted) × (slice_get noted m ≡ Some n) × Names n.entry p car.no
  told p car x =
      let a = mapped (λ (e : ℕ × Entry). e.1) (map pair_of noted) x.0 x.1 x.2 in
      let b = mapped pair_of noted x.0 a.0 a.1 in
      (x.0, b.0, b.1, subst (λ (e : Entry). Names e p car.no) (a.2 ∙ ap (λ (e : ℕ × Entry). e.1) b.2) x.3)

-- the rest of a journal
pub rest_of : (items : List Noted) (noted : List (ℕ × Entry)) (index : ℕ) → map pair_of items ≡ noted
    → map pair_of (take (length items - index) (drop index items)) ≡ drop index noted
rest_of items noted index same =
    ap (map pair_of) (take_all (length items - index) (drop index items) (let e = length-drop index items in omega arith))
    ∙ sym (drop-map pair_of index items) ∙ ap (drop index) same

-- ---- the vehicles whose schedules changed are among those that the entries since name

pub held_changed : {I : Type 0} (fits : I → Fitting) (o : Opening) (v : RecordedBoard I) (version : ℕ) (places : List ℕ)
    → OpeningBoardsAreGood → HistoriesRaiseVersions → NotedEntriesAreLegal → NotedHistoriesComeInParts → ChangedVehiclesAreNamed
    → IsRecordOf fits o v → version ≤ (board_of v.board).fleet.version
    → HoldNamed (board_of v.board).fleet (drop version v.journal.noted) places → HoldChanged (board_of v.board).fleet version places
held_changed fits o v version places opening rise legal parts law is old h = record {
  rising = h.rising;
  within = h.within;
  every = λ p car stands b. h.every p car stands (law o.graph o.board (entries_in (take version v.journal.noted)) middle.0
      (entries_in (drop version v.journal.noted)) (board_of v.board) p car first before after stands (let e = at in omega arith));
} where
  middle : (middle : Board) × LegalNoted o.graph o.board (take version v.journal.noted) middle
      × LegalNoted o.graph middle (drop version v.journal.noted) (board_of v.board)
  middle = parts o.graph o.board (take version v.journal.noted) (drop version v.journal.noted) (board_of v.board)
      (subst (λ (l : List (ℕ × Entry)). LegalNoted o.graph o.board l (board_of v.board)) (sym (take-append-drop version v.journal.noted)) is.legal)

  before : Legal o.graph o.board (entries_in (take version v.journal.noted)) middle.0
  before = legal o.graph o.board (take version v.journal.noted) middle.0 middle.1

  after : Legal o.graph middle.0 (entries_in (drop version v.journal.noted)) (board_of v.board)
  after = legal o.graph middle.0 (drop version v.journal.noted) (board_of v.board) middle.2

  first : IsGoodFleet o.graph o.board.fleet
  first = subst (λ (b : Board). IsGoodFleet o.graph b.fleet) (sym is.opening.board)
      (opening o.graph o.board.fleet.rates is.opening.vehicles is.opening.are).fleet

  none : o.board.fleet.version ≡ 0
  none = ap (λ (b : Board). b.fleet.version) is.opening.board

  long : length (entries_in (take version v.journal.noted)) ≡ version
  long = length-map (take version v.journal.noted) (λ (e : ℕ × Entry). e.1)
      ∙ length-take-le version v.journal.noted (let e = is.version in omega arith)

  at : middle.0.fleet.version ≡ version
  at = let a = (rise o.graph o.board (entries_in (take version v.journal.noted)) middle.0 before).version in
      let b = none in let c = long in omega arith
