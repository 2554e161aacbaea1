use Rattle.std.proofs.Common.{◌≡◌, ℕ, ◌+◌, List, [], ◌∷◌, ◌++◌, length, get_or, Option, Some, None, refl, sym, ap, ◌∙◌, subst, arith, ⊎_elim, length-append}
use Rattle.std.specs.Prelude.{slice_get}
use Rattle.std.proofs.lemmas.Option.{slice_get-get_or, slice_get_within}
use Rattle.road_graph.specs.Roads.{Roads}
use Rattle.stop_schedule.specs.declared.request.Request.{Request}
use Rattle.stop_schedule.specs.declared.stop.Front.{Front}
use Rattle.stop_schedule.specs.Fleets.{Car, Cars}
use Rattle.insertion_cost.specs.declared.candidates.Candidate.{Candidate}
use Rattle.insertion_cost.specs.declared.candidates.Floor.TheVariants.{All}
use Rattle.insertion_cost.specs.Candidates.{AreFresh, IsTrueOf, entry_of}
use Rattle.insertion_cost.specs.Offers.{IsOfferFrom, IsFirst}
use Rattle.insertion_cost.specs.Pricers.{IsEntryAt, AreEntriesTo}
use Rattle.insertion_cost.proofs.InFleet.{car_at}
use Rattle.insertion_cost.proofs.Pushed.{push_cases}
use Rattle.insertion_cost.proofs.Settles.{entry_listed}

no_entry : Candidate
no_entry = record { place = 0; front = record { node = record { 0 = 0 }; time = 0; offset = 0 }; best = None }

module _ (g : Roads) (fleet : Cars) (r : Request) where
  -- of no vehicle
  pub entries_none : AreEntriesTo g fleet r 0 []
  entries_none = record { many = refl; each = λ k e h. cc }

  -- of one vehicle more
  pub entries_more : (n : ℕ) (entries : List Candidate) (e : Candidate) → AreEntriesTo g fleet r n entries → IsEntryAt g fleet r n e → AreEntriesTo g fleet r (n + 1) (entries ++ e ∷ [])
  entries_more n entries e are here = record {
    many = (let l = length-append entries (e ∷ []) in let m = are.many in omega arith);
    each = λ k f h. ⊎_elim (λ before. are.each k f before)
        (λ last. subst (λ (x : Candidate). IsEntryAt g fleet r k x) last.1 (subst (λ (q : ℕ). IsEntryAt g fleet r q e) (let i = last.0 in let m = are.many in let z : n ≡ k = omega arith in z) here)) (push_cases entries e f k h);
  }

  -- of all vehicles they are fresh
  pub entries_all : (n version : ℕ) (entries : List Candidate) → AreEntriesTo g fleet r n entries → n ≡ length fleet.cars → version ≡ fleet.version → AreFresh g fleet r (record { base = version; entries = entries; floor = All })
  entries_all n version entries are whole base = record {
    sound = record {
      base = omega arith;
      within = λ k e h. (let p = place_is k e h in let l = slice_get_within entries k e h in let m = are.many in omega arith);
      once = once;
      true_of = λ place car h stamp. true_at place car h;
    };
    version = base;
    fronts = λ k e car h i. (are.each k e h car (subst (λ (m : ℕ). slice_get fleet.cars m ≡ Some car) (place_is k e h) i)).front;
  }
    where
      place_is : (k : ℕ) (e : Candidate) → slice_get entries k ≡ Some e → e.place ≡ k
      place_is k e h = let l = slice_get_within entries k e h in let m = are.many in let c = car_at fleet k (omega arith) in (are.each k e h c.0 c.1).there

      once : (k l : ℕ) (e f : Candidate) → slice_get entries k ≡ Some e → slice_get entries l ≡ Some f → e.place ≡ f.place → k ≡ l
      once k l e f h i s = sym (place_is k e h) ∙ s ∙ place_is l f i

      true_at : (place : ℕ) (car : Car) → slice_get fleet.cars place ≡ Some car → IsTrueOf g fleet r place car All (entry_of entries place)
      true_at place car h =
          let l = slice_get_within fleet.cars place car h in
          let m = are.many in
          let e : Candidate = get_or entries place no_entry in
          let at = slice_get-get_or entries place no_entry (omega arith) in
          let is = are.each place e at car h in
          subst (λ (o : Option Candidate). IsTrueOf g fleet r place car All o) (sym (ap (entry_of entries) (sym is.there) ∙ entry_listed entries place e at once))
          (subst (λ (f : Front). IsFirst (IsOfferFrom g fleet.rates place car f r) e.best) (sym is.front) is.best)
