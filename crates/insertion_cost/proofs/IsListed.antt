use Rattle.std.proofs.Common.{◌≡◌, ℕ, ◌+◌, ◌<◌, ◌≤◌, List, [], ◌∷◌, ◌++◌, take, length, get_or, Option, Some, None, sym, ap, ◌∙◌, subst, ◌⊎◌, inl, inr, ⊎_elim}
use Rattle.std.proofs.lemmas.List.{take_more, take_all}
use Rattle.road_graph.specs.Roads.{Roads}
use Rattle.stop_schedule.specs.declared.request.Request.{Request}
use Rattle.stop_schedule.specs.Fleets.{Cars, IsGoodFleet}
use Rattle.insertion_cost.specs.declared.candidates.Candidate.{Candidate}
use Rattle.insertion_cost.specs.declared.candidates.Candidates.{Candidates}
use Rattle.insertion_cost.specs.declared.offer.Offer.{Offer}
use Rattle.insertion_cost.specs.Candidates.{AreFresh, IsListed, Decides}
use Rattle.insertion_cost.specs.OfferOrder.{IsFirstOfTwo}
use Rattle.insertion_cost.specs.Offers.{IsFirst, IsBestOrNone}
use Rattle.insertion_cost.proofs.Pushed.{push_cases, push_before, push_last}
use Rattle.insertion_cost.proofs.Settles.{first_alone, first_of_both, listed_best}

-- nothing stands in an empty list
pub none_listed : IsFirst (IsListed []) None
none_listed = λ o h. cc

-- one entry more
listed_next : (entries : List Candidate) (e : Candidate) (best next : Option Offer) → IsFirst (IsListed entries) best → IsFirstOfTwo best e.best next → IsFirst (IsListed (entries ++ e ∷ [])) next
listed_next entries e best next f s = first_of_both (IsListed entries) (λ (o : Offer). e.best ≡ Some o) (IsListed (entries ++ e ∷ [])) best e.best next split
    (λ o l. (l.0, l.1, push_before entries e l.1 l.0 l.2, l.3)) (λ o h. (length entries, e, push_last entries e, h)) f (first_alone e.best) s
  where
    split : (o : Offer) → IsListed (entries ++ e ∷ []) o → IsListed entries o ⊎ (e.best ≡ Some o)
    split o l = ⊎_elim (λ before. inl (l.0, l.1, before, l.3)) (λ last. inr (ap (λ (x : Candidate). x.best) last.1 ∙ l.3)) (push_cases entries e l.1 l.0 l.2)

pub listed_more : (entries : List Candidate) (k : ℕ) (d : Candidate) (best next : Option Offer) → k < length entries → IsFirst (IsListed (take k entries)) best → IsFirstOfTwo best (get_or entries k d).best next
    → IsFirst (IsListed (take (k + 1) entries)) next
listed_more entries k d best next l f s = subst (λ (es : List Candidate). IsFirst (IsListed es) next) (sym (take_more entries k d l)) (listed_next (take k entries) (get_or entries k d) best next f s)

-- and all in the end
pub all_listed : (entries read : List Candidate) (k : ℕ) (best : Option Offer) → read ≡ entries → length read ≤ k → IsFirst (IsListed (take k read)) best → IsFirst (IsListed entries) best
all_listed entries read k best e l f = subst (λ (es : List Candidate). IsFirst (IsListed es) best) (take_all k read l ∙ e) f

-- the best insertion of a good fleet for which they are fresh
pub listed_best_of : (g : Roads) (fleet : Cars) (r : Request) (c : Candidates) → IsGoodFleet g fleet → AreFresh g fleet r c → (best : Option Offer) → Decides c → IsFirst (IsListed c.entries) best → IsBestOrNone g fleet r best
listed_best_of g fleet r c good fresh best d f = listed_best g fleet r c fresh (λ place car h. (good.each place car h).stamp) best d f
