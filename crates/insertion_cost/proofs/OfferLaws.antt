-- the order of offers: none goes before itself, different ones are ordered, and what goes before goes before all behind
pub use Rattle.insertion_cost.proofs.OfferCmp.{offer_cmp-self, offer_cmp-apart, offer_cmp-trans, offer_cmp-splits, IsNotAfter-trans}
-- the first of some offers: of one alone, and of two kinds; and it is the best insertion of a fleet, or there is none
pub use Rattle.insertion_cost.proofs.Settles.{first_alone, first_of_both, first_is_best, none_is_none, offer_of, offer_now}
