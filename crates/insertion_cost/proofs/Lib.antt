mod NewLengths
mod BehindStops
mod NewCourse
mod Seats
mod Leads
mod PairPrice
mod PricedBy
mod Aboard
mod DriveAlong
mod OfferCmp
mod Cheaper
mod HasPrice
mod IsFeasible
mod Settles
mod AreSound
mod ChangedEnds
mod SpansOf
mod IsTried
mod WaysAlong
mod WholeReach
mod PlainAnswer
mod InFleet
mod WalksOf
mod Pushed
mod AreEntries
mod IsListed
mod InGraph
mod BestPlain
mod ChangedWalks
pub mod OfferLaws
pub mod PriceLaws
pub mod CandidateLaws
