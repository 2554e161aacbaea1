mod Lists
mod Departs
mod Aboard
mod IsBounded
mod Holds
mod IsKept
mod KeepsAhead
mod OneMore
mod OneLess
mod IsSooner
mod Removal
mod FrontAtPlace
mod FirstReached
mod FrontOf
mod FleetSamples
pub mod ListLaws
pub mod TimeLaws
pub mod FrontLaws
