mod PutBack
mod Chained
mod Ways
mod Seats
mod Proper
mod Kept
mod Joined
mod Start
mod KeepsPromises
mod Bounded
pub mod RemovalLaws
