pub mod States
pub mod Plays
pub mod Worlds
pub mod Holdings
pub mod WorldLaws
pub mod Samples
