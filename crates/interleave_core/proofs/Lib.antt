mod Waits
mod Claims
mod Worlds
mod Played
mod Plays
