mod Owed
mod Records
mod Gathered
mod Turns
mod ClaimTurns
