pub mod Removing
pub mod Bridging
pub mod Rows
pub mod Searching
pub mod Working
pub mod Starting
pub mod Queues
