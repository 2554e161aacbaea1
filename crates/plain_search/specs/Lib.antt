pub mod Marking
pub mod Order
pub mod Reaching
pub mod Searching
pub mod Valuing
