pub mod Noted
pub mod Desks
pub mod Views
pub mod Rule
pub mod Steps
