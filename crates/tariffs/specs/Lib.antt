pub mod Sides
pub mod Rates
pub mod Listed
pub mod Entries
pub mod Allowed
pub mod Calls
pub mod Choice
pub mod Bounds
