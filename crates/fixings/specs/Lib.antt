pub mod Finals
pub mod Calls
