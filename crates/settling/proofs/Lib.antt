pub mod Products
pub mod Balances
pub mod Turns
pub mod Neighbours
pub mod Paying
pub mod Marked
