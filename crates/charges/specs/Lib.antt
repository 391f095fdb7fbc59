pub mod Fees
pub mod Figure
