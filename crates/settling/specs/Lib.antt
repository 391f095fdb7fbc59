pub mod Payments
pub mod Marks
