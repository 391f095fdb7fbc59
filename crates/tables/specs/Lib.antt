pub mod Model
pub mod Opening
pub mod Months
