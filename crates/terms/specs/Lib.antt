pub mod Extremes
pub mod Refusals
pub mod Numbers
pub mod Ranges
pub mod Kinds
pub mod Steps
pub mod Families
pub mod Texts
