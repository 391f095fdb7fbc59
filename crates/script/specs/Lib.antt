pub mod Only
pub mod Words
pub mod Digits
pub mod Numbers
pub mod Points
pub mod Texts
