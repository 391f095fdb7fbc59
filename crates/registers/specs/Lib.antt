pub mod Keys
pub mod Rows
pub mod Stretches
pub mod Sums
pub mod Held
pub mod Laws
