pub mod Positions
pub mod Counts
pub mod Keys
pub mod Money
