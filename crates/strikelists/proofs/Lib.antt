pub mod Counts
pub mod Filled
pub mod Neighbours
pub mod NextRun
pub mod Stretches
pub mod Words
