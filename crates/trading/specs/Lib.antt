pub mod Deals
pub mod Parts
pub mod Found
