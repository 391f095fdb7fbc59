pub mod Following
pub mod Doors
pub mod Products
pub mod Ranges
