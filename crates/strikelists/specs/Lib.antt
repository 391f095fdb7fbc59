pub mod Strikes
pub mod Grids
pub mod Spans
pub mod Runs
pub mod Lists
pub mod Asks
