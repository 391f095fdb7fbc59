pub mod Always
mod Cuts
mod Kept
pub mod OneRow
mod Lent
mod Order
mod Places
mod Same
mod Spans
pub mod Stretches
pub mod Sums
mod Windows
