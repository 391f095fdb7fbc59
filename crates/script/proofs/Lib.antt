mod Values
mod Forms
pub mod OneReading
pub mod OneWord
pub mod Back
