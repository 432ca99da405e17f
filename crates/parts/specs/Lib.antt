pub mod Slots
pub mod Split
