pub mod State
pub mod Steps
pub mod Counted
pub mod Since
pub mod Promise
pub mod Theorems
pub mod Begun
pub mod Played
