pub mod Levels
pub mod Faults
pub mod Pulls
