pub mod Counts
pub mod Model
pub mod Staircase
pub mod Figures
