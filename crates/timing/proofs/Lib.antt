pub mod Ceil
pub mod Sums
pub mod Options
pub mod Equation
pub mod Staircase
pub mod Figures
