pub mod Leads
pub mod Flags
pub mod Starts
pub mod Computes
pub mod Adding
