pub mod Phases
pub mod Seen
pub mod Slips
