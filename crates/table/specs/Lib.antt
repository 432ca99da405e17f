pub mod Faults
pub mod Profiles
pub mod Bytes
pub mod File
pub mod Checks
