pub mod Causes
pub mod Routes
pub mod Paths
