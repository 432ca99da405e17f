pub mod Walks
pub mod Headers
