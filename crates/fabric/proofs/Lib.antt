pub mod Sharing
pub mod Lengths
pub mod Kept
