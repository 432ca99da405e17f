pub mod Decided
pub mod Serves
pub mod Served
pub mod Smalls
