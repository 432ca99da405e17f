pub mod Climbs
pub mod Terms
pub mod Charges
