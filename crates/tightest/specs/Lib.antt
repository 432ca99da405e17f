pub mod Order
pub mod Counted
pub mod Numbers
