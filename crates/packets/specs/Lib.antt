pub mod Runs
pub mod Statement
pub mod Calls
