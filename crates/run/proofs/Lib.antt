pub mod Loads
pub mod SmallTables
pub mod Plays
