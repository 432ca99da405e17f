pub mod Refusals
pub mod LoadRefusals
pub mod Events
