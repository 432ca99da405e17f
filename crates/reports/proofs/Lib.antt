pub mod Counting
pub mod Orders
pub mod Turns
pub mod RecordLaw
pub mod FlowLaw
