pub mod Margins
pub mod Reports
pub mod Verdicts
