pub mod Codes
pub mod Gathered
pub mod Outputs
pub mod Reports
