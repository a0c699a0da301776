pub mod Telling
pub mod Storing
pub mod Finishing
pub mod Valued
mod Rows
