pub mod Found
pub mod Words
pub mod Numbers
pub mod Reported
pub mod Covered
