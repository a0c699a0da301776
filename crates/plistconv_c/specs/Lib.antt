pub mod Answers
pub mod Given
pub mod Inputs
pub mod KeyedHasher
pub mod Lines
pub mod Refusals
pub mod Texts
