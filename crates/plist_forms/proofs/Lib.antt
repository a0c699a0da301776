pub mod Accepting
pub mod Answering
pub mod Besides
pub mod Judging
pub mod Refusing
mod Rows
pub mod Writable
