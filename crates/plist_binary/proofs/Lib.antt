pub mod Beginning
pub mod Entering
pub mod Inserting
pub mod ItemSteps
pub mod Making
pub mod TableSteps
mod Worked
pub mod PassSteps
pub mod Sorting
pub mod BuildSteps
pub mod Writable
