pub mod Checks
pub mod Occupied
pub mod Filed
pub mod Entries
pub mod WalkTrees
pub mod InOrder
pub mod Forced
pub mod KeptPositions
pub mod PositionRules
pub mod FileRules
pub mod Followed
mod Rows
pub mod Visiting
pub mod Meeting
pub mod TableParts
pub mod Spending
pub mod Paths
pub mod Firsts
