pub mod Ranks
pub mod Order
pub mod Ascending
pub mod KeyOrder
pub mod Overlap
pub mod Prefixes
