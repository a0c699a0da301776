pub mod Ranked
pub mod KeyOrders
pub mod PrefixSteps
pub mod SortedRuns
pub mod Ascents
pub mod KeysInTurn
pub mod Widths
pub mod Counting
