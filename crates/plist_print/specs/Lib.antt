pub use Rattle.plist_value.specs.Plist
pub mod Units
pub mod Reals
pub mod Dates
pub mod Printed
pub mod Shown
pub mod Printing
pub mod Laws
