pub use Rattle.plist_value.specs.Plist
pub use Rattle.plist_object.specs.Spelled
pub use Rattle.ostep_text.specs.Written
pub mod Writing
