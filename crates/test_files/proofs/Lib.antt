pub mod OtherPaths
