pub mod Entries
pub mod Passes
pub mod Sorting
pub mod Rows
