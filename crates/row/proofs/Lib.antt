pub mod Finding
pub mod Kept
pub mod Sorting
pub mod RowLaws
pub mod Sifting
pub mod Stepping
