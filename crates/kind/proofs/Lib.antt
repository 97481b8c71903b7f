pub mod Raising
pub mod Workings
