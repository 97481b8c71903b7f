pub mod Changes
pub mod Faults
pub mod Room
pub mod Strips
pub mod Walks
