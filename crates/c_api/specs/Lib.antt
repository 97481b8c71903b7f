pub mod Call
pub mod Faults
