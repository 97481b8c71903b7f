pub mod Bytes
pub mod Lawful
pub mod Order
pub mod Words
