pub mod Granted
pub mod Places
