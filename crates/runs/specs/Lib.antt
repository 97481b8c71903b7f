pub mod Books
pub mod Events
pub mod Laws
pub mod Runs
