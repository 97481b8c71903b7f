pub mod Members
pub mod Pairs
pub mod Placing
pub mod Precedence
pub mod Ranks
pub mod Round
pub mod Sequence
