pub mod Changes
pub mod Meaning
pub mod Meanings
pub mod Working
pub mod FlagsLaws
pub mod OnHandLaws
pub mod PriceLaws
