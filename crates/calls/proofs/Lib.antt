pub mod OneRow
pub mod Keying
pub mod Search
