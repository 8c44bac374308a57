pub mod NewRows
pub mod Adding
pub mod Mixes
pub mod Rows
pub mod Turns
