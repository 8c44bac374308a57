pub mod Codes
pub mod Tidy
pub mod Arithmetic
pub mod Units
