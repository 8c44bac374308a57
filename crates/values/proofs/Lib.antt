pub mod Patterns
