pub mod Keys
pub mod Mixed
