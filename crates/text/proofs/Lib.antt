pub mod ByKind
pub mod Texts
pub mod Whole
