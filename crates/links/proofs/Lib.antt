pub mod Links
pub mod LinkedFrom
pub mod Laying
