pub mod Texts
pub mod Forms
