pub mod Relative
pub mod Stages
pub mod Texts
