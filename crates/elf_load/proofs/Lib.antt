pub mod Pages
pub mod Tables
pub mod Judging
pub mod Soundness
pub mod Images
