pub mod Listed
pub mod Mapped
pub mod Texts
pub mod Written
