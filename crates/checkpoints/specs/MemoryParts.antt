pub mod Canonical
pub mod Inside
