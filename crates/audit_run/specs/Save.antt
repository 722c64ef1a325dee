pub mod Saves
pub mod Judged
pub mod Inside
