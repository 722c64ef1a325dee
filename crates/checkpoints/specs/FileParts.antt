pub mod Restored
pub mod Inside
