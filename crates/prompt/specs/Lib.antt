pub mod Prompts
pub mod Reading
pub mod Memory
pub mod Talks
pub mod Converses
pub mod Inside
