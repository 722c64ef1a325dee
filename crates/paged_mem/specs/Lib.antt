pub mod Held
pub mod Memory
pub mod Paged
pub mod Ram
pub mod Inside
