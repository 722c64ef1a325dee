pub mod Inside
pub mod Keys
pub mod Reading
pub mod Refusals
