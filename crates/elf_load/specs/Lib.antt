pub mod Fields
pub mod Segments
pub mod Image
pub mod Refusal
pub mod Inside
