pub mod Stages
pub mod DeltaText
pub mod Header
pub mod Seen
pub mod Inside
