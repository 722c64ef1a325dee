pub mod SaveText
pub mod Encoded
pub mod Seen
pub mod Inside
pub mod ByteFields
pub mod StateText
pub mod PatchText
pub mod DeltaText
