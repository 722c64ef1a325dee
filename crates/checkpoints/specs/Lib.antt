pub mod Checkpoint
pub mod Patching
pub mod FileParts
pub mod Inside
pub mod MemoryParts
