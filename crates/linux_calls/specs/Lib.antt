pub mod Answer
pub mod Calls
pub mod HeapOf
pub mod Inside
pub mod Linux
pub mod Paths
pub mod Rules
