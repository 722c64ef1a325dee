pub mod Ending
pub mod Faults
pub mod Inside
pub mod Segments
