pub mod Deltas
pub mod Judged
pub mod Audits
pub mod Inside
