pub mod Gaps
pub mod Packing
pub mod PlainSources
pub mod Readings
