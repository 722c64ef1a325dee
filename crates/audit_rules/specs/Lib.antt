pub mod Contents
pub mod Stages
pub mod Bench
pub mod Positions
pub mod Valid
pub mod SourceCheck
