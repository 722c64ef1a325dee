mod Present
mod Slicing
mod Whole
mod InOrder
mod Stretching
mod Continuing
pub mod CheckLemmas
pub mod SaveLemmas
pub mod DeltaLemmas
pub mod StageLemmas
