pub mod DistinctNames
pub mod FirstWalk
pub mod GuestPaths
pub mod Keeps
pub mod MoreStages
pub mod NoWant
pub mod SecondWalk
pub mod TextLemmas
