mod DoneStages
mod Ends
mod LeftFiles
mod Looping
mod MarkTests
pub mod OneReport
mod Placing
mod Refused
pub mod Rightness
pub mod StageRules
mod TrueReports
pub mod ConclusionLemmas
mod Wanting
