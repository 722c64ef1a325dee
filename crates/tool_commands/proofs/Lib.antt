pub mod Listing
pub mod LeftNames
pub mod Arguments
pub mod Making
pub mod ListedFiles
pub mod ReadScripts
mod PlacedFiles
mod FileWords
mod ScriptEnds
mod NumberedCommands
mod OffsetSteps
mod TokenPlacing
mod Spots
mod Worded
pub mod Written
