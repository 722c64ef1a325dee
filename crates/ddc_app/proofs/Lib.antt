pub mod Ending
pub mod Sessions
pub mod Loads
pub mod Walks
pub mod Openings
pub mod Judging
mod Named
pub mod Accepting
pub mod Verifying
mod TrueWritten
mod Told
pub mod Chaining
pub mod Joining
pub mod CountWords
pub mod Beginnings
pub mod Pieces
pub mod Resuming
pub mod Pausing
pub mod Leaving
pub mod Relative
pub mod Differing
pub mod Scripting
mod Written
mod Collecting
mod Recollecting
mod EndsAs
mod EndsOfCommands
mod Statuses
