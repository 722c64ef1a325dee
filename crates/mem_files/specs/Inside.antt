-- How the representation keeps the `World`. To read the promises, these files are not needed.
pub mod Kept
pub mod Stored
pub mod FileTable
pub mod Cells
pub mod Numbers
pub mod Counts
pub mod Keys
pub mod Listing
pub mod Codes
