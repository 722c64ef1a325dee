-- How the representation keeps a memory. To read the promises, these files are not needed.
pub mod Entries
pub mod Flat
pub mod Codes
pub mod Wholeness
