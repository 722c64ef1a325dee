-- How the code finds a row. To read the promises, these files are not needed.
pub mod Lookup
