-- How the code splits a call. To read the promises, these files are not needed.
pub mod Parts
