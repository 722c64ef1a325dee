-- How contracts see the fields of objects, and tests that compute. To read the promises, these files are not needed.
pub mod FailedCall
pub mod HexTests
pub mod Host
pub mod MemoryFiles
pub mod MemoryViews
pub mod Passing
