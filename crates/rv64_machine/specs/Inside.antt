-- What only the code uses. To read the promises, these files are not needed.
pub mod Codes
pub mod Computed
pub mod Down
pub mod FlatEnds
