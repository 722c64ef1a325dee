-- How the code is split. To read the promises, this file is not needed.
pub mod Passing
pub mod Mapping
pub mod Headers
