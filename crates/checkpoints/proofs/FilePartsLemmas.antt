pub mod Pushes
pub mod Tests
pub mod Meaning
pub mod Walk
pub mod SameWorld
pub mod SameLists
pub mod GoodLists
