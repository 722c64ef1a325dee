-- What serves the code's split. To read the promises, this file is not needed.
pub mod Seen
pub mod Tests
