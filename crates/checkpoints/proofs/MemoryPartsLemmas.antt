pub mod RunsFound
pub mod PagesFound
pub mod Again
pub mod Mapping
pub mod RunsAgain
pub mod PagesAgain
pub mod Filling
pub mod Filled
