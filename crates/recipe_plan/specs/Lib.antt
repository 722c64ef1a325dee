pub mod Texts
pub mod NotDone
pub mod Recipes
pub mod Reports
pub mod Inside
