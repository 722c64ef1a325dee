-- What serves the split of the code. No promise depends on its being read.
pub mod Words
