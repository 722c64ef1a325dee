-- How the parts of files are seen, and their rules as tests. No promise depends on it.
pub mod Judged
pub mod Views
