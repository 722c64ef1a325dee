-- How the loader splits its checks. To read the promises, these files are not needed.
pub mod Checks
