pub mod Words
pub mod Faults
pub mod Verdicts
pub mod TrueReport
pub mod Inside
pub mod Conclusion
