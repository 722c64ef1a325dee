pub mod Beginnings
pub mod GivenLists
pub mod SegmentAddresses
pub mod RunLaws
pub mod Running
pub mod Starting
pub mod Stepping
pub mod Texts
pub mod Validity
pub mod Programs
pub mod StartLaw
pub mod Boxes
pub mod Going
pub mod Endings
pub mod Fits
mod RunsByAct
