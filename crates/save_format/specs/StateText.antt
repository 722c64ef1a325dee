pub mod StateText
pub mod Mappable
pub mod Encoded
pub mod Seen
