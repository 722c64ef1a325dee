pub mod Decode
pub mod Encode
pub mod Fields
pub mod Laws
pub mod Text
