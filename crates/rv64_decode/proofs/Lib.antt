pub mod Decoding
pub mod Hex
pub mod OneWord
pub mod RoundTrip
pub mod Signed
pub mod Encoded
