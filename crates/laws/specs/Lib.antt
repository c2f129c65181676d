pub mod Bit
pub mod Text
