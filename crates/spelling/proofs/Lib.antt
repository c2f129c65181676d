pub mod TwoDigits
pub mod Numeral
pub mod Bytes
pub mod Stretch
pub mod LogText
pub mod Writing
pub mod Plain
pub mod Determined
