pub mod Outs
pub mod Table
pub mod FirstOff
pub mod Library
pub mod Determined
