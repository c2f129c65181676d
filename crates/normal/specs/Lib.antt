pub mod Sign
pub mod Place
pub mod Answer
pub mod Whole
