pub mod Word
pub mod Held
pub mod Determined
