pub mod Asked
pub mod Slots
