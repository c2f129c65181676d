pub mod Image
pub mod Values
pub mod Readings
pub mod Found
pub mod Slots
pub mod Run
