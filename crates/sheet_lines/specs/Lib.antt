pub mod Limits
pub mod Versions
pub mod Masks
pub mod Line
pub mod Forms
pub mod Found
pub mod Ranged
