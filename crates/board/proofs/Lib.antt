pub mod Falling
pub mod Telling
pub mod Checking
pub mod Determined
pub mod Stands
pub mod Consequences
