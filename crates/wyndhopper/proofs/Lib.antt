pub mod Determined
pub mod Stands
pub mod Tally
pub mod Written
