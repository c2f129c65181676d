pub mod Outcome
pub mod Text
pub mod Written
pub mod Respond
