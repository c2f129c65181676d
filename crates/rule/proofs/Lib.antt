pub mod Variables
pub mod Named
pub mod Answers
pub mod Outcomes
