pub mod Subject
pub mod Step
pub mod Plain
pub mod Rows
pub mod Union
pub mod Check
pub mod Answer
pub mod Possible
