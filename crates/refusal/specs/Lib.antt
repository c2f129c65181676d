pub mod Number
pub mod Given
