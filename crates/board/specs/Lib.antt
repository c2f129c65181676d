pub mod Tests
pub mod Rows
pub mod Answer
pub mod Told
