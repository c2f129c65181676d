pub mod Rows
pub mod Answer
pub mod Search
pub mod Sound
pub mod Spared
pub mod Lengths
pub mod Next
pub mod Found
