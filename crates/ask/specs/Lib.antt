pub mod Rows
pub mod LaidOut
pub mod Reach
pub mod Verdict
pub mod Asked
