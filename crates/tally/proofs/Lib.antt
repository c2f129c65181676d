pub mod Places
pub mod Growth
pub mod Room
pub mod Determined
pub mod Made
pub mod Verdict
