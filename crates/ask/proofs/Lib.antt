pub mod Asking
pub mod Answering
pub mod Jobs
pub mod Determined
pub mod Consequences
pub mod Stands
