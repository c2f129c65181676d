pub mod Log
pub mod Answer
pub mod Labels
