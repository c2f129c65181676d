pub mod Entry
pub mod Reply
