pub mod Action
pub mod Lacking
pub mod Reading
pub mod Determined
pub mod Any
pub mod Stands
pub mod Plain
pub mod Verdict
