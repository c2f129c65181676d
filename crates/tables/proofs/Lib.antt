pub mod Marks
pub mod Transposed
pub mod Toggled
pub mod Determined
