pub mod Lengths
pub mod Asking
pub mod Calls
pub mod Handing
pub mod Determined
pub mod Front
