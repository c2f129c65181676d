pub mod Signs
pub mod Letters
pub mod Ends
pub mod Standing
