pub mod Kinds
pub mod Exported
