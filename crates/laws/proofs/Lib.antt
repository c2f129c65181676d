pub mod Truth
pub mod On
pub mod Bitwise
pub mod Shift
pub mod Gather
pub mod Count
pub mod First
