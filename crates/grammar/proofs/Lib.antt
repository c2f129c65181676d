pub mod SignTable
pub mod Lettering
pub mod Numbers
pub mod Spread
pub mod Widths
