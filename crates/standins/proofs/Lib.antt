pub mod Words
pub mod Same
pub mod Determined
pub mod Sifting
