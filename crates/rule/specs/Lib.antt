pub mod Facts
pub mod Read
pub mod Kinds
pub mod Outcome
pub mod Judged
