pub mod Numeral
pub mod Decimal
pub mod Scan
pub mod Wrote
