pub mod Given
pub mod Taken
pub mod Readings
pub mod Numerals
