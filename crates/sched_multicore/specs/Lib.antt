pub mod Place
pub mod Queue
pub mod Step
pub mod Carry
pub mod Sweep
pub mod Laden
pub mod Workplace
