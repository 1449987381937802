pub mod Quick
pub mod Fault
pub mod Options
pub mod Asked
pub mod Gives
