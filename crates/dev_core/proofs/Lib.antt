pub mod Fewer
pub mod Logged
pub mod Crosses
