pub mod Mode
pub mod Stopped
pub mod Ring
pub mod Pending
pub mod Logged
pub mod Text
