pub mod Way
pub mod Iv
pub mod Asked
pub mod Answered
pub mod Work
pub mod Quick
pub mod Ready
