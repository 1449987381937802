pub mod EachItem
pub mod Written
pub mod Ordered
pub mod Answered
pub mod Sealed
pub mod Crosses
