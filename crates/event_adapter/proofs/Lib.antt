pub mod Answers
pub mod Loops
pub mod Bags
pub mod Deal
pub mod Whole
pub mod Count
pub mod Order
