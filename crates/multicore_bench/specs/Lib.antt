pub mod Hands
pub mod Right
