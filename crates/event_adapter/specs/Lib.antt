pub mod Source
pub mod Port
pub mod Inside
pub mod Steps
pub mod Ran
pub mod Adapter
