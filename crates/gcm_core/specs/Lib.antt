pub mod Tables
pub mod Subkey
pub mod Hashing
pub mod Streaming
pub mod Tagging
pub mod Sealing
pub mod Opening
