pub mod Aead
pub mod Auth
pub mod Fault
pub mod First
pub mod Plain
pub mod Xform
