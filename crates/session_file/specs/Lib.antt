pub mod Form
pub mod Fault
pub mod Plan
pub mod Sound
pub mod Spelling
pub mod Text
pub mod Value
pub mod View
