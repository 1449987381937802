pub mod Word
pub mod Note
pub mod View
pub mod Rule
pub mod Call
