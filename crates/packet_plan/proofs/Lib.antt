pub mod Begun
pub mod Choices
pub mod Finished
pub mod SoundPlans
pub mod UsableSessions
pub mod Ways
