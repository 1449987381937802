pub mod Op
pub mod Burst
pub mod Lending
