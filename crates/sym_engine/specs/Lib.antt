pub mod Driver
pub mod Laws
pub mod Working
