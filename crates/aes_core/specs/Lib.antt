pub mod Basis
pub mod Bitslice
pub mod Circuit
pub mod InverseTables
pub mod KeyState
pub mod Nibbles
pub mod Planes
