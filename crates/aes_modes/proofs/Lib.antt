pub mod XorLists
pub mod KeyStream
pub mod LowFirst
pub mod Pieces
pub mod CbcBlocks
pub mod ChainPieces
pub mod Counters
