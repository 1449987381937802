pub mod NibbleProducts
pub mod BlockNumbers
pub mod HashedText
pub mod KeyStreams
pub mod FedPieces
pub mod TaggedText
pub mod IvCounters
