pub mod HeardRows
pub mod Keeps
pub mod BestOffer
pub mod WithOneMore
