pub mod PutInTurn
pub mod QueuedPacket
