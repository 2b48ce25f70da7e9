pub mod Contents
pub mod Nodes
pub mod InBlock
