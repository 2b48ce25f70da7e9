pub mod Tokens
pub mod Agreement
pub mod NeverStuck
pub mod Nodes
pub mod NodeAgreement
