pub mod Rules
pub mod Laws
