pub mod Heard
pub mod OneMore
pub mod Choice
pub mod ChoiceLaws
pub mod Rules
pub mod Plan
pub mod Laws
