pub mod ItemsOf
pub mod DeliverySteps
pub mod Views
mod SenderNumbers
