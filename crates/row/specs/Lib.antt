pub mod Row
pub mod Cases
