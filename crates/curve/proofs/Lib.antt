pub mod Cases
pub mod Lines
pub mod Room
pub mod Loaded
pub mod Checked
pub mod Passes
pub mod Rider
