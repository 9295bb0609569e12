pub mod Line
pub mod Widths
pub mod Cases
