pub mod Curve
pub mod Promises
pub mod Cases
