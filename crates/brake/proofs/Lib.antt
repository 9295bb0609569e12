pub mod Cases
pub mod Accepted
pub mod Table
pub mod Drives
pub mod Over
pub mod Promises
