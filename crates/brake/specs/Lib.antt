pub mod Over
pub mod Table
pub mod Promises
pub mod Cases
