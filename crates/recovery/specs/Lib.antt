pub mod Encoding
pub mod Outage
