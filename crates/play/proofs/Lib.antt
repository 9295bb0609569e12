pub mod Bounds
pub mod AsCalls
pub mod Told
