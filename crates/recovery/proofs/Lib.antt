pub mod Laws
pub mod Encodes
pub mod Lived
