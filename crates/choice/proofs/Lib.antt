pub mod Laws
pub mod Picks
