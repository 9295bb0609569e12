pub mod Picks
pub mod Torn
pub mod Part
