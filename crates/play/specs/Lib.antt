pub mod Plays
pub mod AsCalls
pub mod Input
