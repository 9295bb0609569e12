pub mod Laws
pub mod Examples
pub mod Decimal
pub mod Glyphs
