pub mod Ascii
pub mod Lines
pub mod Scan
pub mod Token
