pub mod Cases
pub mod Full
pub mod Row
pub mod Turn
pub mod Line
pub mod Judged
