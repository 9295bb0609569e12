pub mod Walk
pub mod Count
pub mod Extent
pub mod Record
pub mod Member
pub mod Next
