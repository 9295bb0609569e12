pub mod List
pub mod Items
