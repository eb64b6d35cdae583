pub mod Items
pub mod Queue
