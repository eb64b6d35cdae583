pub mod Numbers
pub mod Kinds
pub mod Sizes
pub mod Model
pub mod Table
pub mod After
pub mod Meaning
