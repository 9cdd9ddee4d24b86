pub mod Padding
pub mod Unique
pub mod Short
