pub mod Fates
pub mod Unique
