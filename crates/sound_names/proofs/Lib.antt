pub mod Places
pub mod Typed
pub mod Unique
pub mod ZeroLists
