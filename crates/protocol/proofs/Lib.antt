pub mod Naming
pub mod Order
pub mod Stillness
pub mod Telling
pub mod Unique
