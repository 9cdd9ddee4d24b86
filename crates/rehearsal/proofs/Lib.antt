pub mod Lenses
pub mod Going
pub mod Public
pub mod Unique
