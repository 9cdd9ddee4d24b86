pub mod Agreement
pub mod Sanity
