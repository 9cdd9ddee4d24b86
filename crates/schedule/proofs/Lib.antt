pub mod Past
pub mod Reader
