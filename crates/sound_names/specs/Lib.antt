pub mod Keys
pub mod Tables
