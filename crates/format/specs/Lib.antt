pub mod Fields
pub mod Records
pub mod Judging
