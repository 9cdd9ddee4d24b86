pub mod Bodies
pub mod Forms
pub mod Judged
pub mod Reader
pub mod Unique
