pub mod BigEndian
pub mod Numbers
pub mod Unique
