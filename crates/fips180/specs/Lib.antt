pub mod Sha256
pub mod Digest
pub mod Vectors
