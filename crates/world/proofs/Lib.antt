pub mod Bits
pub mod Typed
pub mod Seats
pub mod Sends
pub mod Unique
