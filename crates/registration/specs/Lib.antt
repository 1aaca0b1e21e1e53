pub mod Rows
pub mod Keeping
pub mod Entering
pub mod Emitting
pub mod Sending
pub mod Receiving
pub mod Throughout
