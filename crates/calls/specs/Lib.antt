pub mod Addresses
pub mod Messages
pub mod Outcomes
pub mod Lines
