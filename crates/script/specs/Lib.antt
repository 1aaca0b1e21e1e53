pub mod Fields
pub mod Decimal
pub mod Hex
pub mod Reads
pub mod Words
pub mod Packets
pub mod Lines
pub mod Answers
