pub mod Packets
pub mod Replies
