mod Bitmap
mod Marks
mod Trailers
mod Writes
mod Packets
mod Questions
mod Trips
mod Areas
pub mod Asks
pub mod Rooms
