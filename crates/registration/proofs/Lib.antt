pub mod Frees
pub mod Closures
pub mod Rooms
