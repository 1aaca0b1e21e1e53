pub mod Faults
pub mod Ports
pub mod Expiry
pub mod Asked
pub mod Sealing
pub mod Opening
