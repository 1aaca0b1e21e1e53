pub mod State
pub mod Machine
pub mod Housing
pub mod Stated
pub mod Figures
