pub mod Cuts
pub mod Digits
pub mod Letters
pub mod Pairs
