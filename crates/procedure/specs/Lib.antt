pub mod Offers
pub mod Stages
pub mod Carriers
pub mod Faults
