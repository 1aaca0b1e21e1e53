pub mod Tables
pub mod Owners
pub mod Housed
pub mod Lengths
pub mod Worked
