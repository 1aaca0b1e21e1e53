pub mod Algorithms
