mod Blocks
mod Orders
mod Rotations
mod Schedules
mod Tables
mod Turns
