pub mod Lengths
pub mod Running
pub mod Writing
