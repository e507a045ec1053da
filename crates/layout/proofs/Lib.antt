pub mod Blocks
pub mod Names
