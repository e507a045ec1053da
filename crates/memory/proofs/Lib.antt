pub mod Making
pub mod Putting
