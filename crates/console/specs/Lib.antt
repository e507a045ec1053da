pub mod Commands
pub mod Denials
pub mod Lines
pub mod Session
pub mod Turns
