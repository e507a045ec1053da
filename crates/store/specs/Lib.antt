pub mod Calls
pub mod Change
pub mod Format
pub mod LogEntry
pub mod Moved
pub mod Phase
pub mod Read
pub mod Recover
