pub mod Bytes
pub mod Faults
pub mod Model
pub mod Stores
