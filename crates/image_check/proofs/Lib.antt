pub mod Blocks
pub mod Checking
pub mod Entries
pub mod Looking
pub mod Mapping
pub mod Sizing
