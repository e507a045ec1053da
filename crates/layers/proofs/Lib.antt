pub mod Asking
pub mod Caching
pub mod Parting
