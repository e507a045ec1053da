pub mod Asked
pub mod Denials
pub mod Life
pub mod Step
pub mod Told
