pub mod EachLayer
pub mod Pile
