pub mod Answers
pub mod Check
pub mod Directory
pub mod Files
pub mod Reading
pub mod Size
