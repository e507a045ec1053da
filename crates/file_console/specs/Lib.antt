pub mod Answers
pub mod Commands
pub mod Outcomes
pub mod Session
