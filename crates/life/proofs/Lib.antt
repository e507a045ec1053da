pub mod Answering
pub mod Beginning
pub mod Living
