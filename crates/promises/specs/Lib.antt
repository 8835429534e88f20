pub mod Answers
pub mod Answering
pub mod Records
pub mod Promises
pub mod Prelude
