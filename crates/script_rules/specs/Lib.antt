pub mod Ids
pub mod Listing
pub mod Answers
pub mod Step
