pub mod Answers
pub mod Fed
pub mod Feeds
