pub mod Ids
pub mod Line
