pub mod Parts
pub mod Longest
pub mod Run
