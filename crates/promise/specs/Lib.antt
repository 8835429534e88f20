pub mod Run
pub mod Facts
pub mod Demand3
pub mod NotPromised
