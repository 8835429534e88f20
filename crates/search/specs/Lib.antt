pub mod Search
pub mod Walkable
