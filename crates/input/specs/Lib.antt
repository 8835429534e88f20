pub mod Kept
pub mod Line
pub mod Lines
pub mod Takes
