pub mod Bytes
pub mod Blocks
pub mod Form1
pub mod Tables
pub mod Examples
