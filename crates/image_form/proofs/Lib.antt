pub mod Words
pub mod Written
pub mod Pieces
pub mod Tables
pub mod Blocks
