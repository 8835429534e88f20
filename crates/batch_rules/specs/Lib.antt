pub mod Asked
pub mod Batch
