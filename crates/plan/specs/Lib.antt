pub mod Spare
pub mod Plan
