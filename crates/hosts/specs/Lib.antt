pub mod Values
pub mod Told
