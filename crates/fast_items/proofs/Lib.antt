pub mod Places
pub mod Turns
