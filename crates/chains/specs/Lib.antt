pub mod Lists
pub mod Chain
pub mod Walk
pub mod Prelude
