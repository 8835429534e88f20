pub mod Lists
pub mod Chains
pub mod Changes
pub mod Ends
pub mod Walks
pub mod Members
pub mod Turns
pub mod Prelude
