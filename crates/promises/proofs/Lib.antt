pub mod Signed
pub mod Numbered
pub mod Cases
pub mod Outcomes
pub mod Steps
pub mod NeverRead
