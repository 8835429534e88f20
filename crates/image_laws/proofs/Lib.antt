pub mod AnySize
pub mod Outcomes
pub mod RoundTrips
