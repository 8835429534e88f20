pub mod AsNumbers
pub mod Laid
pub mod Outcomes
